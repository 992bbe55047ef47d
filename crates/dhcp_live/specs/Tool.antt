-- The program that is told one event at a time: the head of a script is heard, then a session is
-- held.
use Rattle.std.specs.Prelude.{◌≡◌, ◌⊎◌, ◌≤◌, ◌<◌, ℕ, Bool, true, false, List, [], ◌∷◌, ◌++◌, length, codes, is_some, Result, Ok, Err}
use Rattle.dhcp_clock.specs.Leads.{Leads}
use Rattle.dhcp4_client.specs.Rules as rules4
use Rattle.dhcp6_client.specs.Rules as rules6
use Rattle.dhcp_output.specs.Output.{changed_v4, changed_v6}
use Rattle.dhcp_replay.specs.Replayed.{events_of}
use Rattle.dhcp_script.specs.Script.{IsScript, is_valid, script_text}
use Rattle.dhcp_script.specs.declared.script.Script.{Script}
use Rattle.dhcp_script.specs.declared.script.Script.TheVariants.{V4, V6}
use Rattle.dhcp_stream.specs.Line.{line}
use Rattle.dhcp_stream.specs.TextReader.{tag_at}
use Rattle.dhcp_tool.specs.Status.{status_number}
use Rattle.dhcp_tool.specs.declared.status.Status.{Status}
use Rattle.dhcp_tool.specs.declared.status.Status.TheVariants.{NoScript, NoMemory, TooLong, Invalid}
use Rattle.dhcp_live.specs.Begin.{Begins4, Begins6}
use Rattle.dhcp_live.specs.Dropped.{verdict4, verdict6}
use Rattle.dhcp_dialogue.specs.Dialogue.{Turn, Hears, Misses, most_line_bytes, status_of}
use Rattle.dhcp_live.specs.Session.{IsSession, most_lines}
use Rattle.dhcp_dialogue.specs.declared.dialogue.Unheard.{Unheard}

-- the line that ends a head
abbrev pub is_last_of_head : List ℕ → Bool
is_last_of_head text = is_some (tag_at (codes "start ") text)

-- the last line of a script
abbrev pub end_line : List ℕ
end_line = line (codes "end")

-- the script of a head: it has no events, and its text is the head and the line `end`
pub record IsHead (head : List ℕ) (script : Script) : Type 0 where
  pub fits : IsScript script
  pub text : script_text script ≡ head ++ end_line
  pub none : events_of script ≡ []

-- a session of the client of a script
abbrev pub IsSessionOf : Script → List Turn → Status → Type 0
IsSessionOf (V4 script) turns status =
    (first : _) × (Begins4 script first
    × IsSession rules4.protocol changed_v4 (λ client. client) verdict4 most_lines first turns
    status)
IsSessionOf (V6 script) turns status =
    (first : _) × (Begins6 script first
    × IsSession rules6.protocol changed_v6 (λ client. client) verdict6 most_lines first turns
    status)

-- the same, or out of memory before its first line; a script that is not valid has none
abbrev pub IsRunOf : Bool → Script → List Turn → Status → Type 0
IsRunOf true script turns status =
    IsSessionOf script turns status ⊎ ((turns ≡ []) × (status ≡ NoMemory))
IsRunOf false script turns status = (turns ≡ []) × (status ≡ Invalid)

-- The turns after a head, and the status at the end.
pub data IsAfterHead (head : List ℕ) : List Turn → Status → Type 0 where
  has_script : (script : Script) (turns : List Turn) (status : Status) → IsHead head script →
      IsRunOf (is_valid script) script turns status → IsAfterHead head turns status
  is_no_head : ((script : Script) → IsHead head script → ⊥) → IsAfterHead head [] NoScript
  has_no_memory : IsAfterHead head [] NoMemory

-- All turns of the program, of whose head these lines were heard so far, and the status at the end.
pub data IsLive : List ℕ → List Turn → Status → Type 0 where
  goes_on : (head text : List ℕ) (turns : List Turn) (status : Status) →
      length head ≤ most_line_bytes → is_last_of_head text ≡ false →
      IsLive (head ++ text) turns status → IsLive head (Hears text ∷ turns) status
  has_head : (head text : List ℕ) (turns : List Turn) (status : Status) →
      length head ≤ most_line_bytes → is_last_of_head text ≡ true →
      IsAfterHead (head ++ text) turns status → IsLive head (Hears text ∷ turns) status
  is_too_long : (head : List ℕ) → most_line_bytes < length head → IsLive head [] TooLong
  misses : (head : List ℕ) (why : Unheard) → length head ≤ most_line_bytes →
      IsLive head (Misses why ∷ []) (status_of why)
  runs_out : (head text : List ℕ) → IsLive head (Hears text ∷ []) NoMemory

module _ {D : Type 0} (moves : Turn → D → D → Type 0) where
  -- the program ran over a dialogue, and ended with the status of this number
  pub record RunsLive (number : ℕ) (old new : D) : Type 0 where
    pub turns : List Turn
    pub status : Status
    pub moved : Leads moves old turns new
    pub is : IsLive [] turns status
    pub number_is : number ≡ status_number status

  -- it goes on so after a head
  pub record RunsAfterHead (head : List ℕ) (status : Status) (old new : D) : Type 0 where
    pub turns : List Turn
    pub moved : Leads moves old turns new
    pub is : IsAfterHead head turns status

  -- and so with the script of that head
  pub record RunsScript (script : Script) (status : Status) (old new : D) : Type 0 where
    pub turns : List Turn
    pub moved : Leads moves old turns new
    pub is : IsRunOf (is_valid script) script turns status

  -- and so with a valid one
  pub record HoldsSessionOf (script : Script) (status : Status) (old new : D) : Type 0 where
    pub turns : List Turn
    pub moved : Leads moves old turns new
    pub is : IsRunOf true script turns status

  -- a head was heard, after which the program goes on; or it ended
  abbrev pub Hearing : Result (List ℕ) Status → List Turn → Type 0
  Hearing (Ok head) turns = (rest : List Turn) (status : Status) → IsAfterHead head rest status →
      IsLive [] (turns ++ rest) status
  Hearing (Err status) turns = IsLive [] turns status

  pub record HearsHead (result : Result (List ℕ) Status) (old new : D) : Type 0 where
    pub turns : List Turn
    pub moved : Leads moves old turns new
    pub is : Hearing result turns

-- the script of a head, or the status
abbrev pub ReadsHead : List ℕ → Result Script Status → Type 0
ReadsHead head (Ok script) = IsHead head script
ReadsHead head (Err status) = (status ≡ NoMemory) ⊎ ((status ≡ NoScript)
    × ((script : Script) → IsHead head script → ⊥))

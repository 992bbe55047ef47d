-- The head of a script, line by line.
use Rattle.std.proofs.Common.{◌≡◌, ◌≤◌, ◌<◌, ℕ, List, [], ◌∷◌, ◌++◌, length, true, false, ◌+◌, ◌-◌, None, Some, refl, sym, ap, subst, ◌∙◌, append_assoc, length-append, arith}
use Rattle.std.proofs.Common.{Bool, IsTrue, Option, ◌↔◌, inr}
use Rattle.std.proofs.lemmas.Bool.{iff_false}
use Rattle.std.specs.Prelude.{ok_or}
use Rattle.std.specs.Bool.{then_some}
use Rattle.dhcp_replay.specs.Replayed.{events_of}
use Rattle.dhcp_script.specs.Script.{IsScript, script_text}
use Rattle.dhcp_script.specs.declared.event.Event.{Event}
use Rattle.dhcp_script.specs.declared.script.Script.{Script}
use Rattle.dhcp_stream.specs.Reading.{IsReading}
use Rattle.std.specs.Prelude.{IsErrAnd, Result, is_err, is_ok, if◌then◌else◌}
use Rattle.dhcp_clock.specs.Leads.{Leads}
use Rattle.dhcp_tool.specs.declared.status.Status.{Status}
use Rattle.dhcp_tool.specs.declared.status.Status.TheVariants.{NoMemory, NoScript, TooLong}
use Rattle.dhcp_dialogue.specs.Dialogue.{IsLine, Turn, Hears, Misses, most_line_bytes, status_of}
use Rattle.dhcp_stream.specs.TextReader.{field_at}
use Rattle.dhcp_dialogue.specs.declared.dialogue.Unheard.{Unheard}
use Rattle.dhcp_live.specs.Tool.{HearsHead, IsHead, IsLive, ReadsHead, end_line, goes_on, has_head, is_last_of_head, is_too_long, misses, runs_out}
use Rattle.std.proofs.Common.{Ok, Err}
use Rattle.dhcp_live.proofs.TurnLemmas.{Leads-append}

-- what was read, as the script of a head
pub is_head : (found : Option Script) (script : Script) (head : List ℕ) → found ≡ Some script → IsReading script_text IsScript found (head ++ end_line) → events_of script ≡ [] → IsHead head script
is_head found script head is reading none =
    let read = subst (λ (f : Option Script). IsReading script_text IsScript f (head ++ end_line)) is reading in
    record { fits = read.1; text = read.0; none = none }

-- a script that has events is that of no head
pub has_events : (found : Option Script) (script : Script) (head : List ℕ) → found ≡ Some script → ((other : Script) → IsScript other → script_text other ≡ head ++ end_line → found ≡ Some other) → (events_of script ≡ [] → ⊥) → (other : Script) → IsHead head other → ⊥
has_events found script head is one some other same =
    let equal : Some script ≡ Some other = sym is ∙ one other same.fits same.text in
    some (subst (λ (f : Option Script). events_in_option f ≡ []) (sym equal) same.none)
  where
    events_in_option : Option Script → List Event
    events_in_option None = []
    events_in_option (Some s) = events_of s

-- a script that was read, which is kept if it has no events
pub kept_if_head : (found : Option Script) (script : Script) (head : List ℕ) (none : Bool) (kept : Option Script) (result : Result Script Status) → found ≡ Some script
    → IsReading script_text IsScript found (head ++ end_line) → ((other : Script) → IsScript other → script_text other ≡ head ++ end_line → found ≡ Some other)
    → (IsTrue none ↔ (events_of script ≡ [])) → kept ≡ then_some none script → result ≡ ok_or kept NoScript → ReadsHead head result
kept_if_head found script head true kept result is reading one iff kept-is result-is =
    subst (λ (r : Result Script Status). ReadsHead head r) (sym (result-is ∙ ap (λ (o : Option Script). ok_or o NoScript) kept-is)) (is_head found script head is reading (iff.0 refl))
kept_if_head found script head false kept result is reading one iff kept-is result-is =
    subst (λ (r : Result Script Status). ReadsHead head r) (sym (result-is ∙ ap (λ (o : Option Script). ok_or o NoScript) kept-is))
    (inr (refl, has_events found script head is one (iff_false iff refl)))

-- bytes that were put at the end of others, if there was memory
pub put_behind : {X E : Type 0} (done : Result X E) (new old more line : List ℕ) → new ≡ (if is_ok done then old ++ more else old) → more ≡ line → false ≡ is_err done → new ≡ old ++ line
put_behind (Ok x) new old more line is same ok = is ∙ ap (λ (text : List ℕ). old ++ text) same
put_behind (Err e) new old more line is same ok = absurd (cc ok)

-- the measure of the lines that may follow
pub shorter : (most : ℕ) (new old line : List ℕ) → new ≡ old ++ line → 0 < length line → length old ≤ most → most + 1 - length new < most + 1 - length old
shorter most new old line is some short = let count = ap length is ∙ length-append old line in omega arith

-- a line is not empty
pub line_some : (text : List ℕ) → IsLine text → 0 < length text
unfolding field_at
line_some [] is = absurd (cc is.1)
line_some (byte ∷ text) is = omega arith

module _ {D : Type 0} (moves : Turn → D → D → Type 0) (old : D) where
  -- the lines of this head were heard so far
  pub record HeadSoFar (head : List ℕ) (new : D) : Type 0 where
    pub turns : List Turn
    pub moved : Leads moves old turns new
    pub on : (rest : List Turn) (status : Status) → IsLive head rest status → IsLive [] (turns ++ rest) status

  -- before the first line
  pub begun : HeadSoFar [] old
  begun = record { turns = []; moved = refl; on = λ rest status is. is }

  -- turns with which the program ends
  ended : (head : List ℕ) (between new : D) (more : List Turn) (status : Status) → HeadSoFar head between → Leads moves between more new → IsLive head more status → HearsHead moves (Err status) old new
  ended head between new more status so to is = record {
    turns = so.turns ++ more;
    moved = Leads-append moves old between new so.turns more so.moved to;
    is = so.on more status is;
  }

  -- what ends with this status
  pub ended_so : (result : Result (List ℕ) Status) (status : Status) (new : D) → IsErrAnd result (λ given. given ≡ status) → HearsHead moves (Err status) old new → HearsHead moves result old new
  ended_so (Ok head) status new is heard = absurd is
  ended_so (Err given) status new is heard = subst (λ (s : Status). HearsHead moves (Err s) old new) (sym is) heard

  module _ (head : List ℕ) (between : D) (so : HeadSoFar head between) (short : length head ≤ most_line_bytes) where
    module _ (text : List ℕ) (new : D) (hears : moves (Hears text) between new) where
      -- the turns so far, and then this line
      after_line : (rest : List Turn) (status : Status) → IsLive head (Hears text ∷ rest) status → IsLive [] ((so.turns ++ (Hears text ∷ [])) ++ rest) status
      after_line rest status is =
          subst (λ (all : List Turn). IsLive [] all status) (sym (append_assoc so.turns (Hears text ∷ []) rest)) (so.on (Hears text ∷ rest) status is)

      led : Leads moves old (so.turns ++ (Hears text ∷ [])) new
      led = Leads-append moves old between new so.turns (Hears text ∷ []) so.moved (new, (hears, refl))

      -- a line that is not the last one
      pub one_line_more : is_last_of_head text ≡ false → HeadSoFar (head ++ text) new
      one_line_more inner = record { turns = so.turns ++ (Hears text ∷ []); moved = led; on = λ rest status is. after_line rest status (goes_on head text rest status short inner is) }

      -- the last one
      pub last_line : is_last_of_head text ≡ true → HearsHead moves (Ok (head ++ text)) old new
      last_line last = record { turns = so.turns ++ (Hears text ∷ []); moved = led; is = λ rest status is. after_line rest status (has_head head text rest status short last is) }

      -- out of memory
      pub no_memory_left : HearsHead moves (Err NoMemory) old new
      no_memory_left = ended head between new (Hears text ∷ []) NoMemory so (new, (hears, refl)) (runs_out head text)

    -- no line
    pub no_line : (why : Unheard) (new : D) → moves (Misses why) between new → HearsHead moves (Err (status_of why)) old new
    no_line why new moved = ended head between new (Misses why ∷ []) (status_of why) so (new, (moved, refl)) (misses head why short)

  -- a head that is too long
  pub too_long : (head : List ℕ) (new : D) → HeadSoFar head new → most_line_bytes < length head → HearsHead moves (Err TooLong) old new
  too_long head new so long = ended head new new [] TooLong so refl (is_too_long head long)

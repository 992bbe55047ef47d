-- The program, part by part.
use Rattle.std.proofs.Common.{◌≡◌, ℕ, Bool, true, false, List, [], ◌++◌, Ok, Err, refl, sym, subst, inl, inr}
use Rattle.dhcp4_client.specs.Rules as rules4
use Rattle.dhcp4_client.specs.declared.client_state.ClientState as state4
use Rattle.dhcp4_client.specs.declared.client_state.Exchange as exchange4
use Rattle.dhcp4_lease.specs.Config as config4
use Rattle.dhcp6_client.specs.Rules as rules6
use Rattle.dhcp6_client.specs.declared.client_state.ClientState as state6
use Rattle.dhcp6_client.specs.declared.client_state.Exchange as exchange6
use Rattle.dhcp6_msg.specs.Config as config6
use Rattle.dhcp_output.specs.Output.{changed_v4, changed_v6}
use Rattle.dhcp_script.specs.Script.{is_valid}
use Rattle.dhcp_script.specs.declared.script.Script.{Script}
use Rattle.dhcp_script.specs.declared.script.Script.TheVariants.{V4, V6}
use Rattle.dhcp_script.specs.declared.script4.Script4.{Script4}
use Rattle.dhcp_script.specs.declared.script6.Script6.{Script6}
use Rattle.dhcp_tool.specs.Status.{status_number}
use Rattle.dhcp_tool.specs.declared.status.Status.{Status}
use Rattle.dhcp_tool.specs.declared.status.Status.TheVariants.{NoScript, NoMemory, Invalid}
use Rattle.dhcp_dialogue.specs.Dialogue.{Turn}
use Rattle.dhcp_live.specs.Begin.{Begins4, Begins6}
use Rattle.dhcp_live.specs.Dropped.{verdict4, verdict6}
use Rattle.dhcp_live.specs.Live.{LiveParts}
use Rattle.dhcp_live.specs.Session.{HoldsSession}
use Rattle.dhcp_live.specs.Tool.{HearsHead, HoldsSessionOf, IsAfterHead, IsHead, IsRunOf, ReadsHead, RunsAfterHead, RunsLive, RunsScript, has_no_memory, has_script, is_no_head}
use Rattle.dhcp_live.proofs.TurnLemmas.{Leads-append}

module _ {D : Type 0} (moves : Turn → D → D → Type 0) where
  -- a head was heard, and the program went on
  pub went_on : (head : List ℕ) (status : Status) (old between new : D) → HearsHead moves (Ok head) old between → RunsAfterHead moves head status between new → RunsLive moves (status_number status) old new
  went_on head status old between new heard ran = record {
    turns = heard.turns ++ ran.turns;
    status = status;
    moved = Leads-append moves old between new heard.turns ran.turns heard.moved ran.moved;
    is = heard.is ran.turns status ran.is;
    number_is = refl;
  }

  -- none was heard
  pub has_ended : (status : Status) (old new : D) → HearsHead moves (Err status) old new → RunsLive moves (status_number status) old new
  has_ended status old new heard = record { turns = heard.turns; status = status; moved = heard.moved; is = heard.is; number_is = refl }

  -- the number of the status
  pub numbered : (number : ℕ) (status : Status) (old new : D) → number ≡ status_number status → RunsLive moves (status_number status) old new → RunsLive moves number old new
  numbered number status old new is ran = subst (λ (n : ℕ). RunsLive moves n old new) (sym is) ran

  -- the script of a head
  pub with_script : (head : List ℕ) (script : Script) (status : Status) (old new : D) → IsHead head script → RunsScript moves script status old new → RunsAfterHead moves head status old new
  with_script head script status old new is ran = record { turns = ran.turns; moved = ran.moved; is = has_script script ran.turns status is ran.is }

  pub without_script : (head : List ℕ) (status : Status) (here : D) → ReadsHead head (Err status) → RunsAfterHead moves head status here here
  without_script head status here reads = elim reads [ inl none ↦ no_memory none | inr other ↦ no_head other.0 other.1 ]
    where
      no_memory : status ≡ NoMemory → RunsAfterHead moves head status here here
      no_memory is = record { turns = []; moved = refl; is = subst (λ (s : Status). IsAfterHead head [] s) (sym is) has_no_memory }

      no_head : status ≡ NoScript → ((script : Script) → IsHead head script → ⊥) → RunsAfterHead moves head status here here
      no_head is none = record { turns = []; moved = refl; is = subst (λ (s : Status). IsAfterHead head [] s) (sym is) (is_no_head none) }

  -- whether it is valid
  pub is_invalid : (script : Script) (here : D) → is_valid script ≡ false → RunsScript moves script Invalid here here
  is_invalid script here invalid = record { turns = []; moved = refl; is = subst (λ (valid : Bool). IsRunOf valid script [] Invalid) (sym invalid) (refl, refl) }

  pub holds : (script : Script) (status : Status) (old new : D) → is_valid script ≡ true → HoldsSessionOf moves script status old new → RunsScript moves script status old new
  holds script status old new valid held = record { turns = held.turns; moved = held.moved; is = subst (λ (valid : Bool). IsRunOf valid script held.turns status) (sym valid) held.is }

  -- the session of its client
  pub held4 : (script : Script4) (status : Status) (first : LiveParts config4.Config state4.ClientState exchange4.Exchange) (old new : D) → Begins4 script first → HoldsSession rules4.protocol changed_v4 (λ client. client) verdict4 moves first status old new → HoldsSessionOf moves (V4 script) status old new
  held4 script status first old new begins held = record { turns = held.turns; moved = held.moved; is = inl (first, (begins, held.is)) }

  pub held6 : (script : Script6) (status : Status) (first : LiveParts config6.Config state6.ClientState exchange6.Exchange) (old new : D) → Begins6 script first → HoldsSession rules6.protocol changed_v6 (λ client. client) verdict6 moves first status old new → HoldsSessionOf moves (V6 script) status old new
  held6 script status first old new begins held = record { turns = held.turns; moved = held.moved; is = inl (first, (begins, held.is)) }

  pub no_memory_left : (script : Script) (status : Status) (here : D) → status ≡ NoMemory → HoldsSessionOf moves script status here here
  no_memory_left script status here is = record { turns = []; moved = refl; is = inr (refl, is) }

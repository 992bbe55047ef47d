-- The script of what was heard of a session.
use Rattle.std.proofs.Common.{◌≡◌, ◌≤◌, ℕ, true, List, [], ◌∷◌, ◌++◌, Some, refl, sym, ap, ◌∙◌, append_assoc, codes, length}
use Rattle.std.specs.Prelude.{◌&&◌, nat_le, nat_lt}
use Rattle.std.specs.List.{flat_map, list_all}
use Rattle.std.proofs.lemmas.Bool.{and_from, and_parts, le-leb}
use Rattle.std.proofs.lemmas.List.{append_cancel_right}
use Rattle.dhcp_clock.specs.declared.link.Handed.{Handed}
use Rattle.dhcp_clock.specs.declared.link.Packet.{Packet}
use Rattle.dhcp_history.specs.EventLoop.{events_at}
use Rattle.dhcp_history.specs.History.{history, outputs}
use Rattle.dhcp_history.specs.Machine.{first_view}
use Rattle.dhcp_history.specs.Protocol.{Lawful, Protocol}
use Rattle.dhcp_history.specs.Script as life
use Rattle.dhcp_history.proofs.Looping.{loop_history}
use Rattle.dhcp_stream.specs.Line.{line}
use Rattle.dhcp_script.specs.Event.{are_in_order, are_valid, is_within_limits, moment_limit, most_events}
use Rattle.dhcp_script.specs.Life.{event_line, events_text}
use Rattle.dhcp_script.specs.declared.event.Event.{Event}
use Rattle.dhcp_live.specs.Tool.{end_line}

-- the line of one more event
pub events_text-cons : (event : Event) (text : List ℕ) (events : List Event) → text ≡ events_text events → event_line event ++ text ≡ events_text (event ∷ events)
events_text-cons event text events is = ap (λ (more : List ℕ). event_line event ++ more) is ∙ sym (append_assoc (event_line event) (flat_map event_line events) (line (codes "end")))

-- a text whose events are none, and the same with events
pub longer_text : (front middle head lines : List ℕ) → front ++ (middle ++ end_line) ≡ head ++ end_line → front ++ (middle ++ lines) ≡ head ++ lines
longer_text front middle head lines is =
    let cut : front ++ middle ≡ head = append_cancel_right (front ++ middle) head end_line (append_assoc front middle end_line ∙ is) in
    sym (append_assoc front middle lines) ∙ ap (λ (text : List ℕ). text ++ lines) cut

-- events are valid, if there are not too many
pub are_valid_told : (start : ℕ) (events : List Event) → are_valid start [] ≡ true → length events ≤ most_events → list_all is_within_limits events ≡ true → are_in_order start events ≡ true → are_valid start events ≡ true
unfolding are_valid
are_valid_told start events begins few within in_order =
    let first = and_parts (nat_lt start moment_limit) (nat_le 0 most_events) (and_parts (nat_lt start moment_limit && nat_le 0 most_events) true (and_parts (nat_lt start moment_limit && nat_le 0 most_events && true) true begins).0).0 in
    let count : nat_le (length events) most_events ≡ true = le-leb (length events) most_events few in
    and_from (nat_lt start moment_limit && nat_le (length events) most_events && list_all is_within_limits events) (are_in_order start events)
    (and_from (nat_lt start moment_limit && nat_le (length events) most_events) (list_all is_within_limits events)
    (and_from (nat_lt start moment_limit) (nat_le (length events) most_events) first.0 count)
    within) in_order

-- what a client reports over the events of a life is what the history of that life reports
module _ {PublicState State Exchange Answer Lease : Type 0} (p : Protocol PublicState Packet Handed State Exchange Answer Lease) where
  pub reports_history : Lawful p → (script : life.Script Packet State Exchange) → (events_at p (first_view script) script.events).outputs ≡ outputs p (history p script)
  reports_history lawful script =
      let first = first_view script in
      let once = events_at p (first_view script) script.events in
      loop_history p (Some []) (Some once.view.words) (λ words. first_view script) (λ words. (events_at p (first_view script) script.events).view) script.events once.outputs
      (record { outputs = refl; client = refl; words = refl }) lawful script refl refl

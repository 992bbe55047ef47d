-- What a client reports over the events of a script, as outputs of it.
use Rattle.std.proofs.Common.{◌≡◌, ℕ, List, [], Option, ap, subst, ◌∙◌}
use Rattle.std.specs.Prelude.{IfSome, map}
use Rattle.dhcp_clock.specs.declared.link.Handed.{Handed}
use Rattle.dhcp_clock.specs.declared.link.Packet.{Packet}
use Rattle.dhcp_history.specs.Calls.{ClientParts}
use Rattle.dhcp_history.specs.Client.{view_of}
use Rattle.dhcp_history.specs.EventLoop.{HasReported, events_at, last_moment}
use Rattle.dhcp_history.specs.History.{history, outputs}
use Rattle.dhcp_history.specs.Machine.{first_view}
use Rattle.dhcp_history.specs.Protocol.{Protocol}
use Rattle.dhcp_history.specs.Script.{Script}
use Rattle.dhcp_history.specs.declared.script.NumberedEvent.{NumberedEvent}
use Rattle.dhcp_history.specs.declared.script.NumberedReport.{NumberedReport}
use Rattle.dhcp_output.specs.Output.{PlainOutput, PlainReport}
use Rattle.dhcp_script.specs.declared.event.Event.{Event}
use Rattle.dhcp_replay.specs.Life.{IsPlayed, numbered, output_of}

module _ {Config PublicState State Exchange Answer Lease : Type 0} (protocol : Config → Protocol PublicState Packet Handed State Exchange Answer Lease) (changed : PublicState → PlainReport)
    (events : List Event) (made : List (NumberedEvent Packet)) (made_is : made ≡ numbered 1 events) (items : List (NumberedReport PublicState Handed)) (outs : List PlainOutput) (outs_are : outs ≡ map (output_of changed) items)
    (old new : ClientParts Config State Exchange) (drawn left : Option (List ℕ)) where
  -- over the events that were made
  abbrev ReportedOver : List (NumberedEvent Packet) → Type 0
  ReportedOver all = IfSome drawn (λ words. HasReported (events_at (protocol old.config) (view_of old.client words) all) [] items (view_of new.client) left)

  abbrev HistoryOver : List (NumberedEvent Packet) → Type 0
  HistoryOver all =
      IfSome drawn (λ words. (life : Script Packet State Exchange) → view_of old.client words ≡ first_view life → life.events ≡ all → items ≡ outputs (protocol old.config) (history (protocol old.config) life))

  pub played : ReportedOver made → HistoryOver made → new.config ≡ old.config → new.client.last_moment ≡ last_moment old.client.last_moment made → IsPlayed protocol changed events outs old new drawn left
  played reported follows kept last = record {
    items = items;
    outputs_are = outs_are;
    reported = subst ReportedOver made_is reported;
    history_is = subst HistoryOver made_is follows;
    config_kept = kept;
    moment = last ∙ ap (last_moment old.client.last_moment) made_is;
  }

-- what is said of a client is said of the same client
pub played_by : {Config PublicState State Exchange Answer Lease : Type 0} (protocol : Config → Protocol PublicState Packet Handed State Exchange Answer Lease) (changed : PublicState → PlainReport) (events : List Event) (outs : List PlainOutput)
    (given old new : ClientParts Config State Exchange) (drawn left : Option (List ℕ)) → given ≡ old → IsPlayed protocol changed events outs given new drawn left → IsPlayed protocol changed events outs old new drawn left
played_by {Config} {PublicState} {State} {Exchange} protocol changed events outs given old new drawn left same is = subst (λ (client : ClientParts Config State Exchange). IsPlayed protocol changed events outs client new drawn left) same is

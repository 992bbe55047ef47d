-- What is printed of a client that plays events, one after the other.
use Rattle.std.specs.Prelude.{◌≡◌, ℕ, List, [], ◌++◌, map, Option, IfSome}
use Rattle.std.specs.List.{flat_map}
use Rattle.dhcp_clock.specs.declared.link.Handed.{Handed}
use Rattle.dhcp_clock.specs.declared.link.Packet.{Packet}
use Rattle.dhcp_history.specs.Calls.{ClientParts}
use Rattle.dhcp_history.specs.Client.{view_of}
use Rattle.dhcp_history.specs.EventLoop.{HasReported, events_at}
use Rattle.dhcp_history.specs.Machine.{EventEffect, View}
use Rattle.dhcp_history.specs.Protocol.{Protocol}
use Rattle.dhcp_history.specs.declared.script.NumberedReport.{NumberedReport}
use Rattle.dhcp_output.specs.Output.{PlainReport, output_line}
use Rattle.dhcp_script.specs.declared.event.Event.{Event}
use Rattle.dhcp_replay.specs.Life.{numbered, output_of}

-- what the events of a script do to a client that stands so
abbrev pub played_events : {Config PublicState State Exchange Answer Lease : Type 0} →
    (Config → Protocol PublicState Packet Handed State Exchange Answer Lease) →
    ClientParts Config State Exchange → List Event → View State Exchange →
    EventEffect PublicState Handed State Exchange
played_events protocol parts events view =
    events_at (protocol parts.config) view (numbered 1 events)

-- the lines of what is reported
abbrev pub lines_of : {PublicState : Type 0} → (PublicState → PlainReport) →
    List (NumberedReport PublicState Handed) → List ℕ
lines_of changed items = flat_map output_line (map (output_of changed) items)

-- A client plays what has this effect: the lines of what it reports are put at the end of a text.
pub record IsPrinted {Config PublicState State Exchange : Type 0}
    (changed : PublicState → PlainReport)
    (effect : View State Exchange → EventEffect PublicState Handed State Exchange)
    (before after : List ℕ) (old new : ClientParts Config State Exchange)
    (drawn left : Option (List ℕ)) : Type 0 where
  pub items : List (NumberedReport PublicState Handed)
  pub text_is : after ≡ before ++ lines_of changed items
  pub reported : IfSome drawn (λ words.
      HasReported (effect (view_of old.client words)) [] items (view_of new.client) left)
  pub config_kept : new.config ≡ old.config

-- By what the client reports over the events by their numbers.
use Rattle.std.proofs.Common.{◌<◌, ◌^◌, List, sym, subst}
use Rattle.std.specs.Prelude.{All, map}
use Rattle.dhcp_clock.specs.declared.link.Packet.{Packet}
use Rattle.dhcp_history.specs.declared.script.NumberedEvent.{NumberedEvent}
use Rattle.dhcp_output.specs.Output.{plain_output}
use Rattle.dhcp_replay.proofs.PlayLemmas.{played}
use Rattle.dhcp_replay.proofs.family.play.Goals as goal

pub play-requires : goal.play-requires
play-requires g c = subst (λ (all : List (NumberedEvent Packet)). All (λ (event : NumberedEvent Packet). event.moment < 2 ^ 60) all) (sym c.in_ok-numbered.ensures) c.requires.moments

pub returns-clause-played : goal.returns-clause-played
returns-clause-played g c =
    played _ _ c.args.events.now c.in_ok-numbered.field-0.items c.in_ok-numbered.ensures c.in_ok-reported.reported.items (map plain_output c.in_ok-outputs_of.field-0) c.in_ok-outputs_of.ensures _ _ _ _ c.in_ok-reported.ensures.reported
    c.in_ok-reported.ensures.history c.in_ok-reported.ensures.config c.in_ok-reported.ensures.moment

use Rattle.std.proofs.Common.{length}
use Rattle.dhcp_script.specs.LifeReader.{events_at}
use Rattle.dhcp_script.proofs.LifeLaws.{IsSoFar}
use Rattle.dhcp_script.proofs.life.read_events.Given as goal

abbrev pub invariant-lines : goal.invariant-lines
invariant-lines l = IsSoFar (events_at l.initial.text) l.events.items l.text

abbrev pub decreases-lines : goal.decreases-lines
decreases-lines l = length l.text

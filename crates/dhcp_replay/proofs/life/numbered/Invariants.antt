use Rattle.std.proofs.Common.{◌≡◌, ◌+◌, take}
use Rattle.dhcp_replay.specs.Life.{numbered}
use Rattle.dhcp_replay.proofs.life.numbered.Given as goal

-- the events so far are made, and the number of the next one
abbrev pub invariant-loop-event : goal.invariant-loop-event
invariant-loop-event l = record {
  made : l.made.items ≡ numbered 1 (take l.event-index l.events);
  number : l.number ≡ 1 + l.event-index;
}

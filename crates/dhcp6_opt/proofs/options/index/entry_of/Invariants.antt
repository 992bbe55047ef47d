-- All entries before `low` are below, all from `high` on are above, and each step halves what is between.
use Rattle.std.proofs.Common.{◌+◌, ◌-◌, ◌*◌, ◌^◌, ◌<◌, ◌≤◌, length, take, drop}
use Rattle.dhcp6_opt.specs.OptionIndex.{AllAbove, AllBelow}
use Rattle.dhcp6_opt.proofs.options.index.entry_of.Given as goal

abbrev pub invariant-loop-low : goal.invariant-loop-low
invariant-loop-low g l = record {
  ordered : l.low ≤ l.high;
  inside : l.high ≤ length l.entries;
  below : AllBelow l.number (take l.low l.entries);
  above : AllAbove l.number (drop l.high l.entries);
  halved : 2 ^ (g.S.StepCounter.counted l.steps - g.S.StepCounter.counted l.initial.steps) * (l.high - l.low) ≤ length l.entries;
  kept : g.S.StepCounter.counted l.initial.steps ≤ g.S.StepCounter.counted l.steps;
  begun : l.high - l.low < length l.entries → g.S.StepCounter.counted l.initial.steps + g.S.StepCounter.least ≤ g.S.StepCounter.counted l.steps;
  few : 2 ^ (g.S.StepCounter.counted l.steps - g.S.StepCounter.counted l.initial.steps) ≤ 2 * length l.entries + 1;
}

abbrev pub decreases-loop-low : goal.decreases-loop-low
decreases-loop-low g l = l.high - l.low

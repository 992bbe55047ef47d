use Rattle.std.proofs.Common.{◌≡◌, drop}
use Rattle.dhcp4_net.specs.Script.{are_distinct}
use Rattle.dhcp4_net.proofs.script.are_distinct.Given as goal

-- the rest is as distinct as the whole
abbrev pub invariant-loop-place : goal.invariant-loop-place
invariant-loop-place l = are_distinct l.clients ≡ are_distinct (drop l.place l.clients)

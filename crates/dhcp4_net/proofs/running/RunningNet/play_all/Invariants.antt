-- What is left of the events ends as the whole does.
use Rattle.std.proofs.Common.{◌≡◌, ℕ, ◌+◌, drop}
use Rattle.dhcp4_lease.specs.Config.{Config}
use Rattle.dhcp4_server.specs.Answer.{answer_to}
use Rattle.dhcp4_server.specs.declared.config.ServerConfig.{ServerConfig}
use Rattle.dhcp4_net.specs.Net.{Net, net_after}
use Rattle.dhcp4_net.specs.Running.{StandsForNet}
use Rattle.dhcp4_net.specs.Script.{GoesOn}
use Rattle.dhcp4_net.proofs.running.RunningNet.play_all.Given as goal

abbrev pub invariant-loop-event : goal.invariant-loop-event
invariant-loop-event l = record {
  goes_on : (config : ServerConfig) (configs : ℕ → Config) (count : ℕ) (net : Net) → StandsForNet config configs count l.fn.self net →
      GoesOn config configs count (net_after (answer_to config) configs config.bound_ms count net 1 l.events) (1 + l.event-index) (drop l.event-index l.events) l.self;
  number : l.number ≡ 1 + l.event-index;
}

-- The clients so far have begun.
use Rattle.std.proofs.Common.{◌≡◌, length}
use Rattle.dhcp4_net.specs.Clients.{views_of}
use Rattle.dhcp4_net.specs.Running.{ArePeers}
use Rattle.dhcp4_net.specs.Script.{configs_of}
use Rattle.dhcp4_net.proofs.running.begun_peers.Given as goal

abbrev pub invariant-loop-client : goal.invariant-loop-client
invariant-loop-client l = record {
  peers : ArePeers (configs_of l.clients) (views_of l.clients) l.peers.items;
  count : length l.peers.items ≡ l.client-index;
}

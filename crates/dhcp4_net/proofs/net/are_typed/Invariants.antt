-- Those so far are.
use Rattle.std.proofs.Common.{ℕ, ◌<◌, get_or}
use Rattle.dhcp4_net.specs.Clients.{IsTypedClient}
use Rattle.dhcp4_net.specs.declared.script.NetClient.{NetClient}
use Rattle.dhcp4_net.proofs.net.are_typed.Given as goal

abbrev pub invariant-loop-client : goal.invariant-loop-client
invariant-loop-client l = (k : ℕ) (d : NetClient) → k < l.client-index → IsTypedClient (get_or l.clients k d)

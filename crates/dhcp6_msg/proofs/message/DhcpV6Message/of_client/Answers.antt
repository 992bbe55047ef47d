-- An identifier that is short enough fits.
use Rattle.dhcp6_msg.proofs.OptionLemmas.{client_fits}
use Rattle.dhcp6_msg.proofs.message.DhcpV6Message.of_client.Goals as goal

pub insert-requires : goal.insert-requires
insert-requires c = client_fits _ (rw c.in_ok-try_clone.ensures c.requires)

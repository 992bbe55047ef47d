-- A number of two bytes fits.
use Rattle.dhcp6_msg.proofs.OptionLemmas.{elapsed_fits}
use Rattle.dhcp6_msg.proofs.message.DhcpV6Message.add_elapsed_time.Goals as goal

pub insert-requires : goal.insert-requires
insert-requires c = elapsed_fits _

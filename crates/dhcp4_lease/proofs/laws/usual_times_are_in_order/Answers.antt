use Rattle.dhcp4_lease.proofs.TimesLemmas.{usual_times_are_read}
use Rattle.dhcp4_lease.proofs.laws.usual_times_are_in_order.Goals as goal

pub returns : goal.returns
returns c = usual_times_are_read

use Rattle.dhcp_draws.proofs.Table4.{table4_draws}
use Rattle.dhcp_draws.proofs.Table6.{table6_draws}
use Rattle.dhcp_draws.proofs.laws.tables_draw_within_limits.Goals as goal

pub returns : goal.returns
returns c = record { ipv4 = table4_draws; ipv6 = table6_draws }

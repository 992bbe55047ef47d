use Rattle.dhcp4_msg.proofs.LawLemmas.{route_back}
use Rattle.dhcp4_msg.proofs.RouteLemmas.{written_route-route_at}
use Rattle.dhcp4_msg.proofs.laws.routes_read_back.Goals as goal

pub returns : goal.returns
returns c = record { back = route_back; again = written_route-route_at }

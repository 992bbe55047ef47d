-- By the limits of both tables.
use Rattle.std.proofs.Common.{arith}
use Rattle.dhcp4_client.specs.Rules as rules4
use Rattle.dhcp6_client.specs.Client.{first_draws}
use Rattle.dhcp6_client.specs.Rules as rules6
use Rattle.dhcp_draws.specs.Tables.{limits4, limits6, most_words}
use Rattle.dhcp_draws.proofs.Drawing.{draws_fewer, draws_word}
use Rattle.dhcp_draws.proofs.EventDraws.{events_take, events_take_at_most}
use Rattle.dhcp_draws.proofs.Table4.{table4_draws}
use Rattle.dhcp_draws.proofs.Table6.{first_draw, table6_draws}
use Rattle.dhcp_draws.proofs.laws.eight_words_are_enough.Goals as goal

pub returns : goal.returns
returns c = record {
  begins4 = draws_fewer 1 most_words _ (omega arith) (draws_word (λ word. word));
  begins6 = λ config. draws_fewer 5 most_words (first_draws config) (omega arith) (first_draw config);
  events4 = λ config. events_take_at_most (rules4.protocol config) limits4 most_words (events_take (rules4.protocol config) limits4 (table4_draws config)) (omega arith);
  events6 = λ config. events_take_at_most (rules6.protocol config) limits6 most_words (events_take (rules6.protocol config) limits6 (table6_draws config)) (omega arith);
}

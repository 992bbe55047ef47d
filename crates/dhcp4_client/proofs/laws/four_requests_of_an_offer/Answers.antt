-- By the count of attempts that went without an answer.
use Rattle.dhcp_history.specs.History.{history}
use Rattle.dhcp_history.proofs.Traffic.{takes_at_most}
use Rattle.dhcp4_client.specs.declared.client_state.ClientState.TheVariants.{Selecting}
use Rattle.dhcp4_client.specs.Rules.{protocol}
use Rattle.dhcp4_client.proofs.Traffic.{four_of_an_offer}
use Rattle.dhcp4_client.proofs.laws.four_requests_of_an_offer.Goals as goal

pub returns : goal.returns
returns c = rw (← c.client.view_is) (λ forms script.
    takes_at_most (protocol c.client.inside.rules.config) 4 Selecting (four_of_an_offer c.client.inside.rules.config forms)
    (history (protocol c.client.inside.rules.config) script) (c.attempts_run_out.ensures script))

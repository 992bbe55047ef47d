-- By the count of attempts that went without an answer.
use Rattle.dhcp_history.specs.History.{history}
use Rattle.dhcp_history.proofs.Traffic.{takes_at_most}
use Rattle.dhcp6_client.specs.declared.client_state.ClientState.TheVariants.{Request}
use Rattle.dhcp6_client.specs.Rules.{protocol}
use Rattle.dhcp6_client.proofs.Traffic.{eleven}
use Rattle.dhcp6_client.proofs.laws.eleven_requests_of_an_offer.Goals as goal

pub returns : goal.returns
returns c = rw (← c.client.view_is) (λ script.
    takes_at_most (protocol c.client.inside.rules.config) 11 Request (eleven c.client.inside.rules.config)
    (history (protocol c.client.inside.rules.config) script) (c.attempts_run_out.ensures script))

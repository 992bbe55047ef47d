-- What is reported of the state that comes after the one that ended.
use Rattle.std.proofs.Common.{sym, ap, ◌∙◌}
use Rattle.dhcp6_client.specs.declared.client_state.ClientState.{ClientState}
use Rattle.dhcp6_client.specs.Rules as table
use Rattle.dhcp6_client.proofs.rules.ClientRulesRules.after_end.Goals as goal

pub returns-clause-reported : goal.returns-clause-reported
returns-clause-reported c =
    let next = λ (state : ClientState). (table.after_end state c.restarted.result).state in
    c.reported_after_end-reported.ensures c.restarted.result ∙ sym (ap table.public_state (c.enter.ensures ∙ c.state_after_end.ensures c.restarted.result ∙ ap next c.replace-ended.ensures.value))

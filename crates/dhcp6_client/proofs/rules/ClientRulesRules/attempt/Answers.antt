-- What an attempt draws, one after the other.
use Rattle.std.proofs.Common.{◌≡◌, arith}
use Rattle.dhcp_clock.specs.declared.link.Handed.{Handed}
use Rattle.dhcp_history.specs.declared.rules.NewAttempt.{NewAttempt}
use Rattle.dhcp6_client.specs.declared.client_state.Exchange.{Exchange}
use Rattle.dhcp6_client.specs.Rules.{attempt_with}
use Rattle.dhcp6_client.proofs.TakenWords.{attempt_taken}
use Rattle.dhcp6_client.proofs.rules.ClientRulesRules.attempt.Goals as goal

pub returns-clause-taken : goal.returns-clause-taken
returns-clause-taken g c =
    let xid = c.transaction_id-xid in
    let wait = c.wait-wait in
    let iaid = c.association_id-iaid in
    let made : NewAttempt Exchange Handed = record {
      wait = wait.result;
      message = c.in_ok-message.message;
      exchange = record c.args.exchange { xid = xid.result; previous_wait = wait.result };
    } in
    let same : made ≡ attempt_with c.args.self.now.config c.args.state.now c.args.exchange c.args.start xid.result wait.result iaid.result = grind arith in
    attempt_taken g.W.Words.gives _ _ _ _ c.args.self.now.config c.args.state.now c.args.exchange c.args.start xid.result wait.result iaid.result made
    xid.ensures.taken wait.ensures.taken iaid.ensures.taken same

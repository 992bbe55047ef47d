-- What an attempt draws, one after the other.
use Rattle.std.proofs.Common.{◌≡◌, arith}
use Rattle.dhcp_clock.specs.declared.link.Handed.{Handed}
use Rattle.dhcp_history.specs.declared.rules.NewAttempt.{NewAttempt}
use Rattle.dhcp6_info.specs.declared.client_state.Exchange.{Exchange}
use Rattle.dhcp6_info.specs.Rules.{attempt_with}
use Rattle.dhcp6_info.proofs.TakenWords.{attempt_taken}
use Rattle.dhcp6_info.proofs.rules.ClientRulesRules.attempt.Goals as goal

pub returns-clause-taken : goal.returns-clause-taken
returns-clause-taken g c =
    let xid = c.transaction_id-xid in
    let wait = c.wait-wait in
    let made : NewAttempt Exchange Handed = record {
      wait = wait.result;
      message = c.in_ok-message.message;
      exchange = record { xid = xid.result; previous_wait = wait.result };
    } in
    let same : made ≡ attempt_with c.args.self.now.config c.args.start xid.result wait.result = grind arith in
    attempt_taken g.W.Words.gives _ _ _ c.args.self.now.config c.args.state.now c.args.exchange c.args.start xid.result wait.result made
    xid.ensures.taken wait.ensures.taken same

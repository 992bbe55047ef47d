use Rattle.std.proofs.Common.{rules}
use Rattle.dhcp_history.specs.Machine.{has_open_attempt}
use Rattle.dhcp_history.specs.Client.{view_of, view_with}
use Rattle.dhcp_history.proofs.Running.{work_due}
use Rattle.dhcp_history.proofs.Traced.{works_due, uses_due}
use Rattle.dhcp_history.proofs.TurnLemmas.{on_error, unheard_out, unmade_out}
use Rattle.dhcp_history.proofs.machine.transmit_due.Goals as goal

pub returns-clause-worked : goal.returns-clause-worked
returns-clause-worked g c = record {
  polled =
      work_due (g.R.Rules.protocol c.args.rules.now) c.args.now (g.W.Words.left c.args.words.now) (g.W.Words.left c.transmit.new.words) (g.W.Words.left c.receive.new.words)
      (g.L.DhcpLink.shown c.args.link.now) (g.L.DhcpLink.shown c.transmit.new.link) (g.L.DhcpLink.shown c.receive.new.link)
      (view_with c.args.client.now c.args.begun) (view_of c.transmit.new.client) (view_of c.receive.new.client)
      c.in_ok-receive.field-0 (λ words. c.requires.due) c.in_ok-transmit.ensures.transmitted c.in_ok-receive.ensures.received;
  still = search rules;
  reported = search rules;
  timeout = search rules;
  moment = search rules;
  in_time = search rules;
  state = search rules;
  later = search rules;
}

pub returns-clause-traced : goal.returns-clause-traced
returns-clause-traced g c =
    works_due (g.R.Rules.protocol c.args.rules.now) g.W.Words.gives g.L.DhcpLink.moves c.args.now c.in_ok-receive.field-0
    (view_with c.args.client.now c.args.begun) c.transmit.new.client c.receive.new.client
    c.args.words.now c.transmit.new.words c.receive.new.words c.args.link.now c.transmit.new.link c.receive.new.link
    (λ rest. c.requires.due) c.in_ok-transmit.ensures.traced c.in_ok-receive.ensures.traced

pub returns-clause-uses : goal.returns-clause-uses
returns-clause-uses g c =
    uses_due (g.L.DhcpLink.shown c.args.link.now) (g.L.DhcpLink.shown c.transmit.new.link) (g.L.DhcpLink.shown c.receive.new.link) (has_open_attempt c.transmit.new.client.standing.phase)
    c.in_ok-transmit.ensures.sent c.in_ok-transmit.ensures.listens c.receive.ensures.packet (λ shut. (c.receive.ensures.shut shut).link)

pub returns-in_err-transmit-clause-ran_out : goal.returns-in_err-transmit-clause-ran_out
returns-in_err-transmit-clause-ran_out g c =
    on_error c.from_residual.result
    (unmade_out g.L.DhcpLink.moves c.args.client.now c.transmit.new.client c.args.link.now c.transmit.new.link
    (record { state = c.transmit.ensures.state; standing = c.in_err-transmit.ensures.unchanged.standing; timeout = c.transmit.ensures.timeout; moment = c.in_err-transmit.ensures.unchanged.moment })
    c.in_err-transmit.ensures.unmade)

pub returns-in_err-receive-clause-ran_out : goal.returns-in_err-receive-clause-ran_out
returns-in_err-receive-clause-ran_out g c =
    on_error c.from_residual-in_err-receive.result
    (unheard_out (g.R.Rules.protocol c.args.rules.now) g.W.Words.gives g.L.DhcpLink.moves c.args.now (view_with c.args.client.now c.args.begun)
    c.args.client.now c.transmit.new.client c.receive.new.client c.args.words.now c.transmit.new.words c.args.link.now c.transmit.new.link c.receive.new.link
    (λ rest. c.requires.due) c.in_ok-transmit.ensures.traced c.in_err-receive.ensures.needed.listens
    c.in_err-receive.ensures.state c.in_err-receive.ensures.standing c.receive.ensures.timeout c.in_err-receive.ensures.lost)

use Rattle.std.proofs.Common.{true, false}
use Rattle.dhcp_history.proofs.Traced.{transmits}
use Rattle.dhcp_history.proofs.attempt.transmit.Goals.{in-Taken, in-Refused}
use Rattle.dhcp_history.proofs.attempt.transmit.Goals as goal

pub returns-clause-traced : goal.returns-clause-traced
returns-clause-traced g c = elim c.match-send.branch [
  | in-Taken w ↦
      transmits (g.R.Rules.protocol c.args.rules.now) g.W.Words.gives g.L.DhcpLink.moves c.args.now false c.args.client.now _ c.args.begun c.exchange_at-exchange.result c.is_pausing.result c.in_ok-wait.field-0
      c.args.words.now c.attempt.new.words c.args.link.now c.send.new.link
      c.exchange_at-exchange.ensures c.is_pausing.ensures c.in_ok-wait.ensures.taken w.in-Taken.ensures.moved (λ rest. rw w.phase-is)
  | in-Refused w ↦
      transmits (g.R.Rules.protocol c.args.rules.now) g.W.Words.gives g.L.DhcpLink.moves c.args.now true c.args.client.now _ c.args.begun c.exchange_at-exchange.result c.is_pausing.result c.in_ok-wait.field-0
      c.args.words.now c.attempt.new.words c.args.link.now c.send.new.link
      c.exchange_at-exchange.ensures c.is_pausing.ensures c.in_ok-wait.ensures.taken w.in-Refused.ensures.moved (λ rest. rw w.phase-is)
]

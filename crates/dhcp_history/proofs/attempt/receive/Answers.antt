use Rattle.std.proofs.Common.{◌∙◌, refl, sym, arith}
use Rattle.dhcp_history.proofs.Traced.{hears_shut, hears_none}
use Rattle.dhcp_history.proofs.attempt.receive.Goals as goal

pub returns-then-not-has_open_attempt-clause-traced : goal.returns-then-not-has_open_attempt-clause-traced
returns-then-not-has_open_attempt-clause-traced g c =
    hears_shut (g.R.Rules.protocol c.args.rules.now) g.W.Words.gives g.L.DhcpLink.moves c.args.now c.args.client.now _ refl c.args.words.now c.args.link.now
    (sym c.has_open_attempt.ensures ∙ grind arith)

pub returns-in_default-clause-traced : goal.returns-in_default-clause-traced
returns-in_default-clause-traced g c =
    hears_none (g.R.Rules.protocol c.args.rules.now) g.W.Words.gives g.L.DhcpLink.moves c.args.now c.args.client.now _ refl c.args.words.now c.args.link.now c.receive.new.self
    (sym c.has_open_attempt.ensures ∙ grind arith) c.in_default.ensures.moved

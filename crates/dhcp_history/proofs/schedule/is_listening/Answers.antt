-- What the client can tell without its words is what its polls ask for.
use Rattle.std.proofs.Common.{◌≡◌, true, false, ap, sym, ◌∙◌, arith}
use Rattle.std.specs.Prelude.{not}
use Rattle.dhcp_history.proofs.Asking.{listening_of, over_deaf, ready_asks}
use Rattle.dhcp_history.proofs.schedule.is_listening.Goals as goal

pub returns-then-not-is_over : goal.returns-then-not-is_over
returns-then-not-is_over g c =
    let going : c.is_over.result ≡ false = grind arith in
    listening_of (g.R.Rules.protocol c.args.rules.now) c.args.now c.has_attempt.result c.args.client.now
    (λ available. ready_asks (g.R.Rules.protocol c.args.rules.now) c.args.now c.has_attempt.result c.args.client.now available (sym (c.is_over.ensures available) ∙ going) c.has_attempt.ensures)

pub returns-else-not-is_over : goal.returns-else-not-is_over
returns-else-not-is_over g c =
    let over : c.is_over.result ≡ true = grind arith in
    listening_of (g.R.Rules.protocol c.args.rules.now) c.args.now (not c.is_over.result) c.args.client.now
    (λ available. ap not over ∙ over_deaf (g.R.Rules.protocol c.args.rules.now) c.args.now c.args.client.now available (sym (c.is_over.ensures available) ∙ over))

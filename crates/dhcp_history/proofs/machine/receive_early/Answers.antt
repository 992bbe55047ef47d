use Rattle.std.proofs.Common.{◌≡◌, true, refl, ap, sym, ◌∙◌}
use Rattle.dhcp_history.specs.Machine.{has_open_attempt}
use Rattle.dhcp_history.specs.Client.{view_of, view_with}
use Rattle.dhcp_history.proofs.Traced.{works_early}
use Rattle.dhcp_history.specs.declared.client.Standing.{Standing}
use Rattle.dhcp_history.proofs.TurnLemmas.{lost_out, on_error}
use Rattle.dhcp_history.proofs.machine.receive_early.Goals as goal

pub returns-clause-traced : goal.returns-clause-traced
returns-clause-traced g c =
    works_early (g.R.Rules.protocol c.args.rules.now) g.W.Words.gives g.L.DhcpLink.moves c.args.now (has_open_attempt c.args.begun.phase) _
    (view_with c.args.client.now c.args.begun) (view_of c.receive.new.client) c.args.words.now c.receive.new.words c.args.link.now c.receive.new.link
    (λ rest. c.requires.early) (λ rest. refl) c.in_ok-change.ensures.traced

pub returns-in_err-change-clause-ran_out : goal.returns-in_err-change-clause-ran_out
returns-in_err-change-clause-ran_out g c =
    let open_attempt : has_open_attempt c.args.begun.phase ≡ true = c.in_err-change.ensures.needed.listens in
    let same : c.args.begun ≡ c.args.client.now.standing = c.requires.open open_attempt in
    on_error c.from_residual.result
    (lost_out g.L.DhcpLink.moves c.args.client.now c.receive.new.client c.args.link.now c.receive.new.link
    (record { state = c.in_err-change.ensures.state; standing = c.in_err-change.ensures.standing ∙ same; timeout = c.receive.ensures.timeout; moment = c.receive.ensures.moment })
    (ap (λ (standing : Standing _). has_open_attempt standing.phase) (sym same) ∙ open_attempt) c.in_err-change.ensures.lost)

-- Each turn writes one label.
use Rattle.std.proofs.Common.{◌≡◌, ◌++◌, length, take, ap, ◌∙◌, arith, lit<}
use Rattle.std.specs.List.{flat_map}
use Rattle.std.proofs.lemmas.Iterator.Consumers.{YieldsList-turn, YieldsList-end}
use Rattle.std.proofs.lemmas.Iterator.Splits.{YieldsList-from_str_split}
use Rattle.std.proofs.lemmas.List.{length_push, take_all}
use Rattle.dhcp_wire.proofs.EmitLemmas.{emits_exit, front_piece}
use Rattle.dhcp6_opt.specs.DomainName.{between_dots, written_label}
use Rattle.dhcp6_opt.proofs.NameLemmas.{written_labels-more}
use Rattle.dhcp6_opt.proofs.domain_name.emit_labels.Goals as goal

pub returns-in_err-emit_label : goal.returns-in_err-emit_label
returns-in_err-emit_label c =
    let turn = YieldsList-turn (YieldsList-from_str_split 46 c.args.text.now (lit< tt) (cc) (cc) (cc)) c.loop-label.yielded _ c.loop-label.yielded_by _ _ c.in-Some.label c.in-Some.is c.next.ensures.steps in
    emits_exit _ _ _ _ _ c.from_residual.ensures.1 c.in_err-emit_label.ensures.0
    (front_piece written_label (length c.loop-label.yielded) (between_dots c.args.text.now) c.in-Some.label.now _ _ _ turn.0 turn.1 c.loop-label.invariant c.in_err-emit_label.ensures.1)

pub loop-label-preserved : goal.loop-label-preserved
loop-label-preserved c =
    let turn = YieldsList-turn (YieldsList-from_str_split 46 c.args.text.now (lit< tt) (cc) (cc) (cc)) c.loop-label.yielded _ c.loop-label.yielded_by _ _ c.in-Some.label c.in-Some.is c.next.ensures.steps in
    rw (c.in_ok-emit_label.ensures, length_push c.loop-label.yielded c.in-Some.label)
    (written_labels-more c.args.buf.now _ (between_dots c.args.text.now) (length c.loop-label.yielded) c.in-Some.label.now turn.0 turn.1 c.loop-label.invariant)

pub returns : goal.returns
returns c =
    let end = YieldsList-end (YieldsList-from_str_split 46 c.args.text.now (lit< tt) (cc) (cc) (cc)) c.loop-label.yielded _ c.loop-label.yielded_by _ _ c.in-None.is c.next.ensures.steps in
    let all : take (length c.loop-label.yielded) (between_dots c.args.text.now) ≡ between_dots c.args.text.now = take_all _ _ (omega (arith, end.1)) in
    c.loop-label.invariant ∙ ap (λ labels. c.args.buf.now ++ flat_map written_label labels) all

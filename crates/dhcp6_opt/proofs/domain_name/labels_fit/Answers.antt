-- Each turn tests one label.
use Rattle.std.proofs.Common.{◌≡◌, true, false, length, take, sym, ap, ◌∙◌, arith, lit<}
use Rattle.std.specs.List.{list_all}
use Rattle.std.proofs.lemmas.Iterator.Consumers.{YieldsList-turn, YieldsList-end}
use Rattle.std.proofs.lemmas.Iterator.Splits.{YieldsList-from_str_split}
use Rattle.std.proofs.lemmas.List.{length_push, take_all}
use Rattle.std.proofs.lemmas.List.Folds.{list_all_at, list_all_more}
use Rattle.dhcp6_opt.specs.DomainName.{between_dots, has_label_length}
use Rattle.dhcp6_opt.proofs.domain_name.labels_fit.Goals as goal

pub returns-then-not-has_label_length : goal.returns-then-not-has_label_length
returns-then-not-has_label_length c =
    let turn = YieldsList-turn (YieldsList-from_str_split 46 c.args.text.now (lit< tt) (cc) (cc) (cc)) c.loop-label.yielded _ c.loop-label.yielded_by _ _ c.in-Some.label c.in-Some.is c.next.ensures.steps in
    let fails : has_label_length c.in-Some.label.now ≡ false = ap has_label_length (sym c.as_bytes.ensures.value) ∙ sym c.has_label_length.ensures ∙ c.if-not-has_label_length.true in
    sym (list_all_at has_label_length (between_dots c.args.text.now) _ c.in-Some.label.now turn.0 (ap has_label_length (sym turn.1) ∙ fails))

pub loop-label-preserved : goal.loop-label-preserved
loop-label-preserved c =
    let turn = YieldsList-turn (YieldsList-from_str_split 46 c.args.text.now (lit< tt) (cc) (cc) (cc)) c.loop-label.yielded _ c.loop-label.yielded_by _ _ c.in-Some.label c.in-Some.is c.next.ensures.steps in
    let passes : has_label_length c.in-Some.label.now ≡ true = ap has_label_length (sym c.as_bytes.ensures.value) ∙ sym c.if-not-has_label_length.ensures in
    let so_far = c.loop-label.invariant in
    rw (length_push c.loop-label.yielded c.in-Some.label, list_all_more has_label_length (between_dots c.args.text.now) (length c.loop-label.yielded) c.in-Some.label.now turn.0, so_far) (ap has_label_length (sym turn.1) ∙ passes)

pub returns : goal.returns
returns c =
    let end = YieldsList-end (YieldsList-from_str_split 46 c.args.text.now (lit< tt) (cc) (cc) (cc)) c.loop-label.yielded _ c.loop-label.yielded_by _ _ c.in-None.is c.next.ensures.steps in
    let all : take (length c.loop-label.yielded) (between_dots c.args.text.now) ≡ between_dots c.args.text.now = take_all _ _ (omega (arith, end.1)) in
    sym (ap (list_all has_label_length) (sym all) ∙ c.loop-label.invariant)

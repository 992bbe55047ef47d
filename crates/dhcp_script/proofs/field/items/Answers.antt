use Rattle.std.proofs.lemmas.Result.{err_from_is_err_and}
use Rattle.dhcp_script.proofs.FieldLemmas.{finds_err, has_items-all, has_items-more, has_items-none, has_items-open, has_items-refused, item-shorter}
use Rattle.dhcp_script.proofs.field.items.Goals as goal

pub loop-item-init : goal.loop-item-init
loop-item-init g c = rw c.new-items.ensures.items (has_items-none g.T.Field.value_in c.args.field.now)

pub returns-in_err-from_field : goal.returns-in_err-from_field
returns-in_err-from_field g c =
    let exit = err_from_is_err_and c.from_residual.result c.from_residual.ensures.1 in
    rw (exit.1, exit.2) (finds_err _ _ _ c.in_err-from_field.ensures (has_items-refused g.T.Field.value_in _ _ _ _ _ c.loop-item.invariant c.in-Some.ensures))

pub loop-item-smaller : goal.loop-item-smaller
loop-item-smaller g c = item-shorter _ _ _ c.in-Some.ensures

pub loop-item-preserved : goal.loop-item-preserved
loop-item-preserved g c =
    rw c.in_ok-push.ensures.items (has_items-more g.T.Field.value_in _ _ _ _ _ _ c.loop-item.invariant c.in-Some.ensures c.in_ok-from_field.ensures)

pub returns-in_err-from_field-2 : goal.returns-in_err-from_field-2
returns-in_err-from_field-2 g c =
    let exit = err_from_is_err_and c.from_residual-in_err-from_field-2.result c.from_residual-in_err-from_field-2.ensures.1 in
    rw (exit.1, exit.2) (finds_err _ _ _ c.in_err-from_field-2.ensures (has_items-open g.T.Field.value_in _ _ _ c.loop-item.invariant c.in_default.ensures))

pub returns : goal.returns
returns g c =
    rw (c.from.ensures, c.in_ok-push-2.ensures.items) (has_items-all g.T.Field.value_in _ _ _ _ c.loop-item.invariant c.in_default.ensures c.in_ok-from_field-2.ensures)

use Rattle.std.proofs.lemmas.Result.{err_from_is_err_and}
use Rattle.dhcp_stream.proofs.CodecLaws.{not_skipped, skipped, takes_err}
use Rattle.dhcp_script.proofs.LifeLaws.{event-shorter, so_far-all, so_far-more, so_far-none, so_far-open, so_far-refused}
use Rattle.dhcp_script.proofs.life.read_events.Goals as goal

pub lines-init : goal.lines-init
lines-init c = rw c.new-events.ensures.items (so_far-none c.args.text.now)

pub returns-in_err-read_event : goal.returns-in_err-read_event
returns-in_err-read_event c =
    let exit = err_from_is_err_and c.from_residual.result c.from_residual.ensures.1 in
    let tag = skipped _ _ _ _ c.skip.ensures c.lines-test.true in
    rw (exit.1, exit.2) (takes_err _ _ _ _ _ c.in_err-read_event.ensures (so_far-refused _ _ _ _ c.lines.invariant tag))

pub lines-smaller : goal.lines-smaller
lines-smaller c = event-shorter _ _ _ _ (skipped _ _ _ _ c.skip.ensures c.lines-test.true) c.in_ok-read_event.ensures

pub lines-preserved : goal.lines-preserved
lines-preserved c =
    rw c.in_ok-push.ensures.items
    (so_far-more _ _ _ _ _ _ c.lines.invariant (skipped _ _ _ _ c.skip.ensures c.lines-test.true) c.in_ok-read_event.ensures)

pub returns-in_err-tag : goal.returns-in_err-tag
returns-in_err-tag c =
    let exit = err_from_is_err_and c.from_residual-in_err-tag.result c.from_residual-in_err-tag.ensures.1 in
    let none = not_skipped _ _ _ _ c.skip.ensures c.lines-test.false in
    let tag = rw none.1 at c.in_err-tag.ensures.takes in
    rw (exit.1, exit.2) (takes_err _ _ _ _ _ tag (so_far-open _ _ _ c.lines.invariant none.0))

pub returns : goal.returns
returns c =
    let none = not_skipped _ _ _ _ c.skip.ensures c.lines-test.false in
    let tag = rw none.1 at c.in_ok-tag.ensures.takes in
    rw c.from.ensures (so_far-all _ _ _ _ c.lines.invariant none.0 tag)

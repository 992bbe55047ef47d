use Rattle.std.proofs.lemmas.Result.{err_from_is_err_and}
use Rattle.dhcp_stream.proofs.CodecLaws.{not_skipped, skipped, takes_err}
use Rattle.dhcp4_net_play.proofs.LineLaws.{line-shorter, so_far-all, so_far-more, so_far-none, so_far-open, so_far-refused}
use Rattle.dhcp4_net_play.proofs.lines.read_lines.Goals as goal

pub lines-init : goal.lines-init
lines-init g c = rw c.new-lines.ensures.items (so_far-none c.args.tag.now c.args.end.now g.T.Line.line_at c.args.text.now)

pub returns-in_err-read : goal.returns-in_err-read
returns-in_err-read g c =
    let exit = err_from_is_err_and c.from_residual.result c.from_residual.ensures.1 in
    let tag = skipped _ _ _ _ c.skip.ensures c.lines-test.true in
    rw (exit.1, exit.2) (takes_err _ _ _ _ _ c.in_err-read.ensures.takes (so_far-refused _ _ g.T.Line.line_at _ _ _ _ c.lines.invariant tag))

pub lines-smaller : goal.lines-smaller
lines-smaller g c =
    line-shorter c.args.tag.now c.args.end.now g.T.Line.line_at c.requires _ _ _ (skipped _ _ _ _ c.skip.ensures c.lines-test.true) c.in_ok-read.ensures.no_longer

pub lines-preserved : goal.lines-preserved
lines-preserved g c =
    rw c.in_ok-push.ensures.items
    (so_far-more _ _ g.T.Line.line_at c.requires _ _ _ _ _ _ c.lines.invariant (skipped _ _ _ _ c.skip.ensures c.lines-test.true) c.in_ok-read.ensures.takes c.in_ok-read.ensures.no_longer)

pub returns-in_err-tag : goal.returns-in_err-tag
returns-in_err-tag g c =
    let exit = err_from_is_err_and c.from_residual-in_err-tag.result c.from_residual-in_err-tag.ensures.1 in
    let none = not_skipped _ _ _ _ c.skip.ensures c.lines-test.false in
    let tag = rw none.1 at c.in_err-tag.ensures.takes in
    rw (exit.1, exit.2) (takes_err _ _ _ _ _ tag (so_far-open _ _ g.T.Line.line_at _ _ _ c.lines.invariant none.0))

pub returns : goal.returns
returns g c =
    let none = not_skipped _ _ _ _ c.skip.ensures c.lines-test.false in
    let tag = rw none.1 at c.in_ok-tag.ensures.takes in
    rw c.from.ensures (so_far-all _ _ g.T.Line.line_at _ _ _ _ c.lines.invariant none.0 tag)

use Rattle.std.proofs.Common.{◌+◌, ◌≤◌, length, sym, ◌∙◌, arith}
use Rattle.std.proofs.lemmas.Grind.{common_steps}
use Rattle.dhcp_stream.proofs.SearchLemmas.{position_past_piece}
use Rattle.dhcp_stream.proofs.text_reader.pieces_without.Goals as goal

pub loop-passed-preserved : goal.loop-passed-preserved
loop-passed-preserved c =
    let from = c.loop-passed.passed in
    let fits : from + 32 ≤ length c.args.text.now = grind (arith, common_steps) in
    (fits, position_past_piece _ c.args.text.now from (from + 32) (omega arith) fits (sym c.has.ensures ∙ c.if-not-has.true) c.loop-passed.invariant.1)

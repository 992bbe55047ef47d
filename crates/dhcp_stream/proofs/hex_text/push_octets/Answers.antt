-- Each turn puts the digits of the front of the rest.
use Rattle.std.proofs.Common.{arith}
use Rattle.std.proofs.lemmas.Grind.{common_steps}
use Rattle.dhcp_stream.proofs.HexTextLemmas.{digits_done, digits_put}
use Rattle.dhcp_stream.proofs.hex_text.push_octets.Goals as goal

pub loop-rest-preserved : goal.loop-rest-preserved
loop-rest-preserved c = digits_put _ _ _ _ _ _ c.args.octets.now c.split_at.ensures.by_index.0 (c.in_ok-push_piece.ensures) c.loop-rest.invariant

pub returns : goal.returns
returns c = digits_done _ _ _ c.args.octets.now (grind (arith, common_steps)) c.loop-rest.invariant

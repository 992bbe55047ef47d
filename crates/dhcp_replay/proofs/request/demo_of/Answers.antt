use Rattle.std.proofs.Common.{◌∙◌, arith}
use Rattle.dhcp_replay.proofs.RequestLemmas.{no_rounds}
use Rattle.dhcp_replay.proofs.request.demo_of.Goals as goal

pub returns-else-rounds-gt0 : goal.returns-else-rounds-gt0
returns-else-rounds-gt0 c = no_rounds c.args.number.now c.in_ok-rounds.rounds (c.in_ok-rounds.ensures.0 ∙ c.as_bytes.ensures.value) (omega (arith, c.if-rounds-gt0.false))

use Rattle.std.proofs.Common.{◌≡◌, ◌<◌, ◌*◌, ◌^◌, ◌++◌, length}
use Rattle.std.specs.Prelude.{All}
use Rattle.std.specs.Int.{byte_len, to_be_bytes}
use Rattle.std.specs.List.{flat_map}
use Rattle.dhcp_stream.proofs.hex_numbers.numbers_of.Given as goal

abbrev pub invariant-loop-left : goal.invariant-loop-left
invariant-loop-left g l = record {
  cut : l.bytes ≡ flat_map (λ n. to_be_bytes g.N.Number.width (g.N.Number.value n)) l.numbers.items ++ l.left;
  fit : All (λ n. g.N.Number.value n < 2 ^ (8 * byte_len g.N.Number.width)) l.numbers.items;
}

abbrev pub decreases-loop-left : goal.decreases-loop-left
decreases-loop-left g l = length l.left

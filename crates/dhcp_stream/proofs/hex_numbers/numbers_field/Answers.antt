use Rattle.std.proofs.Common.{◌<◌, ◌*◌, ◌^◌}
use Rattle.std.specs.Int.{byte_len, to_be_bytes}
use Rattle.dhcp_stream.proofs.HexNumberLemmas.{numbers-none, numbers-some}
use Rattle.dhcp_stream.proofs.NumberBytes.{IsBytes-to_be_bytes}
use Rattle.dhcp_stream.proofs.hex_numbers.numbers_field.Goals as goal

pub returns-in_default : goal.returns-in_default
returns-in_default g c =
    let width = g.N.Number.width in
    let value = g.N.Number.value in
    numbers-none (λ n. to_be_bytes width (value n)) (λ n. IsBytes-to_be_bytes width (value n)) (λ n. value n < 2 ^ (8 * byte_len width))
    c.args.field.now c.in_ok-bytes.field-0 c.in_default.is c.in_ok-bytes.ensures

pub returns : goal.returns
returns g c =
    let width = g.N.Number.width in
    let value = g.N.Number.value in
    numbers-some (λ n. to_be_bytes width (value n)) (λ n. IsBytes-to_be_bytes width (value n)) (λ n. value n < 2 ^ (8 * byte_len width))
    c.args.field.now c.in-Some.bytes c.in_ok-bytes.field-0 c.numbers_of.result c.in-Some.is c.in_ok-bytes.ensures (rw c.as_slice.ensures at c.numbers_of.ensures)

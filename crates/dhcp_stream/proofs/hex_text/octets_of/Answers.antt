use Rattle.std.proofs.Common.{◌+◌, ◌*◌, ◌<◌, ◌∙◌, length, arith}
use Rattle.std.proofs.lemmas.Grind.{common_steps}
use Rattle.std.proofs.lemmas.List.{length-set}
use Rattle.dhcp_stream.proofs.HexTextLemmas.{IsBytes-set, IsBytes-zeros, encode_lower-nil, octet_more}
use Rattle.dhcp_stream.proofs.hex_text.octets_of.Goals as goal

pub octets-init : goal.octets-init
octets-init c =
    let zeros = c.in_ok-octets.ensures.items_if_clones_equal (λ byte same. same) in
    (grind (arith, common_steps), encode_lower-nil, rw zeros (IsBytes-zeros _))

pub octets-preserved : goal.octets-preserved
octets-preserved c =
    let octets = c.octets.octets.items in
    let i = c.octets.i in
    let room : i < length octets = grind (arith, common_steps) in
    let fits : 2 * i + 1 < length c.args.digits.now = omega (arith, room, c.octets.invariant.0) in (
      length-set octets i (c.value.result * 16 + c.value-in-octets.result) ∙ c.octets.invariant.0,
      octet_more c.args.digits.now octets i c.value.result c.value-in-octets.result fits room c.value-in-octets.ensures.small c.value.ensures.spelled c.value-in-octets.ensures.spelled c.octets.invariant.1,
      IsBytes-set octets i (c.value.result * 16 + c.value-in-octets.result) (omega (arith, c.value.ensures.small, c.value-in-octets.ensures.small)) c.octets.invariant.2,
    )

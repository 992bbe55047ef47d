use Rattle.std.proofs.Common.{◌≡◌, ◌*◌, ◌∙◌, length, sym, ap, arith}
use Rattle.std.proofs.lemmas.List.{take_all}
use Rattle.hex.specs.Hex.{encode_lower}
use Rattle.dhcp_stream.proofs.HexTextLemmas.{digits_more, encode_lower-nil}
use Rattle.dhcp_stream.proofs.hex_text.put_digits.Goals as goal

pub octets-init : goal.octets-init
octets-init c = sym encode_lower-nil

pub octets-preserved : goal.octets-preserved
octets-preserved c =
    let long : length c.octets.digits ≡ 2 * length c.args.octets.now = c.octets.auto.digits ∙ c.requires in
    digits_more c.args.octets.now c.octets.digits c.octets.i c.digit.result c.digit-in-octets.result c.octets-test.true long c.digit.ensures c.digit-in-octets.ensures c.octets.invariant

pub returns : goal.returns
returns c =
    let long : length c.octets.digits ≡ 2 * length c.args.octets.now = c.octets.auto.digits ∙ c.requires in
    let all_digits = take_all (2 * c.octets.i) c.octets.digits (omega (arith, long, c.octets-test.false)) in
    let all_octets = take_all c.octets.i c.args.octets.now c.octets-test.false in
    sym all_digits ∙ c.octets.invariant ∙ ap encode_lower all_octets

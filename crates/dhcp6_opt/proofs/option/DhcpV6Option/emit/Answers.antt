-- The code, the length of the value, and the value.
use Rattle.std.proofs.Common.{◌≡◌, ◌≤◌, ◌++◌, length, ap, append_assoc, ◌∙◌, arith, min}
use Rattle.std.specs.Int.{w16, to_be_bytes}
use Rattle.dhcp_wire.proofs.EmitLemmas.{emits_last}
use Rattle.dhcp6_opt.specs.OptionCode.{number_of}
use Rattle.dhcp6_opt.specs.Value.{option_code, written_option, written_value}
use Rattle.dhcp6_opt.proofs.ValueLemmas.{short_value}
use Rattle.dhcp6_opt.proofs.WrittenLemmas.{as_option-parts}
use Rattle.dhcp6_opt.proofs.option.DhcpV6Option.emit.Goals as goal

pub returns : goal.returns
unfolding written_option
returns c =
    let short : length (written_value c.args.self.now) ≤ 65535 = short_value _ c.requires in
    let len : c.value_len.result ≡ length (written_value c.args.self.now) = omega (arith, min, c.value_len.ensures, short) in
    let code = c.pair.ensures ∙ ap (λ n. to_be_bytes w16 n ++ to_be_bytes w16 c.value_len.result) (c.from.ensures ∙ ap number_of c.code.ensures) in
    let long = ap (λ n. to_be_bytes w16 (number_of (option_code c.args.self.now)) ++ to_be_bytes w16 n) len in
    let front = c.in_ok-write_bytes.ensures ∙ ap (λ bytes. c.args.buf.now ++ bytes) (code ∙ long) in
    rw (as_option-parts _ (written_value c.args.self.now), ← append_assoc _ _ (written_value c.args.self.now)) (emits_last _ _ _ _ _ _ front c.emit_value.ensures)

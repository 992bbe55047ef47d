-- The code, the low bytes of the length, and the value.
use Rattle.std.proofs.Common.{◌++◌, ap, ◌∙◌}
use Rattle.std.specs.Int.{w16, to_be_bytes}
use Rattle.dhcp_wire.proofs.EmitLemmas.{emits_last}
use Rattle.dhcp6_opt.proofs.WrittenLemmas.{as_option-parts, to_be_bytes-low}
use Rattle.dhcp6_opt.proofs.written.emit_as_option.Goals as goal

pub returns : goal.returns
returns g c =
    let low = ap (to_be_bytes w16) c.low_two_bytes.ensures ∙ to_be_bytes-low c.written_len.result ∙ ap (to_be_bytes w16) c.written_len.ensures.value in
    let front = c.in_ok-write_bytes.ensures ∙ ap (λ bytes. c.args.buf.now ++ bytes) (c.pair.ensures ∙ ap (λ bytes. to_be_bytes w16 c.args.code ++ bytes) low) in
    rw (as_option-parts c.args.code _) (emits_last _ _ _ _ _ _ front c.emit.ensures)

-- The fixed part, and the status.
use Rattle.dhcp_wire.proofs.EmitLemmas.{emits_exit, emits_last, front_first, front_later}
use Rattle.dhcp6_opt.proofs.WrittenLemmas.{written_ia_address-parts}
use Rattle.dhcp6_opt.proofs.ia.address.DhcpV6OptionIaAddrWritten.emit.Goals as goal

pub returns-in_err-emit_all : goal.returns-in_err-emit_all
returns-in_err-emit_all c =
    rw (written_ia_address-parts c.args.self.now)
    (emits_exit _ _ _ _ _ c.from_residual-in_err-emit_all.ensures.1 c.in_err-emit_all.ensures.0
    (front_later _ _ _ _ _ c.in_ok-write_ipv6.ensures (front_first _ _ _ _ c.in_err-emit_all.ensures.1)))

pub returns : goal.returns
returns c =
    rw (written_ia_address-parts c.args.self.now)
    (emits_last _ _ _ _ _ _ c.in_ok-write_ipv6.ensures
    (emits_last _ _ _ _ _ _ c.in_ok-emit_all.ensures c.emit_if_some.ensures))

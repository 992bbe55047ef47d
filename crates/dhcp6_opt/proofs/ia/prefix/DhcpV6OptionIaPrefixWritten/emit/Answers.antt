-- The fixed part, and the status.
use Rattle.dhcp_wire.proofs.EmitLemmas.{emits_exit, emits_last, front_first, front_later, front_unchanged}
use Rattle.dhcp6_opt.specs.Ia.{written_ia_prefix}
use Rattle.dhcp6_opt.proofs.ia.prefix.DhcpV6OptionIaPrefixWritten.emit.Goals as goal

pub returns-in_err-emit_all : goal.returns-in_err-emit_all
unfolding written_ia_prefix
returns-in_err-emit_all c =
    emits_exit _ _ _ _ _ c.from_residual.ensures.1 c.in_err-emit_all.ensures.0
    (front_first _ _ _ _ c.in_err-emit_all.ensures.1)

pub returns-in_err-write_ipv6 : goal.returns-in_err-write_ipv6
unfolding written_ia_prefix
returns-in_err-write_ipv6 c =
    emits_exit _ _ _ _ _ c.from_residual-in_err-write_ipv6.ensures.1 c.in_err-write_ipv6.ensures.0
    (front_later _ _ _ _ _ c.in_ok-emit_all.ensures
    (front_later _ _ _ _ _ c.in_ok-write_u8.ensures (front_unchanged _ _ _ c.in_err-write_ipv6.ensures.1)))

pub returns : goal.returns
unfolding written_ia_prefix
returns c =
    emits_last _ _ _ _ _ _ c.in_ok-emit_all.ensures (emits_last _ _ _ _ _ _ c.in_ok-write_u8.ensures
    (emits_last _ _ _ _ _ _ c.in_ok-write_ipv6.ensures c.emit_if_some.ensures))

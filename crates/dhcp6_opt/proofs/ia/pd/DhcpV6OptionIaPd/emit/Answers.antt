-- The numbers, and what stands inside.
use Rattle.dhcp_wire.proofs.EmitLemmas.{emits_exit, emits_last, front_first, front_later}
use Rattle.dhcp6_opt.specs.Ia.{written_ia_pd}
use Rattle.dhcp6_opt.proofs.ia.pd.DhcpV6OptionIaPd.emit.Goals as goal

pub returns-in_err-emit_all : goal.returns-in_err-emit_all
unfolding written_ia_pd
returns-in_err-emit_all c =
    emits_exit _ _ _ _ _ c.from_residual.ensures.1 c.in_err-emit_all.ensures.0
    (front_first _ _ _ _ c.in_err-emit_all.ensures.1)

pub returns-in_err-emit_if_some : goal.returns-in_err-emit_if_some
unfolding written_ia_pd
returns-in_err-emit_if_some c =
    emits_exit _ _ _ _ _ c.from_residual-in_err-emit_if_some.ensures.1 c.in_err-emit_if_some.ensures.0
    (front_later _ _ _ _ _ c.in_ok-emit_all.ensures (front_first _ _ _ _ c.in_err-emit_if_some.ensures.1))

pub returns : goal.returns
unfolding written_ia_pd
returns c =
    emits_last _ _ _ _ _ _ c.in_ok-emit_all.ensures
    (emits_last _ _ _ _ _ _ c.in_ok-emit_if_some.ensures c.emit_if_some-2.ensures)

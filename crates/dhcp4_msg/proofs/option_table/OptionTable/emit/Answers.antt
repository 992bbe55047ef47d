-- The options that are kept come before End.
use Rattle.dhcp4_msg.specs.Options.{written_options}
use Rattle.dhcp_wire.proofs.EmitLemmas.{emits_exit, front_first}
use Rattle.dhcp4_msg.proofs.option_table.OptionTable.emit.Goals as goal

pub returns-in_err-emit_kept : goal.returns-in_err-emit_kept
unfolding written_options
returns-in_err-emit_kept c =
    emits_exit _ _ _ _ _ c.from_residual.ensures.1 c.in_err-emit_kept.ensures.0
    (front_first _ _ _ _ c.in_err-emit_kept.ensures.1)

-- What was written before the failure, in the option too, is a front of all.
use Rattle.dhcp6_opt.specs.Value.{written_option}
use Rattle.dhcp_wire.proofs.EmitLemmas.{emits_exit, front_piece}
use Rattle.dhcp6_opt.proofs.options.emit_references.Goals as goal

pub returns-in_err-emit : goal.returns-in_err-emit
returns-in_err-emit c =
    emits_exit _ _ _ _ _ c.from_residual.ensures.1 c.in_err-emit.ensures.0
    (front_piece (λ option. written_option option.now) c.loop-option.option-index _ _ _ _ _ c.loop-option-test.true c.option-item.is c.loop-option.invariant c.in_err-emit.ensures.1)

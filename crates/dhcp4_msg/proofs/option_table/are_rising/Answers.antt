-- One option more that rises.
use Rattle.std.proofs.Common.{◌≡◌, ◌≤◌, ◌+◌, ◌∙◌, ap, arith}
use Rattle.dhcp4_msg.specs.OptionCode.{number_of}
use Rattle.dhcp4_msg.specs.Value.{option_number}
use Rattle.dhcp4_msg.proofs.RiseLemmas.{rise_more}
use Rattle.dhcp4_msg.proofs.option_table.are_rising.Goals as goal

pub loop-option-preserved : goal.loop-option-preserved
loop-option-preserved c =
    let own : c.from-number.result ≡ option_number c.option-item.result = c.from-number.ensures ∙ c.from.ensures ∙ ap number_of c.code.ensures in
    let small : c.from-number.result + 1 ≤ 256 = omega (arith, c.from-number.ensures, c.from.type_inv) in (
      small,
      λ later.
          c.loop-option.invariant.1 (rise_more _ c.from-number.result c.loop-option.option-index _ c.option-item.result c.loop-option-test.true (own ∙ ap option_number c.option-item.is) c.if-number-least.false later),
    )

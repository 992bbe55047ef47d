-- An option that was read from a short value fits.
use Rattle.std.proofs.Common.{refl, sym, ◌∙◌, arith}
use Rattle.dhcp4_msg.proofs.ValueLemmas.{fits-value_of}
use Rattle.dhcp4_msg.proofs.option_table.OptionTable.keep.Goals as goal

pub insert-requires : goal.insert-requires
insert-requires c =
    fits-value_of c.args.raw.code _ _ _ refl (omega (arith, c.requires.1)) (sym c.in_ok-option.ensures ∙ c.in-Some.is)

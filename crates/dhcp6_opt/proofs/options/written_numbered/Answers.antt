-- After the last option all are written.
use Rattle.std.proofs.Common.{◌≡◌, map, take, ap, ◌∙◌, arith}
use Rattle.std.specs.List.{filter}
use Rattle.std.proofs.lemmas.List.{take_all}
use Rattle.dhcp6_opt.specs.OptionIndex.{has_number}
use Rattle.dhcp6_opt.specs.Value.{written_option}
use Rattle.dhcp6_opt.proofs.options.written_numbered.Goals as goal

pub returns : goal.returns
returns c =
    let all : take c.loop-option.option-index c.args.options.now ≡ c.args.options.now = take_all _ _ (omega (arith, c.loop-option-test.false)) in
    c.loop-option.invariant ∙ ap (λ options. map written_option (filter (has_number c.args.number) options)) all

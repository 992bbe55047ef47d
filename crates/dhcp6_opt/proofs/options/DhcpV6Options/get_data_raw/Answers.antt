-- The options of the number, if there is a first one.
use Rattle.std.proofs.Common.{◌≡◌, map, Result, Ok, Err, Option, Some, IsOkAnd, MatchResult, option_map, sym, ap, ◌∙◌}
use Rattle.dhcp_wire.specs.Error.{ErrorParts}
use Rattle.dhcp_wire.specs.Outcome.{Makes}
use Rattle.dhcp6_opt.specs.declared.option.DhcpV6Option.{DhcpV6Option}
use Rattle.dhcp6_opt.specs.declared.option.DhcpV6Option.TheVariants.{RapidCommit}
use Rattle.dhcp6_opt.specs.OptionIndex.{first_place}
use Rattle.dhcp6_opt.specs.Value.{written_option}
use Rattle.dhcp6_opt.proofs.OptionListLemmas.{get-missing, get-placed}
use Rattle.dhcp6_opt.proofs.options.DhcpV6Options.get_data_raw.Goals as goal

-- where a value is made, it is made in `Some`
made_some : {X Y : Type 0} (view : X → Y) (made : Result X ErrorParts) (result : Result (Option X) ErrorParts) (expected : Y) → Makes view made expected → MatchResult made (λ x. IsOkAnd result (λ option. option ≡ Some x)) (λ e. result ≡ Err e) → Makes (option_map view) result (Some expected)
made_some view (Ok x) (Ok option) expected is cases = ap (option_map view) cases ∙ ap Some is
made_some view (Ok x) (Err e) expected is cases = absurd cases
made_some view (Err e) result expected is cases = rw cases is

pub returns-in-Some : goal.returns-in-Some
returns-in-Some c =
    let at = sym (c.self.invariant.firsts c.args.code) ∙ ap (first_place c.args.code) (sym c.deref.ensures.value) ∙ sym c.first_place.ensures ∙ c.in-Some.is in
    let option : DhcpV6Option = RapidCommit in
    rw (← c.self.view_is, get-placed _ c.args.code _ option at)
    (made_some _ c.written_numbered.result c.map.result _ (rw c.deref-in-Some.ensures.value at c.written_numbered.ensures) c.map.ensures.cases)

pub returns-in-None : goal.returns-in-None
returns-in-None c =
    let none = sym (c.self.invariant.firsts c.args.code) ∙ ap (first_place c.args.code) (sym c.deref.ensures.value) ∙ sym c.first_place.ensures ∙ c.in-None.is in
    rw (← c.self.view_is) (sym (ap (option_map (map written_option)) (get-missing _ c.args.code none)))

-- Each turn puts in the option at the front.
use Rattle.std.proofs.Common.{◌≡◌, ap, inl, inr, refl, sym, ◌∙◌, length, Err, ok_or, arith}
use Rattle.std.proofs.lemmas.Result.{err_from_is_err_and}
use Rattle.dhcp_wire.specs.declared.error.ErrorKind.TheVariants.{InvalidDhcpMessage}
use Rattle.dhcp_wire.specs.declared.raw_option.OptionFormat.TheVariants.{DhcpV6}
use Rattle.dhcp_wire.proofs.RawOptionLemmas.{raw_option_at-shorter}
use Rattle.dhcp6_opt.specs.Ia.{inside_in}
use Rattle.dhcp6_opt.proofs.InsideLemmas.{inside_more, inside_refused, inside_truncated, inside_end}
use Rattle.dhcp6_opt.proofs.ia.inside.InsideIa.parse.Goals as goal

pub loop-rest-init : goal.loop-rest-init
unfolding inside_in
loop-rest-init g c = refl

pub returns-in_default : goal.returns-in_default
returns-in_default g c =
    let some : length c.loop-rest.rest.now ≡ 0 → ⊥ = λ none. grind (arith, c.loop-rest-test.true, c.is_empty.ensures, none) in
    let all = inside_truncated g.A.InnerAddress.kind _ _ _ c.loop-rest.invariant some c.in_default.ensures.found in
    inr (ap (λ inside. ok_or inside InvalidDhcpMessage) all ∙ ap Err (sym (ap (λ e. e.kind) c.invalid_message.ensures)))

pub returns-in_err-put : goal.returns-in_err-put
returns-in_err-put g c =
    let exit = err_from_is_err_and c.from_residual.result c.from_residual.ensures.1 in
    rw (exit.1, exit.2) (elim c.in_err-put.ensures [
      | inl memory ↦ inl memory
      | inr refused ↦
          let all = inside_refused g.A.InnerAddress.kind _ _ _ _ _ c.loop-rest.invariant c.in-Some.ensures.found refused.1 in
          inr (ap (λ inside. ok_or inside InvalidDhcpMessage) all ∙ ap Err (sym refused.0))
    ])

pub loop-rest-smaller : goal.loop-rest-smaller
loop-rest-smaller g c = raw_option_at-shorter DhcpV6 _ _ _ c.in-Some.ensures.found

pub loop-rest-preserved : goal.loop-rest-preserved
loop-rest-preserved g c = inside_more g.A.InnerAddress.kind _ _ _ _ _ _ c.loop-rest.invariant c.in-Some.ensures.found c.in_ok-put.ensures

pub returns : goal.returns
returns g c =
    let none : length c.loop-rest.rest.now ≡ 0 = grind (arith, c.loop-rest-test.false, c.is_empty.ensures) in
    ap (λ inside. ok_or inside InvalidDhcpMessage) (inside_end g.A.InnerAddress.kind _ _ _ c.loop-rest.invariant none)

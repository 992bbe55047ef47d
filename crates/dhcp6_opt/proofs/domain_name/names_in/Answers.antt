-- Each turn takes one name from the bytes to the list.
use Rattle.std.proofs.Common.{◌≡◌, ap, inl, inr, sym, ◌∙◌, length, Err, ok_or, arith}
use Rattle.std.proofs.lemmas.Result.{err_from_is_err_and}
use Rattle.dhcp_wire.specs.declared.error.ErrorKind.TheVariants.{InvalidDhcpMessage}
use Rattle.dhcp_wire.proofs.OutcomeLemmas.{given_read, refused_read}
use Rattle.dhcp6_opt.specs.DomainName.{name_at}
use Rattle.dhcp6_opt.proofs.NameLemmas.{names_more, names_refused, names_end, name_at-shorter}
use Rattle.dhcp6_opt.proofs.domain_name.names_in.Goals as goal

pub returns-in_err-name : goal.returns-in_err-name
returns-in_err-name c =
    let some : length c.loop-rest.rest.now ≡ 0 → ⊥ = λ none. grind (arith, c.loop-rest-test.true, c.is_empty.ensures, none) in
    let exit = err_from_is_err_and c.from_residual.result c.from_residual.ensures.1 in
    rw (exit.1, exit.2) (elim c.in_err-name.ensures [
      | inl memory ↦ inl memory
      | inr is ↦
          let refused = refused_read (name_at c.loop-rest.rest.now) InvalidDhcpMessage _ is in
          let all = names_refused _ _ _ c.loop-rest.invariant some refused.0 in
          inr (ap (λ names. ok_or names InvalidDhcpMessage) all ∙ ap Err (sym refused.1))
    ])

pub loop-rest-smaller : goal.loop-rest-smaller
loop-rest-smaller c =
    let some : length c.loop-rest.rest.now ≡ 0 → ⊥ = λ none. grind (arith, c.loop-rest-test.true, c.is_empty.ensures, none) in
    name_at-shorter _ _ _ some (given_read (name_at c.loop-rest.rest.now) InvalidDhcpMessage _ c.in_ok-name.ensures)

pub loop-rest-preserved : goal.loop-rest-preserved
loop-rest-preserved c =
    let some : length c.loop-rest.rest.now ≡ 0 → ⊥ = λ none. grind (arith, c.loop-rest-test.true, c.is_empty.ensures, none) in
    let reads = given_read (name_at c.loop-rest.rest.now) InvalidDhcpMessage _ c.in_ok-name.ensures in
    rw c.in_ok-push.ensures (names_more _ _ _ _ _ c.loop-rest.invariant some reads)

pub returns : goal.returns
returns c =
    let none : length c.loop-rest.rest.now ≡ 0 = grind (arith, c.loop-rest-test.false, c.is_empty.ensures) in
    ap (λ names. ok_or names InvalidDhcpMessage) (names_end _ _ _ c.loop-rest.invariant none)

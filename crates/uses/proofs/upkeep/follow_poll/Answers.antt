-- An address that is taken on is that of the lease that the poll reports.
use Rattle.std.proofs.Common.{◌≡◌, Ok, Some, inl, inr, ap, sym, ◌∙◌, arith}
use Rattle.uses.specs.declared.manager.interface.Interface.{Interface}
use Rattle.uses.proofs.TakesOn.{takes_on}
use Rattle.uses.proofs.upkeep.follow_poll.Goals as goal

pub returns-in-Ok-Some-clause-heard : goal.returns-in-Ok-Some-clause-heard
returns-in-Ok-Some-clause-heard g c = λ address is.
    let polled : c.run-polled.result ≡ Ok (Some c.in-Ok-Some.state) = grind arith in
    elim (takes_on _ c.args.interface.now.address address (sym (ap (λ (i : Interface). i.address) c.follow.ensures) ∙ is)) [
      | inl before ↦ inl before
      | inr (lease, (done, has)) ↦ inr (record { lease = lease; is_address = has; heard = (rw polled at c.run-polled.ensures.heard) lease done })
    ]

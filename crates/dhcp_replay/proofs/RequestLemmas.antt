-- What words ask for.
use Rattle.std.proofs.Common.{◌≡◌, ℕ, List, [], ◌∷◌, length, ap, ◌∙◌, arith}
use Rattle.std.specs.Prelude.{codes}
use Rattle.std.specs.Fmt.{decimal}
use Rattle.std.proofs.lemmas.Fmt.{decimal_injective}
use Rattle.dhcp_replay.specs.declared.request.Request.TheVariants.{Run, Upgrade, Demo}
use Rattle.dhcp_replay.specs.Request.{AsksForNothing}
use Rattle.dhcp_replay.specs.RequestLaws.{second_word}

-- a number of rounds that is zero asks for nothing
pub no_rounds : (number : List ℕ) (rounds : ℕ) → decimal rounds ≡ number → rounds ≡ 0 → AsksForNothing (codes "demo" ∷ number ∷ [])
no_rounds number rounds is zero Run asks = let e : 2 ≡ 1 = ap length asks.0 in absurd (omega (arith, e))
no_rounds number rounds is zero Upgrade asks = let e : 2 ≡ 1 = ap length asks.0 in absurd (omega (arith, e))
no_rounds number rounds is zero (Demo other) asks =
    let same : rounds ≡ other = decimal_injective rounds other (omega (arith, zero)) (omega (arith, asks.1.1)) (is ∙ second_word (codes "demo") number (codes "demo") (decimal other) asks.0) in
    omega (arith, same, zero, asks.1.0)

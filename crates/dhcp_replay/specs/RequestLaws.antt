-- Words ask for one thing.
use Rattle.std.proofs.Common.{◌≡◌, ℕ, List, [], ◌∷◌, length, refl, sym, ap, ◌∙◌, arith}
use Rattle.std.specs.Prelude.{codes}
use Rattle.std.specs.Fmt.{decimal}
use Rattle.std.proofs.lemmas.Fmt.{decimal_injective}
use Rattle.dhcp_replay.specs.declared.request.Request.{Request}
use Rattle.dhcp_replay.specs.declared.request.Request.TheVariants.{Run, Upgrade, Demo}
use Rattle.dhcp_replay.specs.Request.{AsksFor}

only_word : (a b : List ℕ) → a ∷ [] ≡ b ∷ [] → a ≡ b
only_word a b same = cc

pub second_word : (a b c d : List ℕ) → a ∷ b ∷ [] ≡ c ∷ d ∷ [] → b ≡ d
second_word a b c d same = cc

-- words ask for one thing
pub one_request : (words : List (List ℕ)) (a b : Request)
    → AsksFor words a → AsksFor words b → a ≡ b
one_request words Run Run x y = refl
one_request words Upgrade Upgrade x y = refl
one_request words Run Upgrade x y =
    let e : 3 ≡ 7 = ap length (only_word (codes "run") (codes "upgrade") (sym x.0 ∙ y.0)) in
    absurd (omega (arith, e))
one_request words Upgrade Run x y =
    let e : 7 ≡ 3 = ap length (only_word (codes "upgrade") (codes "run") (sym x.0 ∙ y.0)) in
    absurd (omega (arith, e))
one_request words Run (Demo n) x y =
    let e : 1 ≡ 2 = ap length (sym x.0 ∙ y.0) in absurd (omega (arith, e))
one_request words Upgrade (Demo n) x y =
    let e : 1 ≡ 2 = ap length (sym x.0 ∙ y.0) in absurd (omega (arith, e))
one_request words (Demo m) Run x y =
    let e : 2 ≡ 1 = ap length (sym x.0 ∙ y.0) in absurd (omega (arith, e))
one_request words (Demo m) Upgrade x y =
    let e : 2 ≡ 1 = ap length (sym x.0 ∙ y.0) in absurd (omega (arith, e))
one_request words (Demo m) (Demo n) x y =
    ap (λ rounds. Demo rounds)
    (decimal_injective m n (omega (arith, x.1.1)) (omega (arith, y.1.1))
    (second_word (codes "demo") (decimal m) (codes "demo") (decimal n) (sym x.0 ∙ y.0)))

-- Facts on the bytes that are left in a source, and on those that a sink took.
use Rattle.std.proofs.Common.{◌≡◌, ℕ, ◌+◌, List, [], ◌++◌, length, take, drop, Option, Some, refl, sym, subst, ap, ◌∙◌, append-nil}
use Rattle.std.proofs.KnownBytes.{Appends-kept, Appends-nil, Appends-trans, Consumes-kept, Consumes-nil, Consumes-trans, Consumes-whole}
use Rattle.std.proofs.Math.Seq.{take-add}
use Rattle.std.proofs.lemmas.List.{take_at, take-append-drop}
use Rattle.std.specs.Io.KnownBytes.{Appends, Consumes, IsAtEnd, Keeps}
use Rattle.std.specs.Prelude.{IfSome}

-- what a read moved to the front of the slice, and what stands after it in the slice
pub Consumes-piece : (left piece back after : List ℕ) (m : ℕ) → length piece ≡ m → piece ≡ take m left → after ≡ drop m left
    → Consumes (Some left) (Some after) (take m (piece ++ back))
Consumes-piece left piece back after m long front rest =
    sym (rw (take_at piece back m long) (rw (front, rest) (take-append-drop m left)))

-- known bytes that stay lose none, and grow by none
pub Consumes-keeps : (before after : Option (List ℕ)) → Keeps before after → Consumes before after []
Consumes-keeps before after kept = Consumes-kept before before after [] (Consumes-nil before) kept

pub Appends-keeps : (before after : Option (List ℕ)) → Keeps before after → Appends before after []
Appends-keeps before after kept = Appends-kept before before after [] (Appends-nil before) kept

-- a read that moved nothing
pub Consumes-still : (before now after : Option (List ℕ)) (bytes : List ℕ) → Consumes before now bytes → Consumes now after []
    → Consumes before after bytes
Consumes-still before now after bytes e f =
    subst (Consumes before after) (append-nil bytes) (Consumes-trans before now after bytes [] e f)

-- a write that took nothing
pub Appends-still : (before now after : Option (List ℕ)) (bytes : List ℕ) → Appends before now bytes → Appends now after []
    → Appends before after bytes
Appends-still before now after bytes e f =
    subst (Appends before after) (append-nil bytes) (Appends-trans before now after bytes [] e f)

-- one write more
pub Appends-more : (before now after : Option (List ℕ)) (bytes piece : List ℕ) (done count : ℕ) → Appends before now (take done bytes)
    → piece ≡ drop done bytes → Appends now after (take count piece) → Appends before after (take (done + count) bytes)
Appends-more before now after bytes piece done count e rest f =
    let joined : take done bytes ++ take count piece ≡ take (done + count) bytes =
    ap (λ (left : List ℕ). take done bytes ++ take count left) rest ∙ sym (take-add done count bytes) in
    subst (Appends before after) joined (Appends-trans before now after (take done bytes) (take count piece) e f)

-- at the end all the bytes that were left were read
pub Consumes-end : (before after : Option (List ℕ)) (bytes : List ℕ) → Consumes before after bytes → IsAtEnd after
    → IfSome before (λ left. left ≡ bytes)
Consumes-end before after bytes e end = Consumes-whole before after bytes (λ left. left ≡ bytes) e end refl

-- The line of the option codes is read in one way alone.
use Rattle.std.proofs.Common.{◌≢◌, ℕ, List, [], ◌∷◌, ◌++◌, Option, refl, arith, codes}
use Rattle.std.specs.Prelude.{IfSome}
use Rattle.dhcp_stream.proofs.CodecLaws.{HasNo, HasNo-test, IsCodec, IsCodec-after_tag, IsCodec-in_field, IsValue}
use Rattle.dhcp_script.specs.Codes.{codes_at, listed_text}
use Rattle.dhcp_script.proofs.Clear.{HasNo-or_word}
use Rattle.dhcp_script.proofs.FieldLemmas.{IsValue-word_or}

-- what holds no `u` is not the word `default`
no_default : (text : List ℕ) → HasNo 117 text → text ≢ codes "default"
no_default text clear e = let none = rw e at clear in none 4 0 (omega arith) refl

-- codes, or the word `default`
pub IsCodec-codes : {A : Type 0} {print : A → List ℕ} {Fits : A → Type 0} {value : List ℕ → Option A} → IsValue print Fits value
    → ((x : A) → Fits x → HasNo 117 (print x)) → ((x : A) → Fits x → HasNo 10 (print x))
    → IsCodec (λ listed. codes "codes " ++ (listed_text print listed ++ 10 ∷ [])) (λ listed. IfSome listed Fits) (codes_at value)
IsCodec-codes {print = print} {Fits = Fits} is other clear =
    IsCodec-after_tag (codes "codes ") (IsCodec-in_field (IsValue-word_or (codes "default") is (λ x fits. no_default (print x) (other x fits))) 10
    (λ listed fits. HasNo-or_word print Fits 10 (codes "default") (HasNo-test 10 (codes "default") refl) clear listed fits))

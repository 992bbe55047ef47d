-- What the test of bytes for UTF-8 returns.
use Rattle.std.proofs.Common.{◌≡◌, ℕ, Bool, true, false, List, Result, Ok, Err, refl, sym}
use Rattle.std.specs.Result.{MatchResult, is_ok}
use Rattle.std.specs.Str.{IsUtf8, is_utf8}
use Rattle.std.proofs.lemmas.Str.{IsUtf8-from_is_utf8, is_utf8-from_IsUtf8}

-- bytes that are no UTF-8 do not pass
is_utf8-not : (bytes : List ℕ) (passes : Bool) → is_utf8 bytes ≡ passes → (IsUtf8 bytes → ⊥) → false ≡ passes
is_utf8-not bytes true is not = absurd (not (IsUtf8-from_is_utf8 bytes is))
is_utf8-not bytes false is not = refl

-- a call that succeeds if and only if the bytes are UTF-8
pub is_ok-utf8 : {A E : Type 0} (Text : A → Type 0) (Fault : E → Type 0) (read : Result A E) (bytes : List ℕ)
    → MatchResult read (λ text. Text text × IsUtf8 bytes) (λ e. (IsUtf8 bytes → ⊥) × Fault e) → is_ok read ≡ is_utf8 bytes
is_ok-utf8 Text Fault (Ok text) bytes h = sym (is_utf8-from_IsUtf8 bytes h.1)
is_ok-utf8 Text Fault (Err e) bytes h = is_utf8-not bytes (is_utf8 bytes) refl h.0

-- Sums of 16-bit words, with their carries and without.
use Rattle.std.proofs.Common.{◌≡◌, ℕ, zero, suc, ◌+◌, ◌-◌, ◌*◌, ◌/◌, ◌%◌, ◌^◌, ◌<◌, ◌≤◌, List, [], ◌∷◌, ◌++◌, length, Bool, true, false, ltb, get_or, take, drop, ap, sym, subst, ◌∙◌, length-append, refl, arith}
use borrow.Author.Tests.{ltb-true, ltb-false}
use Rattle.std.proofs.lemmas.List.{take_all}
use Rattle.dhcp_frame.specs.Checksum.{AreBytes, IsCarried, word, add_words, ones_complement_sum, word_sum}

-- one more word, with its carry added back in
IsCarried-add_words : (one sum carried : ℕ) → one ≤ 65535 → IsCarried sum carried → IsCarried (one + sum) (add_words one carried)
IsCarried-add_words one sum carried fits rest = by_test (ltb (one + carried) 65536) refl
  where
    by_test : (test : Bool) → ltb (one + carried) 65536 ≡ test → IsCarried (one + sum) (add_words one carried)
    by_test true is =
        rw is (let below : one + carried < 65536 = omega (arith, is, ltb-true) in
        record { fits = omega arith; zero_only = λ zero. (let none : sum ≡ 0 = rest.zero_only (omega arith) in omega arith); carries = (rest.carries.0, omega (arith, rest.carries.1)) })
    by_test false is =
        rw is (let above : 65536 ≤ one + carried = omega (arith, is, ltb-false) in
        record { fits = omega (arith, rest.fits); zero_only = λ zero. absurd (omega arith); carries = (rest.carries.0 + 1, omega (arith, rest.carries.1)) })

-- the ones'-complement sum of bytes is their plain sum with its carries added back in
pub IsCarried-word_sum : (bytes : List ℕ) → AreBytes bytes → IsCarried (word_sum bytes) (ones_complement_sum bytes)
unfolding word_sum ones_complement_sum
IsCarried-word_sum [] small = record { fits = omega arith; zero_only = λ zero. refl; carries = (0, omega arith) }
IsCarried-word_sum (high ∷ []) small =
    let here : high < 256 = small 0 in
    record { fits = omega arith; zero_only = λ zero. zero; carries = (0, omega arith) }
IsCarried-word_sum (high ∷ low ∷ bytes) small =
    let here : high < 256 = small 0 in
    let next : low < 256 = small 1 in
    IsCarried-add_words (word high low) (word_sum bytes) (ones_complement_sum bytes) (omega arith)
    (IsCarried-word_sum bytes (λ k. small (suc (suc k))))

-- a sum has one such word
pub IsCarried_unique : (sum one other : ℕ) → IsCarried sum one → IsCarried sum other → one ≡ other
IsCarried_unique sum one other first second = grind arith

-- adding the carries of a 32-bit sum back in twice leaves none
pub folded_twice : (sum : ℕ) → sum < 2 ^ 32 → IsCarried sum ((sum % 65536 + sum / 65536) % 65536 + (sum % 65536 + sum / 65536) / 65536)
folded_twice sum fits =
    let once = sum % 65536 + sum / 65536 in
    record { fits = omega arith; zero_only = λ zero. omega arith; carries = (sum / 65536 + once / 65536, omega arith) }

-- the sum of two bytes and more
pub word_sum-two : (bytes : List ℕ) → 2 ≤ length bytes → word_sum bytes ≡ word (get_or bytes 0 0) (get_or bytes 1 0) + word_sum (take (length bytes - 2) (drop 2 bytes))
unfolding word_sum
word_sum-two [] some = absurd (omega arith)
word_sum-two (high ∷ []) some = absurd (omega arith)
word_sum-two (high ∷ low ∷ bytes) some = ap (λ rest. word high low + word_sum rest) (sym (take_all (suc (suc (length bytes)) - 2) bytes (omega arith)))

-- the sum of one byte
pub word_sum-one : (bytes : List ℕ) → length bytes ≡ 1 → word_sum bytes ≡ word (get_or bytes 0 0) 0
unfolding word_sum
word_sum-one [] one = absurd (omega arith)
word_sum-one (high ∷ []) one = refl
word_sum-one (high ∷ low ∷ bytes) one = absurd (omega arith)

-- the sum of no bytes
pub word_sum-none : (bytes : List ℕ) → length bytes ≡ 0 → word_sum bytes ≡ 0
unfolding word_sum
word_sum-none [] none = refl
word_sum-none (high ∷ bytes) none = absurd (omega arith)

-- the sum of an even number of bytes and of others after them
pub word_sum-append : (count : ℕ) (front back : List ℕ) → length front ≡ 2 * count → word_sum (front ++ back) ≡ word_sum front + word_sum back
unfolding word_sum
word_sum-append count [] back even = omega arith
word_sum-append count (high ∷ []) back even = absurd (omega arith)
word_sum-append count (high ∷ low ∷ front) back even = omega (arith, word_sum-append (count - 1) front back (omega arith))

-- bytes and other bytes are bytes
AreBytes-append : (front back : List ℕ) → AreBytes front → AreBytes back → AreBytes (front ++ back)
AreBytes-append [] back first second k = second k
AreBytes-append (byte ∷ front) back first second zero = first 0
AreBytes-append (byte ∷ front) back first second (suc k) = AreBytes-append front back (λ i. first (suc i)) second k

-- the ones'-complement sum of three parts, of which the first two have 12 and 8 bytes
pub ones_complement_sum-parts : (one two three : List ℕ) (carried : ℕ) → IsCarried (word_sum one + word_sum two + word_sum three) carried → length one ≡ 12 → length two ≡ 8 →
    AreBytes one → AreBytes two → AreBytes three → carried ≡ ones_complement_sum (one ++ two ++ three)
ones_complement_sum-parts one two three carried is twelve eight first second third =
    let both = AreBytes-append one two first second in
    let all = IsCarried-word_sum (one ++ two ++ three) (AreBytes-append (one ++ two) three both third) in
    let even : length (one ++ two) ≡ 2 * 10 = omega (arith, length-append {A = ℕ}) in
    let sum : word_sum (one ++ two ++ three) ≡ word_sum one + word_sum two + word_sum three =
    word_sum-append 10 (one ++ two) three even ∙ ap (λ n. n + word_sum three) (word_sum-append 6 one two (omega arith)) in
    IsCarried_unique (word_sum one + word_sum two + word_sum three) carried (ones_complement_sum (one ++ two ++ three)) is
    (let P : ℕ → Type 0 = λ n. IsCarried n (ones_complement_sum (one ++ two ++ three)) in subst P sum all)

-- the steps of a plain sum, and that its word is the ones'-complement sum
pub ruleset sums = (word_sum-two, word_sum-one, word_sum-none, IsCarried-word_sum, IsCarried_unique)

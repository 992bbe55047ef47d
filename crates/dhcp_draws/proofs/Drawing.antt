-- How many words drawings take, one by one and one after the other.
use Rattle.std.proofs.Common.{◌≡◌, ◌≤◌, ◌+◌, ℕ, Bool, true, false, List, [], ◌∷◌, ◌++◌, length, refl, ap, arith, ◌∙◌}
use Rattle.std.specs.Prelude.{drop, if◌then◌else◌}
use Rattle.std.proofs.lemmas.List.{drop-append-le}
use Rattle.std.proofs.Common.{length-drop}
use Rattle.dhcp_clock.specs.Words.{Drawn, drawn_then, next_of, undrawn}
use Rattle.dhcp_draws.specs.Draws.{DrawsAtMost}

-- where nothing is drawn
pub draws_nothing : {X : Type 0} (most : ℕ) (value : X) → DrawsAtMost most (undrawn value)
draws_nothing most value = record { leaves = λ words. omega arith; alike = λ words more enough. refl }

-- a limit may be higher
pub draws_fewer : {X : Type 0} (few most : ℕ) (draws : List ℕ → Drawn X) → few ≤ most → DrawsAtMost few draws → DrawsAtMost most draws
draws_fewer few most draws below within = record {
  leaves = λ words. omega (arith, within.leaves words);
  alike = λ words more enough. within.alike words more (omega arith);
}

-- the next word of some is that of the same with more behind
next-append : (words more : List ℕ) → 1 ≤ length words → next_of (words ++ more) ≡ next_of words
next-append [] more enough = absurd (omega arith)
next-append (word ∷ words) more enough = refl

-- one word, of which a value is made
pub draws_word : {X : Type 0} (of : ℕ → X) → DrawsAtMost 1 (λ words. record { value = of (next_of words); left = drop 1 words })
draws_word of = record {
  leaves = λ words. omega (arith, length-drop 1 words);
  alike = λ words more enough.
      ap (λ (word : ℕ). record { value = of word; left = drop 1 (words ++ more) }) (next-append words more enough)
      ∙ ap (λ (left : List ℕ). record { value = of (next_of words); left = left }) (drop-append-le 1 words more enough);
}

-- one drawing, and then another one
pub draws_both : {X Y : Type 0} (first second : ℕ) (one : List ℕ → Drawn X) (other : X → List ℕ → Drawn Y) →
    DrawsAtMost first one → ((value : X) → DrawsAtMost second (other value)) → DrawsAtMost (first + second) (drawn_then one other)
draws_both first second one other within then_within = record {
  leaves = λ words. omega (arith, within.leaves words, (then_within (one words).value).leaves (one words).left);
  alike = λ words more enough.
      let between : second ≤ length (one words).left = omega (arith, within.leaves words) in
      ap (λ (drawn : Drawn _). other drawn.value drawn.left) (within.alike words more (omega arith))
      ∙ (then_within (one words).value).alike (one words).left more between;
}

-- one of two drawings
pub draws_either : {X : Type 0} (most : ℕ) (test : Bool) (one other : List ℕ → Drawn X) → DrawsAtMost most one → DrawsAtMost most other →
    DrawsAtMost most (λ words. if test then one words else other words)
draws_either most true one other within within' = within
draws_either most false one other within within' = within'

-- what is made of a drawing
pub draws_made : {X Y : Type 0} (most : ℕ) (draws : List ℕ → Drawn X) (of : X → Y) → DrawsAtMost most draws → DrawsAtMost most (λ words. record { value = of (draws words).value; left = (draws words).left })
draws_made most draws of within = record {
  leaves = within.leaves;
  alike = λ words more enough. ap (λ (drawn : Drawn _). record { value = of drawn.value; left = drawn.left }) (within.alike words more enough);
}

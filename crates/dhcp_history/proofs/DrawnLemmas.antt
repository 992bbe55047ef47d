-- What the rules of a protocol draw, one draw after the other.
use Rattle.std.proofs.Common.{◌≡◌, ℕ, List, Option, Some, None, refl, sym, subst}
use Rattle.dhcp_clock.specs.Words.{GivesNext, Drawn, undrawn, drawn_word, drawn_then, Draws}
use Rattle.dhcp_history.specs.Rules.{GivesDrawn}

-- where nothing is drawn
pub gives_nothing : {A : Type 0} (exposed : Option (List ℕ)) (value : A) → GivesDrawn (undrawn value) exposed value exposed
gives_nothing None value = refl
gives_nothing (Some words) value = (refl, refl)

-- the next word
pub gives_word : (before after : Option (List ℕ)) (word : ℕ) → GivesNext before word after → GivesDrawn drawn_word before word after
gives_word None after word given = given
gives_word (Some words) after word given = given

-- what was drawn by a definition
pub gives_drawn : {A : Type 0} (before after : Option (List ℕ)) (draws : List ℕ → Drawn A) (value : A) → Draws before after draws (λ available. available ≡ value) →
    GivesDrawn draws before value after
gives_drawn None after draws value available = available.0
gives_drawn (Some words) after draws value available = (sym available.1, available.0)

-- one draw and another one after it
pub gives_both : {A B : Type 0} (before between after : Option (List ℕ)) (first : List ℕ → Drawn A) (second : A → List ℕ → Drawn B) (one : A) (other : B) →
    GivesDrawn first before one between → GivesDrawn (second one) between other after → GivesDrawn (drawn_then first second) before other after
gives_both None between after first second one other available more =
    let of_words : Option (List ℕ) → Type 0 = λ words. GivesDrawn (second one) words other after in
    subst of_words available more
gives_both {A = A} (Some words) between after first second one other available more =
    let of_words : Option (List ℕ) → Type 0 = λ left. GivesDrawn (second one) left other after in
    let of_value : A → Type 0 = λ value. GivesDrawn (second value) (Some (first words).left) other after in
    subst of_value available.0 (subst of_words available.1 more)

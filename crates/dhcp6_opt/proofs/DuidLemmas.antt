-- Identifiers of random words.
use Rattle.std.proofs.Common.{◌≡◌, ℕ, List, [], ◌∷◌, Option, refl}
use Rattle.dhcp_clock.specs.Words.{GivesNext, Drawn, Draws, drawn_then, drawn_word, undrawn}
use Rattle.dhcp_clock.proofs.Draws.{draws_both, draws_nothing, draws_word}
use Rattle.dhcp6_opt.specs.declared.duid.DhcpV6Duid.{DhcpV6Duid}
use Rattle.dhcp6_opt.specs.DrawnDuid.{DrawsDuid}
use Rattle.dhcp6_opt.specs.Duid.{drawn_duid, random_duid}

-- a word is drawn, and then what depends on it
then_draws : {X : Type 0} (before between after : Option (List ℕ)) (word : ℕ) (next : ℕ → List ℕ → Drawn X) (Says : X → Type 0) →
    GivesNext before word between → Draws between after (next word) Says → Draws before after (drawn_then drawn_word next) Says
then_draws before between after word next Says given drawn =
    draws_both before between after drawn_word next word Says (draws_word before between word (λ value. value ≡ word) given refl) drawn

-- the identifier of the next four words
pub draws_duid : (t0 t1 t2 t3 t4 : Option (List ℕ)) (a b c d : ℕ) (Says : DhcpV6Duid → Type 0) →
    GivesNext t0 a t1 → GivesNext t1 b t2 → GivesNext t2 c t3 → GivesNext t3 d t4 → Says (random_duid a b c d) → Draws t0 t4 drawn_duid Says
draws_duid t0 t1 t2 t3 t4 a b c d Says one two three four said =
    let last : ℕ → ℕ → ℕ → ℕ → List ℕ → Drawn DhcpV6Duid = λ a b c d. undrawn (random_duid a b c d) in
    let third : ℕ → ℕ → ℕ → List ℕ → Drawn DhcpV6Duid = λ a b c. drawn_then drawn_word (last a b c) in
    let second : ℕ → ℕ → List ℕ → Drawn DhcpV6Duid = λ a b. drawn_then drawn_word (third a b) in
    let first : ℕ → List ℕ → Drawn DhcpV6Duid = λ a. drawn_then drawn_word (second a) in
    then_draws t0 t1 t4 a first Says one
    (then_draws t1 t2 t4 b (second a) Says two
    (then_draws t2 t3 t4 c (third a b) Says three
    (then_draws t3 t4 t4 d (last a b c) Says four
    (draws_nothing t4 (random_duid a b c d) Says said))))

-- the same from any source, by the four words that it gave
pub takes_duid : {Source : Type 0} (gives : ℕ → Source → Source → Type 0) (s0 s1 s2 s3 s4 : Source) (a b c d : ℕ) (Says : DhcpV6Duid → Type 0) →
    gives a s0 s1 → gives b s1 s2 → gives c s2 s3 → gives d s3 s4 → Says (random_duid a b c d) → DrawsDuid gives drawn_duid s0 s4 Says
takes_duid gives s0 s1 s2 s3 s4 a b c d Says one two three four said =
    (random_duid a b c d, ((a ∷ b ∷ c ∷ d ∷ [], ((s1, (one, (s2, (two, (s3, (three, (s4, (four, refl)))))))), λ rest. refl)), said))

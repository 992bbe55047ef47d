-- What is drawn, one draw after the other.
use Rattle.std.proofs.Common.{◌≡◌, ℕ, List, [], ◌∷◌, ◌++◌, Option, Some, None, append_assoc, ap, subst, sym, ◌∙◌, refl}
use Rattle.dhcp_clock.specs.Words.{GivesNext, Drawn, undrawn, drawn_word, drawn_then, Takes, Draws}

-- where nothing is drawn
pub draws_nothing : {X : Type 0} (told : Option (List ℕ)) (value : X) (Says : X → Type 0) → Says value → Draws told told (undrawn value) Says
draws_nothing None value Says said = (refl, ([], (value, (λ rest. refl, said))))
draws_nothing (Some words) value Says said = (refl, said)

-- the next word is drawn
pub draws_word : (before after : Option (List ℕ)) (word : ℕ) (Says : ℕ → Type 0) → GivesNext before word after → Says word → Draws before after drawn_word Says
draws_word None after word Says given said = (given, (word ∷ [], (word, (λ rest. refl, said))))
draws_word (Some words) after word Says given said = (given.1, subst Says given.0 said)

-- words taken one after the other
takes_both : {X Y : Type 0} (first : List ℕ → Drawn X) (second : X → List ℕ → Drawn Y) (one two : List ℕ) (x : X) (y : Y) → Takes one x first → Takes two y (second x) →
    Takes (one ++ two) y (drawn_then first second)
takes_both first second one two x y taken more rest =
    ap (λ (words : List ℕ). drawn_then first second words) (append_assoc one two rest)
    ∙ (ap (λ (drawn : Drawn _). second drawn.value drawn.left) (taken (two ++ rest)) ∙ more rest)

-- one draw and another one after it
pub draws_both : {X Y : Type 0} (before between after : Option (List ℕ)) (first : List ℕ → Drawn X) (second : X → List ℕ → Drawn Y) (x : X) (Says : Y → Type 0) →
    Draws before between first (λ value. value ≡ x) → Draws between after (second x) Says → Draws before after (drawn_then first second) Says
draws_both None between after first second x Says one two =
    let told : Option (List ℕ) → Type 0 = λ words. Draws words after (second x) Says in
    let took = one.1.1.1 in
    let next = subst told one.0 two in
    let of_x = subst (λ value. Takes one.1.0 value first) took.1 took.0 in
    (next.0, (one.1.0 ++ next.1.0, (next.1.1.0, (takes_both first second one.1.0 next.1.0 x next.1.1.0 of_x next.1.1.1.0, next.1.1.1.1))))
draws_both (Some words) between after first second x Says one two =
    let told : Option (List ℕ) → Type 0 = λ words. Draws words after (second x) Says in
    let next = subst told one.0 two in
    subst (λ value. Draws (Some (first words).left) after (second value) Says) (sym one.1) next

-- by an equal definition
pub draws_same : {X : Type 0} (before after : Option (List ℕ)) (one other : List ℕ → Drawn X) (Says : X → Type 0) → ((words : List ℕ) → other words ≡ one words) →
    Draws before after one Says → Draws before after other Says
draws_same None after one other Says same drawn =
    let some = drawn.1.1.1 in
    (drawn.0, (drawn.1.0, (drawn.1.1.0, ((λ rest. same (drawn.1.0 ++ rest) ∙ some.0 rest), some.1))))
draws_same (Some words) after one other Says same drawn =
    let of : Drawn _ → Type 0 = λ result. (after ≡ Some result.left) × Says result.value in
    subst of (sym (same words)) drawn

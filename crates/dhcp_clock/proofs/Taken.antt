-- What leads from one value to another, and what is drawn from words that were taken.
use Rattle.std.proofs.Common.{◌≡◌, ℕ, List, [], ◌∷◌, ◌++◌, append_assoc, ap, subst, ◌∙◌, refl, ◌<◌, ◌≤◌}
use Rattle.std.proofs.lemmas.Bool.{le-leb, lt-leb}
use Rattle.dhcp_clock.specs.Leads.{Leads}
use Rattle.dhcp_clock.specs.Wait.{randomized_time, next_time, bounded_time, retransmit_wait}
use Rattle.dhcp_clock.specs.Words.{Drawn, undrawn, drawn_word, drawn_then, DrawsBy}

module _ {Step Value : Type 0} (moves : Step → Value → Value → Type 0) where
  -- no step
  pub leads_none : (value : Value) → Leads moves value [] value
  leads_none value = refl

  -- one step
  pub leads_one : (step : Step) (old new : Value) → moves step old new → Leads moves old (step ∷ []) new
  leads_one step old new h = (new, (h, refl))

  -- steps, and further ones after them
  pub leads_both : (one two : List Step) (old between new : Value) → Leads moves old one between → Leads moves between two new → Leads moves old (one ++ two) new
  leads_both [] two old between new h more = subst (λ (value : Value). Leads moves value two new) h more
  leads_both (step ∷ one) two old between new h more = (h.0, (h.1.0, leads_both one two h.0 between new h.1.1 more))

module _ {Source : Type 0} (gives : ℕ → Source → Source → Type 0) where
  -- where nothing is drawn
  pub taken_nothing : {X : Type 0} (source : Source) (value : X) → DrawsBy gives (undrawn value) source value source
  taken_nothing source value = ([], (refl, λ rest. refl))

  -- the next word is drawn
  pub taken_word : (old new : Source) (word : ℕ) → gives word old new → DrawsBy gives drawn_word old word new
  taken_word old new word given = (word ∷ [], ((new, (given, refl)), λ rest. refl))

  -- one draw and another one after it
  pub taken_both : {X Y : Type 0} (old between new : Source) (first : List ℕ → Drawn X) (second : X → List ℕ → Drawn Y) (x : X) (y : Y) →
      DrawsBy gives first old x between → DrawsBy gives (second x) between y new → DrawsBy gives (drawn_then first second) old y new
  taken_both old between new first second x y one two = (
    one.0 ++ two.0,
    (
      leads_both gives one.0 two.0 old between new one.1.0 two.1.0,
      λ rest.
          ap (λ (words : List ℕ). drawn_then first second words) (append_assoc one.0 two.0 rest)
          ∙ (ap (λ (drawn : Drawn _). second drawn.value drawn.left) (one.1.1 (two.0 ++ rest)) ∙ two.1.1 rest),
    ),
  )

  -- by an equal definition
  pub taken_same : {X : Type 0} (old new : Source) (one other : List ℕ → Drawn X) (value : X) → ((words : List ℕ) → other words ≡ one words) →
      DrawsBy gives one old value new → DrawsBy gives other old value new
  taken_same old new one other value same drawn = (drawn.0, (drawn.1.0, λ rest. same (drawn.0 ++ rest) ∙ drawn.1.1 rest))

  -- what is drawn for a time that is not past the greatest, and for one that is
  pub taken_below : (source : Source) (mrt time : ℕ) → time ≤ mrt → DrawsBy gives (bounded_time mrt time) source time source
  taken_below source mrt time h = taken_same source source (undrawn time) (bounded_time mrt time) time (λ words. rw (le-leb time mrt h) refl) (taken_nothing source time)

  pub taken_above : (old new : Source) (mrt time word : ℕ) → mrt < time → gives word old new → DrawsBy gives (bounded_time mrt time) old (randomized_time mrt word) new
  taken_above old new mrt time word h given =
      let about : ℕ → List ℕ → Drawn ℕ = λ word. undrawn (randomized_time mrt word) in
      taken_same old new (drawn_then drawn_word about) (bounded_time mrt time) (randomized_time mrt word) (λ words. rw (lt-leb time mrt h) refl)
      (taken_both old new new drawn_word about word (randomized_time mrt word) (taken_word old new word given) (taken_nothing new (randomized_time mrt word)))

  -- the wait of a retransmission: the word of its time, and what is drawn after it
  pub retransmit_taken : (old between new : Source) (previous irt mrt word time wait : ℕ) → gives word old between → time ≡ next_time previous irt word →
      DrawsBy gives (bounded_time mrt time) between wait new → DrawsBy gives (retransmit_wait previous irt mrt) old wait new
  retransmit_taken old between new previous irt mrt word time wait given is rest =
      let further : ℕ → List ℕ → Drawn ℕ = λ word. bounded_time mrt (next_time previous irt word) in
      let of_time : ℕ → Type 0 = λ time. DrawsBy gives (bounded_time mrt time) between wait new in
      taken_both old between new drawn_word further word wait (taken_word old between word given) (subst of_time is rest)

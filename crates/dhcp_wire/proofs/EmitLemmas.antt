-- Writes in several steps: what is written before one that is out of memory is a front of the whole.
use Rattle.std.proofs.Common.{◌≡◌, ℕ, ◌+◌, ◌<◌, List, [], ◌∷◌, ◌++◌, length, map, take, drop, get_or, suc, Result, Ok, Err, IsErrAnd, flat_map, refl, sym, ap, subst, ◌∙◌, append_assoc, append-nil, add-one, drop-cons}
use Rattle.std.proofs.lemmas.List.{take-append-drop}
use Rattle.std.proofs.lemmas.List.Concat.{flat_map_single, flat_map-cons}
use Rattle.std.proofs.lemmas.Grind.{flat_map-append}
use Rattle.dhcp_wire.specs.Error.{ErrorParts, no_memory}
use Rattle.dhcp_wire.specs.Outcome.{Appends, Emits, AppendsFront}

-- a front of what comes first is a front of all
pub front_first : (old new first later : List ℕ) → AppendsFront old new first → AppendsFront old new (first ++ later)
front_first old new first later front = (front.0, front.1 ++ later, ap (λ bytes. bytes ++ later) front.2 ∙ append_assoc front.0 front.1 later, front.3)

-- all of what comes first, and a front of what comes later
pub front_later : (old mid new first later : List ℕ) → mid ≡ old ++ first → AppendsFront mid new later → AppendsFront old new (first ++ later)
front_later old mid new first later done front = (
  first ++ front.0,
  front.1,
  ap (λ bytes. first ++ bytes) front.2 ∙ sym (append_assoc first front.0 front.1),
  front.3 ∙ ap (λ bytes. bytes ++ front.0) done ∙ append_assoc old first front.0,
)

-- nothing is a front
pub front_none : (old bytes : List ℕ) → AppendsFront old old bytes
front_none old bytes = ([], bytes, refl, sym (append-nil old))

-- all of what comes first is a front
pub front_all : (old new first later : List ℕ) → new ≡ old ++ first → AppendsFront old new (first ++ later)
front_all old new first later done = (first, later, refl, done)

module _ {X : Type 0} (f : X → List ℕ) where
  -- the pieces before a position, and those from it on
  pub pieces : (i : ℕ) (xs : List X) → flat_map f xs ≡ flat_map f (take i xs) ++ flat_map f (drop i xs)
  pieces i xs = ap (flat_map f) (sym (take-append-drop i xs)) ∙ flat_map-append f (take i xs) (drop i xs)

  -- the pieces before a position are a front of all
  pub front_pieces : (i : ℕ) (xs : List X) (old new : List ℕ) → new ≡ old ++ flat_map f (take i xs) → AppendsFront old new (flat_map f xs)
  front_pieces i xs old new done = subst (AppendsFront old new) (sym (pieces i xs)) (front_all old new _ _ done)

  -- and with a front of the next piece they still are
  pub front_piece : (i : ℕ) (xs : List X) (x : X) (old mid new : List ℕ) → i < length xs → x ≡ get_or xs i x → mid ≡ old ++ flat_map f (take i xs) → AppendsFront mid new (f x) → AppendsFront old new (flat_map f xs)
  front_piece i xs x old mid new inside here done front =
      let at_place : flat_map f (drop i xs) ≡ f x ++ flat_map f (drop (i + 1) xs) =
      rw add-one (ap (flat_map f) (drop-cons xs i x inside) ∙ flat_map-cons f (get_or xs i x) (drop (suc i) xs) ∙ ap (λ y. f y ++ flat_map f (drop (suc i) xs)) (sym here)) in
      subst (AppendsFront old new) (sym (pieces i xs ∙ ap (λ bytes. flat_map f (take i xs) ++ bytes) at_place))
      (front_later old mid new _ _ done (front_first mid new (f x) _ front))

-- the numbers before a position are a front of all
pub front_mapped : {X : Type 0} (f : X → ℕ) (i : ℕ) (xs : List X) (old new : List ℕ) → new ≡ old ++ map f (take i xs) → AppendsFront old new (map f xs)
front_mapped f i xs old new done =
    subst (AppendsFront old new) (flat_map_single f xs)
    (front_pieces (λ x. f x ∷ []) i xs old new (done ∙ ap (λ bytes. old ++ bytes) (sym (flat_map_single f (take i xs)))))

-- a write that ends because of out of memory
pub emits_exit : {X : Type 0} (result : Result X ErrorParts) (e : ErrorParts) (old new bytes : List ℕ) → IsErrAnd result (λ error. error ≡ e) → e ≡ no_memory → AppendsFront old new bytes → Emits result old new bytes
emits_exit (Ok x) e old new bytes failed is front = absurd failed
emits_exit (Err error) e old new bytes failed is front = (failed ∙ is, front)

-- where nothing was written, that is a front
pub front_unchanged : (old new bytes : List ℕ) → new ≡ old → AppendsFront old new bytes
front_unchanged old new bytes is = ([], bytes, refl, is ∙ sym (append-nil old))

-- a last write after others
pub emits_last : {X : Type 0} (result : Result X ErrorParts) (old mid new first later : List ℕ) → mid ≡ old ++ first → Emits result mid new later → Emits result old new (first ++ later)
emits_last (Ok x) old mid new first later done is = is ∙ ap (λ bytes. bytes ++ later) done ∙ append_assoc old first later
emits_last (Err e) old mid new first later done is = (is.0, front_later old mid new first later done is.1)

-- a write that has one step
pub emits_appends : {X : Type 0} (result : Result X ErrorParts) (old new bytes : List ℕ) → Appends result old new bytes → Emits result old new bytes
emits_appends (Ok x) old new bytes is = is
emits_appends (Err e) old new bytes is = (is.0, front_unchanged old new bytes is.1)

-- the pieces before one, and a front of that one, are a front of all
pub front_walk : {X : Type 0} (f : X → List ℕ) (all done later : List X) (x : X) (old mid new : List ℕ) → all ≡ done ++ x ∷ later → mid ≡ old ++ flat_map f done → AppendsFront mid new (f x) → AppendsFront old new (flat_map f all)
front_walk f all done later x old mid new is so_far front =
    subst (AppendsFront old new) (sym (ap (flat_map f) is ∙ flat_map-append f done (x ∷ later)))
    (front_later old mid new (flat_map f done) (f x ++ flat_map f later) so_far (front_first mid new (f x) (flat_map f later) front))

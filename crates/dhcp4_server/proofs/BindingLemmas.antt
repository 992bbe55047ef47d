-- Bindings that stand for Acks decide as these do, and go on standing for them.
use Rattle.std.proofs.Common.{◌≡◌, ℕ, suc, zero, ◌+◌, ◌≤◌, List, [], ◌∷◌, refl, sym, ap, arith, Bool, true, false, ◌⊎◌, inl, inr, ◌∙◌, subst}
use Rattle.std.specs.Prelude.{◌==◌, ◌&&◌, ◌||◌, nat_le, Option, Some, None, option_map, if◌then◌else◌}
use Rattle.std.proofs.lemmas.Bool.Decides.{nat_tests}
use Rattle.dhcp4_server.specs.Ack.{Ack, AreRising, IsAmong, is_free, last_ack, leaves}
use Rattle.dhcp4_server.specs.declared.decision.Query.{Query}
use Rattle.dhcp4_server.specs.declared.decision.Query.TheVariants.{Discover, Request}
use Rattle.dhcp4_server.specs.declared.decision.Decision.{Decision}
use Rattle.dhcp4_server.specs.declared.decision.Decision.TheVariants.{Silence, Offer, Grant, Refuse}
use Rattle.dhcp4_server.specs.declared.binding.Binding.{Binding}
use Rattle.dhcp4_server.specs.Binding.{Rebinds, Stands, binding_of, is_free_by, is_own_by}
use Rattle.dhcp4_server.specs.Decision.{BindsBy, Pool, acks_after, decide, decide_by, grant_if, is_in_pool, is_to, lowest, offer_or}
use Rattle.dhcp4_server.proofs.AckLemmas.{both, free_over}

same_bool : (b c : Bool) → (b ≡ true → c ≡ true) → (c ≡ true → b ≡ true) → b ≡ c
same_bool true c there back = sym (there refl)
same_bool false true there back = back refl
same_bool false false there back = refl

either_true : (a b : Bool) → (a || b) ≡ true → (a ≡ true) ⊎ (b ≡ true)
either_true true b e = inl refl
either_true false b e = inr e

-- the last Ack of an address is among the Acks, is of the address, and is the newest of it
record IsLast (acks : List Ack) (address : ℕ) (last : Ack) : Type 0 where
  among : IsAmong last acks
  is_of : last.address ≡ address

last_is : (address : ℕ) (acks : List Ack) (last : Ack) → last_ack address acks ≡ Some last → IsLast acks address last
last_is address [] last e = absurd (cc e)
last_is address (first ∷ acks) last e = go (first.address == address) refl (last_is address acks last)
  where
    go : (test : Bool) → (first.address == address) ≡ test → (last_ack address acks ≡ Some last → IsLast acks address last) → IsLast (first ∷ acks) address last
    go true t ih =
        let same : first ≡ last = cc (rw t at e) in
        record { among = inl (sym same); is_of = subst (λ (one : Ack). one.address ≡ address) same (grind (arith, nat_tests)) }
    go false t ih = let later : IsLast acks address last = ih (rw t at e) in record { among = inr later.among; is_of = later.is_of }

newest_moment : (latest : ℕ) (acks : List Ack) → AreRising latest acks → (ack : Ack) → IsAmong ack acks → ack.moment ≤ latest
newest_moment latest [] rising ack among = absurd among
newest_moment latest (first ∷ acks) rising ack (inl is) = subst (λ (one : Ack). one.moment ≤ latest) (sym is) rising.0
newest_moment latest (first ∷ acks) rising ack (inr among) = omega (arith, rising.0, newest_moment first.moment acks rising.1 ack among)

last_newest : (latest address : ℕ) (acks : List Ack) (last : Ack) → AreRising latest acks → last_ack address acks ≡ Some last → (ack : Ack) → IsAmong ack acks → ack.address ≡ address → ack.moment ≤ last.moment
last_newest latest address [] last rising e ack among same = absurd among
last_newest latest address (first ∷ acks) last rising e ack among same = go (first.address == address) refl among (last_newest first.moment address acks last rising.1)
  where
    go : (test : Bool) → (first.address == address) ≡ test → IsAmong ack (first ∷ acks) → (last_ack address acks ≡ Some last → (ack : Ack) → IsAmong ack acks → ack.address ≡ address → ack.moment ≤ last.moment) → ack.moment ≤ last.moment
    go true t here ih =
        let is : first ≡ last = cc (rw t at e) in
        subst (λ (one : Ack). ack.moment ≤ one.moment) is (newest_moment first.moment (first ∷ acks) (omega arith, rising.1) ack here)
    go false t (inl is) ih = absurd (subst (λ (one : Ack). (one.address ≡ address) → ⊥) (sym is) (λ a. grind (arith, nat_tests)) same)
    go false t (inr later) ih = ih (rw t at e) ack later same

module _ (kept : ℕ) where
  -- what is over for each Ack that is among them is free
  leaves_if : (ack : Ack) (xid address now : ℕ) → (ack.address ≡ address → (ack.xid ≡ xid → ⊥) → ack.moment + kept ≤ now) → leaves kept xid address now ack ≡ true
  leaves_if ack xid address now over = by_address (ack.address == address) refl
    where
      by_xid : ack.address ≡ address → (test : Bool) → (ack.xid == xid) ≡ test → leaves kept xid address now ack ≡ true
      by_xid same true x = grind (arith, nat_tests)
      by_xid same false x = let end : ack.moment + kept ≤ now = over same (λ e. grind (arith, nat_tests)) in grind (arith, nat_tests)

      by_address : (test : Bool) → (ack.address == address) ≡ test → leaves kept xid address now ack ≡ true
      by_address true a = by_xid (grind (arith, nat_tests)) (ack.xid == xid) refl
      by_address false a = grind (arith, nat_tests)

  join : (a b : Bool) → a ≡ true → b ≡ true → (a && b) ≡ true
  join true b e f = f
  join false b e f = absurd (cc e)

  pub free_if : (acks : List Ack) (xid address now : ℕ) → ((ack : Ack) → IsAmong ack acks → ack.address ≡ address → (ack.xid ≡ xid → ⊥) → ack.moment + kept ≤ now) → is_free kept acks xid address now ≡ true
  free_if [] xid address now over = refl
  free_if (first ∷ acks) xid address now over =
      join (leaves kept xid address now first) (is_free kept acks xid address now)
      (leaves_if first xid address now (over first (inl refl)))
      (free_if acks xid address now (λ ack among. over ack (inr among)))

  none_free : (address : ℕ) (acks : List Ack) (xid now : ℕ) → last_ack address acks ≡ None → is_free kept acks xid address now ≡ true
  none_free address [] xid now e = refl
  none_free address (first ∷ acks) xid now e = go (first.address == address) refl (none_free address acks xid now)
    where
      go : (test : Bool) → (first.address == address) ≡ test → (last_ack address acks ≡ None → is_free kept acks xid address now ≡ true) → is_free kept (first ∷ acks) xid address now ≡ true
      go true t ih = absurd (cc (rw t at e))
      go false t ih = rw t (ih (rw t at e))

  module _ (latest : ℕ) (bindings : ℕ → Option Binding) (acks : List Ack) (stands : Stands kept latest bindings acks) where
    -- 1. The bindings decide as the Acks do.
    last_tells : (address xid now : ℕ) → latest ≤ now → (last : Ack) → last_ack address acks ≡ Some last → ((last.xid == xid) || nat_le (last.moment + kept) now) ≡ is_free kept acks xid address now
    last_tells address xid now le last e = same_bool ((last.xid == xid) || nat_le (last.moment + kept) now) (is_free kept acks xid address now) there back
      where
        is_last : IsLast acks address last
        is_last = last_is address acks last e

        before : last.moment ≤ now
        before = omega (arith, le, newest_moment latest acks stands.rising last is_last.among)

        earlier : (ack : Ack) → IsAmong ack acks → ack.address ≡ address → (ack.xid ≡ last.xid → ⊥) → ack.moment + kept ≤ last.moment
        earlier ack among same other = free_over kept acks last.xid address last.moment (stands.over address last e) ack among same other

        by_cases : (last.xid == xid) ≡ true ⊎ nat_le (last.moment + kept) now ≡ true → is_free kept acks xid address now ≡ true
        by_cases (inl own) = free_if acks xid address now (λ ack among same other. omega (arith, before, earlier ack among same (λ x. other (x ∙ grind (arith, nat_tests)))))
        by_cases (inr over) = free_if acks xid address now (λ ack among same other. by_owner ack among same (ack.xid == last.xid) refl)
          where
            by_owner : (ack : Ack) → IsAmong ack acks → ack.address ≡ address → (test : Bool) → (ack.xid == last.xid) ≡ test → ack.moment + kept ≤ now
            by_owner ack among same true x =
                let newest : ack.moment ≤ last.moment = last_newest latest address acks last stands.rising e ack among same in
                let end : last.moment + kept ≤ now = grind (arith, nat_tests) in
                omega (arith, newest, end)
            by_owner ack among same false x = omega (arith, before, earlier ack among same (λ y. grind (arith, nat_tests)))

        there : ((last.xid == xid) || nat_le (last.moment + kept) now) ≡ true → is_free kept acks xid address now ≡ true
        there free = by_cases (either_true (last.xid == xid) (nat_le (last.moment + kept) now) free)

        back : is_free kept acks xid address now ≡ true → ((last.xid == xid) || nat_le (last.moment + kept) now) ≡ true
        back free = go (last.xid == xid) refl
          where
            go : (test : Bool) → (last.xid == xid) ≡ test → ((last.xid == xid) || nat_le (last.moment + kept) now) ≡ true
            go true x = rw x
            go false x =
                let end : last.moment + kept ≤ now = free_over kept acks xid address now free last is_last.among is_last.is_of (λ y. grind (arith, nat_tests)) in
                grind (arith, nat_tests)

    pub free_same : (address xid now : ℕ) → latest ≤ now → is_free_by (bindings address) xid now ≡ is_free kept acks xid address now
    free_same address xid now le = ap (λ (binding : Option Binding). is_free_by binding xid now) (stands.last address) ∙ go (last_ack address acks) refl
      where
        go : (last : Option Ack) → last_ack address acks ≡ last → is_free_by (option_map (binding_of kept) last) xid now ≡ is_free kept acks xid address now
        go None e = sym (none_free address acks xid now e)
        go (Some last) e = last_tells address xid now le last e

    pub own_same : (address xid : ℕ) → is_own_by (bindings address) xid ≡ is_to (last_ack address acks) xid
    own_same address xid = ap (λ (binding : Option Binding). is_own_by binding xid) (stands.last address) ∙ go (last_ack address acks)
      where
        go : (last : Option Ack) → is_own_by (option_map (binding_of kept) last) xid ≡ is_to last xid
        go None = refl
        go (Some last) = refl

    lowest_same : (one other : ℕ → Bool) → ((address : ℕ) → one address ≡ other address) → (first count : ℕ) → lowest one first count ≡ lowest other first count
    lowest_same one other same first zero = refl
    lowest_same one other same first (suc count) =
        ap (λ (test : Bool). if test then Some first else lowest one (suc first) count) (same first)
        ∙ ap (λ (rest : Option ℕ). if other first then Some first else rest) (lowest_same one other same (suc first) count)

    pub decided_same : (pool : Pool) (xid now : ℕ) (query : Query) → latest ≤ now → decide_by pool bindings xid now query ≡ decide kept pool acks xid now query
    decided_same pool xid now Discover le =
        ap (λ (own : Option ℕ). offer_or own (lowest (λ address. is_free_by (bindings address) xid now) pool.first pool.count))
        (lowest_same (λ address. is_own_by (bindings address) xid) (λ address. is_to (last_ack address acks) xid) (λ address. own_same address xid) pool.first pool.count)
        ∙ ap (λ (free : Option ℕ). offer_or (lowest (λ address. is_to (last_ack address acks) xid) pool.first pool.count) free)
        (lowest_same (λ address. is_free_by (bindings address) xid now) (λ address. is_free kept acks xid address now) (λ address. free_same address xid now le) pool.first pool.count)
    decided_same pool xid now (Request address) le = ap (λ (free : Bool). grant_if (is_in_pool pool address && free) address) (free_same address xid now le)

    -- 2. They go on standing for them.
    rising_later : (now : ℕ) (all : List Ack) → latest ≤ now → AreRising latest all → AreRising now all
    rising_later now [] le rising = tt
    rising_later now (ack ∷ all) le rising = (omega (arith, le, rising.0), rising.1)

    pub stands_later : (now : ℕ) → latest ≤ now → Stands kept now bindings acks
    stands_later now le = record { rising = rising_later now acks le stands.rising; last = stands.last; over = stands.over }

    pub stands_rebound : (now xid address : ℕ) (after : ℕ → Option Binding) → latest ≤ now → is_free kept acks xid address now ≡ true → Rebinds address (record { xid = xid; end = now + kept }) bindings after →
        Stands kept now after (record { moment = now; xid = xid; address = address } ∷ acks)
    stands_rebound now xid address after le free rebinds = record {
      rising = (omega arith, rising_later now acks le stands.rising);
      last = λ other. last_of other (address == other) refl;
      over = λ other last e. over_of other last (address == other) refl e;
    }
      where
        ack : Ack
        ack = record { moment = now; xid = xid; address = address }

        last_of : (other : ℕ) (test : Bool) → (address == other) ≡ test → after other ≡ option_map (binding_of kept) (last_ack other (ack ∷ acks))
        last_of other true t =
            let same : address ≡ other = grind (arith, nat_tests) in
            rw t (ap after (sym same) ∙ rebinds.bound)
        last_of other false t = rw t (rebinds.others other (λ same. grind (arith, nat_tests)) ∙ stands.last other)

        over_of : (other : ℕ) (last : Ack) (test : Bool) → (address == other) ≡ test → last_ack other (ack ∷ acks) ≡ Some last → is_free kept (ack ∷ acks) last.xid other last.moment ≡ true
        over_of other last true t e =
            let is : ack ≡ last = cc (rw t at e) in
            let same : address ≡ other = grind (arith, nat_tests) in
            subst (λ (one : Ack). is_free kept (ack ∷ acks) one.xid other one.moment ≡ true) is
            (subst (λ (place : ℕ). is_free kept (ack ∷ acks) xid place now ≡ true) same
            (join (leaves kept xid address now ack) (is_free kept acks xid address now) (leaves_if ack xid address now (λ a other'. absurd (other' refl))) free))
        over_of other last false t e =
            join (leaves kept last.xid other last.moment ack) (is_free kept acks last.xid other last.moment)
            (leaves_if ack last.xid other last.moment (λ a x. absurd (grind (arith, nat_tests))))
            (stands.over other last (rw t at e))

-- what is granted was free
granted_free : (kept : ℕ) (pool : Pool) (acks : List Ack) (xid now : ℕ) (query : Query) (address : ℕ) → decide kept pool acks xid now query ≡ Grant address → is_free kept acks xid address now ≡ true
granted_free kept pool acks xid now Discover address e =
    absurd (offers (lowest (λ a. is_to (last_ack a acks) xid) pool.first pool.count) (lowest (λ a. is_free kept acks xid a now) pool.first pool.count) e)
  where
    offers : (own free : Option ℕ) → offer_or own free ≡ Grant address → ⊥
    offers None None e = cc e
    offers None (Some one) e = cc e
    offers (Some own) free e = cc e
granted_free kept pool acks xid now (Request wanted) address e = go (is_in_pool pool wanted && is_free kept acks xid wanted now) refl e
  where
    go : (test : Bool) → (is_in_pool pool wanted && is_free kept acks xid wanted now) ≡ test → grant_if test wanted ≡ Grant address → is_free kept acks xid address now ≡ true
    go false t e = absurd (cc e)
    go true t e =
        let same : wanted ≡ address = cc e in
        subst (λ (a : ℕ). is_free kept acks xid a now ≡ true) same (both (is_in_pool pool wanted) (is_free kept acks xid wanted now) t).1

-- bindings that are changed by what they decide stand for the Acks then
pub stands_decided : (kept latest now xid : ℕ) (bindings after : ℕ → Option Binding) (acks : List Ack) (pool : Pool) (query : Query) → Stands kept latest bindings acks → latest ≤ now →
    BindsBy xid (now + kept) (decide_by pool bindings xid now query) bindings after → Stands kept now after (acks_after acks xid now (decide kept pool acks xid now query))
stands_decided kept latest now xid bindings after acks pool query stands le binds =
    go (decide kept pool acks xid now query) refl
    (subst (λ (decision : Decision). BindsBy xid (now + kept) decision bindings after) (decided_same kept latest bindings acks stands pool xid now query le) binds)
  where
    same : after ≡ bindings → Stands kept now after acks
    same is = subst (λ (one : ℕ → Option Binding). Stands kept now one acks) (sym is) (stands_later kept latest bindings acks stands now le)

    go : (decision : Decision) → decide kept pool acks xid now query ≡ decision → BindsBy xid (now + kept) decision bindings after → Stands kept now after (acks_after acks xid now decision)
    go Silence e binds = same binds
    go (Offer address) e binds = same binds
    go (Grant address) e binds = stands_rebound kept latest bindings acks stands now xid address after le (granted_free kept pool acks xid now query address e) binds
    go Refuse e binds = same binds

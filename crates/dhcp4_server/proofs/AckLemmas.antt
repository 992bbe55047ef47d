-- Acks of an address to different clients are apart.
use Rattle.std.proofs.Common.{◌≡◌, ℕ, ◌+◌, ◌≤◌, List, [], ◌∷◌, refl, sym, ap, arith, Bool, true, false, ◌⊎◌, inl, inr, ◌∙◌, subst}
use Rattle.std.specs.Prelude.{◌==◌, ◌&&◌}
use Rattle.std.proofs.lemmas.Bool.Decides.{nat_tests}
use Rattle.dhcp4_server.specs.Ack.{Ack, AreLawful, IsAmong, is_free, leaves}

pub both : (a b : Bool) → (a && b) ≡ true → (a ≡ true) × (b ≡ true)
both true b e = (refl, e)
both false b e = absurd (cc e)

pub same_if_not_other : (a b : ℕ) → ((a ≡ b → ⊥) → ⊥) → a ≡ b
same_if_not_other a b h = go (a == b) refl
  where
    go : (test : Bool) → (a == b) ≡ test → a ≡ b
    go true e = grind (arith, nat_tests)
    go false e = absurd (h (λ same. grind (arith, nat_tests)))

module _ (kept : ℕ) where
  -- an Ack of an address that is left to another client is over
  left_over : (ack : Ack) (xid address now : ℕ) → leaves kept xid address now ack ≡ true → ack.address ≡ address → (ack.xid ≡ xid → ⊥) → ack.moment + kept ≤ now
  left_over ack xid address now l same other = grind (arith, nat_tests)

  pub free_over : (acks : List Ack) (xid address now : ℕ) → is_free kept acks xid address now ≡ true → (ack : Ack) → IsAmong ack acks → ack.address ≡ address → (ack.xid ≡ xid → ⊥) → ack.moment + kept ≤ now
  free_over [] xid address now free ack among same other = absurd among
  free_over (first ∷ acks) xid address now free ack (inl is) same other =
      subst (λ (one : Ack). one.address ≡ address → (one.xid ≡ xid → ⊥) → one.moment + kept ≤ now) (sym is)
      (left_over first xid address now (both (leaves kept xid address now first) (is_free kept acks xid address now) free).0) same other
  free_over (first ∷ acks) xid address now free ack (inr among) same other =
      free_over acks xid address now (both (leaves kept xid address now first) (is_free kept acks xid address now) free).1 ack among same other

  pub lawful_later : (latest later : ℕ) (acks : List Ack) → latest ≤ later → AreLawful kept latest acks → AreLawful kept later acks
  lawful_later latest later [] le lawful = tt
  lawful_later latest later (ack ∷ acks) le lawful = (omega (arith, le, lawful.0), lawful.1, lawful.2)

  -- two Acks of one address to different clients: one is over when the other is sent
  pub apart : (latest : ℕ) (acks : List Ack) → AreLawful kept latest acks → (a b : Ack) → IsAmong a acks → IsAmong b acks → a.address ≡ b.address → (a.xid ≡ b.xid → ⊥) →
      (a.moment + kept ≤ b.moment) ⊎ (b.moment + kept ≤ a.moment)
  apart latest [] lawful a b ia ib same other = absurd ia
  apart latest (first ∷ acks) lawful a b (inl ia) (inl ib) same other = absurd (other (ap (λ (one : Ack). one.xid) (ia ∙ sym ib)))
  apart latest (first ∷ acks) lawful a b (inl ia) (inr ib) same other =
      inr (subst (λ (one : Ack). b.address ≡ one.address → (b.xid ≡ one.xid → ⊥) → b.moment + kept ≤ one.moment) (sym ia)
      (free_over acks first.xid first.address first.moment lawful.1 b ib) (sym same) (λ e. other (sym e)))
  apart latest (first ∷ acks) lawful a b (inr ia) (inl ib) same other =
      inl (subst (λ (one : Ack). a.address ≡ one.address → (a.xid ≡ one.xid → ⊥) → a.moment + kept ≤ one.moment) (sym ib)
      (free_over acks first.xid first.address first.moment lawful.1 a ia) same other)
  apart latest (first ∷ acks) lawful a b (inr ia) (inr ib) same other = apart first.moment acks lawful.2 a b ia ib same other

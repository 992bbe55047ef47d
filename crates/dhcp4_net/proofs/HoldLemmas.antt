-- Holds that rest on Acks are apart, if they are of one address by different clients.
use Rattle.std.proofs.Common.{◌≡◌, ℕ, ◌+◌, ◌≤◌, List, ◌∷◌, refl, sym, arith, ◌⊎◌, inl, inr, ◌∙◌, subst}
use Rattle.std.specs.Prelude.{Option, Some, None}
use Rattle.dhcp4_server.specs.Ack.{Ack, AreLawful}
use Rattle.dhcp4_server.proofs.AckLemmas.{apart}
use Rattle.dhcp4_net.specs.Hold.{Covers, Grant, Hold, IsBacked, IsGranted, RestsOn, Sent}

-- what rests on some Acks rests on these and one more
rests_more : (ack : Ack) (acks : List Ack) (moment : ℕ) (grant : Option Grant) → RestsOn acks moment grant → RestsOn (ack ∷ acks) moment grant
rests_more ack acks moment None h = tt
rests_more ack acks moment (Some grant) h = inr h

pub backed_more : (ack : Ack) (acks : List Ack) (now later : ℕ) → now ≤ later → (packet : Sent) → IsBacked acks now packet → IsBacked (ack ∷ acks) later packet
backed_more ack acks now later le packet h = record { past = omega (arith, le, h.past); backed = rests_more ack acks packet.moment packet.grant h.backed }

pub backed_later : (acks : List Ack) (now later : ℕ) → now ≤ later → (packet : Sent) → IsBacked acks now packet → IsBacked acks later packet
backed_later acks now later le packet h = record { past = omega (arith, le, h.past); backed = h.backed }

module _ (lease bound : ℕ) where
  pub granted_more : (ack : Ack) (acks : List Ack) (hold : Hold) → IsGranted lease bound acks hold → IsGranted lease bound (ack ∷ acks) hold
  granted_more ack acks hold h = record { ack = h.ack; among = inr h.among; xid = h.xid; address = h.address; later = h.later; in_time = h.in_time; until = h.until }

  -- what a client takes of a packet that was sent rests on an Ack
  pub granted_now : (acks : List Ack) (now later : ℕ) (packet : Sent) (grant : Grant) → now ≤ later → IsBacked acks now packet → packet.grant ≡ Some grant → later ≤ packet.moment + bound →
      IsGranted lease bound acks (record { xid = grant.xid; address = grant.address; from = later; until = later + lease })
  granted_now acks now later packet grant le backed is in_time = record {
    ack = record { moment = packet.moment; xid = grant.xid; address = grant.address };
    among = subst (RestsOn acks packet.moment) is backed.backed;
    xid = refl;
    address = refl;
    later = omega (arith, le, backed.past);
    in_time = in_time;
    until = refl;
  }

  -- two holds of one address by different clients are apart
  pub held_apart : (now : ℕ) (acks : List Ack) → AreLawful (lease + bound) now acks → (one other : Hold) (moment : ℕ) → IsGranted lease bound acks one → IsGranted lease bound acks other →
      one.address ≡ other.address → Covers moment one → Covers moment other → (one.xid ≡ other.xid → ⊥) → ⊥
  held_apart now acks lawful one other moment g h same c d differ =
      by_order (apart (lease + bound) now acks lawful g.ack h.ack g.among h.among (g.address ∙ same ∙ sym h.address) (λ e. differ (sym g.xid ∙ e ∙ h.xid)))
    where
      by_order : (g.ack.moment + (lease + bound) ≤ h.ack.moment) ⊎ (h.ack.moment + (lease + bound) ≤ g.ack.moment) → ⊥
      by_order (inl before) = absurd (omega (arith, before, g.in_time, g.until, h.later, c.lasts, d.begun))
      by_order (inr before) = absurd (omega (arith, before, h.in_time, h.until, g.later, d.lasts, c.begun))

-- The bindings that a server keeps, and the Acks that they stand for.
use Rattle.std.specs.Prelude.{◌≡◌, ℕ, ◌+◌, ◌-◌, ◌==◌, nat_le, slice_get, if◌then◌else◌, Bool, true, false, ◌||◌, List, Option, Some, None, option_map}
use Rattle.dhcp4_server.specs.declared.binding.Binding.{Binding}
use Rattle.dhcp4_server.specs.Ack.{Ack, AreRising, is_free, last_ack}

abbrev pub binding_of : ℕ → Ack → Binding
binding_of kept ack = record { xid = ack.xid; end = ack.moment + kept }

-- whether an address with this binding, or none, is free for a client at a moment
abbrev pub is_free_by : Option Binding → ℕ → ℕ → Bool
is_free_by None xid now = true
is_free_by (Some binding) xid now = (binding.xid == xid) || nat_le binding.end now

-- whether it is bound to this client, also when its time is over
abbrev pub is_own_by : Option Binding → ℕ → Bool
is_own_by None xid = false
is_own_by (Some binding) xid = binding.xid == xid

-- the moment from which it is free for every client: at once with no binding
abbrev pub end_of : Option Binding → ℕ
end_of None = 0
end_of (Some binding) = binding.end

-- whether it is free for every client at a moment
abbrev pub is_over_by : Option Binding → ℕ → Bool
is_over_by binding now = nat_le (end_of binding) now

-- Bindings, by address, stand for Acks: these are at most at the latest moment, and in order; of
-- each address the last Ack is kept; and at its moment no earlier one kept the address for another.
pub record Stands (kept latest : ℕ) (bindings : ℕ → Option Binding) (acks : List Ack) : Type 0 where
  pub rising : AreRising latest acks
  pub last : (address : ℕ) → bindings address ≡ option_map (binding_of kept) (last_ack address acks)
  pub over : (address : ℕ) (last : Ack) → last_ack address acks ≡ Some last →
      is_free kept acks last.xid address last.moment ≡ true

-- the bindings after an Ack of an address
pub record Rebinds (address : ℕ) (binding : Binding) (old new : ℕ → Option Binding) : Type 0 where
  pub bound : new address ≡ Some binding
  pub others : (other : ℕ) → (other ≡ address → ⊥) → new other ≡ old other

-- the binding at a place, if there is one
abbrev pub bound_at : Option (Option Binding) → Option Binding
bound_at None = None
bound_at (Some binding) = binding

-- the binding of an address, of a pool with a place for each address from the first on
abbrev pub bound_in : ℕ → List (Option Binding) → ℕ → Option Binding
bound_in first places address =
    if nat_le first address then bound_at (slice_get places (address - first)) else None

-- The table of bindings as contracts see it, and the lists by which it finds an address.
use Rattle.std.specs.Prelude.{◌≡◌, ℕ, length, List, Option, true, false}
use Rattle.std.specs.BTreeSet.{BTreeSet, contains}
use Rattle.std.specs.Ordering.{nat_cmp, ordering_then}
use Rattle.std.specs.declared.cmp.Ordering.{Ordering}
use Rattle.dhcp4_server.specs.Binding.{bound_in, is_own_by}
use Rattle.dhcp4_server.specs.Decision.{Pool}
use Rattle.dhcp4_server.specs.declared.binding.Binding.{Binding}

-- the first address of a pool, and the binding of each address from it on
pub record BindingTable : Type 0 where
  pub first : ℕ
  pub places : List (Option Binding)

-- the binding of an address
abbrev pub bound : BindingTable → ℕ → Option Binding
bound table = bound_in table.first table.places

-- the addresses of the table
abbrev pub pool_in : BindingTable → Pool
pool_in table = record { first = table.first; count = length table.places }

-- the order of pairs of numbers
abbrev pub pair_order : ℕ × ℕ → ℕ × ℕ → Ordering
pair_order x y = ordering_then (nat_cmp x.0 y.0) (nat_cmp x.1 y.1)

-- The set has the transaction id and the address of each binding, and nothing else.
abbrev pub ListsOwners : BTreeSet (ℕ × ℕ) → ℕ → List (Option Binding) → Type 0
ListsOwners owned first places =
    (xid address : ℕ) → contains pair_order owned (xid, address)
    ≡ is_own_by (bound_in first places address) xid

-- the set has this client as the one owner of an address, and the owners of other addresses as
-- before
pub record ChangesOwner (address xid : ℕ) (old new : BTreeSet (ℕ × ℕ)) : Type 0 where
  pub own : contains pair_order new (xid, address) ≡ true
  pub others : (other : ℕ) → (other ≡ xid → ⊥) → contains pair_order new (other, address) ≡ false
  pub away : (other elsewhere : ℕ) → (elsewhere ≡ address → ⊥) →
      contains pair_order new (other, elsewhere) ≡ contains pair_order old (other, elsewhere)

-- What a server answers, RFC 2131 sections 4.3.1 and 4.3.2, and which Acks it has sent then.
use Rattle.std.specs.Prelude.{◌≡◌, ◌≤◌, ◌<◌, ◌-◌, ℕ, suc, zero, ◌+◌, ◌==◌, nat_le, nat_lt, Bool, false, ◌&&◌, List, ◌∷◌, Option, Some, None, if◌then◌else◌}
use Rattle.dhcp4_server.specs.Ack.{Ack, is_free, last_ack}
use Rattle.dhcp4_server.specs.declared.decision.Query.{Query}
use Rattle.dhcp4_server.specs.declared.decision.Query.TheVariants.{Discover, Request}
use Rattle.dhcp4_server.specs.declared.decision.Decision.{Decision}
use Rattle.dhcp4_server.specs.declared.decision.Decision.TheVariants.{Silence, Offer, Grant, Refuse}
use Rattle.dhcp4_server.specs.declared.binding.Binding.{Binding}
use Rattle.dhcp4_server.specs.Binding.{Rebinds, is_free_by, is_own_by}

-- the addresses that a server grants, as numbers: so many from the first on
pub record Pool : Type 0 where
  pub first : ℕ
  pub count : ℕ

abbrev pub is_in_pool : Pool → ℕ → Bool
is_in_pool pool address = nat_le pool.first address && nat_lt address (pool.first + pool.count)

-- the lowest of so many numbers from the first on that passes a test
abbrev pub lowest : (ℕ → Bool) → ℕ → ℕ → Option ℕ
lowest test first zero = None
lowest test first (suc count) = if test first then Some first else lowest test (suc first) count

-- whether the last Ack of an address, if there is one, is to this client
abbrev pub is_to : Option Ack → ℕ → Bool
is_to None xid = false
is_to (Some ack) xid = ack.xid == xid

-- an Offer of this address, where there is one, else nothing
abbrev pub offer_if : Option ℕ → Decision
offer_if None = Silence
offer_if (Some address) = Offer address

-- an Offer of the client's own address, where it has one, else of this free one, where there is one
abbrev pub offer_or : Option ℕ → Option ℕ → Decision
offer_or None free = offer_if free
offer_or (Some own) free = Offer own

-- an Ack of an address that the client may have, else a Nack
abbrev pub grant_if : Bool → ℕ → Decision
grant_if may address = if may then Grant address else Refuse

-- What is answered, by a test of which addresses are the client's own and a test of which are free
-- for it: to a Discover an Offer of the lowest address of the pool that is its own, else of the
-- lowest that is free for it, else nothing; to a Request an Ack of the address, if it is one of the
-- pool and free for it, else a Nack.
abbrev pub decide_with : (ℕ → Bool) → (ℕ → Bool) → Pool → Query → Decision
decide_with is_own is_free pool Discover =
    offer_or (lowest is_own pool.first pool.count) (lowest is_free pool.first pool.count)
decide_with is_own is_free pool (Request address) =
    grant_if (is_in_pool pool address && is_free address) address

-- by the Acks so far
abbrev pub decide : ℕ → Pool → List Ack → ℕ → ℕ → Query → Decision
decide kept pool acks xid now query =
    decide_with (λ address. is_to (last_ack address acks) xid)
    (λ address. is_free kept acks xid address now) pool query

-- by the bindings that are kept
abbrev pub decide_by : Pool → (ℕ → Option Binding) → ℕ → ℕ → Query → Decision
decide_by pool bindings xid now query =
    decide_with (λ address. is_own_by (bindings address) xid)
    (λ address. is_free_by (bindings address) xid now) pool query

-- the Acks after a decision, the newest first
abbrev pub acks_after : List Ack → ℕ → ℕ → Decision → List Ack
acks_after acks xid now (Grant address) =
    record { moment = now; xid = xid; address = address } ∷ acks
acks_after acks xid now Silence = acks
acks_after acks xid now (Offer address) = acks
acks_after acks xid now Refuse = acks

-- an address that is granted is one of the pool: its place is there
abbrev pub GrantsInside : ℕ → ℕ → Decision → Type 0
GrantsInside first count Silence = Unit {0}
GrantsInside first count (Offer address) = Unit {0}
GrantsInside first count (Grant address) = (first ≤ address) × (address - first < count)
GrantsInside first count Refuse = Unit {0}

-- the bindings after a decision for a client: an address that is granted is bound to it until this
-- moment, and nothing else changes
abbrev pub BindsBy : ℕ → ℕ → Decision → (ℕ → Option Binding) → (ℕ → Option Binding) → Type 0
BindsBy xid end Silence old new = new ≡ old
BindsBy xid end (Offer address) old new = new ≡ old
BindsBy xid end (Grant address) old new =
    Rebinds address (record { xid = xid; end = end }) old new
BindsBy xid end Refuse old new = new ≡ old

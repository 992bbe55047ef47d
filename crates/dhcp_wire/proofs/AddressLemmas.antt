-- The IPv6 addresses of a value.
use Rattle.std.proofs.Common.{◌≡◌, ℕ, ◌<◌, ◌≤◌, List, [], ◌∷◌, length, take, drop, refl, arith}
use Rattle.dhcp_wire.specs.Field.{ipv6_address_of}
use Rattle.dhcp_wire.specs.Value.{ipv6_addresses_in}

-- where a whole group of sixteen bytes is there, its address comes first
pub first_group : (value : List ℕ) → 16 ≤ length value → ipv6_addresses_in value ≡ ipv6_address_of (take 16 value) ∷ ipv6_addresses_in (drop 16 value)
first_group [] enough = absurd (omega arith)
first_group (a ∷ []) enough = absurd (omega arith)
first_group (a ∷ b ∷ []) enough = absurd (omega arith)
first_group (a ∷ b ∷ c ∷ []) enough = absurd (omega arith)
first_group (a ∷ b ∷ c ∷ d ∷ []) enough = absurd (omega arith)
first_group (a ∷ b ∷ c ∷ d ∷ e ∷ []) enough = absurd (omega arith)
first_group (a ∷ b ∷ c ∷ d ∷ e ∷ f ∷ []) enough = absurd (omega arith)
first_group (a ∷ b ∷ c ∷ d ∷ e ∷ f ∷ g ∷ []) enough = absurd (omega arith)
first_group (a ∷ b ∷ c ∷ d ∷ e ∷ f ∷ g ∷ h ∷ []) enough = absurd (omega arith)
first_group (a ∷ b ∷ c ∷ d ∷ e ∷ f ∷ g ∷ h ∷ i ∷ []) enough = absurd (omega arith)
first_group (a ∷ b ∷ c ∷ d ∷ e ∷ f ∷ g ∷ h ∷ i ∷ j ∷ []) enough = absurd (omega arith)
first_group (a ∷ b ∷ c ∷ d ∷ e ∷ f ∷ g ∷ h ∷ i ∷ j ∷ k ∷ []) enough = absurd (omega arith)
first_group (a ∷ b ∷ c ∷ d ∷ e ∷ f ∷ g ∷ h ∷ i ∷ j ∷ k ∷ l ∷ []) enough = absurd (omega arith)
first_group (a ∷ b ∷ c ∷ d ∷ e ∷ f ∷ g ∷ h ∷ i ∷ j ∷ k ∷ l ∷ m ∷ []) enough = absurd (omega arith)
first_group (a ∷ b ∷ c ∷ d ∷ e ∷ f ∷ g ∷ h ∷ i ∷ j ∷ k ∷ l ∷ m ∷ n ∷ []) enough = absurd (omega arith)
first_group (a ∷ b ∷ c ∷ d ∷ e ∷ f ∷ g ∷ h ∷ i ∷ j ∷ k ∷ l ∷ m ∷ n ∷ o ∷ []) enough = absurd (omega arith)
first_group (a ∷ b ∷ c ∷ d ∷ e ∷ f ∷ g ∷ h ∷ i ∷ j ∷ k ∷ l ∷ m ∷ n ∷ o ∷ p ∷ value) enough = refl

-- and else there is none
pub no_group : (value : List ℕ) → length value < 16 → ipv6_addresses_in value ≡ []
no_group [] few = refl
no_group (a ∷ []) few = refl
no_group (a ∷ b ∷ []) few = refl
no_group (a ∷ b ∷ c ∷ []) few = refl
no_group (a ∷ b ∷ c ∷ d ∷ []) few = refl
no_group (a ∷ b ∷ c ∷ d ∷ e ∷ []) few = refl
no_group (a ∷ b ∷ c ∷ d ∷ e ∷ f ∷ []) few = refl
no_group (a ∷ b ∷ c ∷ d ∷ e ∷ f ∷ g ∷ []) few = refl
no_group (a ∷ b ∷ c ∷ d ∷ e ∷ f ∷ g ∷ h ∷ []) few = refl
no_group (a ∷ b ∷ c ∷ d ∷ e ∷ f ∷ g ∷ h ∷ i ∷ []) few = refl
no_group (a ∷ b ∷ c ∷ d ∷ e ∷ f ∷ g ∷ h ∷ i ∷ j ∷ []) few = refl
no_group (a ∷ b ∷ c ∷ d ∷ e ∷ f ∷ g ∷ h ∷ i ∷ j ∷ k ∷ []) few = refl
no_group (a ∷ b ∷ c ∷ d ∷ e ∷ f ∷ g ∷ h ∷ i ∷ j ∷ k ∷ l ∷ []) few = refl
no_group (a ∷ b ∷ c ∷ d ∷ e ∷ f ∷ g ∷ h ∷ i ∷ j ∷ k ∷ l ∷ m ∷ []) few = refl
no_group (a ∷ b ∷ c ∷ d ∷ e ∷ f ∷ g ∷ h ∷ i ∷ j ∷ k ∷ l ∷ m ∷ n ∷ []) few = refl
no_group (a ∷ b ∷ c ∷ d ∷ e ∷ f ∷ g ∷ h ∷ i ∷ j ∷ k ∷ l ∷ m ∷ n ∷ o ∷ []) few = refl
no_group (a ∷ b ∷ c ∷ d ∷ e ∷ f ∷ g ∷ h ∷ i ∷ j ∷ k ∷ l ∷ m ∷ n ∷ o ∷ p ∷ value) few = absurd (omega arith)

pub ruleset groups = (first_group, no_group)

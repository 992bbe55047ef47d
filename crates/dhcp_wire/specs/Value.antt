-- The values of options, as they read: a value of fixed size may be longer, and what is beyond is
-- ignored.
use Rattle.std.specs.Prelude.{ℕ, List, [], ◌∷◌, Option, option_map}
use Rattle.std.specs.Int.{Width}
use Rattle.std.specs.declared.net.Ipv4Addr.{Ipv4Addr}
use Rattle.std.specs.declared.net.Ipv6Addr.{Ipv6Addr}
use Rattle.dhcp_wire.specs.Field.{bytes_at, number_at, address_of, address_at, ipv6_address_of, ipv6_address_at, before_zero, text_of}

-- the first n bytes
abbrev pub bytes_in : ℕ → List ℕ → Option (List ℕ)
bytes_in n value = option_map (λ read. read.0) (bytes_at n value)

-- a number of this width
abbrev pub number_in : Width → List ℕ → Option ℕ
number_in width value = option_map (λ read. read.0) (number_at width value)

-- an address
abbrev pub address_in : List ℕ → Option Ipv4Addr
address_in value = option_map (λ read. read.0) (address_at value)

-- an address for each whole group of four bytes
abbrev pub addresses_in : List ℕ → List Ipv4Addr
addresses_in (a ∷ b ∷ c ∷ d ∷ value) = address_of (a ∷ b ∷ c ∷ d ∷ []) ∷ addresses_in value
addresses_in _ = []

-- a text, up to the first zero byte or the end
abbrev pub text_in : List ℕ → Option (List ℕ)
text_in value = text_of (before_zero value)

-- an IPv6 address
abbrev pub ipv6_address_in : List ℕ → Option Ipv6Addr
ipv6_address_in value = option_map (λ read. read.0) (ipv6_address_at value)

-- an IPv6 address for each whole group of sixteen bytes
abbrev pub ipv6_addresses_in : List ℕ → List Ipv6Addr
ipv6_addresses_in (a ∷ b ∷ c ∷ d ∷ e ∷ f ∷ g ∷ h ∷ i ∷ j ∷ k ∷ l ∷ m ∷ n ∷ o ∷ p ∷ value) =
    ipv6_address_of (a ∷ b ∷ c ∷ d ∷ e ∷ f ∷ g ∷ h ∷ i ∷ j ∷ k ∷ l ∷ m ∷ n ∷ o ∷ p ∷ [])
    ∷ ipv6_addresses_in value
ipv6_addresses_in _ = []

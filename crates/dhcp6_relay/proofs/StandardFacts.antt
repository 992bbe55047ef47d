-- The definitions worked out on messages as they stand on the wire, so that a wrong rule among them does not check.
use Rattle.std.proofs.Common.{◌≡◌, ℕ, Bool, true, false, List, [], ◌∷◌, ◌++◌, Option, Some, None, Ok, Err, refl}
use Rattle.std.specs.declared.net.Ipv6Addr.{Ipv6Addr}
use Rattle.dhcp_wire.specs.Field.{bytes_at}
use Rattle.dhcp_wire.specs.RawOption.{raw_option_at, raw_options_within, written_raw_option}
use Rattle.dhcp6_relay.specs.Hop.{Hop}
use Rattle.dhcp6_relay.specs.Layer.{layers_around, written_layer}
use Rattle.dhcp6_relay.specs.Relay.{parsed_relay, read_relay}
use Rattle.dhcp6_relay.specs.Reply.{reply_of, layers_of, layers_within}
use Rattle.dhcp6_relay.specs.Wrap.{next_hop_count, wrapped_message}
use Rattle.dhcp6_relay.specs.declared.error.RelayError.TheVariants.{NotRelay, Short, NoMessage, TooManyHops}
use Rattle.dhcp6_relay.specs.declared.relay.Relay.{Relay}

-- 2001:db8::1, the address of a link
abbrev link : Ipv6Addr
link = record { segments = 8193 ∷ 3512 ∷ 0 ∷ 0 ∷ 0 ∷ 0 ∷ 0 ∷ 1 ∷ [] }

-- fe80::1, the address of a client
abbrev client : Ipv6Addr
client = record { segments = 65152 ∷ 0 ∷ 0 ∷ 0 ∷ 0 ∷ 0 ∷ 0 ∷ 1 ∷ [] }

-- a type, a hop count, and these addresses
abbrev header : ℕ → ℕ → List ℕ
header number hops =
    number ∷ hops ∷ 32 ∷ 1 ∷ 13 ∷ 184 ∷ 0 ∷ 0 ∷ 0 ∷ 0 ∷ 0 ∷ 0 ∷ 0 ∷ 0 ∷ 0 ∷ 0 ∷ 0 ∷ 1 ∷ 254 ∷ 128 ∷ 0 ∷ 0 ∷ 0 ∷ 0 ∷ 0 ∷ 0 ∷ 0 ∷ 0 ∷ 0 ∷ 0 ∷ 0 ∷ 0 ∷ 0 ∷ 1 ∷ []

-- a Solicit without options, and a Reply without options
abbrev solicit : List ℕ
solicit = 1 ∷ 171 ∷ 205 ∷ 239 ∷ []

abbrev reply : List ℕ
reply = 7 ∷ 171 ∷ 205 ∷ 239 ∷ []

-- option 9 with the Solicit, and with the Reply
abbrev option_9 : List ℕ
option_9 = 0 ∷ 9 ∷ 0 ∷ 4 ∷ 1 ∷ 171 ∷ 205 ∷ 239 ∷ []

abbrev replied_9 : List ℕ
replied_9 = 0 ∷ 9 ∷ 0 ∷ 4 ∷ 7 ∷ 171 ∷ 205 ∷ 239 ∷ []

-- option 18 with the interface id 0102
abbrev option_18 : List ℕ
option_18 = 0 ∷ 18 ∷ 0 ∷ 2 ∷ 1 ∷ 2 ∷ []

-- what relay agents make of the Solicit
pub relayed-bare : wrapped_message solicit (record { link = link; peer = client; interface = None }) ≡ Ok (header 12 0 ++ option_9)
unfolding wrapped_message next_hop_count written_layer written_raw_option
relayed-bare = refl

pub relayed-named : wrapped_message solicit (record { link = link; peer = client; interface = Some (1 ∷ 2 ∷ []) }) ≡ Ok (header 12 0 ++ option_9 ++ option_18)
unfolding wrapped_message next_hop_count written_layer written_raw_option
relayed-named = refl

-- hop counts
pub counted-seven : next_hop_count (header 12 7 ++ option_9) ≡ Ok 8
unfolding next_hop_count
counted-seven = refl

pub counted-eight : next_hop_count (header 12 8) ≡ Err TooManyHops
unfolding next_hop_count
counted-eight = refl

pub counted-short : next_hop_count (12 ∷ 8 ∷ []) ≡ Err Short
unfolding next_hop_count
counted-short = refl

pub counted-reply : next_hop_count (header 13 8) ≡ Ok 0
unfolding next_hop_count
counted-reply = refl

-- how relay messages read: option 18 may come first, the first option of a code counts, and an interface id may be empty
pub read-named : parsed_relay (header 12 3 ++ option_18 ++ option_9 ++ replied_9) ≡ Ok (record { forward = true; hops = 3; link = link; peer = client; interface = Some (1 ∷ 2 ∷ []); inner = solicit })
unfolding parsed_relay read_relay raw_options_within raw_option_at bytes_at
read-named = refl

pub read-empty : parsed_relay (header 13 0 ++ replied_9 ++ 0 ∷ 18 ∷ 0 ∷ 0 ∷ []) ≡ Ok (record { forward = false; hops = 0; link = link; peer = client; interface = Some []; inner = reply })
unfolding parsed_relay read_relay raw_options_within raw_option_at bytes_at
read-empty = refl

-- and why others do not
pub read-none : parsed_relay [] ≡ Err NotRelay
unfolding parsed_relay read_relay bytes_at
read-none = refl

pub read-other : parsed_relay (header 11 0 ++ option_9) ≡ Err NotRelay
unfolding parsed_relay read_relay bytes_at
read-other = refl

pub read-short : parsed_relay (13 ∷ []) ≡ Err Short
unfolding parsed_relay read_relay bytes_at
read-short = refl

pub read-cut : parsed_relay (header 13 0 ++ 0 ∷ 9 ∷ 0 ∷ 4 ∷ 7 ∷ []) ≡ Err NoMessage
unfolding parsed_relay read_relay raw_options_within raw_option_at bytes_at
read-cut = refl

-- the reply along a Relay-forward
pub replied-named : reply_of (header 12 0 ++ option_9 ++ option_18) reply ≡ Ok (header 13 0 ++ replied_9 ++ option_18)
unfolding reply_of layers_of layers_within layers_around written_layer written_raw_option parsed_relay read_relay raw_options_within raw_option_at bytes_at
replied-named = refl

pub replied-other : reply_of (header 13 0 ++ option_9) reply ≡ Err NotRelay
unfolding reply_of layers_of
replied-other = refl

-- A message relayed towards a server, RFC 8415 sections 19.1.1 and 19.1.2.
use Rattle.std.specs.Prelude.{ℕ, ◌+◌, List, ◌∷◌, true, length, nat_lt, if◌then◌else◌, Result, Ok, Err}
use Rattle.dhcp6_relay.specs.Hop.{Hop, layer_at}
use Rattle.dhcp6_relay.specs.Layer.{header_length, hop_count_limit, is_forward, written_layer}
use Rattle.dhcp6_relay.specs.Outcome.{◌>>=◌, within_limit}
use Rattle.dhcp6_relay.specs.declared.error.RelayError.{RelayError}
use Rattle.dhcp6_relay.specs.declared.error.RelayError.TheVariants.{Short, TooManyHops}

-- the hop count of a relay message, its second byte
abbrev pub hop_count : List ℕ → ℕ
hop_count (number ∷ hops ∷ rest) = hops
hop_count _ = 0

-- the hop count of a Relay-forward around a message: 0 around the message of a client, and one more
-- than that of a Relay-forward
unfoldable pub next_hop_count : List ℕ → Result ℕ RelayError
next_hop_count bytes =
    if is_forward bytes
    then (if nat_lt (length bytes) header_length then Err Short
    else if nat_lt (hop_count bytes) hop_count_limit then Ok (hop_count bytes + 1)
    else Err TooManyHops)
    else Ok 0

-- the Relay-forward that a relay agent makes of a message
unfoldable pub wrapped_message : List ℕ → Hop → Result (List ℕ) RelayError
wrapped_message bytes hop = do
  hops ← next_hop_count bytes
  within_limit (written_layer true (layer_at hops hop) bytes)

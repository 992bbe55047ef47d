-- An answer relayed back along the way of a message, RFC 8415 sections 19.2 and 19.3.
use Rattle.std.specs.Prelude.{ℕ, zero, suc, ◌+◌, List, [], ◌∷◌, false, if◌then◌else◌, Result, Ok, Err}
use Rattle.dhcp6_relay.specs.Layer.{LayerParts, layers_around, hop_count_limit, is_forward}
use Rattle.dhcp6_relay.specs.Outcome.{◌>>=◌, within_limit}
use Rattle.dhcp6_relay.specs.Relay.{layer_of, parsed_relay}
use Rattle.dhcp6_relay.specs.declared.error.RelayError.{RelayError}
use Rattle.dhcp6_relay.specs.declared.error.RelayError.TheVariants.{NotRelay, TooManyHops}
use Rattle.dhcp6_relay.specs.declared.relay.Relay.{Relay}

-- how many layers a message has at most: their hop counts are 0 to 8
abbrev pub most_layers : ℕ
most_layers = hop_count_limit + 1

-- a layer and those inside it
abbrev pub with_inner : (List ℕ → Result (List LayerParts) RelayError)
    → Relay → Result (List LayerParts) RelayError
with_inner inside relay = do
  layers ← inside relay.inner
  Ok (layer_of relay ∷ layers)

-- the layers of a message, the outmost first, where it has no more than so many: they end at the
-- first message that is no Relay-forward
unfoldable pub layers_within : ℕ → List ℕ → Result (List LayerParts) RelayError
layers_within zero bytes = if is_forward bytes then Err TooManyHops else Ok []
layers_within (suc more) bytes =
    if is_forward bytes then parsed_relay bytes >>= with_inner (layers_within more) else Ok []

-- the layers of a Relay-forward
unfoldable pub layers_of : List ℕ → Result (List LayerParts) RelayError
layers_of bytes = if is_forward bytes then layers_within most_layers bytes else Err NotRelay

-- the Relay-reply that brings an answer back along the layers of a Relay-forward
unfoldable pub reply_of : List ℕ → List ℕ → Result (List ℕ) RelayError
reply_of bytes answer = do
  layers ← layers_of bytes
  within_limit (layers_around false layers answer)

-- The layers of a message, one after the other.
use Rattle.std.proofs.Common.{◌≡◌, ℕ, zero, suc, ◌-◌, ◌<◌, cond, true, false, List, [], ◌∷◌, ◌++◌, length, length-append, append_assoc, append-nil, arith, Ok, Err, refl, sym, ap, ◌∙◌}
use Rattle.std.specs.Prelude.{Result}
use Rattle.dhcp6_relay.specs.Layer.{LayerParts, is_forward}
use Rattle.dhcp6_relay.specs.Outcome.{◌>>=◌}
use Rattle.dhcp6_relay.specs.Relay.{layer_of, parsed_relay}
use Rattle.dhcp6_relay.specs.Reply.{layers_of, layers_within, with_inner}
use Rattle.dhcp6_relay.specs.declared.error.RelayError.{RelayError}
use Rattle.dhcp6_relay.specs.declared.error.RelayError.TheVariants.{NotRelay, TooManyHops}
use Rattle.dhcp6_relay.specs.declared.relay.Relay.{Relay}

-- layers that were read before these
abbrev joined : List LayerParts → Result (List LayerParts) RelayError → Result (List LayerParts) RelayError
joined front read = read >>= λ layers. Ok (front ++ layers)

-- none were read before
joined-none : (read : Result (List LayerParts) RelayError) → read ≡ joined [] read
joined-none (Ok layers) = refl
joined-none (Err e) = refl

joined-more : (front : List LayerParts) (layer : LayerParts) (read : Result (List LayerParts) RelayError)
    → joined front (read >>= λ layers. Ok (layer ∷ layers)) ≡ joined (front ++ layer ∷ []) read
joined-more front layer (Ok layers) = ap Ok (sym (append_assoc front (layer ∷ []) layers))
joined-more front layer (Err e) = refl

-- the layers of a whole message of which some were read, and the message inside these
unfoldable pub layers_after : List LayerParts → List ℕ → Result (List LayerParts) RelayError
layers_after front bytes = joined front (layers_within (9 - length front) bytes)

-- at the beginning
pub layers_of-forward : (bytes : List ℕ) → is_forward bytes ≡ true → layers_of bytes ≡ layers_after [] bytes
unfolding layers_of layers_after
layers_of-forward bytes is = rw is (joined-none (layers_within 9 bytes))

pub layers_of-other : (bytes : List ℕ) → is_forward bytes ≡ false → layers_of bytes ≡ Err NotRelay
unfolding layers_of
layers_of-other bytes is = rw is refl

within-end : (front : List LayerParts) (most : ℕ) (bytes : List ℕ) → is_forward bytes ≡ false → joined front (layers_within most bytes) ≡ Ok front
unfolding layers_within
within-end front zero bytes is = rw is (ap Ok (append-nil front))
within-end front (suc most) bytes is = rw is (ap Ok (append-nil front))

-- at the end
pub layers_after-end : (front : List LayerParts) (bytes : List ℕ) → is_forward bytes ≡ false → layers_after front bytes ≡ Ok front
unfolding layers_after
layers_after-end front bytes is = within-end front (9 - length front) bytes is

-- at a layer too many
pub layers_after-full : (front : List LayerParts) (bytes : List ℕ) → is_forward bytes ≡ true → length front ≡ 9 → layers_after front bytes ≡ Err TooManyHops
unfolding layers_after layers_within
layers_after-full front bytes is full =
    let none : 9 - length front ≡ 0 = omega (arith, full) in
    ap (λ n. joined front (layers_within n bytes)) none ∙ ap (λ b. joined front (cond b (Err TooManyHops) (Ok []))) is

within-layer : (front : List LayerParts) (most : ℕ) (bytes : List ℕ) → is_forward bytes ≡ true
    → joined front (layers_within (suc most) bytes) ≡ joined front (parsed_relay bytes >>= with_inner (layers_within most))
unfolding layers_within
within-layer front most bytes is = ap (λ b. joined front (cond b (parsed_relay bytes >>= with_inner (layers_within most)) (Ok []))) is

-- at a layer
layers_after-next : (front : List LayerParts) (bytes : List ℕ) → is_forward bytes ≡ true → length front < 9
    → layers_after front bytes ≡ joined front (parsed_relay bytes >>= with_inner (layers_within (8 - length front)))
unfolding layers_after
layers_after-next front bytes is few =
    let more : 9 - length front ≡ suc (8 - length front) = omega (arith, few) in
    ap (λ n. joined front (layers_within n bytes)) more ∙ within-layer front (8 - length front) bytes is

-- that does not read
pub layers_after-refused : (front : List LayerParts) (bytes : List ℕ) (e : RelayError) → is_forward bytes ≡ true → length front < 9 → parsed_relay bytes ≡ Err e
    → layers_after front bytes ≡ Err e
layers_after-refused front bytes e is few refused =
    layers_after-next front bytes is few ∙ ap (λ read. joined front (read >>= with_inner (layers_within (8 - length front)))) refused

-- that reads
pub layers_after-layer : (front : List LayerParts) (bytes : List ℕ) (relay : Relay) → is_forward bytes ≡ true → length front < 9 → parsed_relay bytes ≡ Ok relay
    → layers_after front bytes ≡ layers_after (front ++ layer_of relay ∷ []) relay.inner
unfolding layers_after
layers_after-layer front bytes relay is few reads =
    let less : 8 - length front ≡ 9 - length (front ++ layer_of relay ∷ []) = omega (arith, length-append front (layer_of relay ∷ [])) in
    layers_after-next front bytes is few
    ∙ ap (λ read. joined front (read >>= with_inner (layers_within (8 - length front)))) reads
    ∙ joined-more front (layer_of relay) (layers_within (8 - length front) relay.inner)
    ∙ ap (λ n. joined (front ++ layer_of relay ∷ []) (layers_within n relay.inner)) less

pub ruleset layer_by_layer = (layers_of-forward, layers_of-other, layers_after-end, layers_after-full, layers_after-refused, layers_after-layer)

-- One step on the way back of an answer: what a relay agent finds in the reply to what it relayed.
use Rattle.std.proofs.Common.{◌≡◌, ℕ, zero, suc, ◌^◌, ◌<◌, ◌≤◌, true, false, cond, List, [], ◌∷◌, length, Ok, Err, refl, sym, ap, subst, ◌∙◌, arith}
use Rattle.std.specs.Prelude.{IfOk, Result}
use Rattle.dhcp6_relay.specs.Hop.{Hop, layer_at}
use Rattle.dhcp6_relay.specs.Layer.{LayerParts, layers_around, is_forward, written_layer}
use Rattle.dhcp6_relay.specs.Outcome.{◌>>=◌, Gives, within_limit, most_bytes}
use Rattle.dhcp6_relay.specs.Relay.{layer_of, parsed_relay, relay_with}
use Rattle.dhcp6_relay.specs.Reply.{reply_of, layers_of, layers_within, most_layers, with_inner}
use Rattle.dhcp6_relay.specs.RoundTrip.{FindsItsLayer, HasAddresses, answer_to}
use Rattle.dhcp6_relay.specs.Wrap.{next_hop_count, wrapped_message}
use Rattle.dhcp6_relay.specs.declared.error.RelayError.{RelayError}
use Rattle.dhcp6_relay.specs.declared.error.RelayError.TheVariants.{NotRelay, TooManyHops}
use Rattle.dhcp6_relay.proofs.LayerLemmas.{is_forward-written_layer, length-written_layer}
use Rattle.dhcp6_relay.proofs.RelayLemmas.{parsed_relay-written_layer}
use Rattle.dhcp6_relay.proofs.RoundTripLemmas.{Fits-layer_at, after_ok, limited-ok, limited-short}

-- a hop count that is given fits a byte
next-small : (bytes : List ℕ) (hops : ℕ) → next_hop_count bytes ≡ Ok hops → hops < 2 ^ 8
unfolding next_hop_count
next-small bytes hops is = grind arith

-- layers that are few enough are those where more are allowed
layers-more : (most : ℕ) (bytes : List ℕ) (layers : List LayerParts) → layers_within most bytes ≡ Ok layers → layers_within (suc most) bytes ≡ Ok layers
unfolding layers_within
layers-more zero bytes layers is =
    elim (is_forward bytes) as (λ b. cond b (Err TooManyHops) (Ok []) ≡ Ok layers → cond b (parsed_relay bytes >>= with_inner (layers_within zero)) (Ok []) ≡ Ok layers) [
      | true ↦ λ e. cc
      | false ↦ λ e. e
    ] is
layers-more (suc most) bytes layers is =
    elim (is_forward bytes) as (λ b. cond b (parsed_relay bytes >>= with_inner (layers_within most)) (Ok []) ≡ Ok layers → cond b (parsed_relay bytes >>= with_inner (layers_within (suc most))) (Ok []) ≡ Ok layers) [
      | true ↦ λ e.
          let relay = after_ok (parsed_relay bytes) (with_inner (layers_within most)) layers e in
          let inside = after_ok (layers_within most relay.0.inner) (λ layers. Ok (layer_of relay.0 ∷ layers)) layers relay.1.1 in
          ap (λ read. read >>= with_inner (layers_within (suc most))) relay.1.0
          ∙ ap (λ read. read >>= λ layers. Ok (layer_of relay.0 ∷ layers)) (layers-more most relay.0.inner inside.0 inside.1.0)
          ∙ inside.1.1
      | false ↦ λ e. e
    ] is

-- a value that is given in two ways
same_ok : (read : Result (List LayerParts) RelayError) (a b : List LayerParts) → read ≡ Ok a → read ≡ Ok b → a ≡ b
same_ok read a b x y = cc

-- the layers inside a layer
layers-inside : (most : ℕ) (layer : LayerParts) (bytes : List ℕ) (layers : List LayerParts) → parsed_relay (written_layer true layer bytes) ≡ Ok (relay_with true layer bytes)
    → layers_within (suc most) (written_layer true layer bytes) ≡ Ok layers → (inside : List LayerParts) × ((layers_within most bytes ≡ Ok inside) × (layer ∷ inside ≡ layers))
unfolding layers_within
layers-inside most layer bytes layers reads is =
    let next : Result (List LayerParts) RelayError =
    with_inner (layers_within most) (relay_with true layer bytes) in
    let same : cond (is_forward (written_layer true layer bytes)) (parsed_relay (written_layer true layer bytes) >>= with_inner (layers_within most)) (Ok []) ≡ next =
    ap (λ b. cond b (parsed_relay (written_layer true layer bytes) >>= with_inner (layers_within most)) (Ok [])) (is_forward-written_layer layer bytes)
    ∙ ap (λ read. read >>= with_inner (layers_within most)) reads in
    let found = after_ok (layers_within most bytes) (λ layers. Ok (layer ∷ layers)) layers (sym same ∙ is) in
    (found.0, (found.1.0, same_ok (Ok (layer ∷ found.0)) (layer ∷ found.0) layers refl found.1.1))

-- a message that is no Relay-forward has no layers
no_layers : (bytes : List ℕ) → is_forward bytes ≡ false → layers_within most_layers bytes ≡ Ok []
unfolding layers_within
no_layers bytes other = rw other refl

-- the layers of a Relay-forward, and none of another message
layers-or-none : (most : ℕ) (bytes answer : List ℕ) (layers : List LayerParts) → layers_within most bytes ≡ Ok layers → layers_within most_layers bytes ≡ Ok layers → length (layers_around false layers answer) ≤ most_bytes
    → answer_to bytes answer ≡ Ok (layers_around false layers answer)
unfolding reply_of layers_of layers_around
layers-or-none most bytes answer layers is more short =
    elim (is_forward bytes) as (λ b. is_forward bytes ≡ b → cond b (reply_of bytes answer) (Ok answer) ≡ Ok (layers_around false layers answer)) [
      | true ↦ λ forward.
          ap (λ read. read >>= λ layers. within_limit (layers_around false layers answer)) (ap (λ b. cond b (layers_within most_layers bytes) (Err NotRelay)) forward ∙ more)
          ∙ limited-short (layers_around false layers answer) short
      | false ↦ λ other.
          let e : [] ≡ layers = same_ok (layers_within most_layers bytes) [] layers (no_layers bytes other) more in
          ap (λ layers. Ok (layers_around false layers answer)) e
    ] refl

-- what a relay agent finds in the reply
pub reply-step : (bytes : List ℕ) (hop : Hop) (answer forward reply : List ℕ) → HasAddresses hop → wrapped_message bytes hop ≡ Ok forward → reply_of forward answer ≡ Ok reply
    → FindsItsLayer bytes hop answer reply
unfolding wrapped_message reply_of layers_of layers_around
reply-step bytes hop answer forward reply has wraps answers =
    let made = after_ok (next_hop_count bytes) (λ hops. within_limit (written_layer true (layer_at hops hop) bytes)) forward wraps in
    let hops = made.0 in
    let layer = layer_at hops hop in
    let small = next-small bytes hops made.1.0 in
    let whole = limited-ok (written_layer true layer bytes) forward made.1.1 in
    let fits = Fits-layer_at true hops hop bytes has small whole.1 in
    let known : reply_of (written_layer true layer bytes) answer ≡ Ok reply = subst (λ b. reply_of b answer ≡ Ok reply) (sym whole.0) answers in
    let layers = after_ok (layers_of (written_layer true layer bytes)) (λ layers. within_limit (layers_around false layers answer)) reply known in
    let nine : layers_within most_layers (written_layer true layer bytes) ≡ Ok layers.0 =
    ap (λ b. cond b (layers_within most_layers (written_layer true layer bytes)) (Err NotRelay)) (sym (is_forward-written_layer layer bytes)) ∙ layers.1.0 in
    let inside = layers-inside 8 layer bytes layers.0 (parsed_relay-written_layer true layer bytes fits.0 fits.1) nine in
    let inner : List ℕ = layers_around false inside.0 answer in
    let given : within_limit (written_layer false layer inner) ≡ Ok reply = ap (λ layers. within_limit (layers_around false layers answer)) inside.1.1 ∙ layers.1.1 in
    let back = limited-ok (written_layer false layer inner) reply given in
    let reads = Fits-layer_at false hops hop inner has small back.1 in
    let long = length-written_layer false layer inner in
    record {
      hops = hops;
      inner = inner;
      counted = made.1.0;
      sent_on = layers-or-none 8 bytes answer inside.0 inside.1.0 (layers-more 8 bytes inside.0 inside.1.0) (omega (arith, long, back.1));
      found = subst (λ b. parsed_relay b ≡ Ok (relay_with false layer inner)) back.0 (parsed_relay-written_layer false layer inner reads.0 reads.1);
    }

-- what a relay agent relays is a Relay-forward
pub given-forward : (layer : LayerParts) (bytes : List ℕ) (given : Result (List ℕ) RelayError) → Gives (λ forward. forward) given (within_limit (layers_around true (layer ∷ []) bytes))
    → IfOk given (λ forward. is_forward forward ≡ true)
unfolding layers_around
given-forward layer bytes (Ok forward) gives =
    subst (λ b. is_forward b ≡ true) (limited-ok (written_layer true layer bytes) forward gives).0 (is_forward-written_layer layer bytes)
given-forward layer bytes (Err e) gives = tt

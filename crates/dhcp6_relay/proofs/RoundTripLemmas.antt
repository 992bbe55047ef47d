-- The answer to a relayed message finds its way back.
use Rattle.std.proofs.Common.{◌≡◌, ◌≢◌, ℕ, zero, suc, ◌^◌, ◌<◌, ◌≤◌, Bool, true, false, cond, leb, List, [], ◌∷◌, length, Option, Some, None, Ok, Err, refl, sym, ap, subst, ◌∙◌, arith}
use Rattle.std.specs.Prelude.{All, IfSome, Result}
use Rattle.std.proofs.lemmas.Bool.{le-leb, leb-true, leb-false}
use Rattle.std.proofs.lemmas.List.Elements.{All-head, All-tail}
use Rattle.dhcp6_relay.specs.Hop.{Hop, layer_at}
use Rattle.dhcp6_relay.specs.Layer.{LayerParts, layers_around, is_forward, written_interface, written_layer, interface_id}
use Rattle.dhcp6_relay.specs.Outcome.{◌>>=◌, within_limit, most_bytes}
use Rattle.dhcp6_relay.specs.Relay.{parsed_relay}
use Rattle.dhcp6_relay.specs.Reply.{reply_of, layers_of, layers_within, most_layers, with_inner}
use Rattle.dhcp6_relay.specs.RoundTrip.{BringsBack, HasAddresses, IsWay, relayed_message}
use Rattle.dhcp6_relay.specs.Wrap.{next_hop_count, wrapped_message}
use Rattle.dhcp6_relay.specs.declared.error.RelayError.{RelayError}
use Rattle.dhcp6_relay.specs.declared.error.RelayError.TheVariants.{TooLong}
use Rattle.dhcp6_relay.proofs.LayerLemmas.{header-written_layer, hop_count-written_layer, is_forward-written_layer, layer_length-whole, length-written_layer, length-written_option}
use Rattle.dhcp6_relay.proofs.RelayLemmas.{Fits, parsed_relay-written_layer}

-- the layers of relay agents: each has as its hop count the number of those before it
unfoldable pub layers_of_hops : List Hop → List LayerParts
layers_of_hops [] = []
layers_of_hops (hop ∷ hops) = layer_at (length hops) hop ∷ layers_of_hops hops

-- bytes that are few enough are given
pub limited-short : (bytes : List ℕ) → length bytes ≤ most_bytes → within_limit bytes ≡ Ok bytes
limited-short bytes short = rw (le-leb (length bytes) most_bytes short) refl

limited-long : (bytes : List ℕ) → most_bytes < length bytes → within_limit bytes ≡ Err TooLong
limited-long bytes long = grind arith

-- what is given is the bytes, and they are few enough
pub limited-ok : (bytes given : List ℕ) → within_limit bytes ≡ Ok given → (bytes ≡ given) × (length bytes ≤ most_bytes)
limited-ok bytes given is =
    elim (leb (length bytes) most_bytes) as (λ b. leb (length bytes) most_bytes ≡ b → cond b (Ok bytes) (Err TooLong) ≡ Ok given → (bytes ≡ given) × (length bytes ≤ most_bytes)) [
      | true ↦ λ short e. (cc, leb-true _ _ short)
      | false ↦ λ long e. cc
    ] refl is

-- what is refused is too long
limited-not : (bytes : List ℕ) → within_limit bytes ≢ Err TooLong → within_limit bytes ≡ Ok bytes
limited-not bytes not =
    elim (leb (length bytes) most_bytes) as (λ b. cond b (Ok bytes) (Err TooLong) ≢ Err TooLong → cond b (Ok bytes) (Err TooLong) ≡ Ok bytes) [
      | true ↦ λ _. refl
      | false ↦ λ no. absurd (no refl)
    ] not

-- a value that follows another
pub after_ok : {X Y : Type 0} (read : Result X RelayError) (next : X → Result Y RelayError) (y : Y) → read >>= next ≡ Ok y → (x : X) × ((read ≡ Ok x) × (next x ≡ Ok y))
after_ok (Ok x) next y is = (x, (refl, is))
after_ok (Err e) next y is = cc

-- ---- one relay agent

-- the layer of a relay agent can be written, where the whole is not too long
pub Fits-layer_at : (forward : Bool) (hops : ℕ) (hop : Hop) (message : List ℕ) → HasAddresses hop → hops < 2 ^ 8 → length (written_layer forward (layer_at hops hop) message) ≤ most_bytes
    → Fits (layer_at hops hop) × (length message < 2 ^ 16)
Fits-layer_at forward hops hop message has small short =
    let whole = length-written_layer forward (layer_at hops hop) message in
    let own = layer_length-whole (layer_at hops hop) has.link has.peer in (
      record { hops = small; link = has.link; peer = has.peer; interface = id_fits hop.interface (omega (arith, whole, own, short)) },
      omega (arith, whole, own, short),
    )
  where
    id_fits : (interface : Option (List ℕ)) → length (written_interface interface) ≤ most_bytes → IfSome interface (λ id. length id < 2 ^ 16)
    id_fits None few = tt
    id_fits (Some id) few = omega (arith, length-written_option interface_id id, few)

-- the hop count around a message that is no Relay-forward
pub next-client : (bytes : List ℕ) → is_forward bytes ≡ false → next_hop_count bytes ≡ Ok 0
unfolding next_hop_count
next-client bytes is = rw is refl

-- and around a Relay-forward
next-relay : (hops : ℕ) (hop : Hop) (message : List ℕ) → HasAddresses hop → hops < 8 → next_hop_count (written_layer true (layer_at hops hop) message) ≡ Ok (suc hops)
unfolding next_hop_count
next-relay hops hop message has small =
    let layer = layer_at hops hop in
    let whole = header-written_layer true layer message has.link has.peer in
    rw (is_forward-written_layer layer message, hop_count-written_layer true layer message) (grind arith)

-- ---- a list of relay agents

-- what each makes of the message in turn
relayed-around : (hop : Hop) (hops : List Hop) (message : List ℕ) → is_forward message ≡ false → length (hop ∷ hops) ≤ most_layers → All HasAddresses (hop ∷ hops)
    → relayed_message (hop ∷ hops) message ≡ within_limit (layers_around true (layers_of_hops (hop ∷ hops)) message)
unfolding relayed_message wrapped_message layers_around layers_of_hops
relayed-around hop [] message client few has =
    ap (λ next. next >>= λ hops. within_limit (written_layer true (layer_at hops hop) message)) (next-client message client)
relayed-around hop (before ∷ hops) message client few has =
    let later = All-tail HasAddresses hop (before ∷ hops) has in
    let inside : List ℕ = layers_around true (layers_of_hops (before ∷ hops)) message in
    let outer : List ℕ = written_layer true (layer_at (length (before ∷ hops)) hop) inside in
    let long = length-written_layer true (layer_at (length (before ∷ hops)) hop) inside in
    let next : next_hop_count inside ≡ Ok (suc (length hops)) = next-relay (length hops) before (layers_around true (layers_of_hops hops) message) (All-head HasAddresses before hops later) (omega (arith, few)) in
    let step : Result (List ℕ) RelayError → Result (List ℕ) RelayError = λ read. read >>= λ bytes. wrapped_message bytes hop in
    ap step (relayed-around before hops message client (omega (arith, few)) later)
    ∙ elim (leb (length inside) most_bytes) as (λ b. leb (length inside) most_bytes ≡ b → step (cond b (Ok inside) (Err TooLong)) ≡ within_limit outer) [
      | true ↦ λ short. ap (λ read. read >>= λ hops. within_limit (written_layer true (layer_at hops hop) inside)) next
      | false ↦ λ over. sym (limited-long outer (omega (arith, long, leb-false _ _ over)))
    ] refl

-- the layers of that
layers-around : (hops : List Hop) (message : List ℕ) (most : ℕ) → is_forward message ≡ false → length hops ≤ most → length hops ≤ most_layers → All HasAddresses hops
    → length (layers_around true (layers_of_hops hops) message) ≤ most_bytes → layers_within most (layers_around true (layers_of_hops hops) message) ≡ Ok (layers_of_hops hops)
unfolding layers_within layers_around layers_of_hops
layers-around [] message zero client few nine has short = rw client refl
layers-around [] message (suc most) client few nine has short = rw client refl
layers-around (hop ∷ hops) message zero client few nine has short = absurd (omega (arith, few))
layers-around (hop ∷ hops) message (suc most) client few nine has short =
    let layer = layer_at (length hops) hop in
    let inside : List ℕ = layers_around true (layers_of_hops hops) message in
    let fits = Fits-layer_at true (length hops) hop inside (All-head HasAddresses hop hops has) (omega (arith, nine)) short in
    let long = length-written_layer true layer inside in
    let later = layers-around hops message most client (omega (arith, few)) (omega (arith, nine)) (All-tail HasAddresses hop hops has) (omega (arith, long, short)) in
    ap (λ b. cond b (parsed_relay (written_layer true layer inside) >>= with_inner (layers_within most)) (Ok [])) (is_forward-written_layer layer inside)
    ∙ ap (λ read. read >>= with_inner (layers_within most)) (parsed_relay-written_layer true layer inside fits.0 fits.1)
    ∙ ap (λ read. read >>= λ layers. Ok (layer ∷ layers)) later

-- each relay agent finds its own layer
brings_back : (hops : List Hop) (answer : List ℕ) → length hops ≤ most_layers → All HasAddresses hops → length (layers_around false (layers_of_hops hops) answer) ≤ most_bytes
    → BringsBack hops (layers_around false (layers_of_hops hops) answer) answer
unfolding layers_around layers_of_hops
brings_back [] answer nine has short = refl
brings_back (hop ∷ hops) answer nine has short =
    let layer = layer_at (length hops) hop in
    let inside : List ℕ = layers_around false (layers_of_hops hops) answer in
    let fits = Fits-layer_at false (length hops) hop inside (All-head HasAddresses hop hops has) (omega (arith, nine)) short in
    let long = length-written_layer false layer inside in (
      inside,
      (
        parsed_relay-written_layer false layer inside fits.0 fits.1,
        brings_back hops answer (omega (arith, nine)) (All-tail HasAddresses hop hops has) (omega (arith, long, short)),
      ),
    )

-- the message is relayed, unless the result is too long
pub relayed_whole : (hops : List Hop) (message : List ℕ) → IsWay hops → is_forward message ≡ false → relayed_message hops message ≢ Err TooLong
    → (bytes : List ℕ) × (relayed_message hops message ≡ Ok bytes)
relayed_whole [] message way client not = absurd (omega (arith, way.some))
relayed_whole (hop ∷ hops) message way client not =
    let is = relayed-around hop hops message client way.few way.addresses in
    (layers_around true (layers_of_hops (hop ∷ hops)) message, is ∙ limited-not _ (subst (λ r. r ≢ Err TooLong) is not))

-- the layers of a Relay-forward
layers_of-around : (hop : Hop) (hops : List Hop) (message : List ℕ) → layers_of (layers_around true (layers_of_hops (hop ∷ hops)) message) ≡ layers_within most_layers (layers_around true (layers_of_hops (hop ∷ hops)) message)
unfolding layers_of layers_around layers_of_hops written_layer
layers_of-around hop hops message = refl

-- a message that was relayed has the layers of the relay agents
layers_of-relayed : (hops : List Hop) (message bytes : List ℕ) → IsWay hops → is_forward message ≡ false → relayed_message hops message ≡ Ok bytes → layers_of bytes ≡ Ok (layers_of_hops hops)
layers_of-relayed [] message bytes way client is = absurd (omega (arith, way.some))
layers_of-relayed (hop ∷ hops) message bytes way client is =
    let found = limited-ok (layers_around true (layers_of_hops (hop ∷ hops)) message) bytes (sym (relayed-around hop hops message client way.few way.addresses) ∙ is) in
    subst (λ b. layers_of b ≡ Ok (layers_of_hops (hop ∷ hops))) found.0
    (layers_of-around hop hops message ∙ layers-around (hop ∷ hops) message most_layers client way.few way.few way.addresses found.1)

-- and its answer finds the way back
pub answer_comes_back : (hops : List Hop) (message answer bytes : List ℕ) → IsWay hops → is_forward message ≡ false → relayed_message hops message ≡ Ok bytes → reply_of bytes answer ≢ Err TooLong
    → (reply : List ℕ) × ((reply_of bytes answer ≡ Ok reply) × BringsBack hops reply answer)
unfolding reply_of
answer_comes_back hops message answer bytes way client is not =
    let layers = layers_of-relayed hops message bytes way client is in
    let step : Result (List LayerParts) RelayError → Result (List ℕ) RelayError = λ read. read >>= λ layers. within_limit (layers_around false layers answer) in
    let same : step (layers_of bytes) ≡ within_limit (layers_around false (layers_of_hops hops) answer) = ap step layers in
    let given : within_limit (layers_around false (layers_of_hops hops) answer) ≡ Ok (layers_around false (layers_of_hops hops) answer) = limited-not _ (subst (λ r. r ≢ Err TooLong) same not) in
    (layers_around false (layers_of_hops hops) answer, (same ∙ given, brings_back hops answer way.few way.addresses (limited-ok _ _ given).1))

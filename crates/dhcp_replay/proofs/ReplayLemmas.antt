-- The events of a script by their numbers.
use Rattle.std.proofs.Common.{Result, Ok, Err, ◌≡◌, ℕ, suc, ◌+◌, ◌<◌, ◌≤◌, ◌^◌, Bool, true, false, List, [], ◌∷◌, ◌++◌, length, take, get_or, refl, subst, sym, ap, ◌∙◌, arith}
use Rattle.std.specs.Prelude.{◌&&◌, nat_le, nat_lt, All, IfErr, OnOk, is_ok}
use Rattle.std.specs.List.{AllPass, list_all}
use Rattle.std.proofs.Math.Seq.{take-suc}
use Rattle.std.proofs.lemmas.List.{length-take-le}
use Rattle.std.proofs.lemmas.List.Elements.{All-cons, All-head, All-nil, All-tail}
use Rattle.std.proofs.lemmas.List.Sums.{AllPass-from_list_all}
use Rattle.std.proofs.lemmas.Bool.{false≢true, and_parts, leb-true, ltb-true}
use Rattle.dhcp_wire.specs.Error.{ErrorParts, no_memory}
use Rattle.dhcp_wire.specs.Outcome.{IsBoxError}
use Rattle.dhcp_wire.specs.declared.error.ErrorKind.TheVariants.{InvalidArgument}
use Rattle.dhcp_clock.specs.declared.link.Packet.{Packet}
use Rattle.dhcp_history.specs.declared.script.NumberedEvent.{NumberedEvent}
use Rattle.dhcp_script.specs.Event.{are_in_order, are_valid, is_within_limits, moment_limit, most_events, most_packet_bytes, packet_of}
use Rattle.dhcp_script.specs.declared.event.Event.{Event}
use Rattle.dhcp_replay.specs.Life.{CanPlay, IsRefusal, numbered, numbered_event}

numbered-append : (n : ℕ) (events : List Event) (event : Event) → numbered n (events ++ event ∷ []) ≡ numbered n events ++ numbered_event (n + length events) event ∷ []
numbered-append n [] event = ap (λ m. numbered_event m event ∷ []) (omega arith)
numbered-append n (first ∷ events) event =
    let shifted : suc n + length events ≡ n + length (first ∷ events) = omega arith in
    ap (λ rest. numbered_event n first ∷ rest) (numbered-append (suc n) events event ∙ ap (λ m. numbered (suc n) events ++ numbered_event m event ∷ []) shifted)

-- one event more
numbered_more : (i : ℕ) (events : List Event) (event : Event) → i < length events → event ≡ get_or events i event → numbered 1 (take (i + 1) events) ≡ numbered 1 (take i events) ++ numbered_event (1 + i) event ∷ []
numbered_more i events event below is =
    let next : i + 1 ≡ suc i = omega arith in
    let longer : take (i + 1) events ≡ take i events ++ event ∷ [] =
    ap (λ (n : ℕ). take n events) next ∙ take-suc events i event below ∙ ap (λ (e : Event). take i events ++ e ∷ []) (sym is) in
    let count : length (take i events) ≡ i = length-take-le i events (omega (arith, below)) in
    ap (λ (all : List Event). numbered 1 all) longer ∙ numbered-append 1 (take i events) event ∙ ap (λ (n : ℕ). numbered 1 (take i events) ++ numbered_event (1 + n) event ∷ []) count

-- and so where it is put at the end of those made so far
pub numbered_push : (i : ℕ) (events : List Event) (event : Event) (made items : List (NumberedEvent Packet)) (number : ℕ) (entry : NumberedEvent Packet) →
    i < length events → event ≡ get_or events i event → made ≡ numbered 1 (take i events) → number ≡ 1 + i → entry ≡ numbered_event number event →
    items ≡ made ++ entry ∷ [] → items ≡ numbered 1 (take (i + 1) events)
numbered_push i events event made items number entry below is made_is number_is entry_is pushed =
    pushed ∙ ap (λ (front : List (NumberedEvent Packet)). front ++ entry ∷ []) made_is
    ∙ ap (λ (last : NumberedEvent Packet). numbered 1 (take i events) ++ last ∷ []) entry_is
    ∙ ap (λ (n : ℕ). numbered 1 (take i events) ++ numbered_event n event ∷ []) number_is
    ∙ sym (numbered_more i events event below is)

-- every moment is below 2^60
numbered_below : (n : ℕ) (events : List Event) → AllPass is_within_limits events → All (λ (event : NumberedEvent Packet). event.moment < 2 ^ 60) (numbered n events)
numbered_below n [] all = All-nil (λ (event : NumberedEvent Packet). event.moment < 2 ^ 60)
numbered_below n (event ∷ events) all =
    All-cons (λ (event : NumberedEvent Packet). event.moment < 2 ^ 60) (numbered_event n event) (numbered (suc n) events)
    (ltb-true event.moment moment_limit (and_parts (nat_lt event.moment moment_limit) (nat_le (length (packet_of event.what)) most_packet_bytes) (All-head (λ (e : Event). is_within_limits e ≡ true) event events all)).0)
    (numbered_below (suc n) events (All-tail (λ (e : Event). is_within_limits e ≡ true) event events all))

-- the parts of the test of events
record AreValid (start : ℕ) (events : List Event) : Type 0 where
  begins : nat_lt start moment_limit ≡ true
  few : nat_le (length events) most_events ≡ true
  within : list_all is_within_limits events ≡ true

valid_parts : (start : ℕ) (events : List Event) → are_valid start events ≡ true → AreValid start events
unfolding are_valid
valid_parts start events valid =
    let most = and_parts (nat_lt start moment_limit && nat_le (length events) most_events && list_all is_within_limits events) (are_in_order start events) valid in
    let both = and_parts (nat_lt start moment_limit && nat_le (length events) most_events) (list_all is_within_limits events) most.0 in
    let first = and_parts (nat_lt start moment_limit) (nat_le (length events) most_events) both.0 in
    record { begins = first.0; few = first.1; within = both.1 }

-- a valid start is below 2^60
pub start_below : (start : ℕ) (events : List Event) → are_valid start events ≡ true → start < 2 ^ 60
start_below start events valid = ltb-true start moment_limit (valid_parts start events valid).begins

-- valid events are few
few_events : (start : ℕ) (events : List Event) → are_valid start events ≡ true → length events ≤ 20000
few_events start events valid = leb-true (length events) most_events (valid_parts start events valid).few

-- and their moments are below 2^60
moments_below : (start : ℕ) (events : List Event) (made : List (NumberedEvent Packet)) → made ≡ numbered 1 events → are_valid start events ≡ true → All (λ (event : NumberedEvent Packet). event.moment < 2 ^ 60) made
moments_below start events made is valid =
    let Below : List (NumberedEvent Packet) → Type 0 = λ all. All (λ (event : NumberedEvent Packet). event.moment < 2 ^ 60) all in
    subst Below (sym is) (numbered_below 1 events (AllPass-from_list_all is_within_limits events (valid_parts start events valid).within))

-- so they can be played
pub can_play : (start : ℕ) (events : List Event) → are_valid start events ≡ true → CanPlay events
can_play start events valid = record { few = few_events start events valid; moments = moments_below start events (numbered 1 events) refl valid }

-- where what is given is within its limits, the error of the rest is that of the whole
refusal_of_rest : (valid can : Bool) (error : ErrorParts) → valid ≡ true → IsRefusal can error → IsRefusal (valid && can) error
refusal_of_rest true can error is refusal = refusal
refusal_of_rest false can error is refusal = absurd cc

-- the error of a client that was to be put into a box
refusal_of_box : {X : Type 0} (made : Result X ErrorParts) (can : Bool) (error : ErrorParts) → IsBoxError made error → OnOk made (can ≡ true) →
    (can ≡ false → IfErr made (λ e. e.kind ≡ InvalidArgument)) → (can ≡ true → IfErr made (λ e. e ≡ no_memory)) → IsRefusal can error
refusal_of_box (Ok x) true error box begins refused errors = box
refusal_of_box (Ok x) false error box begins refused errors = absurd (false≢true begins)
refusal_of_box (Err e) true error box begins refused errors = box ∙ errors refl
refusal_of_box (Err e) false error box begins refused errors = ap (λ (parts : ErrorParts). parts.kind) box ∙ refused refl

-- a client that has begun is no error
pub error_of_begun : {X : Type 0} (made : Result X ErrorParts) → is_ok made ≡ true → IfErr made (λ error. error ≡ no_memory)
error_of_begun (Ok x) begun = tt
error_of_begun (Err error) begun = absurd (false≢true begun)

-- a client that can begin is put into a box, or out of memory
pub box_error : {X Y : Type 0} (result : Result Y ErrorParts) (made : Result X ErrorParts) → IfErr result (IsBoxError made) → IfErr made (λ error. error ≡ no_memory) →
    IfErr result (λ error. error ≡ no_memory)
box_error (Ok y) made box errors = tt
box_error (Err error) (Ok x) box errors = box
box_error (Err error) (Err other) box errors = box ∙ errors

-- the same of what the call returns that puts the client into a box, once what it is given is within its limits
pub boxed_refusal : {X Y : Type 0} (result : Result Y ErrorParts) (made : Result X ErrorParts) (valid can : Bool) → valid ≡ true → IfErr result (IsBoxError made) → OnOk made (can ≡ true) →
    (can ≡ false → IfErr made (λ e. e.kind ≡ InvalidArgument)) → (can ≡ true → IfErr made (λ e. e ≡ no_memory)) → IfErr result (IsRefusal (valid && can))
boxed_refusal (Ok y) made valid can is box begins refused errors = tt
boxed_refusal (Err error) made valid can is box begins refused errors = refusal_of_rest valid can error is (refusal_of_box made can error box begins refused errors)

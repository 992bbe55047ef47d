-- The script of a demonstration is valid.
use Rattle.std.proofs.Common.{◌≡◌, ℕ, zero, suc, ◌+◌, ◌*◌, ◌≤◌, true, List, [], ◌∷◌, ◌++◌, length, refl, sym, ap, ◌∙◌, append_assoc, append-nil, add-one, zero-add, arith}
use Rattle.std.specs.List.{flat_map, list_all, range_with_len}
use Rattle.std.proofs.lemmas.Bool.{lt-ltb, le-leb}
use Rattle.std.proofs.lemmas.Str.{IsUtf8-nil, is_utf8-from_IsUtf8}
use Rattle.dhcp_script.specs.declared.event.Event.{Event}
use Rattle.dhcp_script.specs.declared.event.EventWhat.TheVariants.{Frame, Nothing, Payload, Release}
use Rattle.dhcp_script.specs.declared.script4.Script4.{Script4}
use Rattle.dhcp_script.specs.Demo.{ack, demo_events, demo_script, event_at, most_rounds, offer, reply, reply_frame, round}
use Rattle.dhcp_script.specs.Event.{are_in_order, are_valid, is_within_limits, moment_limit, most_events}
use Rattle.dhcp_script.specs.Script4.{is_valid}

-- the events of n rounds from the one with this number on
rounds : ℕ → ℕ → List Event
rounds a n = flat_map (λ i. round (51000 * i)) (range_with_len a n)

-- one round more
rounds-more : (a n : ℕ) → rounds a (suc n) ≡ rounds a n ++ round (51000 * (a + n))
unfolding rounds
rounds-more a zero =
    let same : a ≡ a + 0 = omega arith in
    append-nil (round (51000 * a)) ∙ ap (λ k. round (51000 * k)) same
rounds-more a (suc n) =
    let same : a + 1 + n ≡ a + suc n = omega arith in
    let more = rounds (a + 1) n in
    ap (λ events. round (51000 * a) ++ events) (rounds-more (a + 1) n)
    ∙ sym (append_assoc (round (51000 * a)) more (round (51000 * (a + 1 + n))))
    ∙ ap (λ k. (round (51000 * a) ++ more) ++ round (51000 * k)) same

-- no round
pub demo_events-none : demo_events 0 ≡ event_at 0 Nothing ∷ []
unfolding demo_events
demo_events-none = refl

-- one round more
pub demo_events-more : (n : ℕ) → demo_events (n + 1) ≡ demo_events n ++ round (51000 * n)
unfolding demo_events rounds
demo_events-more n =
    ap demo_events (add-one n)
    ∙ ap (λ events. event_at 0 Nothing ∷ events) (rounds-more 0 n ∙ ap (λ k. rounds 0 n ++ round (51000 * k)) (zero-add n))

-- each round has five events
length-rounds : (a n : ℕ) → length (rounds a n) ≡ 5 * n
unfolding rounds round
length-rounds a zero = refl
length-rounds a (suc n) = let ih = length-rounds (a + 1) n in omega arith

-- each event of a round is within its limits
within-round : (start : ℕ) (events : List Event) → start ≤ 51000 * most_rounds → list_all is_within_limits events ≡ true
    → list_all is_within_limits (round start ++ events) ≡ true
unfolding round reply reply_frame
within-round start events early rest =
    rw (
      lt-ltb (start + 10) moment_limit (omega arith),
      lt-ltb (start + 20) moment_limit (omega arith),
      lt-ltb (start + 50020) moment_limit (omega arith),
      lt-ltb (start + 50030) moment_limit (omega arith),
      lt-ltb (start + 50040) moment_limit (omega arith),
    ) rest

within-rounds : (a n : ℕ) → a + n ≤ most_rounds → list_all is_within_limits (rounds a n) ≡ true
unfolding rounds
within-rounds a zero few = refl
within-rounds a (suc n) few = within-round (51000 * a) (rounds (a + 1) n) (omega arith) (within-rounds (a + 1) n (omega arith))

-- a round is in order, where what follows it is
order-round : (earliest start : ℕ) (events : List Event) → earliest ≤ start → are_in_order (start + 50040) events ≡ true
    → are_in_order earliest (round start ++ events) ≡ true
unfolding round
order-round earliest start events early rest =
    rw (
      le-leb earliest (start + 10) (omega arith),
      le-leb (start + 10) (start + 20) (omega arith),
      le-leb (start + 20) (start + 50020) (omega arith),
      le-leb (start + 50020) (start + 50030) (omega arith),
      le-leb (start + 50030) (start + 50040) (omega arith),
    ) rest

order-rounds : (earliest a n : ℕ) → earliest ≤ 51000 * a → are_in_order earliest (rounds a n) ≡ true
unfolding rounds
order-rounds earliest a zero early = refl
order-rounds earliest a (suc n) early =
    order-round earliest (51000 * a) (rounds (a + 1) n) early (order-rounds (51000 * a + 50040) (a + 1) n (omega arith))

-- the events are valid
demo_events-valid : (n : ℕ) → n ≤ most_rounds → are_valid 0 (demo_events n) ≡ true
unfolding are_valid demo_events rounds
demo_events-valid n few =
    let long = length-rounds 0 n in
    let fits : suc (length (rounds 0 n)) ≤ most_events = omega arith in
    rw (le-leb (suc (length (rounds 0 n))) most_events fits, within-rounds 0 n (omega arith), order-rounds 0 0 n (omega arith)) refl

-- so is the script
demo_script-valid : (n : ℕ) → n ≤ most_rounds → is_valid (demo_script n) ≡ true
unfolding is_valid demo_script
demo_script-valid n few = rw (is_utf8-from_IsUtf8 [] IsUtf8-nil, demo_events-valid n few) refl

-- the same of what the function makes
pub made-valid : (n : ℕ) (script : Script4) → n ≤ most_rounds → script ≡ demo_script n → is_valid script ≡ true
made-valid n script few is = ap is_valid is ∙ demo_script-valid n few

-- the events of a round, put one after the other
pub round-pushed : (old : List Event) (start : ℕ) → ((((old ++ event_at (start + 10) (Frame (reply_frame offer)) ∷ []) ++ event_at (start + 20) (Frame (reply_frame ack)) ∷ [])
    ++ event_at (start + 50020) Nothing ∷ []) ++ event_at (start + 50030) (Payload (reply ack)) ∷ []) ++ event_at (start + 50040) Release ∷ []
    ≡ old ++ round start
unfolding round
round-pushed old start = simp append_assoc

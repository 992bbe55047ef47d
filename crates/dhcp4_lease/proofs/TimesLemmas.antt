-- The times of a lease: how they are drawn, and that those that a message leaves out are in order.
use Rattle.std.proofs.Common.{◌≡◌, ◌⊎◌, inl, inr, ℕ, ◌+◌, ◌-◌, ◌*◌, ◌/◌, ◌%◌, ◌≤◌, List, Option, Some, None, IsSome, option_map, Result, Ok, Err, ok_or, ap, subst, sym, refl, arith}
use Rattle.std.proofs.lemmas.Bool.{le-leb, le-ltb}
use Rattle.dhcp_clock.specs.Words.{next_of, GivesNext, undrawn, drawn_word, drawn_then, Draws}
use Rattle.dhcp_clock.proofs.Draws.{draws_nothing, draws_word, draws_both, draws_same}
use Rattle.std.proofs.lemmas.Bool.Decides.{nat_tests}
use Rattle.dhcp_wire.specs.Error.{ErrorParts}
use Rattle.dhcp_wire.specs.Outcome.{Gives, Makes}
use Rattle.dhcp_wire.specs.declared.error.ErrorKind.TheVariants.{InvalidDhcpMessage}
use Rattle.dhcp4_msg.specs.declared.message.DhcpV4Message.{DhcpV4Message}
use Rattle.dhcp4_msg.specs.Options.{OptionMap, said_by}
use Rattle.dhcp4_msg.specs.Value.{seconds_said}
use Rattle.dhcp4_lease.specs.declared.lease.times.LeaseTimes.{LeaseTimes}
use Rattle.dhcp4_lease.specs.Lease.{drawn_about, said_or_drawn, times_of, ordered_times, read_times, Lease, lease_of, ReadsLease}

-- a time about this long: at most 2 seconds less or 1 second more, and just as long below 20 seconds
record IsAbout (base time : ℕ) : Type 0 where
  low : base ≤ time + 2
  high : time ≤ base + 1
  just : (time ≡ base) ⊎ (20 ≤ base)

drawn_is_about : (base : ℕ) (words : List ℕ) → IsAbout base (drawn_about base words).value
drawn_is_about base words = record {
  low = grind (arith, nat_tests);
  high = grind (arith, nat_tests);
  just = grind (arith, nat_tests);
}

-- about half of a time isn't past about seven eighths of it, nor that past the time
about_in_order : (lease_time t1 t2 : ℕ) → IsAbout (lease_time / 2) t1 → IsAbout (7 * lease_time / 8) t2 → (t1 ≤ t2) × (t2 ≤ lease_time)
about_in_order lease_time t1 t2 half most = ordered half.low half.high half.just most.low most.high most.just
  where
    ordered :
        lease_time / 2 ≤ t1 + 2 → t1 ≤ lease_time / 2 + 1 → (t1 ≡ lease_time / 2) ⊎ (20 ≤ lease_time / 2) →
        7 * lease_time / 8 ≤ t2 + 2 → t2 ≤ 7 * lease_time / 8 + 1 → (t2 ≡ 7 * lease_time / 8) ⊎ (20 ≤ 7 * lease_time / 8) →
        (t1 ≤ t2) × (t2 ≤ lease_time)
    ordered low high (inl just) low2 high2 (inl just2) = (omega arith, omega arith)
    ordered low high (inl just) low2 high2 (inr long2) = (omega arith, omega arith)
    ordered low high (inr long) low2 high2 (inl just2) = (omega arith, omega arith)
    ordered low high (inr long) low2 high2 (inr long2) = (omega arith, omega arith)

-- where neither time is said
unsaid_in_order : (t1_said t2_said : Option ℕ) (lease_time : ℕ) (words : List ℕ) → t1_said ≡ None → t2_said ≡ None →
    let t1 = said_or_drawn t1_said (lease_time / 2) words in
    let t2 = said_or_drawn t2_said (7 * lease_time / 8) t1.left in
    (t1.value ≤ t2.value) × (t2.value ≤ lease_time)
unfolding said_or_drawn
unsaid_in_order None None lease_time words _ _ =
    about_in_order lease_time _ _ (drawn_is_about (lease_time / 2) words) (drawn_is_about (7 * lease_time / 8) _)
unsaid_in_order (Some seconds) t2_said lease_time words is _ = cc
unsaid_in_order None (Some seconds) lease_time words _ is = cc

-- a message with a lease time and without the two others has its times
pub usual_times_are_read : (options : OptionMap) (words : List ℕ) → said_by seconds_said options 58 ≡ None → said_by seconds_said options 59 ≡ None → IsSome (said_by seconds_said options 51) → IsSome (read_times options words).value
unfolding read_times times_of
usual_times_are_read options words no_t1 no_t2 some = read (said_by seconds_said options 51) some
  where
    read : (said : Option ℕ) → IsSome said → IsSome (ordered_times options words said).value
    read None some = cc
    read (Some lease_time) some =
        let in_order = unsaid_in_order _ _ lease_time words no_t1 no_t2 in
        rw (le-leb _ _ in_order.0, le-leb _ _ in_order.1)

-- a time of 20 seconds or more is drawn by a word
pub about_long : (base : ℕ) (words : List ℕ) → 20 ≤ base → said_or_drawn None base words ≡ drawn_then drawn_word (λ word. undrawn (base - 2 + word % 4)) words
unfolding said_or_drawn
about_long base words long =
    let time : base + next_of words % 4 - 2 ≡ base - 2 + next_of words % 4 = omega arith in
    rw (le-ltb base 20 long, time) refl

-- where a word was taken for the time
pub drawn_by_word : (before after : Option (List ℕ)) (said : Option ℕ) (base word : ℕ) → said ≡ None → 20 ≤ base → GivesNext before word after →
    Draws before after (said_or_drawn said base) (λ time. time ≡ base - 2 + word % 4)
drawn_by_word before after said base word is long given =
    rw is (
    draws_same before after (drawn_then drawn_word (λ drawn. undrawn (base - 2 + drawn % 4))) (said_or_drawn None base) (λ time. time ≡ base - 2 + word % 4) (λ words. about_long base words long)
    (draws_both before after after drawn_word (λ drawn. undrawn (base - 2 + drawn % 4)) word (λ time. time ≡ base - 2 + word % 4)
    (draws_word before after word (λ drawn. drawn ≡ word) given refl)
    (draws_nothing after (base - 2 + word % 4) (λ time. time ≡ base - 2 + word % 4) refl)))

-- T1 is drawn, and T2 after it
pub draws_times : (before between after : Option (List ℕ)) (options : OptionMap) (lease_time : ℕ) (renewal rebinding : Option ℕ) (most t1 t2 : ℕ) →
    renewal ≡ said_by seconds_said options 58 → rebinding ≡ said_by seconds_said options 59 → most ≡ 7 * lease_time / 8 →
    Draws before between (said_or_drawn renewal (lease_time / 2)) (λ time. time ≡ t1) →
    Draws between after (said_or_drawn rebinding most) (λ time. time ≡ t2) →
    Draws before after (times_of options lease_time) (λ times. times ≡ record { t1_sec = t1; t2_sec = t2; lease_time_sec = lease_time })
unfolding times_of
draws_times before between after options lease_time renewal rebinding most t1 t2 is_renewal is_rebinding is_most first second =
    let all : ℕ → ℕ → LeaseTimes = λ one two. record { t1_sec = one; t2_sec = two; lease_time_sec = lease_time } in
    let half = said_or_drawn (said_by seconds_said options 58) (lease_time / 2) in
    let late = said_or_drawn (said_by seconds_said options 59) (7 * lease_time / 8) in
    let t1_drawn : Draws before between half (λ time. time ≡ t1) =
    subst (λ said. Draws before between (said_or_drawn said (lease_time / 2)) (λ time. time ≡ t1)) is_renewal first in
    let t2_about : Draws between after (said_or_drawn rebinding (7 * lease_time / 8)) (λ time. time ≡ t2) =
    subst (λ base. Draws between after (said_or_drawn rebinding base) (λ time. time ≡ t2)) is_most second in
    let t2_drawn : Draws between after late (λ time. time ≡ t2) =
    subst (λ said. Draws between after (said_or_drawn said (7 * lease_time / 8)) (λ time. time ≡ t2)) is_rebinding t2_about in
    draws_both before between after half (λ one. drawn_then late (λ two. undrawn (all one two))) t1 (λ times. times ≡ all t1 t2) t1_drawn
    (draws_both between after after late (λ two. undrawn (all t1 two)) t2 (λ times. times ≡ all t1 t2) t2_drawn
    (draws_nothing after (all t1 t2) (λ times. times ≡ all t1 t2) refl))

-- what a call makes, it gives
pub makes_gives : {X : Type 0} (result : Result X ErrorParts) (made : X) → Makes (λ x. x) result made → Gives (λ x. x) result (Ok made)
makes_gives (Ok x) made is = ap Ok (sym is)
makes_gives (Err e) made is = inl is

-- the lease of a message whose times are drawn, or none
reads_given : (before after : Option (List ℕ)) (result : Result Lease ErrorParts) (message : DhcpV4Message) (drawn times : Option LeaseTimes) →
    drawn ≡ times → Draws before after (read_times message.options) (λ value. value ≡ drawn) →
    Gives (λ lease. lease) result (ok_or (option_map (lease_of message) times) InvalidDhcpMessage) → ReadsLease before result after message
reads_given before after result message drawn times is read given =
    let granted : Option LeaseTimes → Option Lease = option_map (lease_of message) in
    let says : Option Lease → Type 0 = λ lease. Gives (λ lease. lease) result (ok_or lease InvalidDhcpMessage) in
    draws_both before after after (read_times message.options) (λ times. undrawn (granted times)) drawn says read
    (draws_nothing after (granted drawn) says (subst (λ times. says (granted times)) (sym is) given))

-- the lease of a message whose times are in order
pub reads_lease : (before after : Option (List ℕ)) (result : Result Lease ErrorParts) (message : DhcpV4Message) (drawn : Option LeaseTimes) (times : LeaseTimes) →
    drawn ≡ Some times → Draws before after (read_times message.options) (λ value. value ≡ drawn) → Makes (λ lease. lease) result (lease_of message times) →
    ReadsLease before result after message
reads_lease before after result message drawn times is read made =
    reads_given before after result message drawn (Some times) is read (makes_gives result (lease_of message times) made)

-- a message without times, or with times out of order, is refused
pub reads_none : (before after : Option (List ℕ)) (error : ErrorParts) (message : DhcpV4Message) (drawn : Option LeaseTimes) →
    drawn ≡ None → Draws before after (read_times message.options) (λ value. value ≡ drawn) → error.kind ≡ InvalidDhcpMessage → ReadsLease before (Err error) after message
reads_none before after error message drawn is read kind = reads_given before after (Err error) message drawn None is read (inr (ap Err (sym kind)))

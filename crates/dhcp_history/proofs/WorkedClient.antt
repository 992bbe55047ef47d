-- A small client, by which the rules of histories are worked out on scripts. It looks for a server, asks for the lease that it
-- was offered, holds the lease until its renewal time, and renews it until it expires.
use Rattle.std.proofs.Common.{◌≡◌, ℕ, suc, ◌+◌, ◌-◌, ◌%◌, ◌≤◌, ◌<◌, Bool, true, false, List, refl, arith}
use Rattle.std.specs.Prelude.{Option, Some, None, drop, nat_le, ◌||◌}
use Rattle.std.proofs.lemmas.Bool.{leb-false}
use Rattle.dhcp_clock.specs.Wait.{half_wait}
use Rattle.dhcp_clock.specs.Words.{next_of}
use Rattle.dhcp_history.specs.declared.rules.AttemptStart.{AttemptStart}
use Rattle.dhcp_history.specs.declared.rules.NewAttempt.{NewAttempt}
use Rattle.dhcp_clock.specs.Words.{Drawn}
use Rattle.dhcp_history.specs.Protocol.{Protocol, Lawful, NextState, has_come, pause_of}

-- a lease: its renewal time and its lease time, in milliseconds
pub record Lease : Type 0 where
  pub renewal : ℕ
  pub lasts : ℕ

-- a state, with the lease that it rests on and the moment from which that counts
pub data State : Type 0 where
  Selecting : State
  Requesting : Lease → State
  Bound : Lease → ℕ → State
  Renewing : Lease → ℕ → State

-- a message, with the number of taken messages before it
pub data Message : Type 0 where
  Discover : ℕ → Message
  Request : ℕ → Message
  Renew : ℕ → Message
  Return : Lease → Message

-- a packet offers or gives a lease, or refuses it
pub data Packet : Type 0 where
  Lends : Lease → Packet
  Refuses : Packet

abbrev pub has_attempts : State → Bool
has_attempts Selecting = true
has_attempts (Requesting lease) = true
has_attempts (Bound lease since) = false
has_attempts (Renewing lease since) = true

-- only a client that looks for a server waits before it sends: up to a second, by a random word
abbrev pub pause : State → ℕ → List ℕ → Drawn ℕ
pause Selecting count words = record { value = next_of words % 1000; left = drop 1 words }
pause (Requesting lease) count words = record { value = 0; left = words }
pause (Bound lease since) count words = record { value = 0; left = words }
pause (Renewing lease since) count words = record { value = 0; left = words }

abbrev pub sends : State → ℕ → ℕ → NewAttempt ℕ Message
sends Selecting count now = record { wait = 4000; message = Discover count; exchange = count }
sends (Requesting lease) count now = record { wait = 4000; message = Request count; exchange = count }
sends (Bound lease since) count now = record { wait = 1; message = Renew count; exchange = count }
sends (Renewing lease since) count now = record { wait = half_wait (since + lease.lasts - now); message = Renew count; exchange = count }

-- a client asks for a lease twice at most
abbrev pub is_last : State → ℕ → Bool
is_last Selecting count = false
is_last (Requesting lease) count = nat_le 1 count
is_last (Bound lease since) count = false
is_last (Renewing lease since) count = false

-- what a packet answers: the lease that it offers or gives, or none
abbrev pub reads : State → Packet → Option (Option Lease)
reads Selecting (Lends lease) = Some (Some lease)
reads Selecting Refuses = None
reads (Requesting lease) (Lends given) = Some (Some given)
reads (Requesting lease) Refuses = Some None
reads (Bound lease since) packet = None
reads (Renewing lease since) (Lends given) = Some (Some given)
reads (Renewing lease since) Refuses = Some None

abbrev pub ending : State → Option ℕ
ending Selecting = None
ending (Requesting lease) = None
ending (Bound lease since) = Some (since + lease.renewal)
ending (Renewing lease since) = Some (since + lease.lasts)

abbrev pub given : State → Lease → ℕ → State
given Selecting lease now = Requesting lease
given (Requesting offered) lease now = Bound lease now
given (Bound old since) lease now = Bound lease now
given (Renewing old since) lease now = Bound lease now

abbrev pub answers : State → Option Lease → ℕ → NextState State ℕ
answers state None now = record { state = Selecting; exchange = 0 }
answers state (Some lease) now = record { state = given state lease now; exchange = 0 }

abbrev pub ends_in : State → State
ends_in Selecting = Selecting
ends_in (Requesting lease) = Selecting
ends_in (Bound lease since) = Renewing lease since
ends_in (Renewing lease since) = Selecting

abbrev pub held : State → Option Lease
held Selecting = None
held (Requesting lease) = None
held (Bound lease since) = Some lease
held (Renewing lease since) = Some lease

-- the exchange counts the messages of a state that the link took
abbrev pub client : Protocol State Packet Message State ℕ (Option Lease) Lease
client = record {
  public_state = λ state. state;
  has_attempts = has_attempts;
  pause = pause;
  attempt = λ state count start words. record { value = sends state count start.now; left = words };
  after_wait = λ count. count + 1;
  is_last_attempt = is_last;
  reading = λ state count packet words. record { value = reads state packet; left = words };
  ending_moment = ending;
  after_answer = λ state answer now count. answers state answer now;
  after_end = λ state count. record { state = ends_in state; exchange = 0 };
  after_clean_up = λ count. record { state = Selecting; exchange = 0 };
  held_lease = held;
  release_message = λ lease count. Return lease;
}

-- how many changes an event can bring at most, where its packet is left or not
abbrev rank : State → Bool → ℕ
rank Selecting false = 0
rank Selecting true = 2
rank (Requesting lease) false = 1
rank (Requesting lease) true = 3
rank (Bound lease since) false = 2
rank (Bound lease since) true = 4
rank (Renewing lease since) false = 1
rank (Renewing lease since) true = 3

wait_positive : (state : State) (count : ℕ) (start : AttemptStart) → has_come start.now (ending state) ≡ false → 0 < (sends state count start.now).wait
wait_positive Selecting count start h = omega arith
wait_positive (Requesting lease) count start h = omega arith
wait_positive (Bound lease since) count start h = omega arith
wait_positive (Renewing lease since) count start h = omega (arith, leb-false (since + lease.lasts) start.now h)

wait_within : (state : State) (count : ℕ) (start : AttemptStart) (moment : ℕ) → has_attempts state ≡ true → ending state ≡ Some moment → start.now < moment → start.now + (sends state count start.now).wait ≤ moment
wait_within Selecting count start moment a e h = absurd (cc e)
wait_within (Requesting lease) count start moment a e h = absurd (cc e)
wait_within (Bound lease since) count start moment a e h = absurd (cc a)
wait_within (Renewing lease since) count start moment a e h = let same : since + lease.lasts ≡ moment = cc e in omega (arith, same, h)

ended_draws_none : (state : State) (count : ℕ) (words : List ℕ) (now : ℕ) → has_come now (ending state) ≡ true → (pause_of client state count words).left ≡ words
ended_draws_none Selecting count words now h = absurd (cc h)
ended_draws_none (Requesting lease) count words now h = refl
ended_draws_none (Bound lease since) count words now h = refl
ended_draws_none (Renewing lease since) count words now h = refl

rank_bound : (state : State) (packet : Bool) → rank state packet ≤ 6
rank_bound Selecting false = omega arith
rank_bound Selecting true = omega arith
rank_bound (Requesting lease) false = omega arith
rank_bound (Requesting lease) true = omega arith
rank_bound (Bound lease since) false = omega arith
rank_bound (Bound lease since) true = omega arith
rank_bound (Renewing lease since) false = omega arith
rank_bound (Renewing lease since) true = omega arith

rank_ended : (state : State) (count : ℕ) (packet : Bool) (now : ℕ) → (has_come now (ending state) || is_last state count) ≡ true → suc (rank (ends_in state) packet) ≤ rank state packet
rank_ended Selecting count packet now h = absurd (cc h)
rank_ended (Requesting lease) count false now h = omega arith
rank_ended (Requesting lease) count true now h = omega arith
rank_ended (Bound lease since) count false now h = omega arith
rank_ended (Bound lease since) count true now h = omega arith
rank_ended (Renewing lease since) count false now h = omega arith
rank_ended (Renewing lease since) count true now h = omega arith

rank_answered : (state : State) (packet : Packet) (answer : Option Lease) (now : ℕ) → reads state packet ≡ Some answer → suc (rank (answers state answer now).state false) ≤ rank state true
rank_answered Selecting Refuses answer now h = absurd (cc h)
rank_answered Selecting (Lends lease) None now h = omega arith
rank_answered Selecting (Lends lease) (Some given) now h = omega arith
rank_answered (Requesting offered) packet None now h = omega arith
rank_answered (Requesting offered) packet (Some given) now h = omega arith
rank_answered (Bound old since) packet answer now h = absurd (cc h)
rank_answered (Renewing old since) packet None now h = omega arith
rank_answered (Renewing old since) packet (Some given) now h = omega arith

-- so all laws hold of this client
pub client_lawful : Lawful client
client_lawful = record {
  wait_positive = λ state count start words h. wait_positive state count start h;
  wait_within = λ state count start words moment a e h. wait_within state count start moment a e h;
  ended_draws_none = ended_draws_none;
  rank = rank;
  rank_bound = rank_bound;
  rank_ended = λ state count after packet now h. rank_ended state count packet now h;
  rank_answered = λ state count packet words answer now h. rank_answered state packet answer now h;
}

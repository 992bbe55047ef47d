-- A DHCP protocol as a table of states (RFC 2131 section 4.4, RFC 8415 section 18.2): what a client
-- sends in each state and when, which packets answer it, and which state follows.
use Rattle.std.specs.Prelude.{ℕ, suc, ◌+◌, ◌≤◌, ◌<◌, ◌≡◌, Bool, true, false, ◌||◌, nat_le, List, Option, Some, None, if◌then◌else◌}
use Rattle.dhcp_clock.specs.Words.{Drawn}
use Rattle.dhcp_history.specs.declared.rules.AttemptStart.{AttemptStart}
use Rattle.dhcp_history.specs.declared.rules.NewAttempt.{NewAttempt}

-- the state that comes next, and the exchange with which it begins
pub record NextState (State Exchange : Type 0) : Type 0 where
  pub state : State
  pub exchange : Exchange

-- A protocol. A state has with it what it rests on: an offer, or a lease and the moment at which it
-- was taken. An exchange is what a client keeps from one attempt to the next: the transaction id,
-- how often it has sent, its previous wait. Moments and waits are in milliseconds.
pub record Protocol (PublicState Packet Message State Exchange Answer Lease : Type 0) : Type 0 where
  -- what the client reports of a state
  pub public_state : State → PublicState
  -- whether the client sends in a state; there its time limit counts
  pub has_attempts : State → Bool
  -- how long it waits before it sends for the first time, where it does
  pub pause : State → Exchange → List ℕ → Drawn ℕ
  -- an attempt: its message, how long an answer is awaited, and the exchange from then on
  pub attempt : State → Exchange → AttemptStart → List ℕ → Drawn (NewAttempt Exchange Message)
  -- the exchange once the wait of an attempt that the link took is over
  pub after_wait : Exchange → Exchange
  -- whether the state ends once the wait of this attempt is over, if the link took it
  pub is_last_attempt : State → Exchange → Bool
  -- what a packet answers to an open attempt: a lease, the refusal of one, or nothing
  pub reading : State → Exchange → Packet → List ℕ → Drawn (Option Answer)
  -- the moment at which a state ends
  pub ending_moment : State → Option ℕ
  -- what comes after an answer at a moment, after the end of a state, and after a clean-up
  pub after_answer : State → Answer → ℕ → Exchange → NextState State Exchange
  pub after_end : State → Exchange → NextState State Exchange
  pub after_clean_up : Exchange → NextState State Exchange
  -- the lease that is held in a state, and the message that releases it
  pub held_lease : State → Option Lease
  pub release_message : Lease → Exchange → Message

-- whether there is such a moment, and it has come
abbrev pub has_come : ℕ → Option ℕ → Bool
has_come now None = false
has_come now (Some moment) = nat_le moment now

-- the pause of a state; where the client does not send, it draws none
abbrev pub pause_of : {PublicState Packet Message State Exchange Answer Lease : Type 0} →
    Protocol PublicState Packet Message State Exchange Answer Lease → State → Exchange → List ℕ →
    Drawn ℕ
pause_of p state exchange words =
    if p.has_attempts state then p.pause state exchange words
    else record { value = 0; left = words }

-- What the theory asks of a protocol. `rank` is how many changes of state one event can bring at
-- most from a state on, where its packet is left or not.
pub record Lawful {PublicState Packet Message State Exchange Answer Lease : Type 0}
    (p : Protocol PublicState Packet Message State Exchange Answer Lease) : Type 0 where
  -- every wait is at least a millisecond
  pub wait_positive : (state : State) (exchange : Exchange) (start : AttemptStart)
      (words : List ℕ) →
      has_come start.now (p.ending_moment state) ≡ false →
      0 < (p.attempt state exchange start words).value.wait
  -- a wait is over by the moment at which the state ends
  pub wait_within : (state : State) (exchange : Exchange) (start : AttemptStart) (words : List ℕ)
      (moment : ℕ) → p.has_attempts state ≡ true →
      p.ending_moment state ≡ Some moment → start.now < moment →
      start.now + (p.attempt state exchange start words).value.wait ≤ moment
  -- a state whose ending moment has come draws no pause
  pub ended_draws_none : (state : State) (exchange : Exchange) (words : List ℕ) (now : ℕ) →
      has_come now (p.ending_moment state) ≡ true → (pause_of p state exchange words).left ≡ words
  -- the changes of one event come to an end
  pub rank : State → Bool → ℕ
  pub rank_bound : (state : State) (has_packet : Bool) → rank state has_packet ≤ 6
  pub rank_ended : (state : State) (exchange after : Exchange) (has_packet : Bool) (now : ℕ) →
      (has_come now (p.ending_moment state) || p.is_last_attempt state exchange) ≡ true →
      suc (rank (p.after_end state after).state has_packet) ≤ rank state has_packet
  pub rank_answered : (state : State) (exchange : Exchange) (packet : Packet) (words : List ℕ)
      (answer : Answer) (now : ℕ) → (p.reading state exchange packet words).value ≡ Some answer →
      suc (rank (p.after_answer state answer now exchange).state false) ≤ rank state true

-- When a client next does something without a packet.
use Rattle.std.specs.Prelude.{◌≡◌, ℕ, min, Bool, true, false, ◌&&◌, ◌||◌, is_some, Option, Some, None, if◌then◌else◌}
use Rattle.dhcp_history.specs.declared.client.Client.{Client}
use Rattle.dhcp_history.specs.Protocol.{Protocol, has_come}
use Rattle.dhcp_history.specs.Script.{Nothing}
use Rattle.dhcp_history.specs.History.{limit_moment}
use Rattle.dhcp_history.specs.Machine.{View, PollEffect, Phase, Unpolled, Pausing, Listening, Resting, Stopped, is_unpolled, begin_stay}

-- the earlier of two moments, where there are any
abbrev pub earlier : Option ℕ → Option ℕ → Option ℕ
earlier None second = second
earlier (Some first) None = Some first
earlier (Some first) (Some second) = Some (min first second)

-- a client in a state in which it sends has a next attempt, once it was polled there
abbrev pub HasNextAttempt : {State Exchange : Type 0} → (State → Bool) → Client State Exchange →
    Type 0
HasNextAttempt has_attempts client =
    is_unpolled client.standing.phase ≡ false → has_attempts client.state ≡ true →
    is_some client.standing.deadline ≡ true

-- a poll that answers a change or the error, sends, or begins a pause
abbrev pub IsActive : {Packet Message State Exchange : Type 0} → View State Exchange →
    PollEffect Packet Message State Exchange → Type 0
IsActive view once =
    (is_some once.change || (once.failed || (is_some once.handed ||
    (is_unpolled view.phase && is_some once.view.deadline)))) ≡ true

module _ {PublicState Packet Message State Exchange Answer Lease : Type 0}
    (p : Protocol PublicState Packet Message State Exchange Answer Lease) where
  -- the next attempt, the end of the state or that of the time limit, whichever comes first
  abbrev pub next_moment : Client State Exchange → Option ℕ
  next_moment client =
      earlier client.standing.deadline
      (earlier (p.ending_moment client.state)
      (limit_moment p client.timeout_sec client.standing.entered client.state))

  -- The moment of the next poll that does something. A client that was not polled in its state is
  -- polled at once where it sends there, and else at the end of the state. A client that has
  -- stopped does nothing any more.
  abbrev pub next_poll_in : Phase → Client State Exchange → Option ℕ
  next_poll_in Stopped client = None
  next_poll_in Unpolled client =
      if p.has_attempts client.state then Some client.last_moment else p.ending_moment client.state
  next_poll_in Pausing client = next_moment client
  next_poll_in Listening client = next_moment client
  next_poll_in Resting client = next_moment client

  abbrev pub next_poll : Client State Exchange → Option ℕ
  next_poll client = next_poll_in client.standing.phase client

  -- A poll that answers nothing, sends nothing and draws nothing. It leaves the client as it was,
  -- but that it may have been the first poll in a state.
  pub record IsIdle (now : ℕ) (view : View State Exchange)
      (once : PollEffect Packet Message State Exchange) : Type 0 where
    pub does : once ≡ record {
      view = begin_stay p now view;
      handed = None;
      left = Nothing;
      change = None;
      failed = false;
    }
    pub draws : (begin_stay p now view).words ≡ view.words

  -- Nothing is due: the client was polled in its state, which has not ended, and has nothing to do
  -- by itself until a later moment, if it ever has.
  pub record IsSettled (now : ℕ) (client : Client State Exchange) : Type 0 where
    pub polled : is_unpolled client.standing.phase ≡ false
    pub lasts : has_come now (p.ending_moment client.state) ≡ false
    pub later : has_come now (next_poll client) ≡ false

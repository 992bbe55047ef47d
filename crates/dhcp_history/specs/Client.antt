-- A client, as the protocol sees it.
use Rattle.std.specs.Prelude.{◌≡◌, ℕ, List, None}
use Rattle.dhcp_history.specs.declared.client.Client.{Client}
use Rattle.dhcp_history.specs.declared.client.Phase.{Phase}
use Rattle.dhcp_history.specs.declared.client.Standing.{Standing}
use Rattle.dhcp_history.specs.Machine.{View, Unpolled, Pausing, Listening, Resting, Stopped}

-- a client that stands so in its state, with these words left
abbrev pub view_with : {State Exchange : Type 0} → Client State Exchange → Standing Exchange →
    List ℕ → View State Exchange
view_with client standing words = record {
  state = client.state;
  exchange = standing.exchange;
  timeout_sec = client.timeout_sec;
  entered = standing.entered;
  phase = standing.phase;
  deadline = standing.deadline;
  words = words;
}

-- a client, with these words left
abbrev pub view_of : {State Exchange : Type 0} → Client State Exchange → List ℕ →
    View State Exchange
view_of client words = view_with client client.standing words

-- how a client stands that was not polled in its state yet
abbrev pub unpolled : {Exchange : Type 0} → Exchange → Standing Exchange
unpolled exchange = record { exchange = exchange; entered = 0; phase = Unpolled; deadline = None }

-- and one that was polled now for the first time in a state in which it does not send
abbrev pub silent : {Exchange : Type 0} → ℕ → Exchange → Standing Exchange
silent now exchange =
    record { exchange = exchange; entered = now; phase = Pausing; deadline = None }

-- how one stands that was brought into a state with this exchange: it was not polled yet, and an
-- error that is kept stays
abbrev pub phase_anew : Phase → Phase
phase_anew Unpolled = Unpolled
phase_anew Pausing = Unpolled
phase_anew Listening = Unpolled
phase_anew Resting = Unpolled
phase_anew Stopped = Stopped

abbrev pub standing_anew : {Exchange : Type 0} → Phase → Exchange → Standing Exchange
standing_anew phase exchange =
    record { exchange = exchange; entered = 0; phase = phase_anew phase; deadline = None }

module _ {State Exchange : Type 0} (given : State) (exchange : Exchange) where
  -- a client that begins in the given state, with this time limit and this last moment
  pub record BeginsIn (timeout_sec now : ℕ) (client : Client State Exchange) : Type 0 where
    pub state : client.state ≡ given
    pub standing : client.standing ≡ unpolled exchange
    pub timeout : client.timeout_sec ≡ timeout_sec
    pub moment : client.last_moment ≡ now

  -- a client that was brought into the given state at a moment
  pub record Enters (now : ℕ) (old new : Client State Exchange) : Type 0 where
    pub state : new.state ≡ given
    pub standing : new.standing ≡ standing_anew old.standing.phase exchange
    pub timeout : new.timeout_sec ≡ old.timeout_sec
    pub moment : new.last_moment ≡ now

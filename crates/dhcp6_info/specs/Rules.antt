-- The table of states, RFC 8415 section 18.2.6: one function for each column, every state named.
use Rattle.std.specs.Prelude.{ℕ, ◌-◌, ◌==◌, Bool, true, false, List, Option, Some, None, is_some, if◌then◌else◌}
use Rattle.dhcp_clock.specs.declared.link.Packet.{Packet}
use Rattle.dhcp_clock.specs.declared.link.Handed.{Handed}
use Rattle.dhcp_clock.specs.Wait.{draw, retransmit_wait}
use Rattle.dhcp_clock.specs.Words.{Drawn, undrawn, drawn_word, drawn_then}
use Rattle.dhcp_history.specs.BoundLease.{Bound, after}
use Rattle.dhcp_history.specs.declared.rules.AttemptStart.{AttemptStart}
use Rattle.dhcp_history.specs.declared.rules.NewAttempt.{NewAttempt}
use Rattle.dhcp_history.specs.Protocol.{Protocol, NextState}
use Rattle.dhcp6_msg.specs.Config.{Config}
use Rattle.dhcp6_msg.specs.Exchange.{new_id}
use Rattle.dhcp6_info.specs.declared.client_state.ClientState.{ClientState}
use Rattle.dhcp6_info.specs.declared.client_state.ClientState.TheVariants.{Inform, Done}
use Rattle.dhcp6_info.specs.declared.client_state.Exchange.{Exchange}
use Rattle.dhcp6_info.specs.declared.client_state.NoLease.{NoLease}
use Rattle.dhcp6_info.specs.declared.info.DhcpV6Info.{DhcpV6Info}
use Rattle.dhcp6_info.specs.declared.state.PlainInfoState.{PlainInfoState}
use Rattle.dhcp6_info.specs.declared.state.PlainInfoState.TheVariants as plain
use Rattle.dhcp6_info.specs.Answer.{info_in, reply_for}
use Rattle.dhcp6_info.specs.Message.{attempt_message}

-- what the client reports of a state
abbrev pub public_state : ClientState → PlainInfoState
public_state Inform = plain.Inform
public_state (Done bound) = plain.Done bound.lease

-- whether it sends; there its time limit counts
abbrev pub has_attempts : ClientState → Bool
has_attempts Inform = true
has_attempts (Done bound) = false

-- the moment at which a configuration is to be refreshed; 2 ^ 32 - 1 seconds is never (RFC 8415,
-- section 21.23)
abbrev pub refresh_moment : Bound DhcpV6Info → Option ℕ
refresh_moment bound =
    if bound.lease.refresh_sec == 4294967295 then None
    else Some (after bound bound.lease.refresh_sec)

-- the moment at which a state ends
abbrev pub ending_moment : ClientState → Option ℕ
ending_moment Inform = None
ending_moment (Done bound) = refresh_moment bound

-- before its first Information-request a client waits less than a second, INF_MAX_DELAY (RFC 8415,
-- section 18.2.6)
abbrev pub first_pause : List ℕ → Drawn ℕ
first_pause = drawn_then drawn_word (λ word. undrawn (draw 0 1000 word))

abbrev pub pause : ClientState → Exchange → List ℕ → Drawn ℕ
pause Inform exchange words = first_pause words
pause (Done bound) exchange words = undrawn 0 words

-- how long an answer is awaited: INF_TIMEOUT and INF_MAX_RT (RFC 8415, section 7.6); no end of it
-- is set by a count or a duration
abbrev pub wait : Exchange → List ℕ → Drawn ℕ
wait exchange = retransmit_wait exchange.previous_wait 1000 3600000

-- the first message of a stay has a new id, each further one the same (RFC 8415, section 16.1)
abbrev pub transaction_id : Bool → Exchange → List ℕ → Drawn ℕ
transaction_id true exchange = drawn_then drawn_word (λ word. undrawn (new_id word))
transaction_id false exchange = undrawn exchange.xid

-- for how many milliseconds the client has tried, from the first poll of its stay on; RFC 8415
-- section 21.9 asks for 0 in the first message, and here the pause is in it
abbrev pub elapsed_time : AttemptStart → ℕ
elapsed_time start = start.now - start.entered

-- an attempt with this transaction id and wait
abbrev pub attempt_with : Config → AttemptStart → ℕ → ℕ → NewAttempt Exchange Handed
attempt_with config start xid time = record {
  wait = time;
  message = attempt_message xid config (elapsed_time start);
  exchange = record { xid = xid; previous_wait = time };
}

-- an attempt: its transaction id and its wait are drawn, in this order; a client that is done makes
-- none
abbrev pub attempt : Config → ClientState → Exchange → AttemptStart → List ℕ →
    Drawn (NewAttempt Exchange Handed)
attempt config state exchange start =
    drawn_then (transaction_id start.is_first exchange) (λ xid.
    drawn_then (wait exchange) (λ wait. undrawn (attempt_with config start xid wait)))

-- a wait that is over is not counted
abbrev pub after_wait : Exchange → Exchange
after_wait exchange = exchange

-- so there is no last attempt
abbrev pub is_last_attempt : ClientState → Exchange → Bool
is_last_attempt Inform exchange = false
is_last_attempt (Done bound) exchange = false

-- what a packet answers; it draws nothing
abbrev pub answer_of : ClientState → Exchange → Packet → Option DhcpV6Info
answer_of Inform exchange packet = info_in exchange.xid packet
answer_of (Done bound) exchange packet = None

abbrev pub reading : ClientState → Exchange → Packet → List ℕ → Drawn (Option DhcpV6Info)
reading state exchange packet words = undrawn (answer_of state exchange packet) words

-- a packet may answer an open attempt if it is a Reply with the transaction id of the attempt
abbrev pub may_answer : ClientState → Exchange → Packet → Bool
may_answer Inform exchange packet = is_some (reply_for exchange.xid packet)
may_answer (Done bound) exchange packet = false

-- an exchange whose previous wait begins anew
abbrev pub restarted : Exchange → Exchange
restarted exchange = record exchange { previous_wait = 0 }

-- the next state, with no previous wait
abbrev pub starting : ClientState → Exchange → NextState ClientState Exchange
starting state exchange = record { state = state; exchange = restarted exchange }

-- the state after a configuration was given; a client that is done awaits none
abbrev pub after_answer : ClientState → DhcpV6Info → ℕ → Exchange →
    NextState ClientState Exchange
after_answer Inform info now exchange =
    starting (Done (record { lease = info; since = now })) exchange
after_answer (Done bound) info now exchange =
    starting (Done (record { lease = info; since = now })) exchange

-- the state after the end of one, and after a clean-up
abbrev pub after_end : ClientState → Exchange → NextState ClientState Exchange
after_end Inform exchange = starting Inform exchange
after_end (Done bound) exchange = starting Inform exchange

abbrev pub after_clean_up : Exchange → NextState ClientState Exchange
after_clean_up exchange = starting Inform exchange

-- no lease is ever held, and so none is released
abbrev pub held_lease : ClientState → Option NoLease
held_lease state = None

abbrev pub release_message : NoLease → Exchange → Handed
release_message lease exchange = elim lease [ ]

-- the protocol of a client with this configuration
abbrev pub protocol : Config →
    Protocol PlainInfoState Packet Handed ClientState Exchange DhcpV6Info NoLease
protocol config = record {
  public_state = public_state;
  has_attempts = has_attempts;
  pause = pause;
  attempt = attempt config;
  after_wait = after_wait;
  is_last_attempt = is_last_attempt;
  reading = reading;
  ending_moment = ending_moment;
  after_answer = after_answer;
  after_end = after_end;
  after_clean_up = after_clean_up;
  held_lease = held_lease;
  release_message = release_message;
}

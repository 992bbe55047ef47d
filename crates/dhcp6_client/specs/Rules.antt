-- The table of states, RFC 8415 section 18.2: one function for each column, every state named.
use Rattle.std.specs.Prelude.{ℕ, ◌+◌, ◌-◌, ◌^◌, min, max, nat_le, Bool, true, false, List, Option, Some, None, is_some}
use Rattle.dhcp_clock.specs.declared.link.Packet.{Packet}
use Rattle.dhcp_clock.specs.declared.link.Handed.{Handed}
use Rattle.dhcp_clock.specs.Wait.{draw, retransmit_wait}
use Rattle.dhcp_clock.specs.Words.{Drawn, undrawn, drawn_word, drawn_then}
use Rattle.dhcp_history.specs.BoundLease.{Bound, after}
use Rattle.dhcp_history.specs.declared.rules.AttemptStart.{AttemptStart}
use Rattle.dhcp_history.specs.declared.rules.NewAttempt.{NewAttempt}
use Rattle.dhcp_history.specs.Protocol.{Protocol, NextState}
use Rattle.dhcp6_msg.specs.declared.mode.DhcpV6Mode.{DhcpV6Mode}
use Rattle.dhcp6_msg.specs.declared.mode.DhcpV6Mode.TheVariants.{NonTemporaryAddresses, TemporaryAddresses, PrefixDelegation}
use Rattle.dhcp6_msg.specs.Config.{Config}
use Rattle.dhcp6_msg.specs.Exchange.{new_id}
use Rattle.dhcp6_msg.specs.Lease.{Lease}
use Rattle.dhcp6_client.specs.declared.client_state.ClientState.{ClientState}
use Rattle.dhcp6_client.specs.declared.client_state.ClientState.TheVariants.{Solicit, Request, Done, Temporary, Renew, Rebind}
use Rattle.dhcp6_client.specs.declared.client_state.Exchange.{Exchange}
use Rattle.dhcp6_client.specs.Answer.{answer_of, awaited_type, message_for}
use Rattle.dhcp6_client.specs.Message.{attempt_message, release_message}
use Rattle.dhcp6_client.specs.declared.state.PlainState.{PlainState}
use Rattle.dhcp6_client.specs.declared.state.PlainState.TheVariants as plain

-- what the client reports of a state
abbrev pub public_state : ClientState → PlainState
public_state Solicit = plain.Solicit
public_state (Request offer) = plain.Request
public_state (Done bound) = plain.Done bound.lease
public_state (Temporary bound) = plain.Done bound.lease
public_state (Renew bound) = plain.Renew
public_state (Rebind bound) = plain.Rebind

-- whether it sends; there its time limit counts
abbrev pub has_attempts : ClientState → Bool
has_attempts Solicit = true
has_attempts (Request offer) = true
has_attempts (Done bound) = false
has_attempts (Temporary bound) = false
has_attempts (Renew bound) = true
has_attempts (Rebind bound) = true

-- the moment at which a state ends: T1, T2 or the end of its lease; temporary addresses are not
-- renewed
abbrev pub ending_moment : ClientState → Option ℕ
ending_moment Solicit = None
ending_moment (Request offer) = None
ending_moment (Done bound) = Some (after bound bound.lease.t1_sec)
ending_moment (Temporary bound) = Some (after bound bound.lease.valid_time_sec)
ending_moment (Renew bound) = Some (after bound bound.lease.t2_sec)
ending_moment (Rebind bound) = Some (after bound bound.lease.valid_time_sec)

-- Before its first Solicit a client waits less than a second, SOL_MAX_DELAY (RFC 8415, section
-- 18.2.1).
abbrev pub first_pause : List ℕ → Drawn ℕ
first_pause = drawn_then drawn_word (λ word. undrawn (draw 0 1000 word))

abbrev pub pause : ClientState → Exchange → List ℕ → Drawn ℕ
pause Solicit exchange words = first_pause words
pause (Request offer) exchange words = undrawn 0 words
pause (Done bound) exchange words = undrawn 0 words
pause (Temporary bound) exchange words = undrawn 0 words
pause (Renew bound) exchange words = undrawn 0 words
pause (Rebind bound) exchange words = undrawn 0 words

-- the wait until T2 or the end of a lease at most, REN_TIMEOUT and REN_MAX_RT, REB_TIMEOUT and
-- REB_MAX_RT (RFC 8415, sections 18.2.4 and 18.2.5)
abbrev pub wait_until : ℕ → Exchange → ℕ → List ℕ → Drawn ℕ
wait_until moment exchange now =
    drawn_then (retransmit_wait exchange.previous_wait 10000 600000)
    (λ wait. undrawn (min (moment - now) wait))

-- How long an answer is awaited: SOL_TIMEOUT and SOL_MAX_RT, REQ_TIMEOUT and REQ_MAX_RT (RFC 8415,
-- section 7.6). The first wait of a Solicit is from nine tenths of SOL_TIMEOUT on, where section
-- 18.2.1 asks for more than SOL_TIMEOUT. A client that holds its lease sends nothing; it stands
-- here as the others.
abbrev pub wait : ClientState → Exchange → ℕ → List ℕ → Drawn ℕ
wait Solicit exchange now words = retransmit_wait exchange.previous_wait 1000 3600000 words
wait (Request offer) exchange now words =
    retransmit_wait exchange.previous_wait 1000 30000 words
wait (Done bound) exchange now words =
    wait_until (after bound bound.lease.t1_sec) exchange now words
wait (Temporary bound) exchange now words =
    wait_until (after bound bound.lease.valid_time_sec) exchange now words
wait (Renew bound) exchange now words =
    wait_until (after bound bound.lease.t2_sec) exchange now words
wait (Rebind bound) exchange now words =
    wait_until (after bound bound.lease.valid_time_sec) exchange now words

-- the first message of a stay has a new id, each further one the same (RFC 8415, section 16.1)
abbrev pub id_for : Bool → Exchange → List ℕ → Drawn ℕ
id_for true exchange = drawn_then drawn_word (λ word. undrawn (new_id word))
id_for false exchange = undrawn exchange.xid

-- the transaction id of an attempt; a client that searches has the one that it drew last, where RFC
-- 8415 section 16.1 asks for a new one for its first Solicit
abbrev pub transaction_id : ClientState → Bool → Exchange → List ℕ → Drawn ℕ
transaction_id Solicit is_first exchange words = undrawn exchange.xid words
transaction_id (Request offer) is_first exchange words = id_for is_first exchange words
transaction_id (Done bound) is_first exchange words = id_for is_first exchange words
transaction_id (Temporary bound) is_first exchange words = id_for is_first exchange words
transaction_id (Renew bound) is_first exchange words = id_for is_first exchange words
transaction_id (Rebind bound) is_first exchange words = id_for is_first exchange words

-- the identifier of the identity association that is asked for: each attempt of a Solicit draws
-- one, where RFC 8415 section 12 asks for the same one over restarts; in the other messages it is
-- that of their lease
abbrev pub association_id : ClientState → List ℕ → Drawn ℕ
association_id Solicit words = drawn_word words
association_id (Request offer) words = undrawn 0 words
association_id (Done bound) words = undrawn 0 words
association_id (Temporary bound) words = undrawn 0 words
association_id (Renew bound) words = undrawn 0 words
association_id (Rebind bound) words = undrawn 0 words

-- for how many milliseconds the client has tried, from the first poll in its state on, or from the
-- moment within its stay from which it counts anew; RFC 8415 section 21.9 asks for 0 in the first
-- message, and here the pause of Solicit is in it
abbrev pub elapsed_time : AttemptStart → Exchange → ℕ
elapsed_time start exchange = start.now - max start.entered exchange.counted_from

-- an attempt with this transaction id, wait and association
abbrev pub attempt_with : Config → ClientState → Exchange → AttemptStart → ℕ → ℕ → ℕ →
    NewAttempt Exchange Handed
attempt_with config state exchange start xid time iaid = record {
  wait = time;
  message = attempt_message xid config (elapsed_time start exchange) iaid state;
  exchange = record exchange { xid = xid; previous_wait = time };
}

-- an attempt: its transaction id, its wait and its association are drawn, in this order
abbrev pub attempt : Config → ClientState → Exchange → AttemptStart → List ℕ →
    Drawn (NewAttempt Exchange Handed)
attempt config state exchange start =
    drawn_then (transaction_id state start.is_first exchange) (λ xid.
    drawn_then (wait state exchange start.now) (λ wait.
    drawn_then (association_id state) (λ iaid.
    undrawn (attempt_with config state exchange start xid wait iaid))))

-- the count rises with each attempt that had no answer when its wait was over
abbrev pub after_wait : Exchange → Exchange
after_wait exchange =
    record exchange { retransmit_count = min (exchange.retransmit_count + 1) (2 ^ 32 - 1) }

-- an offer is requested eleven times: once, and again REQ_MAX_RC times (RFC 8415, section 18.2.2);
-- section 15 means ten in all
abbrev pub is_last_attempt : ClientState → Exchange → Bool
is_last_attempt Solicit exchange = false
is_last_attempt (Request offer) exchange = nat_le 10 exchange.retransmit_count
is_last_attempt (Done bound) exchange = false
is_last_attempt (Temporary bound) exchange = false
is_last_attempt (Renew bound) exchange = false
is_last_attempt (Rebind bound) exchange = false

-- what a packet answers; it draws nothing
abbrev pub reading : ClientState → Exchange → Packet → List ℕ → Drawn (Option Lease)
reading state exchange packet words =
    undrawn (answer_of (message_for (awaited_type state) exchange.xid packet)) words

-- A packet may answer an open attempt if it is a payload, and its transaction id and its type are
-- those that the attempt awaits.
abbrev pub may_answer : ClientState → Exchange → Packet → Bool
may_answer state exchange packet =
    is_some (message_for (awaited_type state) exchange.xid packet)

-- an exchange whose count and previous wait begin anew
abbrev pub restarted : Exchange → Exchange
restarted exchange = record exchange { retransmit_count = 0; previous_wait = 0 }

-- the next state, with no count and no previous wait
abbrev pub starting : ClientState → Exchange → NextState ClientState Exchange
starting state exchange = record { state = state; exchange = restarted exchange }

-- the state of a client that has this lease, by what it asks for
abbrev pub bound_state : DhcpV6Mode → Bound Lease → ClientState
bound_state NonTemporaryAddresses bound = Done bound
bound_state TemporaryAddresses bound = Temporary bound
bound_state (PrefixDelegation length) bound = Done bound

-- that state from this moment on
abbrev pub bound_from : DhcpV6Mode → ℕ → Lease → Exchange → NextState ClientState Exchange
bound_from mode now lease exchange =
    starting (bound_state mode (record { lease = lease; since = now })) exchange

-- The state after a lease was offered or granted; a client that holds its lease awaits none. The
-- first Advertise that grants a lease counts at once; by RFC 8415 section 18.2.1 a client collects
-- them until its first wait is over, unless one has preference 255, and the best counts.
abbrev pub after_answer : Config → ClientState → Lease → ℕ → Exchange →
    NextState ClientState Exchange
after_answer config Solicit offer now exchange = starting (Request offer) exchange
after_answer config (Request offer) lease now exchange = bound_from config.mode now lease exchange
after_answer config (Done bound) lease now exchange = bound_from config.mode now lease exchange
after_answer config (Temporary bound) lease now exchange =
    bound_from config.mode now lease exchange
after_answer config (Renew bound) lease now exchange = bound_from config.mode now lease exchange
after_answer config (Rebind bound) lease now exchange = bound_from config.mode now lease exchange

-- the state after the end of one
abbrev pub after_end : ClientState → Exchange → NextState ClientState Exchange
after_end Solicit exchange = starting Solicit exchange
after_end (Request offer) exchange = starting Solicit exchange
after_end (Done bound) exchange = starting (Renew bound) exchange
after_end (Temporary bound) exchange = starting Solicit exchange
after_end (Renew bound) exchange = starting (Rebind bound) exchange
after_end (Rebind bound) exchange = starting Solicit exchange

-- the state after a clean-up
abbrev pub after_clean_up : Exchange → NextState ClientState Exchange
after_clean_up exchange = starting Solicit exchange

-- the lease that is held
abbrev pub held_lease : ClientState → Option Lease
held_lease Solicit = None
held_lease (Request offer) = None
held_lease (Done bound) = Some bound.lease
held_lease (Temporary bound) = Some bound.lease
held_lease (Renew bound) = Some bound.lease
held_lease (Rebind bound) = Some bound.lease

-- the moment at which the valid lifetime of the lease that is held ends
abbrev pub lease_end : ClientState → Option ℕ
lease_end Solicit = None
lease_end (Request offer) = None
lease_end (Done bound) = Some (after bound bound.lease.valid_time_sec)
lease_end (Temporary bound) = Some (after bound bound.lease.valid_time_sec)
lease_end (Renew bound) = Some (after bound bound.lease.valid_time_sec)
lease_end (Rebind bound) = Some (after bound bound.lease.valid_time_sec)

-- the protocol of a client with this configuration
abbrev pub protocol :
    Config → Protocol PlainState Packet Handed ClientState Exchange Lease Lease
protocol config = record {
  public_state = public_state;
  has_attempts = has_attempts;
  pause = pause;
  attempt = attempt config;
  after_wait = after_wait;
  is_last_attempt = is_last_attempt;
  reading = reading;
  ending_moment = ending_moment;
  after_answer = after_answer config;
  after_end = after_end;
  after_clean_up = after_clean_up;
  held_lease = held_lease;
  release_message = λ lease exchange. release_message exchange.xid config lease;
}

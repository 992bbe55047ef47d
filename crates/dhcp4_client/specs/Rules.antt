-- The table of states, RFC 2131 section 4.4: one function for each column, every state named. Three
-- columns depend on the forms of the messages: which attempt is the last, which packets answer, and
-- what follows an answer.
use Rattle.std.specs.Prelude.{ℕ, ◌+◌, ◌-◌, ◌^◌, ◌==◌, min, nat_le, Bool, true, false, List, drop, Option, Some, None, is_some, if◌then◌else◌}
use Rattle.dhcp_clock.specs.declared.link.Packet.{Packet}
use Rattle.dhcp_clock.specs.declared.link.Handed.{Handed}
use Rattle.dhcp_clock.specs.Wait.{draw, discovery_wait, half_wait}
use Rattle.dhcp_clock.specs.Words.{Drawn, next_of, undrawn}
use Rattle.dhcp_history.specs.declared.rules.AttemptStart.{AttemptStart}
use Rattle.dhcp_history.specs.BoundLease.{after}
use Rattle.dhcp_history.specs.declared.rules.NewAttempt.{NewAttempt}
use Rattle.dhcp_history.specs.Protocol.{Protocol, NextState}
use Rattle.dhcp4_msg.specs.declared.message.DhcpV4Message.{DhcpV4Message}
use Rattle.dhcp4_lease.specs.declared.message_forms.DhcpV4MessageForms.{DhcpV4MessageForms}
use Rattle.dhcp4_lease.specs.declared.message_forms.DhcpV4MessageForms.TheVariants.{Mozim, Rfc2131}
use Rattle.dhcp4_lease.specs.Config.{Config}
use Rattle.dhcp4_lease.specs.Lease.{Lease}
use Rattle.dhcp4_client.specs.declared.answer.Answer.{Answer}
use Rattle.dhcp4_client.specs.declared.answer.Answer.TheVariants.{Granted, Refused}
use Rattle.dhcp4_client.specs.declared.client_state.ClientState.{ClientState}
use Rattle.dhcp4_client.specs.declared.client_state.ClientState.TheVariants.{InitReboot, Selecting, Rebooting, Done, Renewing, Rebinding}
use Rattle.dhcp4_client.specs.declared.client_state.Exchange.{Exchange}
use Rattle.dhcp4_client.specs.Answer.{awaited, message_for, reading_of}
use Rattle.dhcp4_client.specs.Message.{attempt_message, held_release}
use Rattle.dhcp4_client.specs.declared.state.PlainState.{PlainState}
use Rattle.dhcp4_client.specs.declared.state.PlainState.TheVariants as plain

-- what the client reports of a state
abbrev pub public_state : ClientState → PlainState
public_state InitReboot = plain.InitReboot
public_state (Selecting offer) = plain.Selecting
public_state (Rebooting held) = plain.Selecting
public_state (Done bound) = plain.Done bound.lease
public_state (Renewing bound) = plain.Renewing
public_state (Rebinding bound) = plain.Rebinding

-- whether it sends; there its time limit counts
abbrev pub has_attempts : ClientState → Bool
has_attempts InitReboot = true
has_attempts (Selecting offer) = true
has_attempts (Rebooting held) = true
has_attempts (Done bound) = false
has_attempts (Renewing bound) = true
has_attempts (Rebinding bound) = true

-- the moment at which a state ends: T1, T2 or the end of its lease
abbrev pub ending_moment : ClientState → Option ℕ
ending_moment InitReboot = None
ending_moment (Selecting offer) = None
ending_moment (Rebooting held) = None
ending_moment (Done bound) = Some (after bound bound.lease.t1_sec)
ending_moment (Renewing bound) = Some (after bound bound.lease.t2_sec)
ending_moment (Rebinding bound) = Some (after bound bound.lease.lease_time_sec)

-- Before its first Discover a client waits less than 200 milliseconds, so that clients that start
-- at once do not send at once (RFC 2131, section 4.4.1, asks for 1 to 10 seconds). One that has
-- tried before does not.
abbrev pub first_pause : Exchange → List ℕ → Drawn ℕ
first_pause exchange words =
    if exchange.retry_count == 0
    then record { value = draw 0 200 (next_of words); left = drop 1 words }
    else undrawn 0 words

abbrev pub pause : ClientState → Exchange → List ℕ → Drawn ℕ
pause InitReboot exchange words = first_pause exchange words
pause (Selecting offer) exchange words = undrawn 0 words
pause (Rebooting held) exchange words = undrawn 0 words
pause (Done bound) exchange words = undrawn 0 words
pause (Renewing bound) exchange words = undrawn 0 words
pause (Rebinding bound) exchange words = undrawn 0 words

-- The wait in INIT, REQUESTING and REBOOTING, RFC 2131 section 4.1. The longest is 62 to 64
-- seconds, so that none is longer than the RFC allows. Where the count goes on from INIT to
-- REQUESTING, the first Request of an offer may have a longer wait than 5 seconds.
abbrev pub growing_wait : Exchange → List ℕ → Drawn ℕ
growing_wait exchange words = record {
  value = discovery_wait exchange.retry_count (next_of words);
  left = drop 1 words;
}

-- How long an answer is awaited. BOUND sends nothing; it stands here as the others that have a
-- lease: half of the time to their end, RFC 2131 section 4.4.5.
abbrev pub wait : ClientState → Exchange → ℕ → List ℕ → Drawn ℕ
wait InitReboot exchange now words = growing_wait exchange words
wait (Selecting offer) exchange now words = growing_wait exchange words
wait (Rebooting held) exchange now words = growing_wait exchange words
wait (Done bound) exchange now words =
    undrawn (half_wait (after bound bound.lease.t1_sec - now)) words
wait (Renewing bound) exchange now words =
    undrawn (half_wait (after bound bound.lease.t2_sec - now)) words
wait (Rebinding bound) exchange now words =
    undrawn (half_wait (after bound bound.lease.lease_time_sec - now)) words

-- an attempt: its wait is drawn, and its message is that of the state
abbrev pub attempt : Config → ClientState → Exchange → AttemptStart → List ℕ →
    Drawn (NewAttempt Exchange Handed)
attempt config state exchange start words =
    let wait = wait state exchange start.now words in
    record {
      value = record {
        wait = wait.value;
        message = attempt_message exchange.xid config state;
        exchange = exchange;
      };
      left = wait.left;
    }

-- the retry count rises with each attempt that had no answer when its wait was over
abbrev pub after_wait : Exchange → Exchange
after_wait exchange =
    record exchange { retry_count = min (exchange.retry_count + 1) (2 ^ 32 - 1) }

-- whether three requests had no answer, so that the fourth is the last one
abbrev pub is_fourth : Exchange → Bool
is_fourth exchange = nat_le 3 exchange.retry_count

-- Whether this request of an offer is the last one. By RFC 2131 section 3.1 a client gives up an
-- offer after some requests, four in its example, and begins its search anew; by mozim it requests
-- it until an answer comes or the time limit is over.
abbrev pub is_last_request : DhcpV4MessageForms → Exchange → Bool
is_last_request Mozim exchange = false
is_last_request Rfc2131 exchange = is_fourth exchange

-- Whether this attempt is the last one of its state: the fourth request of a lease that was held
-- before, and of an offer as `is_last_request` says.
abbrev pub is_last_attempt : DhcpV4MessageForms → ClientState → Exchange → Bool
is_last_attempt forms InitReboot exchange = false
is_last_attempt forms (Selecting offer) exchange = is_last_request forms exchange
is_last_attempt forms (Rebooting held) exchange = is_fourth exchange
is_last_attempt forms (Done bound) exchange = false
is_last_attempt forms (Renewing bound) exchange = false
is_last_attempt forms (Rebinding bound) exchange = false

-- the message of a packet that concerns an attempt in a state
abbrev pub message_in : DhcpV4MessageForms → ClientState → Exchange → Packet → Option DhcpV4Message
message_in forms state exchange packet =
    message_for (awaited forms state) exchange.xid packet

-- what a packet answers
abbrev pub reading : DhcpV4MessageForms → ClientState → Exchange → Packet → List ℕ →
    Drawn (Option Answer)
reading forms state exchange packet words =
    reading_of (awaited forms state) (message_in forms state exchange packet) words

-- A packet may answer an open attempt if its carrier and its transaction id are those of the
-- attempt, and its type, and the server of a Nack, are those that it awaits.
abbrev pub may_answer : DhcpV4MessageForms → ClientState → Exchange → Packet → Bool
may_answer forms state exchange packet = is_some (message_in forms state exchange packet)

-- the next state, with the retry count as it is
abbrev pub entering : ClientState → Exchange → NextState ClientState Exchange
entering state exchange = record { state = state; exchange = exchange }

-- an exchange whose count begins anew
abbrev pub restarted : Exchange → Exchange
restarted exchange = record exchange { retry_count = 0 }

-- the next state, with no count
abbrev pub starting : ClientState → Exchange → NextState ClientState Exchange
starting state exchange = entering state (restarted exchange)

-- BOUND from this moment on
abbrev pub bound_from : ℕ → Lease → Exchange → NextState ClientState Exchange
bound_from now lease exchange =
    starting (Done (record { lease = lease; since = now })) exchange

-- the exchange with which a client requests an offer: by RFC 2131 its count begins anew, by mozim
-- it goes on
abbrev pub requesting : DhcpV4MessageForms → Exchange → Exchange
requesting Mozim exchange = exchange
requesting Rfc2131 exchange = restarted exchange

-- the state after a lease was offered or granted; BOUND awaits none
abbrev pub after_grant : DhcpV4MessageForms → ClientState → Lease → ℕ → Exchange →
    NextState ClientState Exchange
after_grant forms InitReboot offer now exchange =
    entering (Selecting offer) (requesting forms exchange)
after_grant forms (Selecting offer) lease now exchange = bound_from now lease exchange
after_grant forms (Rebooting held) lease now exchange = bound_from now lease exchange
after_grant forms (Done bound) lease now exchange = bound_from now lease exchange
after_grant forms (Renewing bound) lease now exchange = bound_from now lease exchange
after_grant forms (Rebinding bound) lease now exchange = bound_from now lease exchange

-- the state after an answer; a refusal leads to INIT, with the retry count as it is
abbrev pub after_answer : DhcpV4MessageForms → ClientState → Answer → ℕ → Exchange →
    NextState ClientState Exchange
after_answer forms state (Granted lease) now exchange =
    after_grant forms state lease now exchange
after_answer forms state Refused now exchange = entering InitReboot exchange

-- the state after the end of one; to REBINDING the count begins anew, else it is kept
abbrev pub after_end : ClientState → Exchange → NextState ClientState Exchange
after_end InitReboot exchange = entering InitReboot exchange
after_end (Selecting offer) exchange = entering InitReboot exchange
after_end (Rebooting held) exchange = entering InitReboot exchange
after_end (Done bound) exchange = entering (Renewing bound) exchange
after_end (Renewing bound) exchange = starting (Rebinding bound) exchange
after_end (Rebinding bound) exchange = entering InitReboot exchange

-- the state after a clean-up, with the retry count as it is
abbrev pub after_clean_up : Exchange → NextState ClientState Exchange
after_clean_up exchange = entering InitReboot exchange

-- the lease that is held; in REBOOTING no server has confirmed it yet
abbrev pub held_lease : ClientState → Option Lease
held_lease InitReboot = None
held_lease (Selecting offer) = None
held_lease (Rebooting held) = Some held
held_lease (Done bound) = Some bound.lease
held_lease (Renewing bound) = Some bound.lease
held_lease (Rebinding bound) = Some bound.lease

-- the moment at which the lease that is held ends; in REBOOTING its time does not count yet
abbrev pub lease_end : ClientState → Option ℕ
lease_end InitReboot = None
lease_end (Selecting offer) = None
lease_end (Rebooting held) = None
lease_end (Done bound) = Some (after bound bound.lease.lease_time_sec)
lease_end (Renewing bound) = Some (after bound bound.lease.lease_time_sec)
lease_end (Rebinding bound) = Some (after bound bound.lease.lease_time_sec)

-- the protocol of a client with this configuration
abbrev pub protocol :
    Config → Protocol PlainState Packet Handed ClientState Exchange Answer Lease
protocol config = record {
  public_state = public_state;
  has_attempts = has_attempts;
  pause = pause;
  attempt = attempt config;
  after_wait = after_wait;
  is_last_attempt = is_last_attempt config.message_forms;
  reading = reading config.message_forms;
  ending_moment = ending_moment;
  after_answer = after_answer config.message_forms;
  after_end = after_end;
  after_clean_up = after_clean_up;
  held_lease = held_lease;
  release_message = λ lease exchange. held_release exchange.xid config lease;
}

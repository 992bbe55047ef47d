-- Each message of an IPv4 client names the offer or the lease of its state.
use Rattle.std.proofs.Common.{◌≡◌, ℕ, ◌≤◌, List, Option, Some, None, refl, sym, ap, ◌∙◌}
use Rattle.std.specs.Prelude.{All, option_map}
use Rattle.dhcp_clock.specs.Words.{next_of}
use Rattle.dhcp_clock.specs.declared.link.Handed.{Handed}
use Rattle.dhcp_clock.specs.declared.link.Packet.{Packet}
use Rattle.dhcp_history.specs.declared.script.NumberedEvent.{NumberedEvent}
use Rattle.dhcp_history.proofs.HistoryLemmas as kept
use Rattle.dhcp4_msg.specs.declared.message.DhcpV4Message.{DhcpV4Message}
use Rattle.dhcp4_msg.specs.declared.message_type.DhcpV4MessageType.{DhcpV4MessageType}
use Rattle.dhcp4_msg.specs.declared.message_type.DhcpV4MessageType.TheVariants.{Offer, Ack}
use Rattle.dhcp4_lease.specs.Config.{Config}
use Rattle.dhcp4_lease.specs.declared.message_forms.DhcpV4MessageForms.{DhcpV4MessageForms}
use Rattle.dhcp4_lease.specs.declared.message_forms.DhcpV4MessageForms.TheVariants.{Mozim, Rfc2131}
use Rattle.dhcp4_lease.specs.Lease.{Lease}
use Rattle.dhcp4_client.specs.Answer.{awaited, message_for, reading_of}
use Rattle.dhcp4_client.specs.Client.{first_state}
use Rattle.dhcp4_client.specs.Message.{attempt_message}
use Rattle.dhcp4_client.specs.Rules.{after_answer, after_end, protocol, reading, requesting}
use Rattle.dhcp4_client.specs.declared.answer.Answer.{Answer}
use Rattle.dhcp4_client.specs.declared.answer.Answer.TheVariants.{Granted, Refused}
use Rattle.dhcp4_client.specs.declared.answer.Awaited.{Awaited}
use Rattle.dhcp4_client.specs.declared.client_state.ClientState.{ClientState}
use Rattle.dhcp4_client.specs.declared.client_state.ClientState.TheVariants.{InitReboot, Selecting, Rebooting, Done, Renewing, Rebinding}
use Rattle.dhcp4_client.specs.declared.client_state.Exchange.{Exchange}
use Rattle.dhcp_script.specs.declared.event.Event.{Event}
use Rattle.dhcp_replay.specs.Life.{numbered}
use Rattle.dhcp_replay.specs.Promises4.{HasBasis, IsMessageOf, IsReadFrom}
use Rattle.dhcp_replay.specs.Replayed4.{history4, life_of}
use Rattle.dhcp_replay.specs.Settles.{ComesInBy, NamesItsBasis}
use Rattle.dhcp_replay.proofs.SettlesLemmas.{comes_later, stays_named}

module _ (config : Config) (before : Option Lease) (events : List (NumberedEvent Packet)) (xid : ℕ) where
  abbrev Good : Exchange → Type 0
  Good exchange = exchange.xid ≡ xid

  -- the type of the message that grants what a state awaits; BOUND awaits nothing
  abbrev grant_of : ClientState → DhcpV4MessageType
  grant_of InitReboot = Offer
  grant_of (Selecting offer) = Ack
  grant_of (Rebooting lease) = Ack
  grant_of (Done bound) = Ack
  grant_of (Renewing bound) = Ack
  grant_of (Rebinding bound) = Ack

  abbrev Read : ℕ → ClientState → Answer → Type 0
  Read number state (Granted lease) = IsReadFrom config.message_forms events xid number (grant_of state) lease
  Read number state Refused = Unit {0}

  abbrev Fits : ClientState → Handed → Type 0
  Fits = IsMessageOf config xid

  abbrev Held : ℕ → ClientState → Type 0
  Held number state = HasBasis config.message_forms before events xid number state

  awaits : (state : ClientState) (message : Option DhcpV4Message) (words : List ℕ) (lease : Lease) → (reading_of (awaited config.message_forms state) message words).value ≡ Some (Granted lease) →
      option_map (λ (found : Awaited). found.grant) (awaited config.message_forms state) ≡ Some (grant_of state)
  awaits InitReboot message words lease is = refl
  awaits (Selecting offer) message words lease is = refl
  awaits (Rebooting held) message words lease is = refl
  awaits (Done bound) message words lease is = absurd (cc is)
  awaits (Renewing bound) message words lease is = refl
  awaits (Rebinding bound) message words lease is = refl

  reads : (number : ℕ) (state : ClientState) (exchange : Exchange) (packet : Packet) (words : List ℕ) → Good exchange → ComesInBy events number packet →
      kept.ReadIf (protocol config) Good Held Read (ComesInBy events) Fits number state (reading config.message_forms state exchange packet words).value
  reads number state exchange packet words good comes = go (reading config.message_forms state exchange packet words).value refl
    where
      go : (answer : Option Answer) → (reading config.message_forms state exchange packet words).value ≡ answer → kept.ReadIf (protocol config) Good Held Read (ComesInBy events) Fits number state answer
      go None is = tt
      go (Some Refused) is = tt
      go (Some (Granted lease)) is = record {
        packet = packet;
        comes_in = comes;
        state = state;
        awaits = awaits state (message_for (awaited config.message_forms state) exchange.xid packet) words lease is;
        drawn = words;
        reads = ap (λ (id : ℕ). (reading_of (awaited config.message_forms state) (message_for (awaited config.message_forms state) id packet) words).value) (sym good) ∙ is;
      }

  read_later : (number more : ℕ) (kind : DhcpV4MessageType) (lease : Lease) → number ≤ more → IsReadFrom config.message_forms events xid number kind lease → IsReadFrom config.message_forms events xid more kind lease
  read_later number more kind lease le read = record {
    packet = read.packet;
    comes_in = comes_later events number more read.packet le read.comes_in;
    state = read.state;
    awaits = read.awaits;
    drawn = read.drawn;
    reads = read.reads;
  }

  later : (number more : ℕ) (state : ClientState) → number ≤ more → Held number state → Held more state
  later number more InitReboot le held = tt
  later number more (Selecting offer) le held = read_later number more Offer offer le held
  later number more (Rebooting lease) le held = held
  later number more (Done bound) le held = read_later number more Ack bound.lease le held
  later number more (Renewing bound) le held = read_later number more Ack bound.lease le held
  later number more (Rebinding bound) le held = read_later number more Ack bound.lease le held

  answered_held : (number : ℕ) (state : ClientState) (answer : Answer) (now : ℕ) (exchange : Exchange) → Read number state answer → Held number (after_answer config.message_forms state answer now exchange).state
  answered_held number state Refused now exchange read = tt
  answered_held number InitReboot (Granted lease) now exchange read = read
  answered_held number (Selecting offer) (Granted lease) now exchange read = read
  answered_held number (Rebooting held) (Granted lease) now exchange read = read
  answered_held number (Done bound) (Granted lease) now exchange read = read
  answered_held number (Renewing bound) (Granted lease) now exchange read = read
  answered_held number (Rebinding bound) (Granted lease) now exchange read = read

  -- the count alone may begin anew
  same_xid : (forms : DhcpV4MessageForms) (exchange : Exchange) → (requesting forms exchange).xid ≡ exchange.xid
  same_xid Mozim exchange = refl
  same_xid Rfc2131 exchange = refl

  answered_good : (state : ClientState) (answer : Answer) (now : ℕ) (exchange : Exchange) → Good exchange → Good (after_answer config.message_forms state answer now exchange).exchange
  answered_good state Refused now exchange good = good
  answered_good InitReboot (Granted lease) now exchange good = same_xid config.message_forms exchange ∙ good
  answered_good (Selecting offer) (Granted lease) now exchange good = good
  answered_good (Rebooting held) (Granted lease) now exchange good = good
  answered_good (Done bound) (Granted lease) now exchange good = good
  answered_good (Renewing bound) (Granted lease) now exchange good = good
  answered_good (Rebinding bound) (Granted lease) now exchange good = good

  ended_held : (number : ℕ) (state : ClientState) (exchange : Exchange) → Held number state → Held number (after_end state exchange).state
  ended_held number InitReboot exchange held = tt
  ended_held number (Selecting offer) exchange held = tt
  ended_held number (Rebooting lease) exchange held = tt
  ended_held number (Done bound) exchange held = held
  ended_held number (Renewing bound) exchange held = held
  ended_held number (Rebinding bound) exchange held = tt

  ended_good : (state : ClientState) (exchange : Exchange) → Good exchange → Good (after_end state exchange).exchange
  ended_good InitReboot exchange good = good
  ended_good (Selecting offer) exchange good = good
  ended_good (Rebooting lease) exchange good = good
  ended_good (Done bound) exchange good = good
  ended_good (Renewing bound) exchange good = good
  ended_good (Rebinding bound) exchange good = good

  keeps : kept.Keeps (protocol config) Good Held Read (ComesInBy events) Fits
  keeps = record {
    waited = λ exchange good. good;
    attempted = λ state exchange start words good. good;
    fits = λ state exchange start words good. ap (λ (id : ℕ). attempt_message id config state) good;
    reads = reads;
    later = later;
    cut_held = λ number exchange. tt;
    cut_good = λ exchange good. good;
    answered_held = answered_held;
    answered_good = answered_good;
    ended_held = ended_held;
    ended_good = ended_good;
  }

  first_held : Held 1 (first_state before)
  first_held = go before refl
    where
      go : (lease : Option Lease) → before ≡ lease → Held 1 (first_state lease)
      go None is = tt
      go (Some lease) is = is

pub names_its_basis : (config : Config) (lease : Option Lease) (words : List ℕ) (events : List Event) → All (NamesItsBasis (HasBasis config.message_forms lease (numbered 1 events) (next_of words)) (IsMessageOf config (next_of words))) (history4 config lease words events)
names_its_basis config lease words events =
    let xid : ℕ = next_of words in
    let all : List (NumberedEvent Packet) = numbered 1 events in
    stays_named (protocol config) (Good config lease all xid) (Held config lease all xid) (Read config lease all xid) (Fits config lease all xid) events (keeps config lease all xid)
    (life_of config lease words events) refl (first_held config lease all xid) refl

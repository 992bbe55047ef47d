-- Each message of an IPv6 client names the offer or the lease of its state.
use Rattle.std.proofs.Common.{◌≡◌, ℕ, ◌≤◌, List, Option, Some, None, refl, inl, inr}
use Rattle.std.specs.Prelude.{All}
use Rattle.dhcp_clock.specs.declared.link.Handed.{Handed}
use Rattle.dhcp_clock.specs.declared.link.Packet.{Packet}
use Rattle.dhcp_history.specs.History.{history}
use Rattle.dhcp_history.specs.declared.rules.AttemptStart.{AttemptStart}
use Rattle.dhcp_history.specs.declared.script.NumberedEvent.{NumberedEvent}
use Rattle.dhcp_history.proofs.HistoryLemmas as kept
use Rattle.dhcp6_msg.specs.declared.message_type.DhcpV6MessageType.{DhcpV6MessageType}
use Rattle.dhcp6_msg.specs.declared.message_type.DhcpV6MessageType.TheVariants.{Advertise, Reply}
use Rattle.dhcp6_msg.specs.Config.{Config}
use Rattle.dhcp6_msg.specs.Lease.{Lease}
use Rattle.dhcp6_msg.specs.declared.mode.DhcpV6Mode.{DhcpV6Mode}
use Rattle.dhcp6_msg.specs.declared.mode.DhcpV6Mode.TheVariants.{NonTemporaryAddresses, TemporaryAddresses, PrefixDelegation}
use Rattle.dhcp6_client.specs.Answer.{answer_of, awaited_type, message_for}
use Rattle.dhcp6_client.specs.Client.{first_state}
use Rattle.dhcp6_client.specs.Rules.{after_answer, after_end, association_id, attempt, bound_state, elapsed_time, protocol, reading, transaction_id, wait}
use Rattle.dhcp6_client.specs.declared.client_state.ClientState.{ClientState}
use Rattle.dhcp6_client.specs.declared.client_state.ClientState.TheVariants.{Solicit, Request, Done, Temporary, Renew, Rebind}
use Rattle.dhcp6_client.specs.declared.client_state.Exchange.{Exchange}
use Rattle.dhcp_script.specs.declared.event.Event.{Event}
use Rattle.dhcp_replay.specs.Life.{numbered}
use Rattle.dhcp_replay.specs.Promises6.{HasBasis, IsKnown, IsMessageOf, IsReadFrom}
use Rattle.dhcp_replay.specs.Replayed6.{life_of}
use Rattle.dhcp_replay.specs.Settles.{ComesInBy, NamesItsBasis}
use Rattle.dhcp_replay.proofs.SettlesLemmas.{comes_later, stays_named}

module _ (config : Config) (before : Option Lease) (events : List (NumberedEvent Packet)) where
  -- nothing is asked of an exchange: each stay draws its transaction id
  abbrev Good : Exchange → Type 0
  Good exchange = Unit {0}

  -- the type of the message that grants what a state awaits; a client that holds its lease awaits none
  abbrev grant_of : ClientState → DhcpV6MessageType
  grant_of Solicit = Advertise
  grant_of (Request offer) = Reply
  grant_of (Done bound) = Reply
  grant_of (Temporary bound) = Reply
  grant_of (Renew bound) = Reply
  grant_of (Rebind bound) = Reply

  abbrev Read : ℕ → ClientState → Lease → Type 0
  Read number state lease = IsReadFrom events number (grant_of state) lease

  abbrev Fits : ClientState → Handed → Type 0
  Fits = IsMessageOf config

  abbrev Held : ℕ → ClientState → Type 0
  Held number state = HasBasis before events number state

  fits : (state : ClientState) (exchange : Exchange) (start : AttemptStart) (words : List ℕ) → Good exchange → Fits state (attempt config state exchange start words).value.message
  fits state exchange start words good =
      let id = transaction_id state start.is_first exchange words in
      let time = wait state exchange start.now id.left in
      record { xid = id.value; elapsed = elapsed_time start exchange; iaid = (association_id state time.left).value; is = refl }

  granted : (state : ClientState) (xid : ℕ) (packet : Packet) (lease : Lease) → answer_of (message_for (awaited_type state) xid packet) ≡ Some lease → answer_of (message_for (Some (grant_of state)) xid packet) ≡ Some lease
  granted Solicit xid packet lease is = is
  granted (Request offer) xid packet lease is = is
  granted (Done bound) xid packet lease is = absurd (cc is)
  granted (Temporary bound) xid packet lease is = absurd (cc is)
  granted (Renew bound) xid packet lease is = is
  granted (Rebind bound) xid packet lease is = is

  reads : (number : ℕ) (state : ClientState) (exchange : Exchange) (packet : Packet) (words : List ℕ) → Good exchange → ComesInBy events number packet →
      kept.ReadIf (protocol config) Good Held Read (ComesInBy events) Fits number state (reading state exchange packet words).value
  reads number state exchange packet words good comes = go (reading state exchange packet words).value refl
    where
      go : (answer : Option Lease) → (reading state exchange packet words).value ≡ answer → kept.ReadIf (protocol config) Good Held Read (ComesInBy events) Fits number state answer
      go None is = tt
      go (Some lease) is = record { packet = packet; comes_in = comes; xid = exchange.xid; reads = granted state exchange.xid packet lease is }

  read_later : (number more : ℕ) (kind : DhcpV6MessageType) (lease : Lease) → number ≤ more → IsReadFrom events number kind lease → IsReadFrom events more kind lease
  read_later number more kind lease le read = record { packet = read.packet; comes_in = comes_later events number more read.packet le read.comes_in; xid = read.xid; reads = read.reads }

  known_later : (number more : ℕ) (lease : Lease) → number ≤ more → IsKnown before events number lease → IsKnown before events more lease
  known_later number more lease le (inl read) = inl (read_later number more Reply lease le read)
  known_later number more lease le (inr is) = inr is

  later : (number more : ℕ) (state : ClientState) → number ≤ more → Held number state → Held more state
  later number more Solicit le held = tt
  later number more (Request offer) le held = read_later number more Advertise offer le held
  later number more (Done bound) le held = read_later number more Reply bound.lease le held
  later number more (Temporary bound) le held = read_later number more Reply bound.lease le held
  later number more (Renew bound) le held = known_later number more bound.lease le held
  later number more (Rebind bound) le held = known_later number more bound.lease le held

  bound_held : (number : ℕ) (mode : DhcpV6Mode) (lease : Lease) (now : ℕ) → IsReadFrom events number Reply lease → Held number (bound_state mode (record { lease = lease; since = now }))
  bound_held number NonTemporaryAddresses lease now read = read
  bound_held number TemporaryAddresses lease now read = read
  bound_held number (PrefixDelegation length) lease now read = read

  answered_held : (number : ℕ) (state : ClientState) (lease : Lease) (now : ℕ) (exchange : Exchange) → Read number state lease → Held number (after_answer config state lease now exchange).state
  answered_held number Solicit offer now exchange read = read
  answered_held number (Request offer) lease now exchange read = bound_held number config.mode lease now read
  answered_held number (Done bound) lease now exchange read = bound_held number config.mode lease now read
  answered_held number (Temporary bound) lease now exchange read = bound_held number config.mode lease now read
  answered_held number (Renew bound) lease now exchange read = bound_held number config.mode lease now read
  answered_held number (Rebind bound) lease now exchange read = bound_held number config.mode lease now read

  ended_held : (number : ℕ) (state : ClientState) (exchange : Exchange) → Held number state → Held number (after_end state exchange).state
  ended_held number Solicit exchange held = tt
  ended_held number (Request offer) exchange held = tt
  ended_held number (Done bound) exchange held = inl held
  ended_held number (Temporary bound) exchange held = tt
  ended_held number (Renew bound) exchange held = held
  ended_held number (Rebind bound) exchange held = tt

  keeps : kept.Keeps (protocol config) Good Held Read (ComesInBy events) Fits
  keeps = record {
    waited = λ exchange good. tt;
    attempted = λ state exchange start words good. tt;
    fits = fits;
    reads = reads;
    later = later;
    cut_held = λ number exchange. tt;
    cut_good = λ exchange good. tt;
    answered_held = answered_held;
    answered_good = λ state answer now exchange good. tt;
    ended_held = ended_held;
    ended_good = λ state exchange good. tt;
  }

  first_held : (mode : DhcpV6Mode) (start : ℕ) → Held 1 (first_state mode before start)
  first_held mode start = go before mode refl
    where
      go : (lease : Option Lease) (mode : DhcpV6Mode) → before ≡ lease → Held 1 (first_state mode lease start)
      go None mode is = tt
      go (Some lease) NonTemporaryAddresses is = inr is
      go (Some lease) TemporaryAddresses is = tt
      go (Some lease) (PrefixDelegation length) is = inr is

-- whatever configuration the client has in the end
pub names_its_basis : (own config : Config) (lease : Option Lease) (start : ℕ) (words : List ℕ) (events : List Event) →
    All (NamesItsBasis (HasBasis lease (numbered 1 events)) (IsMessageOf own)) (history (protocol own) (life_of config lease start words events))
names_its_basis own config lease start words events =
    let all : List (NumberedEvent Packet) = numbered 1 events in
    stays_named (protocol own) (Good own lease all) (Held own lease all) (Read own lease all) (Fits own lease all) events (keeps own lease all)
    (life_of config lease start words events) refl (first_held own lease all config.mode start) tt

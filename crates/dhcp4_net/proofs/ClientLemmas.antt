-- What an event of a client leaves: it keeps its transaction id, what it sends grants nothing, and it becomes Done only by a packet that grants it its lease.
use Rattle.std.proofs.Common.{◌≡◌, ℕ, ◌<◌, ◌^◌, List, refl, sym, false, subst, IsTrue}
use Rattle.std.specs.Prelude.{Some}
use Rattle.dhcp_clock.specs.declared.link.Packet.{Packet}
use Rattle.dhcp_clock.specs.declared.link.PacketKind.{PacketKind}
use Rattle.dhcp_clock.specs.declared.link.PacketKind.TheVariants as kinds
use Rattle.dhcp_history.specs.declared.script.NumberedEvent.{NumberedEvent}
use Rattle.dhcp_history.specs.declared.script.Input.{Input}
use Rattle.dhcp_history.specs.declared.script.Input.TheVariants.{Nothing, Arrival, Release, CleanUp}
use Rattle.dhcp_history.specs.EventLoop.{event_at}
use Rattle.dhcp_history.specs.Machine.{View}
use Rattle.dhcp_history.specs.KeptByEvent as kept
use Rattle.dhcp_history.proofs.KeptByEvent.{event_keeps}
use Rattle.dhcp4_msg.specs.declared.message_type.DhcpV4MessageType.TheVariants.{Offer, Ack}
use Rattle.dhcp4_lease.specs.Config.{Config, is_within_limits}
use Rattle.dhcp4_lease.specs.Laws.{IsTyped}
use Rattle.dhcp4_lease.specs.Lease.{Lease}
use Rattle.dhcp4_lease.specs.declared.message_forms.DhcpV4MessageForms.{DhcpV4MessageForms}
use Rattle.dhcp4_lease.specs.declared.message_forms.DhcpV4MessageForms.TheVariants.{Mozim, Rfc2131}
use Rattle.dhcp4_client.specs.Answer.{ack_in, is_of_type, message_for, reading_of, refuser_of, renewal_carrier}
use Rattle.dhcp4_client.specs.Message.{renewal_server}
use Rattle.dhcp4_client.specs.Rules.{after_answer, after_end, protocol, public_state, reading, requesting}
use Rattle.dhcp4_client.specs.declared.answer.Refuser.{Refuser}
use Rattle.dhcp4_client.specs.declared.answer.Refuser.TheVariants.{Nobody, AnyServer}
use Rattle.dhcp4_client.specs.declared.answer.Answer.{Answer}
use Rattle.dhcp4_client.specs.declared.answer.Answer.TheVariants.{Granted, Refused}
use Rattle.dhcp4_client.specs.declared.answer.Awaited.{Awaited}
use Rattle.dhcp4_client.specs.declared.client_state.ClientState.{ClientState}
use Rattle.dhcp4_client.specs.declared.client_state.ClientState.TheVariants as states
use Rattle.dhcp4_client.specs.declared.client_state.Exchange.{Exchange}
use Rattle.dhcp4_client.specs.declared.state.PlainState.{PlainState}
use Rattle.dhcp_history.specs.BoundLease.{Bound}
use Rattle.dhcp4_net.specs.Grants.{GrantedIn, GrantsNothing, HoldsBacked, HoldsWhole, IsGrantedBy, IsSound, IsWhole, ShowsGrant}
use Rattle.dhcp4_net.proofs.AnswerLemmas.{IsRead, answer_is_read, first_of_two, read_granted, read_whole, second_of_two}
use Rattle.dhcp4_net.proofs.SentLemmas.{attempt_nothing, held_whole, release_nothing}

module _ (config : Config) (within : IsTrue (is_within_limits config)) (typed : IsTyped config) (no_proxy : config.is_proxy ≡ false) (xid : ℕ) (small : xid < 2 ^ 32) (lease_sec : ℕ) (input : Input Packet) (moment : ℕ) (Backs : Bound Lease → Type 0)
    (backs : (lease : Lease) → GrantedIn lease_sec xid input lease → Backs (record { lease = lease; since = moment })) where
  abbrev Good : Exchange → Type 0
  Good exchange = exchange.xid ≡ xid

  abbrev Comes : Packet → Type 0
  Comes packet = (input ≡ Arrival packet) × IsSound lease_sec packet

  abbrev Shows : PlainState → Type 0
  Shows = ShowsGrant lease_sec xid input

  abbrev Held : ClientState → Type 0
  Held state = HoldsWhole state × HoldsBacked Backs state

  small_by : (exchange : Exchange) → Good exchange → exchange.xid < 2 ^ 32
  small_by exchange good = subst (λ (id : ℕ). id < 2 ^ 32) (sym good) small

  -- what an Ack leads to
  record Grants (lease : Lease) : Type 0 where
    whole : IsWhole lease
    granted : GrantedIn lease_sec xid input lease

  ack_grants : (carrier : PacketKind) (refuser : Refuser) (exchange : Exchange) (packet : Packet) (words : List ℕ) (lease : Lease) → Good exchange → Comes packet →
      (reading_of (Some (ack_in carrier refuser)) (message_for (Some (ack_in carrier refuser)) exchange.xid packet) words).value ≡ Some (Granted lease) → Grants lease
  ack_grants carrier refuser exchange packet words lease good comes e =
      let read : IsRead (ack_in carrier refuser) exchange.xid packet words lease = answer_is_read (ack_in carrier refuser) exchange.xid packet words lease e in
      let granted : IsGrantedBy lease_sec exchange.xid packet lease = read_granted lease_sec (ack_in carrier refuser) exchange.xid packet words lease comes.1 refl read in
      record {
        whole = read_whole lease_sec (ack_in carrier refuser) exchange.xid packet words lease comes.1 read (second_of_two (is_of_type Offer read.message) (is_of_type Ack read.message) read.kind);
        granted = subst (λ (brought : Input Packet). GrantedIn lease_sec xid brought lease) (sym comes.0)
            (subst (λ (id : ℕ). IsGrantedBy lease_sec id packet lease) good granted);
      }

  offer_whole : (exchange : Exchange) (packet : Packet) (words : List ℕ) (lease : Lease) → Comes packet →
      (reading config.message_forms states.InitReboot exchange packet words).value ≡ Some (Granted lease) → IsWhole lease
  offer_whole exchange packet words lease comes e =
      let awaited : Awaited = record { carrier = kinds.Frame; grant = Offer; refuser = Nobody } in
      let read : IsRead awaited exchange.xid packet words lease = answer_is_read awaited exchange.xid packet words lease e in
      read_whole lease_sec awaited exchange.xid packet words lease comes.1 read (first_of_two (is_of_type Offer read.message) (is_of_type Ack read.message) read.kind)

  bound_held : (lease : Lease) → Grants lease → Held (states.Done (record { lease = lease; since = moment }))
  bound_held lease grants = (grants.whole, backs lease grants.granted)

  answered_held : (state : ClientState) (exchange : Exchange) (packet : Packet) (words : List ℕ) (answer : Answer) → Good exchange → Held state → Comes packet →
      (reading config.message_forms state exchange packet words).value ≡ Some answer → Held (after_answer config.message_forms state answer moment exchange).state
  answered_held state exchange packet words Refused good held comes e = (tt, tt)
  answered_held states.InitReboot exchange packet words (Granted lease) good held comes e = (offer_whole exchange packet words lease comes e, tt)
  answered_held (states.Selecting offer) exchange packet words (Granted lease) good held comes e = bound_held lease (ack_grants kinds.Frame (refuser_of config.message_forms offer) exchange packet words lease good comes e)
  answered_held (states.Rebooting before) exchange packet words (Granted lease) good held comes e = bound_held lease (ack_grants kinds.Frame AnyServer exchange packet words lease good comes e)
  answered_held (states.Done bound) exchange packet words (Granted lease) good held comes e = absurd (cc e)
  answered_held (states.Renewing bound) exchange packet words (Granted lease) good held comes e = bound_held lease (ack_grants (renewal_carrier (renewal_server config.message_forms bound.lease)) (refuser_of config.message_forms bound.lease) exchange packet words lease good comes e)
  answered_held (states.Rebinding bound) exchange packet words (Granted lease) good held comes e = bound_held lease (ack_grants kinds.Frame (refuser_of config.message_forms bound.lease) exchange packet words lease good comes e)

  answered_shows : (state : ClientState) (exchange : Exchange) (packet : Packet) (words : List ℕ) (answer : Answer) → Good exchange → Comes packet →
      (reading config.message_forms state exchange packet words).value ≡ Some answer → Shows (public_state (after_answer config.message_forms state answer moment exchange).state)
  answered_shows state exchange packet words Refused good comes e = tt
  answered_shows states.InitReboot exchange packet words (Granted lease) good comes e = tt
  answered_shows (states.Selecting offer) exchange packet words (Granted lease) good comes e = (ack_grants kinds.Frame (refuser_of config.message_forms offer) exchange packet words lease good comes e).granted
  answered_shows (states.Rebooting before) exchange packet words (Granted lease) good comes e = (ack_grants kinds.Frame AnyServer exchange packet words lease good comes e).granted
  answered_shows (states.Done bound) exchange packet words (Granted lease) good comes e = absurd (cc e)
  answered_shows (states.Renewing bound) exchange packet words (Granted lease) good comes e = (ack_grants (renewal_carrier (renewal_server config.message_forms bound.lease)) (refuser_of config.message_forms bound.lease) exchange packet words lease good comes e).granted
  answered_shows (states.Rebinding bound) exchange packet words (Granted lease) good comes e = (ack_grants kinds.Frame (refuser_of config.message_forms bound.lease) exchange packet words lease good comes e).granted

  requesting_good : (forms : DhcpV4MessageForms) (exchange : Exchange) → Good exchange → Good (requesting forms exchange)
  requesting_good Mozim exchange good = good
  requesting_good Rfc2131 exchange good = good

  answered_good : (state : ClientState) (answer : Answer) (now : ℕ) (exchange : Exchange) → Good exchange → Good (after_answer config.message_forms state answer now exchange).exchange
  answered_good state Refused now exchange good = good
  answered_good states.InitReboot (Granted lease) now exchange good = requesting_good config.message_forms exchange good
  answered_good (states.Selecting offer) (Granted lease) now exchange good = good
  answered_good (states.Rebooting held) (Granted lease) now exchange good = good
  answered_good (states.Done bound) (Granted lease) now exchange good = good
  answered_good (states.Renewing bound) (Granted lease) now exchange good = good
  answered_good (states.Rebinding bound) (Granted lease) now exchange good = good

  ended_good : (state : ClientState) (exchange : Exchange) → Good exchange → Good (after_end state exchange).exchange
  ended_good states.InitReboot exchange good = good
  ended_good (states.Selecting offer) exchange good = good
  ended_good (states.Rebooting held) exchange good = good
  ended_good (states.Done bound) exchange good = good
  ended_good (states.Renewing bound) exchange good = good
  ended_good (states.Rebinding bound) exchange good = good

  ended_held : (state : ClientState) (exchange : Exchange) → Held state → Held (after_end state exchange).state
  ended_held states.InitReboot exchange held = (tt, tt)
  ended_held (states.Selecting offer) exchange held = (tt, tt)
  ended_held (states.Rebooting before) exchange held = (tt, tt)
  ended_held (states.Done bound) exchange held = held
  ended_held (states.Renewing bound) exchange held = held
  ended_held (states.Rebinding bound) exchange held = (tt, tt)

  ended_shows : (state : ClientState) (exchange : Exchange) → Shows (public_state (after_end state exchange).state)
  ended_shows states.InitReboot exchange = tt
  ended_shows (states.Selecting offer) exchange = tt
  ended_shows (states.Rebooting held) exchange = tt
  ended_shows (states.Done bound) exchange = tt
  ended_shows (states.Renewing bound) exchange = tt
  ended_shows (states.Rebinding bound) exchange = tt

  client_keeps : kept.Keeps (protocol config) Good Held Comes GrantsNothing Shows moment
  client_keeps = record {
    waited = λ exchange good. good;
    attempted = λ state exchange start words good. good;
    fits = λ state exchange start words good held. attempt_nothing config within typed exchange.xid (small_by exchange good) state held.0;
    released = λ state lease exchange good held is. release_nothing config within typed exchange.xid (small_by exchange good) no_proxy lease (held_whole state lease held.0 is);
    cut = λ exchange good. good;
    cut_held = λ exchange. (tt, tt);
    answered = answered_good;
    ended = ended_good;
    ended_held = ended_held;
    answered_held = answered_held;
    shows_ended = λ state exchange good. ended_shows state exchange;
    shows_answered = answered_shows;
  }

  -- the packet of the input, if it brings one, is sound
  abbrev pub SoundIn : Input Packet → Type 0
  SoundIn (Arrival packet) = IsSound lease_sec packet
  SoundIn Nothing = Unit {0}
  SoundIn Release = Unit {0}
  SoundIn CleanUp = Unit {0}

  comes_in : (brought : Input Packet) → input ≡ brought → SoundIn brought → kept.ComesIn (protocol config) Good Held Comes GrantsNothing Shows moment brought
  comes_in (Arrival packet) is sound = (is, sound)
  comes_in Nothing is sound = tt
  comes_in Release is sound = tt
  comes_in CleanUp is sound = tt

  pub client_event : (event : NumberedEvent Packet) (view : View ClientState Exchange) → event.input ≡ input → event.moment ≡ moment → SoundIn input → Good view.exchange → Held view.state →
      kept.IsKept (protocol config) Good Held Comes GrantsNothing Shows moment (event_at (protocol config) event view)
  client_event event view is at sound good held =
      event_keeps (protocol config) Good Held Comes GrantsNothing Shows moment client_keeps event view at good held
      (subst (λ (brought : Input Packet). kept.ComesIn (protocol config) Good Held Comes GrantsNothing Shows moment brought) (sym is) (comes_in input refl sound))

-- A network of clients and one server is safe after each event, so that no address has two holders.
use Rattle.std.proofs.Common.{◌≡◌, ℕ, suc, ◌+◌, ◌*◌, ◌≤◌, ◌<◌, ◌^◌, List, [], ◌∷◌, ◌++◌, length, refl, sym, ap, arith, Bool, true, false, inl, inr, ◌∙◌, subst, IsTrue}
use Rattle.std.specs.Prelude.{All, Option, Some, None, ◌==◌, nat_le, nat_lt, slice_get, if◌then◌else◌}
use Rattle.std.specs.List.{AllByRecursion}
use Rattle.std.specs.Net.Addr.{ipv4_bits}
use Rattle.std.specs.declared.net.Ipv4Addr.{Ipv4Addr}
use Rattle.std.proofs.lemmas.Bool.Decides.{nat_tests}
use Rattle.std.proofs.lemmas.List.Elements.{All-contains, All-get_or, All-nil, All-push, All-weaker}
use Rattle.std.proofs.lemmas.Option.{get_or_from_slice_get, slice_get_within}
use Rattle.dhcp_wire.specs.Field.{◌>>=◌}
use Rattle.dhcp_clock.specs.declared.link.Handed.{Handed as Message}
use Rattle.dhcp_clock.specs.declared.link.Packet.{Packet}
use Rattle.dhcp_history.specs.declared.script.Failure.TheVariants.{TimedOut, SendRefused}
use Rattle.dhcp_history.specs.declared.script.Input.{Input}
use Rattle.dhcp_history.specs.declared.script.Input.TheVariants as inputs
use Rattle.dhcp_history.specs.declared.script.NumberedReport.{NumberedReport}
use Rattle.dhcp_history.specs.declared.script.Report.{Report}
use Rattle.dhcp_history.specs.declared.script.Report.TheVariants as reports
use Rattle.dhcp_history.specs.EventLoop.{event_at}
use Rattle.dhcp_history.specs.Machine.{EventEffect, View}
use Rattle.dhcp_history.specs.KeptByEvent as kept
use Rattle.dhcp4_server.specs.Ack.{Ack, AreLawful}
use Rattle.dhcp4_net.specs.Hold.{Covers, Grant}
use Rattle.dhcp4_net.specs.Hold as holds
use Rattle.dhcp4_net.specs.Hold.{IsBacked, IsGranted, RestsOn}
use Rattle.dhcp4_server.proofs.AckLemmas.{lawful_later, same_if_not_other}
use Rattle.dhcp4_net.proofs.HoldLemmas.{backed_later, backed_more, granted_more, granted_now, held_apart}
use Rattle.dhcp4_lease.specs.Config.{Config, is_within_limits}
use Rattle.dhcp4_lease.specs.Laws.{IsTyped}
use Rattle.dhcp4_lease.specs.Lease.{Lease}
use Rattle.dhcp4_client.specs.Rules.{protocol}
use Rattle.dhcp4_client.specs.declared.client_state.ClientState.{ClientState}
use Rattle.dhcp4_client.specs.declared.client_state.Exchange.{Exchange}
use Rattle.dhcp4_client.specs.declared.state.PlainState.{PlainState}
use Rattle.dhcp4_client.specs.declared.state.PlainState.TheVariants as plain
use Rattle.dhcp_history.specs.BoundLease.{Bound as BoundLease}
use Rattle.dhcp4_client.specs.declared.client_state.ClientState.TheVariants as states
use Rattle.dhcp4_net.specs.Grants.{GrantedIn, GrantsNothing, HoldsBacked, HoldsWhole, IsSound, ShowsGrant, grant_of, packet_of}
use Rattle.dhcp4_net.specs.Net.{Log, Net, after_client, after_event, after_server, after_who, arrival_of, delivered, in_time, input_of, log_packet, log_reply, log_report, log_reports, net_after}
use Rattle.dhcp4_net.specs.declared.script.NetAct.{NetAct}
use Rattle.dhcp4_net.specs.declared.script.NetEvent.{NetEvent}
use Rattle.dhcp4_net.specs.declared.output.NetOutput.{NetOutput}
use Rattle.dhcp4_net.specs.declared.output.NetWhat.{NetWhat}
use Rattle.dhcp4_net.specs.declared.script.NetWho.{NetWho}
use Rattle.dhcp4_net.specs.declared.log.SentPacket.{SentPacket}
use Rattle.dhcp4_net.specs.declared.script.NetAct.TheVariants.{CleanUp, Deliver, Nothing, Release}
use Rattle.dhcp4_net.specs.declared.script.NetWho.TheVariants.{Client, Server}
use Rattle.dhcp4_net.specs.declared.output.NetWhat.TheVariants.{Failed, Hold, Sent}
use Rattle.dhcp4_server.specs.Answer.{Answer as Served}
use Rattle.dhcp4_client.specs.Held.{bound_lease}
use Rattle.dhcp4_net.specs.OneAddress.{Holds, OneAddress, OneHolder, OwnsAt, ServesBy, ServesSoundly}
use Rattle.dhcp4_net.proofs.AnswerLemmas.{Bound, bind_some, if_some}
use Rattle.dhcp4_net.proofs.ClientLemmas as clients

-- what every client of the network has
pub record IsClient (config : Config) (xid : ℕ) : Type 0 where
  pub within : IsTrue (is_within_limits config)
  pub typed : IsTyped config
  pub no_proxy : config.is_proxy ≡ false
  pub small : xid < 2 ^ 32

at_place : {A : Type 0} (P : A → Type 0) (xs : List A) (i : ℕ) (x : A) → All P xs → slice_get xs i ≡ Some x → P x
at_place P xs i x all is = subst P (get_or_from_slice_get xs i x x is) (All-get_or P xs i x (slice_get_within xs i x is) all)

module _ (serve : List Ack → ℕ → Packet → Served) (configs : ℕ → Config) (ids : ℕ → ℕ) (lease_sec bound count : ℕ) where
  abbrev lease : ℕ
  lease = 1000 * lease_sec

  -- 1. What holds of the network.

  abbrev sent_of : SentPacket → holds.Sent
  sent_of one = record { moment = one.moment; grant = grant_of one.packet }

  record IsSentSoundly (acks : List Ack) (now : ℕ) (one : SentPacket) : Type 0 where
    backed : IsBacked acks now (sent_of one)
    sound : IsSound lease_sec one.packet

  record IsHeld (acks : List Ack) (client : ℕ) (address : Ipv4Addr) (from until : ℕ) : Type 0 where
    known : client < count
    granted : IsGranted lease bound acks (record { xid = ids client; address = ipv4_bits address; from = from; until = until })

  abbrev Tells : List Ack → NetWhat → Type 0
  Tells acks (Sent number) = Unit {0}
  Tells acks (Hold client address from until) = IsHeld acks client address from until
  Tells acks (Failed client) = Unit {0}

  abbrev TellsIn : List Ack → NetOutput → Type 0
  TellsIn acks output = Tells acks output.what

  record SafeLog (acks : List Ack) (now : ℕ) (log : Log) : Type 0 where
    sent : All (IsSentSoundly acks now) log.sent
    outputs : All (TellsIn acks) log.outputs

  -- a lease rests on an Ack to the client, from the moment on from which it is held
  abbrev Backs : List Ack → ℕ → BoundLease Lease → Type 0
  Backs acks client held = IsGranted lease bound acks (record {
    xid = ids client;
    address = ipv4_bits held.lease.yiaddr;
    from = held.since;
    until = held.since + 1000 * held.lease.lease_time_sec;
  })

  pub record IsOwn (acks : List Ack) (client : ℕ) (view : View ClientState Exchange) : Type 0 where
    pub xid : view.exchange.xid ≡ ids client
    pub whole : HoldsWhole view.state
    pub backed : HoldsBacked (Backs acks client) view.state

  pub record IsSafeNet (net : Net) : Type 0 where
    acks : AreLawful (lease + bound) net.now net.acks
    log : SafeLog net.acks net.now (record { sent = net.sent; outputs = net.outputs })
    clients : (client : ℕ) → client < count → IsOwn net.acks client (net.clients client)

  -- a network at its start
  pub begun_safe : (start : ℕ) (views : ℕ → View ClientState Exchange) → ((client : ℕ) → client < count → IsOwn [] client (views client)) →
      IsSafeNet (record { now = start; acks = []; sent = []; clients = views; outputs = [] })
  begun_safe start views own = record {
    acks = tt;
    log = record { sent = All-nil (IsSentSoundly [] start); outputs = All-nil (TellsIn []) };
    clients = own;
  }

  -- it goes on holding later, and after one more Ack
  sent_later : (acks : List Ack) (now later : ℕ) → now ≤ later → (one : SentPacket) → IsSentSoundly acks now one → IsSentSoundly acks later one
  sent_later acks now later le one h = record { backed = backed_later acks now later le (sent_of one) h.backed; sound = h.sound }

  own_more : (ack : Ack) (acks : List Ack) (client : ℕ) (view : View ClientState Exchange) → IsOwn acks client view → IsOwn (ack ∷ acks) client view
  own_more ack acks client view own = record { xid = own.xid; whole = own.whole; backed = go view.state own.backed }
    where
      one : (held : BoundLease Lease) → Backs acks client held → Backs (ack ∷ acks) client held
      one held h = granted_more lease bound ack acks (record { xid = ids client; address = ipv4_bits held.lease.yiaddr; from = held.since; until = held.since + 1000 * held.lease.lease_time_sec }) h

      go : (state : ClientState) → HoldsBacked (Backs acks client) state → HoldsBacked (Backs (ack ∷ acks) client) state
      go states.InitReboot h = tt
      go (states.Selecting offer) h = tt
      go (states.Rebooting held) h = tt
      go (states.Done held) h = one held h
      go (states.Renewing held) h = one held h
      go (states.Rebinding held) h = one held h

  sent_more : (ack : Ack) (acks : List Ack) (now : ℕ) (one : SentPacket) → IsSentSoundly acks now one → IsSentSoundly (ack ∷ acks) now one
  sent_more ack acks now one h = record { backed = backed_more ack acks now now (omega arith) (sent_of one) h.backed; sound = h.sound }

  tells_more : (ack : Ack) (acks : List Ack) (output : NetOutput) → TellsIn acks output → TellsIn (ack ∷ acks) output
  tells_more ack acks output h = go output.what h
    where
      go : (what : NetWhat) → Tells acks what → Tells (ack ∷ acks) what
      go (Sent number) h = tt
      go (Hold client address from until) h = record {
        known = h.known;
        granted = granted_more lease bound ack acks (record { xid = ids client; address = ipv4_bits address; from = from; until = until }) h.granted;
      }
      go (Failed client) h = tt

  log_later : (acks : List Ack) (now later : ℕ) (log : Log) → now ≤ later → SafeLog acks now log → SafeLog acks later log
  log_later acks now later log le safe = record {
    sent = All-weaker (IsSentSoundly acks now) (IsSentSoundly acks later) (sent_later acks now later le) log.sent safe.sent;
    outputs = safe.outputs;
  }

  log_more : (ack : Ack) (acks : List Ack) (now : ℕ) (log : Log) → SafeLog acks now log → SafeLog (ack ∷ acks) now log
  log_more ack acks now log safe = record {
    sent = All-weaker (IsSentSoundly acks now) (IsSentSoundly (ack ∷ acks) now) (sent_more ack acks now) log.sent safe.sent;
    outputs = All-weaker (TellsIn acks) (TellsIn (ack ∷ acks)) (tells_more ack acks) log.outputs safe.outputs;
  }

  -- 2. What an event adds.

  pushed : (acks : List Ack) (now number client : ℕ) (packet : Packet) (log : Log) → SafeLog acks now log → IsSentSoundly acks now (record { packet = packet; moment = now }) → SafeLog acks now (log_packet number now client packet log)
  pushed acks now number client packet log safe one = record {
    sent = All-push (IsSentSoundly acks now) log.sent (record { packet = packet; moment = now }) safe.sent one;
    outputs = All-push (TellsIn acks) log.outputs (record { event = number; what = Sent (length log.sent) }) safe.outputs tt;
  }

  told : (acks : List Ack) (now number : ℕ) (what : NetWhat) (log : Log) → SafeLog acks now log → Tells acks what → SafeLog acks now (record log { outputs = log.outputs ++ record { event = number; what = what } ∷ [] })
  told acks now number what log safe h = record {
    sent = safe.sent;
    outputs = All-push (TellsIn acks) log.outputs (record { event = number; what = what }) safe.outputs h;
  }

  -- a packet that grants nothing
  nothing_sent : (acks : List Ack) (now : ℕ) (packet : Packet) → grant_of packet ≡ None → IsSound lease_sec packet → IsSentSoundly acks now (record { packet = packet; moment = now })
  nothing_sent acks now packet none sound = record {
    backed = record { past = omega arith; backed = subst (RestsOn acks now) (sym none) tt };
    sound = sound;
  }

  -- a packet that was sent so is brought in time
  record Brings (acks : List Ack) (now : ℕ) (packet : Packet) : Type 0 where
    moment : ℕ
    sent : IsSentSoundly acks now (record { packet = packet; moment = moment })
    in_time : now ≤ moment + bound

  abbrev Brought : List Ack → ℕ → Input Packet → Type 0
  Brought acks now (inputs.Arrival packet) = Brings acks now packet
  Brought acks now inputs.Nothing = Unit {0}
  Brought acks now inputs.Release = Unit {0}
  Brought acks now inputs.CleanUp = Unit {0}

  held_now : (acks : List Ack) (now client : ℕ) (input : Input Packet) (taken : Lease) → client < count → Brought acks now input → GrantedIn lease_sec (ids client) input taken →
      IsHeld acks client taken.yiaddr now (now + 1000 * taken.lease_time_sec)
  held_now acks now client (inputs.Arrival packet) taken known brought granted = record {
    known = known;
    granted = subst (λ (seconds : ℕ). IsGranted lease bound acks (record { xid = ids client; address = ipv4_bits taken.yiaddr; from = now; until = now + 1000 * seconds })) (sym granted.time)
        (granted_now lease bound acks now now (sent_of (record { packet = packet; moment = brought.moment })) (record { xid = ids client; address = ipv4_bits taken.yiaddr })
        (omega arith) brought.sent.backed granted.grant brought.in_time);
  }
  held_now acks now client inputs.Nothing taken known brought granted = absurd granted
  held_now acks now client inputs.Release taken known brought granted = absurd granted
  held_now acks now client inputs.CleanUp taken known brought granted = absurd granted

  abbrev Good : ℕ → Exchange → Type 0
  Good client exchange = exchange.xid ≡ ids client

  abbrev Comes : Input Packet → Packet → Type 0
  Comes input packet = (input ≡ inputs.Arrival packet) × IsSound lease_sec packet

  abbrev Held : List Ack → ℕ → ClientState → Type 0
  Held acks client state = HoldsWhole state × HoldsBacked (Backs acks client) state

  abbrev TellsOf : List Ack → ℕ → ℕ → Input Packet → Report PlainState Message → Type 0
  TellsOf acks moment client input = kept.Tells (protocol (configs client)) (Good client) (Held acks client) (Comes input) GrantsNothing (ShowsGrant lease_sec (ids client) input) moment

  state_safe : (acks : List Ack) (now number client : ℕ) (input : Input Packet) (state : PlainState) (log : Log) → client < count → Brought acks now input → ShowsGrant lease_sec (ids client) input state → SafeLog acks now log →
      SafeLog acks now (log_report number now client (reports.Changed state) log)
  state_safe acks now number client input plain.InitReboot log known brought shows safe = safe
  state_safe acks now number client input plain.Selecting log known brought shows safe = safe
  state_safe acks now number client input (plain.Done taken) log known brought shows safe =
      told acks now number (Hold client taken.yiaddr now (now + 1000 * taken.lease_time_sec)) log safe (held_now acks now client input taken known brought shows)
  state_safe acks now number client input plain.Renewing log known brought shows safe = safe
  state_safe acks now number client input plain.Rebinding log known brought shows safe = safe

  report_safe : (acks : List Ack) (now number client : ℕ) (input : Input Packet) (report : Report PlainState Message) (log : Log) → client < count → Brought acks now input → TellsOf acks now client input report → SafeLog acks now log →
      SafeLog acks now (log_report number now client report log)
  report_safe acks now number client input (reports.Handed message) log known brought tells safe =
      pushed acks now number client (packet_of message) log safe (nothing_sent acks now (packet_of message) tells.none (tells.sound lease_sec))
  report_safe acks now number client input (reports.Refused message) log known brought tells safe = safe
  report_safe acks now number client input (reports.Changed state) log known brought tells safe = state_safe acks now number client input state log known brought tells safe
  report_safe acks now number client input (reports.Failed SendRefused) log known brought tells safe = told acks now number (Failed client) log safe tt
  report_safe acks now number client input (reports.Failed TimedOut) log known brought tells safe = safe

  reports_safe : (acks : List Ack) (now number client : ℕ) (input : Input Packet) (outputs : List (NumberedReport PlainState Message)) (log : Log) → client < count → Brought acks now input →
      AllByRecursion (λ output. TellsOf acks now client input output.report) outputs → SafeLog acks now log → SafeLog acks now (log_reports number now client outputs log)
  reports_safe acks now number client input [] log known brought tells safe = safe
  reports_safe acks now number client input (output ∷ outputs) log known brought tells safe =
      reports_safe acks now number client input outputs (log_report number now client output.report log) known brought tells.1
      (report_safe acks now number client input output.report log known brought tells.0 safe)

  backs_now : (acks : List Ack) (now client : ℕ) (input : Input Packet) → client < count → Brought acks now input → (taken : Lease) → GrantedIn lease_sec (ids client) input taken → Backs acks client (record { lease = taken; since = now })
  backs_now acks now client input known brought taken granted = (held_now acks now client input taken known brought granted).granted

  sound_in : (acks : List Ack) (now client : ℕ) (input : Input Packet) → (is : IsClient (configs client) (ids client)) → (known : client < count) → (brought : Brought acks now input) → clients.SoundIn (configs client) is.within is.typed is.no_proxy (ids client) is.small lease_sec input now (Backs acks client) (backs_now acks now client input known brought) input
  sound_in acks now client (inputs.Arrival packet) is known brought = brought.sent.sound
  sound_in acks now client inputs.Nothing is known brought = tt
  sound_in acks now client inputs.Release is known brought = tt
  sound_in acks now client inputs.CleanUp is known brought = tt

  module _ (soundly : ServesSoundly (lease + bound) lease_sec serve) (are : (client : ℕ) → client < count → IsClient (configs client) (ids client)) where
    client_safe : (net : Net) (number now client : ℕ) (refuse : Bool) (input : Input Packet) → IsSafeNet net → net.now ≤ now → client < count → Brought net.acks now input →
        IsSafeNet (after_client serve configs bound count net number now client refuse input)
    client_safe net number now client refuse input safe le known brought =
        let is : IsClient (configs client) (ids client) = are client known in
        let own : IsOwn net.acks client (net.clients client) = safe.clients client known in
        let effect : EventEffect PlainState Message ClientState Exchange = event_at (protocol (configs client)) (record { number = number; moment = now; refuse = refuse; input = input }) (net.clients client) in
        let keeps : kept.IsKept (protocol (configs client)) (Good client) (Held net.acks client) (Comes input) GrantsNothing (ShowsGrant lease_sec (ids client) input) now effect =
        clients.client_event (configs client) is.within is.typed is.no_proxy (ids client) is.small lease_sec input now (Backs net.acks client) (backs_now net.acks now client input known brought)
        (record { number = number; moment = now; refuse = refuse; input = input }) (net.clients client) refl refl (sound_in net.acks now client input is known brought) own.xid (own.whole, own.backed) in
        let log : SafeLog net.acks now (log_reports number now client effect.outputs (record { sent = net.sent; outputs = net.outputs })) =
        reports_safe net.acks now number client input effect.outputs (record { sent = net.sent; outputs = net.outputs }) known brought keeps.told
        (log_later net.acks net.now now (record { sent = net.sent; outputs = net.outputs }) le safe.log) in
        record {
          acks = lawful_later (lease + bound) net.now now net.acks le safe.acks;
          log = log;
          clients = λ other inside. view_is other client inside (other == client) refl effect.view (record { xid = keeps.good; whole = keeps.held.0; backed = keeps.held.1 }) (safe.clients other inside);
        }
      where
        view_is : (other client : ℕ) → other < count → (test : Bool) → (other == client) ≡ test → (view : View ClientState Exchange) → IsOwn net.acks client view → IsOwn net.acks other (net.clients other) → IsOwn net.acks other (if test then view else net.clients other)
        view_is other client inside true e view own before = let same : client ≡ other = grind (arith, nat_tests) in subst (λ (one : ℕ). IsOwn net.acks one view) same own
        view_is other client inside false e view own before = before

    -- what the server answers
    reply_safe : (net : Net) (number now : ℕ) (reply : Option Packet) (after : List Ack) → IsSafeNet net → net.now ≤ now → ServesBy (lease + bound) lease_sec net.acks now reply after →
        IsSafeNet (record {
          now = now;
          acks = after;
          sent = (log_reply serve configs bound count number now reply (record { sent = net.sent; outputs = net.outputs })).sent;
          clients = net.clients;
          outputs = (log_reply serve configs bound count number now reply (record { sent = net.sent; outputs = net.outputs })).outputs;
        })
    reply_safe net number now None after safe le serves = record {
      acks = subst (AreLawful (lease + bound) now) (sym serves) (lawful_later (lease + bound) net.now now net.acks le safe.acks);
      log = subst (λ (acks : List Ack). SafeLog acks now (record { sent = net.sent; outputs = net.outputs })) (sym serves) (log_later net.acks net.now now (record { sent = net.sent; outputs = net.outputs }) le safe.log);
      clients = subst (λ (acks : List Ack). (client : ℕ) → client < count → IsOwn acks client (net.clients client)) (sym serves) safe.clients;
    }
    reply_safe net number now (Some packet) after safe le (sound, inl grants) =
        let ack : Ack = record { moment = now; xid = grants.xid; address = grants.address } in
        let log : Log = record { sent = net.sent; outputs = net.outputs } in
        let earlier : SafeLog net.acks now log = log_later net.acks net.now now log le safe.log in
        let one : IsSentSoundly (ack ∷ net.acks) now (record { packet = packet; moment = now }) = record {
          backed = record { past = omega arith; backed = subst (RestsOn (ack ∷ net.acks) now) (sym grants.grant) (inl refl) };
          sound = sound;
        } in
        record {
          acks = subst (AreLawful (lease + bound) now) (sym grants.noted) (omega arith, grants.free, lawful_later (lease + bound) net.now now net.acks le safe.acks);
          log = subst (λ (acks : List Ack). SafeLog acks now (log_packet number now 0 packet log)) (sym grants.noted)
              (pushed (ack ∷ net.acks) now number 0 packet log (log_more ack net.acks now log earlier) one);
          clients = subst (λ (acks : List Ack). (client : ℕ) → client < count → IsOwn acks client (net.clients client)) (sym grants.noted)
              (λ client known. own_more ack net.acks client (net.clients client) (safe.clients client known));
        }
    reply_safe net number now (Some packet) after safe le (sound, inr denies) =
        let log : Log = record { sent = net.sent; outputs = net.outputs } in
        let earlier : SafeLog net.acks now log = log_later net.acks net.now now log le safe.log in
        record {
          acks = subst (AreLawful (lease + bound) now) (sym denies.unchanged) (lawful_later (lease + bound) net.now now net.acks le safe.acks);
          log = subst (λ (acks : List Ack). SafeLog acks now (log_packet number now 0 packet log)) (sym denies.unchanged)
              (pushed net.acks now number 0 packet log earlier (nothing_sent net.acks now packet denies.none sound));
          clients = subst (λ (acks : List Ack). (client : ℕ) → client < count → IsOwn acks client (net.clients client)) (sym denies.unchanged) safe.clients;
        }

    server_safe : (net : Net) (number now : ℕ) (packet : Packet) → IsSafeNet net → net.now ≤ now → Brings net.acks now packet → IsSafeNet (after_server serve configs bound count net number now packet)
    server_safe net number now packet safe le brings = reply_safe net number now (serve net.acks now packet).reply (serve net.acks now packet).acks safe le (soundly net.acks now packet brings.sent.sound.answerable)

    -- 3. Each event.

    delivered_brought : (net : Net) (now number : ℕ) (packet : Packet) → IsSafeNet net → net.now ≤ now → delivered bound net.sent now number ≡ Some packet → Brings net.acks now packet
    delivered_brought net now number packet safe le e =
        let found : Bound (slice_get net.sent number) (in_time bound now) packet = bind_some (slice_get net.sent number) (in_time bound now) packet e in
        let one : SentPacket = found.value in
        let kept_in : (nat_le now (one.moment + bound) ≡ true) × (one.packet ≡ packet) = if_some (nat_le now (one.moment + bound)) one.packet packet found.next_is in
        let was : IsSentSoundly net.acks net.now one = at_place (IsSentSoundly net.acks net.now) net.sent number one safe.log.sent found.is in
        record {
          moment = one.moment;
          sent = subst (λ (brought : Packet). IsSentSoundly net.acks now (record { packet = brought; moment = one.moment })) kept_in.1 (sent_later net.acks net.now now le one was);
          in_time = grind (arith, nat_tests, kept_in.0);
        }

    brought_by : (net : Net) (now : ℕ) (act : NetAct) (input : Input Packet) → IsSafeNet net → net.now ≤ now → input_of bound net.sent now act ≡ Some input → Brought net.acks now input
    brought_by net now Nothing input safe le e = let is : inputs.Nothing ≡ input = cc e in subst (Brought net.acks now) is tt
    brought_by net now (Deliver number) input safe le e =
        let found : Bound (delivered bound net.sent now number) arrival_of input = bind_some (delivered bound net.sent now number) arrival_of input e in
        let is : inputs.Arrival found.value ≡ input = cc found.next_is in
        subst (Brought net.acks now) is (delivered_brought net now number found.value safe le found.is)
    brought_by net now Release input safe le e = let is : inputs.Release ≡ input = cc e in subst (Brought net.acks now) is tt
    brought_by net now CleanUp input safe le e = let is : inputs.CleanUp ≡ input = cc e in subst (Brought net.acks now) is tt

    who_safe : (net : Net) (number now : ℕ) (who : NetWho) (next : Net) → IsSafeNet net → net.now ≤ now → after_who serve configs bound count net number now who ≡ Some next → IsSafeNet next
    who_safe net number now (Client client refuse act) next safe le e = go (nat_lt client count) refl e
      where
        go : (test : Bool) → nat_lt client count ≡ test →
            (if test then input_of bound net.sent now act >>= (λ input. Some (after_client serve configs bound count net number now client refuse input)) else None) ≡ Some next → IsSafeNet next
        go false t e = absurd (cc e)
        go true t e =
            let found : Bound (input_of bound net.sent now act) (λ input. Some (after_client serve configs bound count net number now client refuse input)) next =
            bind_some (input_of bound net.sent now act) (λ input. Some (after_client serve configs bound count net number now client refuse input)) next e in
            let is : after_client serve configs bound count net number now client refuse found.value ≡ next = cc found.next_is in
            let known : client < count = grind (arith, nat_tests) in
            subst IsSafeNet is (client_safe net number now client refuse found.value safe le known (brought_by net now act found.value safe le found.is))
    who_safe net number now (Server packet) next safe le e =
        let found : Bound (delivered bound net.sent now packet) (λ brought. Some (after_server serve configs bound count net number now brought)) next =
        bind_some (delivered bound net.sent now packet) (λ brought. Some (after_server serve configs bound count net number now brought)) next e in
        let is : after_server serve configs bound count net number now found.value ≡ next = cc found.next_is in
        subst IsSafeNet is (server_safe net number now found.value safe le (delivered_brought net now packet found.value safe le found.is))

    event_safe : (net : Net) (number : ℕ) (event : NetEvent) (next : Net) → IsSafeNet net → after_event serve configs bound count net number event ≡ Some next → IsSafeNet next
    event_safe net number event next safe e = go (nat_le net.now event.moment) refl e
      where
        go : (test : Bool) → nat_le net.now event.moment ≡ test → (if test then after_who serve configs bound count net number event.moment event.who else None) ≡ Some next → IsSafeNet next
        go false t e = absurd (cc e)
        go true t e = who_safe net number event.moment event.who next safe (grind (arith, nat_tests)) e

    pub net_safe : (net : Net) (number : ℕ) (events : List NetEvent) (end : Net) → IsSafeNet net → net_after serve configs bound count net number events ≡ Some end → IsSafeNet end
    net_safe net number [] end safe e = let is : net ≡ end = cc e in subst IsSafeNet is safe
    net_safe net number (event ∷ events) end safe e =
        let found : Bound (after_event serve configs bound count net number event) (λ next. net_after serve configs bound count next (suc number) events) end =
        bind_some (after_event serve configs bound count net number event) (λ next. net_after serve configs bound count next (suc number) events) end e in
        net_safe found.value (suc number) events end (event_safe net number event found.value safe found.is) found.next_is

  -- 4. No address has two holders.

  module _ (distinct : (one other : ℕ) → one < count → other < count → ids one ≡ ids other → one ≡ other) where
    held_by : (acks : List Ack) (moment client : ℕ) (address : Ipv4Addr) (output : NetOutput) → TellsIn acks output → (holds : Holds moment client address output) → IsHeld acks client address holds.from holds.until
    held_by acks moment client address output tells holds = subst (Tells acks) holds.is tells

    pub one_address : (net : Net) → IsSafeNet net → OneAddress net.outputs
    one_address net safe one other moment client second address has_one has_other holds_one holds_other =
        let own : IsHeld net.acks client address holds_one.from holds_one.until =
        held_by net.acks moment client address one (All-contains (TellsIn net.acks) net.outputs one safe.log.outputs has_one) holds_one in
        let their : IsHeld net.acks second address holds_other.from holds_other.until =
        held_by net.acks moment second address other (All-contains (TellsIn net.acks) net.outputs other safe.log.outputs has_other) holds_other in
        distinct client second own.known their.known
        (same_if_not_other (ids client) (ids second)
        (held_apart lease bound net.now net.acks safe.acks
        (record { xid = ids client; address = ipv4_bits address; from = holds_one.from; until = holds_one.until })
        (record { xid = ids second; address = ipv4_bits address; from = holds_other.from; until = holds_other.until })
        moment own.granted their.granted refl
        (record { begun = holds_one.begun; lasts = holds_one.lasts }) (record { begun = holds_other.begun; lasts = holds_other.lasts })))

    -- nor do two clients whose states hold a lease of it
    owned : (acks : List Ack) (client moment : ℕ) (address : Ipv4Addr) (view : View ClientState Exchange) → IsOwn acks client view → (owns : OwnsAt moment address view.state) →
        Backs acks client (record { lease = owns.lease; since = owns.since })
    owned acks client moment address view own owns = go view.state own.backed owns.is
      where
        go : (state : ClientState) → HoldsBacked (Backs acks client) state → bound_lease state ≡ Some (record { lease = owns.lease; since = owns.since }) → Backs acks client (record { lease = owns.lease; since = owns.since })
        go states.InitReboot h e = absurd (cc e)
        go (states.Selecting offer) h e = absurd (cc e)
        go (states.Rebooting held) h e = absurd (cc e)
        go (states.Done held) h e = let same : held ≡ record { lease = owns.lease; since = owns.since } = cc e in subst (Backs acks client) same h
        go (states.Renewing held) h e = let same : held ≡ record { lease = owns.lease; since = owns.since } = cc e in subst (Backs acks client) same h
        go (states.Rebinding held) h e = let same : held ≡ record { lease = owns.lease; since = owns.since } = cc e in subst (Backs acks client) same h

    pub one_holder : (net : Net) → IsSafeNet net → OneHolder count net
    one_holder net safe one other moment address one_in other_in owns theirs =
        let own : Backs net.acks one (record { lease = owns.lease; since = owns.since }) = owned net.acks one moment address (net.clients one) (safe.clients one one_in) owns in
        let their : Backs net.acks other (record { lease = theirs.lease; since = theirs.since }) = owned net.acks other moment address (net.clients other) (safe.clients other other_in) theirs in
        distinct one other one_in other_in
        (same_if_not_other (ids one) (ids other)
        (held_apart lease bound net.now net.acks safe.acks
        (record { xid = ids one; address = ipv4_bits owns.lease.yiaddr; from = owns.since; until = owns.since + 1000 * owns.lease.lease_time_sec })
        (record { xid = ids other; address = ipv4_bits theirs.lease.yiaddr; from = theirs.since; until = theirs.since + 1000 * theirs.lease.lease_time_sec })
        moment own their (ap ipv4_bits (owns.address_is ∙ sym theirs.address_is))
        (record { begun = owns.begun; lasts = owns.lasts }) (record { begun = theirs.begun; lasts = theirs.lasts })))

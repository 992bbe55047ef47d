-- A network that runs goes on standing for a network.
use Rattle.std.proofs.Common.{◌≡◌, ℕ, suc, ◌≤◌, ◌<◌, List, ◌∷◌, drop, length, true, false, Option, None, Some, Ok, refl, sym, ap, ◌∙◌, subst, Bool, slice_set}
use Rattle.std.specs.Prelude.{◌==◌, if◌then◌else◌, slice_get, slice_index_or}
use Rattle.std.proofs.lemmas.Bool.{eq-eqb, eqb-true}
use Rattle.std.proofs.lemmas.List.{get_or-set_other, length-set}
use Rattle.std.proofs.lemmas.Grind.{get_or-set_at}
use Rattle.std.proofs.lemmas.Option.{slice_get-get_or}
use Rattle.dhcp_clock.specs.declared.link.Handed.{Handed}
use Rattle.dhcp_clock.specs.declared.link.Packet.{Packet}
use Rattle.dhcp_history.specs.EventLoop.{event_at}
use Rattle.dhcp_history.specs.Machine.{EventEffect, View}
use Rattle.dhcp_history.specs.declared.script.NumberedEvent.{NumberedEvent}
use Rattle.dhcp_history.specs.declared.script.Input.{Input}
use Rattle.dhcp_history.specs.declared.script.NumberedReport.{NumberedReport}
use Rattle.dhcp4_lease.specs.Config.{Config}
use Rattle.dhcp4_client.specs.Rules.{protocol}
use Rattle.dhcp4_client.specs.declared.client_state.ClientState.{ClientState}
use Rattle.dhcp4_client.specs.declared.client_state.Exchange.{Exchange}
use Rattle.dhcp4_client.specs.declared.state.PlainState.{PlainState}
use Rattle.dhcp4_server.specs.Answer.{answer_to}
use Rattle.dhcp4_server.specs.Config.{kept_ms}
use Rattle.dhcp4_server.specs.Server.{Server, StandsFor, bindings_of}
use Rattle.dhcp4_server.specs.declared.config.ServerConfig.{ServerConfig}
use Rattle.dhcp4_server.proofs.BindingLemmas.{stands_later}
use Rattle.dhcp_wire.specs.Field.{◌>>=◌}
use Rattle.dhcp4_net.specs.Net.{Log, Net, after_client, after_event, log_reports, net_after}
use Rattle.dhcp4_net.specs.Clients.{HasPlayed, IsPeer, Plays}
use Rattle.dhcp4_net.specs.Running.{ArePeers, HasPlayedAt, IsPeerAt, PlaysAt, StandsForNet, StepsTo, with_view}
use Rattle.dhcp4_net.specs.Script.{GoesOn}
use Rattle.dhcp4_net.specs.declared.script.NetEvent.{NetEvent}
use Rattle.dhcp4_net.specs.declared.peer.Peer.{Peer}
use Rattle.dhcp4_net.specs.declared.running.RunningNet.{RunningNet}

-- one peer plays an event, and the others stay
pub played_at : (client : ℕ) (event : NumberedEvent Packet) (reported : List (NumberedReport PlainState Handed)) (before : List Peer) (one after : Peer) →
    client < length before → Plays event reported (slice_index_or before client one) after → PlaysAt client event reported before (slice_set before client after)
played_at client event reported before one after inside plays configs views are =
    let once : EventEffect PlainState Handed ClientState Exchange = event_at (protocol (configs client)) event (views client) in
    let played : HasPlayed once (configs client) reported after = plays (configs client) (views client) (subst (IsPeerAt (configs client) (views client)) (slice_get-get_or before client one inside) (are client inside)) in
    record {
      reported_is = played.reported_is;
      peers = peer_is once.view played.after_is;
      count = length-set before client after;
    }
  where
    peer_is : (view : View ClientState Exchange) → IsPeer (configs client) view after → ArePeers configs (with_view views client view) (slice_set before client after)
    peer_is view has number less = go (number == client) refl
      where
        there : slice_get (slice_set before client after) number ≡ Some (slice_index_or (slice_set before client after) number one)
        there = slice_get-get_or (slice_set before client after) number one less

        go : (test : Bool) → (number == client) ≡ test → IsPeerAt (configs number) (if test then view else views number) (slice_get (slice_set before client after) number)
        go true same =
            let number_is : number ≡ client = eqb-true number client same in
            subst (IsPeerAt (configs number) view) (sym (there ∙ ap Some (get_or-set_at before client number after one number_is inside))) (subst (λ (at : ℕ). IsPeer (configs at) view after) (sym number_is) has)
        go false other =
            let within : number < length before = subst (λ (bound : ℕ). number < bound) (length-set before client after) less in
            subst (IsPeerAt (configs number) (views number))
            (slice_get-get_or before number one within ∙ ap Some (sym (get_or-set_other before client number after one (λ is. absurd (cc (eq-eqb number client is, other))))) ∙ sym there) (are number within)

-- a client has played an event, and what it reported was logged
pub client_played : (config : ServerConfig) (configs : ℕ → Config) (count : ℕ) (net : Net) (before after : RunningNet) (number now client : ℕ) (refuse : Bool) (input : Input Packet) (reported : List (NumberedReport PlainState Handed)) →
    StandsForNet config configs count before net → net.now ≤ now →
    PlaysAt client (record { number = number; moment = now; refuse = refuse; input = input }) reported before.peers.items after.peers.items →
    after.log ≡ log_reports number now client reported before.log → after.now ≡ now → after.server ≡ before.server → after.bound_ms ≡ before.bound_ms →
    StandsForNet config configs count after (after_client (answer_to config) configs config.bound_ms count net number now client refuse input)
client_played config configs count net before after number now client refuse input reported stands le plays logged moved server bound =
    let event : NumberedEvent Packet = record { number = number; moment = now; refuse = refuse; input = input } in
    let played : HasPlayedAt (event_at (protocol (configs client)) event (net.clients client)) client configs net.clients reported before.peers.items after.peers.items = plays configs net.clients stands.peers in
    record {
      now = moved;
      log = logged ∙ ap (λ (outputs : List (NumberedReport PlainState Handed)). log_reports number now client outputs before.log) played.reported_is
          ∙ ap (λ (log : Log). log_reports number now client (event_at (protocol (configs client)) event (net.clients client)).outputs log) stands.log;
      config_is = ap (λ (one : Server). one.config) server ∙ stands.config_is;
      bound_is = bound ∙ stands.bound_is;
      server = subst (λ (one : Server). StandsFor one now net.acks) (sym server) (stands_later (kept_ms before.server.config) net.now (bindings_of before.server) net.acks stands.server now le);
      count_is = played.count ∙ stands.count_is;
      peers = played.peers;
    }

-- an event of a client steps to what it leaves, where the client is there and its input may come
pub client_stepped : (config : ServerConfig) (configs : ℕ → Config) (count : ℕ) (after : RunningNet) (test : Bool) (found : Option (Input Packet)) (input : Input Packet) (next : Input Packet → Net) →
    test ≡ true → found ≡ Some input → StandsForNet config configs count after (next input) →
    StepsTo config configs count (Ok true) after (if test then found >>= (λ one. Some (next one)) else None)
client_stepped config configs count after test found input next inside is stands = rw inside (rw is stands)

module _ (config : ServerConfig) (configs : ℕ → Config) (count : ℕ) where
  abbrev after_events : Net → ℕ → List NetEvent → Option Net
  after_events = net_after (answer_to config) configs config.bound_ms count

  abbrev after_one : Net → ℕ → NetEvent → Option Net
  after_one = after_event (answer_to config) configs config.bound_ms count

  abbrev Goes : Option Net → ℕ → List NetEvent → RunningNet → Type 0
  Goes = GoesOn config configs count

  -- where an event may not come, the network does not go on
  pub refused_step : (whole : Option Net) (number index : ℕ) (events : List NetEvent) (event : NetEvent) (before after final : RunningNet) (on : Goes whole number (drop index events) before) →
      drop index events ≡ event ∷ drop (suc index) events → StepsTo config configs count (Ok false) after (after_one on.net number event) → StepsTo config configs count (Ok false) final whole
  refused_step whole number index events event before after final on is stepped = go (after_one on.net number event) refl stepped
    where
      go : (next : Option Net) → after_one on.net number event ≡ next → StepsTo config configs count (Ok false) after next → StepsTo config configs count (Ok false) final whole
      go None e s =
          subst (StepsTo config configs count (Ok false) final)
          (sym (on.ends ∙ ap (after_events on.net number) is ∙ ap (λ (next : Option Net). next >>= (λ one. after_events one (suc number) (drop (suc index) events))) e)) tt
      go (Some next) e s = absurd s

  -- where it came, the network goes on with the events after it
  pub taken_step : (whole : Option Net) (number index : ℕ) (events : List NetEvent) (event : NetEvent) (before after : RunningNet) (on : Goes whole number (drop index events) before) →
      drop index events ≡ event ∷ drop (suc index) events → StepsTo config configs count (Ok true) after (after_one on.net number event) → Goes whole (suc number) (drop (suc index) events) after
  taken_step whole number index events event before after on is stepped = go (after_one on.net number event) refl stepped
    where
      go : (next : Option Net) → after_one on.net number event ≡ next → StepsTo config configs count (Ok true) after next → Goes whole (suc number) (drop (suc index) events) after
      go None e s = absurd s
      go (Some next) e s = record {
        net = next;
        stands = s;
        ends = on.ends ∙ ap (after_events on.net number) is ∙ ap (λ (next : Option Net). next >>= (λ one. after_events one (suc number) (drop (suc index) events))) e;
      }

-- The life of an IPv4 client that begins.
use Rattle.std.proofs.Common.{◌≡◌, ℕ, List, [], Option, Some, refl, ap, subst, ◌∙◌}
use Rattle.std.specs.Prelude.{IfSome, drop, map}
use Rattle.dhcp_clock.specs.declared.link.Handed.{Handed}
use Rattle.dhcp_clock.specs.declared.link.Packet.{Packet}
use Rattle.dhcp_clock.specs.Words.{GivesNext, drawn_word, next_of}
use Rattle.dhcp_history.specs.Client.{unpolled, view_of}
use Rattle.dhcp_history.specs.EventLoop.{HasReported, events_at}
use Rattle.dhcp_history.specs.History.{history, outputs}
use Rattle.dhcp_history.specs.Machine.{View, first_view}
use Rattle.dhcp_history.specs.Protocol.{Lawful}
use Rattle.dhcp_history.specs.Script.{Script}
use Rattle.dhcp_history.specs.declared.script.NumberedReport.{NumberedReport}
use Rattle.dhcp_history.proofs.Looping.{loop_history}
use Rattle.dhcp4_lease.specs.Config.{Config}
use Rattle.dhcp4_lease.specs.Lease.{Lease}
use Rattle.dhcp4_client.specs.Client.{Begins, ClientParts, first_exchange, first_state}
use Rattle.dhcp4_client.specs.Rules.{protocol}
use Rattle.dhcp4_client.specs.declared.client_state.ClientState.{ClientState}
use Rattle.dhcp4_client.specs.declared.client_state.Exchange.{Exchange}
use Rattle.dhcp4_client.specs.declared.state.PlainState.{PlainState}
use Rattle.dhcp_output.specs.Output.{PlainOutput, changed_v4}
use Rattle.dhcp_script.specs.declared.event.Event.{Event}
use Rattle.dhcp_replay.specs.Life.{EndsAs, IsPlayed, last_moment_of, numbered, output_of}
use Rattle.dhcp_replay.specs.Printed.{played_events}
use Rattle.dhcp_replay.specs.Promises4.{KeepsPromises}
use Rattle.dhcp_replay.specs.Replayed4.{IsClientAfter, client_after, life_of, outputs4}
use Rattle.dhcp_replay.proofs.LifeLemmas as lives
use Rattle.dhcp_replay.proofs.LifeLemmas.{begun_view, if_exposed, next_drawn}

module _ (config : Config) (lease : Option Lease) (events : List Event) where
  abbrev own : List ℕ → Config
  own words = config

  abbrev life : List ℕ → Script Packet ClientState Exchange
  life words = life_of config lease words events

  module _ (client : ClientParts) (before after : Option (List ℕ)) (drawn : GivesNext before client.client.standing.exchange.xid after) (begins : Begins config lease client) where
    abbrev xid : ℕ
    xid = client.client.standing.exchange.xid

    -- a client that begins is the one with which its life begins
    pub begun : lives.Begun protocol drawn_word own life xid client.config client.client
    begun words is = record {
      view = begun_view client.client (first_state lease) (first_exchange (next_of words)) config.timeout_sec (drop 1 words) begins.state (begins.standing ∙ ap (λ (id : ℕ). unpolled (first_exchange id)) is) begins.timeout;
      config = begins.config;
    }

    -- what is promised of it
    pub promises4 : (given : ClientParts) → given ≡ client → ((held : Option Lease) (words : List ℕ) (all : List Event) → KeepsPromises given.config held words all) → IfSome before (λ words. KeepsPromises config lease words events)
    promises4 given same keeps =
        lives.life_promises protocol drawn_word own life before after xid client.config client.client (next_drawn before after xid drawn) begun
        (λ words. KeepsPromises config lease words events)
        (λ words is. subst (λ (c : Config). KeepsPromises c lease words events) (ap (λ (parts : ClientParts). parts.config) same ∙ is) (keeps lease words events))

    -- what is reported, where it is what the history of each life reports
    module _ (items : List (NumberedReport PlainState Handed)) where
      abbrev HasItems : Config → Script Packet ClientState Exchange → Type 0
      HasItems c script = items ≡ outputs (protocol c) (history (protocol c) script)

      items4 : IfSome after (λ words. (script : Script Packet ClientState Exchange) → view_of client.client words ≡ first_view script → script.events ≡ numbered 1 events → HasItems client.config script) →
          IfSome before (λ words. map (output_of changed_v4) items ≡ outputs4 config lease words events)
      unfolding outputs4
      items4 is =
          if_exposed (λ words. HasItems config (life words)) (λ words. map (output_of changed_v4) items ≡ outputs4 config lease words events) before (λ words same. ap (map (output_of changed_v4)) same)
          (lives.life_reports protocol drawn_word own life before after xid client.config client.client (next_drawn before after xid drawn) begun (numbered 1 events) (λ words. refl) HasItems is)

    -- so it is where its events are played one by one
    pub printed4 : (items : List (NumberedReport PlainState Handed)) (new : ClientParts) (left : Option (List ℕ)) → Lawful (protocol client.config) →
        IfSome after (λ words. HasReported (played_events protocol client events (view_of client.client words)) [] items (view_of new.client) left) → IfSome before (λ words. map (output_of changed_v4) items ≡ outputs4 config lease words events)
    printed4 items new left lawful reported = items4 items (loop_history (protocol client.config) after left (view_of client.client) (view_of new.client) (numbered 1 events) items reported lawful)

    module _ (outs : List PlainOutput) (new : ClientParts) (left : Option (List ℕ)) (played : IsPlayed protocol changed_v4 events outs client new after left) where
      pub reported4 : IfSome before (λ words. outs ≡ outputs4 config lease words events)
      reported4 =
          if_exposed (λ words. map (output_of changed_v4) played.items ≡ outputs4 config lease words events) (λ words. outs ≡ outputs4 config lease words events) before (λ words is. played.outputs_are ∙ is)
          (items4 played.items played.history_is)

      -- how it ends
      abbrev HasLeft : List ℕ → Type 0
      HasLeft words = HasReported (events_at (protocol client.config) (view_of client.client words) (numbered 1 events)) [] played.items (view_of new.client) left

      abbrev Ends : View ClientState Exchange → Type 0
      Ends final = EndsAs final new.client left

      ends4 : IfSome before (λ words. Ends (client_after config lease words events))
      ends4 =
          lives.life_ends protocol drawn_word own life before after xid client.config client.client (next_drawn before after xid drawn) begun (numbered 1 events) (λ words. refl) Ends
          (if_exposed HasLeft (lives.Leaves protocol drawn_word own life before after xid client.config client.client (next_drawn before after xid drawn) begun (numbered 1 events) (λ words. refl) Ends) after
          (λ words is. record { stands = is.client; words = is.words }) played.reported)

      pub client4 : IfSome before (λ words. IsClientAfter config lease words events new)
      client4 =
          let moment : new.client.last_moment ≡ last_moment_of 0 events = played.moment ∙ ap (λ (first : ℕ). last_moment_of first events) begins.moment in
          if_exposed (λ words. Ends (client_after config lease words events)) (λ words. IsClientAfter config lease words events new) before
          (λ words is. record { config_kept = played.config_kept ∙ begins.config; view = is.stands; moment = moment }) ends4

      -- and which words are left
      pub words4 : IfSome before (λ words. left ≡ Some (client_after config lease words events).words)
      words4 = if_exposed (λ words. Ends (client_after config lease words events)) (λ words. left ≡ Some (client_after config lease words events).words) before (λ words is. is.words) ends4

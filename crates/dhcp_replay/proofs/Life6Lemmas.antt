-- The life of an IPv6 client that begins.
use Rattle.std.proofs.Common.{◌≡◌, ℕ, List, [], Option, Some, None, refl, ap, subst, ◌∙◌}
use Rattle.std.specs.Prelude.{All, IfSome, map}
use Rattle.dhcp_clock.specs.declared.link.Handed.{Handed}
use Rattle.dhcp_clock.specs.declared.link.Packet.{Packet}
use Rattle.dhcp_history.specs.Client.{unpolled, view_of}
use Rattle.dhcp_history.specs.EventLoop.{HasReported, events_at}
use Rattle.dhcp_history.specs.History.{history, outputs}
use Rattle.dhcp_history.specs.Machine.{View, first_view}
use Rattle.dhcp_history.specs.Protocol.{Lawful}
use Rattle.dhcp_history.specs.Rules.{GivesDrawn}
use Rattle.dhcp_history.specs.Script.{Script}
use Rattle.dhcp_history.specs.declared.script.NumberedReport.{NumberedReport}
use Rattle.dhcp_history.proofs.Looping.{loop_history}
use Rattle.dhcp6_msg.specs.Config.{Config}
use Rattle.dhcp6_msg.specs.Lease.{Lease}
use Rattle.dhcp6_client.specs.Client.{Begins, ClientParts, FirstDraws, drawn_for, first_draws, first_exchange, first_state}
use Rattle.dhcp6_client.specs.Rules.{protocol}
use Rattle.dhcp6_client.specs.declared.client_state.ClientState.{ClientState}
use Rattle.dhcp6_client.specs.declared.client_state.Exchange.{Exchange}
use Rattle.dhcp6_client.specs.declared.state.PlainState.{PlainState}
use Rattle.dhcp_output.specs.Output.{HasText, PlainOutput, changed_v6, plain_output}
use Rattle.dhcp_output.specs.declared.output.Output.{Output}
use Rattle.dhcp_script.specs.declared.event.Event.{Event}
use Rattle.dhcp_replay.specs.Life.{EndsAs, IsPlayed, last_moment_of, numbered, output_of}
use Rattle.dhcp_replay.specs.Printed.{played_events}
use Rattle.dhcp_replay.specs.Promises6.{KeepsPromises, KeepsPromisesOver}
use Rattle.dhcp_replay.specs.Replayed6.{IsClientAfter, client_after, config_in, life_of, outputs6}
use Rattle.dhcp_replay.proofs.LifeLemmas as lives
use Rattle.dhcp_replay.proofs.LifeLemmas.{begun_view, if_exposed}
use Rattle.dhcp_replay.proofs.TextLemmas.{texts6}

module _ (config : Config) (lease : Option Lease) (start : ℕ) (events : List Event) where
  abbrev life : List ℕ → Script Packet ClientState Exchange
  life words = life_of config lease start words events

  module _ (client : ClientParts) (before after : Option (List ℕ)) (drawn : GivesDrawn (first_draws config) before (drawn_for client) after) (begins : Begins config lease start client) where
    -- a client that begins is the one with which its life begins
    pub begun : lives.Begun protocol (first_draws config) (config_in config) life (drawn_for client) client.config client.client
    begun words is = record {
      view = begun_view client.client (first_state config.mode lease start) (first_exchange (first_draws config words).value.xid) config.timeout_sec (first_draws config words).left
          begins.state (begins.standing ∙ ap (λ (draws : FirstDraws). unpolled (first_exchange draws.xid)) is) begins.timeout;
      config = ap (λ (draws : FirstDraws). draws.config) is;
    }

    -- what is promised of it
    pub promises6 : (given : ClientParts) → given ≡ client →
        ((for : Config) (held : Option Lease) (from : ℕ) (words : List ℕ) (all : List Event) → KeepsPromisesOver given.config held (life_of for held from words all)) → IfSome before (λ words. KeepsPromises config lease start words events)
    promises6 given same keeps =
        lives.life_promises protocol (first_draws config) (config_in config) life before after (drawn_for client) client.config client.client drawn begun
        (λ words. KeepsPromises config lease start words events)
        (λ words is. subst (λ (c : Config). KeepsPromisesOver c lease (life words)) (ap (λ (parts : ClientParts). parts.config) same ∙ is) (keeps config lease start words events))

    -- what is reported, where it is what the history of each life reports
    module _ (items : List (NumberedReport PlainState Handed)) where
      abbrev HasItems : Config → Script Packet ClientState Exchange → Type 0
      HasItems c script = items ≡ outputs (protocol c) (history (protocol c) script)

      items6 : IfSome after (λ words. (script : Script Packet ClientState Exchange) → view_of client.client words ≡ first_view script → script.events ≡ numbered 1 events → HasItems client.config script) →
          IfSome before (λ words. map (output_of changed_v6) items ≡ outputs6 config lease start words events)
      unfolding outputs6
      items6 is =
          if_exposed (λ words. HasItems (config_in config words) (life words)) (λ words. map (output_of changed_v6) items ≡ outputs6 config lease start words events) before (λ words same. ap (map (output_of changed_v6)) same)
          (lives.life_reports protocol (first_draws config) (config_in config) life before after (drawn_for client) client.config client.client drawn begun (numbered 1 events) (λ words. refl) HasItems is)

    -- so it is where its events are played one by one
    pub printed6 : (items : List (NumberedReport PlainState Handed)) (new : ClientParts) (left : Option (List ℕ)) → Lawful (protocol client.config) →
        IfSome after (λ words. HasReported (played_events protocol client events (view_of client.client words)) [] items (view_of new.client) left) → IfSome before (λ words. map (output_of changed_v6) items ≡ outputs6 config lease start words events)
    printed6 items new left lawful reported = items6 items (loop_history (protocol client.config) after left (view_of client.client) (view_of new.client) (numbered 1 events) items reported lawful)

    module _ (outs : List PlainOutput) (new : ClientParts) (left : Option (List ℕ)) (played : IsPlayed protocol changed_v6 events outs client new after left) where
      pub reported6 : IfSome before (λ words. outs ≡ outputs6 config lease start words events)
      reported6 =
          if_exposed (λ words. map (output_of changed_v6) played.items ≡ outputs6 config lease start words events) (λ words. outs ≡ outputs6 config lease start words events) before (λ words is. played.outputs_are ∙ is)
          (items6 played.items played.history_is)

      -- all of it has a text
      pub failures6 : (outputs : List Output) → map plain_output outputs ≡ outs → IfSome before (λ words. All HasText outputs)
      failures6 outputs is =
          lives.life_says protocol (first_draws config) (config_in config) life before after (drawn_for client) client.config client.client drawn begun (All HasText outputs)
          (texts6 client.config (view_of client.client) (numbered 1 events) outputs played.items (view_of new.client) left after (is ∙ played.outputs_are) played.reported)

      -- how it ends
      abbrev HasLeft : List ℕ → Type 0
      HasLeft words = HasReported (events_at (protocol client.config) (view_of client.client words) (numbered 1 events)) [] played.items (view_of new.client) left

      abbrev Ends : View ClientState Exchange → Type 0
      Ends final = EndsAs final new.client left

      ends6 : IfSome before (λ words. Ends (client_after config lease start words events))
      ends6 =
          lives.life_ends protocol (first_draws config) (config_in config) life before after (drawn_for client) client.config client.client drawn begun (numbered 1 events) (λ words. refl) Ends
          (if_exposed HasLeft (lives.Leaves protocol (first_draws config) (config_in config) life before after (drawn_for client) client.config client.client drawn begun (numbered 1 events) (λ words. refl) Ends) after
          (λ words is. record { stands = is.client; words = is.words }) played.reported)

      pub client6 : IfSome before (λ words. IsClientAfter config lease start words events new)
      client6 = go before drawn ends6
        where
          moment : new.client.last_moment ≡ last_moment_of start events
          moment = played.moment ∙ ap (λ (first : ℕ). last_moment_of first events) begins.moment

          go : (exposed : Option (List ℕ)) → GivesDrawn (first_draws config) exposed (drawn_for client) after → IfSome exposed (λ words. Ends (client_after config lease start words events)) →
              IfSome exposed (λ words. IsClientAfter config lease start words events new)
          go None drawn is = tt
          go (Some words) drawn is = record { config_kept = played.config_kept ∙ (begun words drawn.0).config; view = is.stands; moment = moment }

      -- and which words are left
      pub words6 : IfSome before (λ words. left ≡ Some (client_after config lease start words events).words)
      words6 =
          if_exposed (λ words. Ends (client_after config lease start words events)) (λ words. left ≡ Some (client_after config lease start words events).words) before
          (λ words is. is.words) ends6

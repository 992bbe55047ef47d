-- The life of a client for configuration alone that begins.
use Rattle.std.proofs.Common.{◌≡◌, ℕ, List, Option, refl, ap, subst, ◌∙◌}
use Rattle.std.specs.Prelude.{All, IfOk, IfSome, OnOk, Result, Ok, Err, map}
use Rattle.dhcp_wire.specs.Error.{ErrorParts}
use Rattle.dhcp_clock.specs.declared.link.Packet.{Packet}
use Rattle.dhcp_history.specs.History.{history, outputs}
use Rattle.dhcp_history.specs.Rules.{GivesDrawn}
use Rattle.dhcp_history.specs.Script.{Script}
use Rattle.dhcp6_opt.specs.declared.duid.DhcpV6Duid.{DhcpV6Duid}
use Rattle.dhcp6_msg.specs.Config.{Config, client_duid}
use Rattle.dhcp_script.specs.declared.event.Event.{Event}
use Rattle.dhcp_output.specs.Output.{HasText, PlainOutput, changed_info, plain_output}
use Rattle.dhcp_output.specs.declared.output.Output.{Output}
use Rattle.dhcp_replay.specs.Life.{IsPlayed, numbered, output_of}
use Rattle.dhcp_replay.proofs.LifeLemmas as lives
use Rattle.dhcp_replay.proofs.LifeLemmas.{begun_view, if_exposed}
use Rattle.dhcp_replay.proofs.PlayLemmas.{played_by}
use Rattle.dhcp_replay.proofs.TextLemmas.{texts_info}
use Rattle.dhcp6_info.specs.Client.{Begins, ClientParts, first_exchange}
use Rattle.dhcp6_info.specs.Rules.{protocol}
use Rattle.dhcp6_info.specs.declared.client_state.ClientState.{ClientState}
use Rattle.dhcp6_info.specs.declared.client_state.ClientState.TheVariants.{Inform}
use Rattle.dhcp6_info.specs.declared.client_state.Exchange.{Exchange}
use Rattle.dhcp6_info_play.specs.Promises.{KeepsPromises, KeepsPromisesOver}
use Rattle.dhcp6_info_play.specs.Replayed.{config_in, life_of, outputs_with}

module _ (config : Config) (events : List Event) (client : ClientParts) (before after : Option (List ℕ)) (drawn : GivesDrawn (client_duid config) before client.config.duid after) (begins : Begins config client) where
  abbrev life : List ℕ → Script Packet ClientState Exchange
  life words = life_of config words events

  -- a client that begins is the one with which its life begins
  begun : lives.Begun protocol (client_duid config) (config_in config) life client.config.duid client.config client.client
  begun words is = record {
    view = begun_view client.client Inform first_exchange config.timeout_sec (client_duid config words).left begins.state begins.standing begins.timeout;
    config = begins.config ∙ ap (λ (duid : DhcpV6Duid). record config { duid = duid }) is;
  }

  -- what is promised of it
  pub promises_of : (given : ClientParts) → given ≡ client → ((for : Config) (words : List ℕ) (all : List Event) → KeepsPromisesOver given.config (life_of for words all)) →
      IfSome before (λ words. KeepsPromises config words events)
  promises_of given same keeps =
      lives.life_promises protocol (client_duid config) (config_in config) life before after client.config.duid client.config client.client drawn begun
      (λ words. KeepsPromises config words events)
      (λ words is. subst (λ (c : Config). KeepsPromisesOver c (life words)) (ap (λ (parts : ClientParts). parts.config) same ∙ is) (keeps config words events))

  module _ (outs : List PlainOutput) (new : ClientParts) (left : Option (List ℕ)) (played : IsPlayed protocol changed_info events outs client new after left) where
    -- what is reported
    abbrev HasItems : Config → Script Packet ClientState Exchange → Type 0
    HasItems c script = played.items ≡ outputs (protocol c) (history (protocol c) script)

    pub reported : IfSome before (λ words. outs ≡ outputs_with config words events)
    unfolding outputs_with
    reported =
        if_exposed (λ words. HasItems (config_in config words) (life words)) (λ words. outs ≡ outputs_with config words events) before
        (λ words is. played.outputs_are ∙ ap (map (output_of changed_info)) is)
        (lives.life_reports protocol (client_duid config) (config_in config) life before after client.config.duid client.config client.client drawn begun (numbered 1 events) (λ words. refl) HasItems played.history_is)

    -- all of it has a text
    pub have_texts : (outputs : List Output) → map plain_output outputs ≡ outs → All HasText outputs
    have_texts outputs is = texts_info outputs played.items (is ∙ played.outputs_are)

  -- what a replay returns that played its events with this client
  module _ (given new : ClientParts) (left : Option (List ℕ)) (same : given ≡ client) where
    abbrev Played : List Output → Type 0
    Played outputs = IsPlayed protocol changed_info events (map plain_output outputs) given new after left

    own_played : (outputs : List Output) → Played outputs → IsPlayed protocol changed_info events (map plain_output outputs) client new after left
    own_played outputs played = played_by protocol changed_info events (map plain_output outputs) given client new after left same played

    pub all_reported : (result : Result (List Output) ErrorParts) → IfOk result Played → IfOk result (λ outputs. IfSome before (λ words. map plain_output outputs ≡ outputs_with config words events))
    all_reported (Ok outputs) played = reported (map plain_output outputs) new left (own_played outputs played)
    all_reported (Err error) played = tt

    pub all_have_texts : (result : Result (List Output) ErrorParts) → IfOk result Played → IfOk result (λ outputs. All HasText outputs)
    all_have_texts (Ok outputs) played = have_texts (map plain_output outputs) new left (own_played outputs played) outputs refl
    all_have_texts (Err error) played = tt

-- what holds whatever a call returns, holds where it is Ok
pub whatever : {A : Type 0} (result : Result A ErrorParts) (P : Type 0) → P → OnOk result P
whatever (Ok a) P p = p
whatever (Err error) P p = tt

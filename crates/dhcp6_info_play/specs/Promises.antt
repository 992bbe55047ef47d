-- What is promised of the client for configuration alone of every script: how its polls go, and how
-- much it sends.
use Rattle.std.specs.Prelude.{ℕ, ◌≤◌, List, All}
use Rattle.dhcp_clock.specs.declared.link.Packet.{Packet}
use Rattle.dhcp_history.specs.Bounds.{KeepsDistance, allowed, count_of, is_send_at}
use Rattle.dhcp_history.specs.History.{history, outputs}
use Rattle.dhcp_history.specs.Machine.{first_view}
use Rattle.dhcp_history.specs.Script.{Script}
use Rattle.dhcp6_msg.specs.Config.{Config}
use Rattle.dhcp_script.specs.Script6.{config_of}
use Rattle.dhcp_script.specs.declared.event.Event.{Event}
use Rattle.dhcp_script.specs.declared.script6.Script6.{Script6}
use Rattle.dhcp_replay.specs.Settles.{SettlesAtEach}
use Rattle.dhcp6_info.specs.Bounds.{distance}
use Rattle.dhcp6_info.specs.Rules.{protocol}
use Rattle.dhcp6_info.specs.declared.client_state.ClientState.{ClientState}
use Rattle.dhcp6_info.specs.declared.client_state.Exchange.{Exchange}
use Rattle.dhcp6_info_play.specs.Replayed.{config_in, life_of}

-- what is promised of a client with this configuration over this life
pub record KeepsPromisesOver (config : Config) (life : Script Packet ClientState Exchange) :
    Type 0 where
  -- the messages of a stay that the link took are at least 0.9 seconds apart
  pub messages_far_apart : All (KeepsDistance distance) (history (protocol config) life)
  -- an event has at most two messages, refused ones among them
  pub two_messages : (number : ℕ) → count_of (is_send_at number)
      (outputs (protocol config) (history (protocol config) life)) ≤ allowed number life.events
  -- each event has at most seven polls, and after them a client without a kept error does not have
  -- a configuration at or past its refresh time
  pub settles : SettlesAtEach (protocol config) (first_view life) life.events

-- the same of a client that begins with this configuration, over these words and events
abbrev pub KeepsPromises : Config → List ℕ → List Event → Type 0
KeepsPromises config words events =
    KeepsPromisesOver (config_in config words) (life_of config words events)

-- what is promised of the client of a script
abbrev pub KeepsPromisesOf : Script6 → Type 0
KeepsPromisesOf script = KeepsPromises (config_of script) script.words script.events

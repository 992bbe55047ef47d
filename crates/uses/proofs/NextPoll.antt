-- When a client for configuration alone has no next poll.
use Rattle.std.proofs.Common.{◌≡◌, ℕ, Bool, true, false, refl, ap, ◌∙◌}
use Rattle.std.specs.Prelude.{◌&&◌, ◌||◌, not, Option, Some, None, is_some, if◌then◌else◌}
use Rattle.dhcp_history.specs.declared.client.Client.{Client}
use Rattle.dhcp_history.specs.declared.client.Phase.{Phase}
use Rattle.dhcp_history.specs.declared.client.Phase.TheVariants.{Unpolled, Pausing, Listening, Resting, Stopped}
use Rattle.dhcp_history.specs.History.{limit_moment}
use Rattle.dhcp_history.specs.Machine.{is_stopped, is_unpolled}
use Rattle.dhcp_history.specs.Schedule.{earlier, next_poll, next_poll_in}
use Rattle.dhcp6_msg.specs.Config.{Config}
use Rattle.dhcp6_info.specs.declared.client_state.ClientState.{ClientState}
use Rattle.dhcp6_info.specs.declared.client_state.ClientState.TheVariants.{Inform, Done}
use Rattle.dhcp6_info.specs.declared.client_state.Exchange.{Exchange}
use Rattle.dhcp6_info.specs.Client.{lasts_for_ever}
use Rattle.dhcp6_info.specs.Rules.{protocol, ending_moment, has_attempts, refresh_moment}
use Rattle.uses.specs.Manager.{rests_for_ever}

-- a moment is there if its absence is refused
is_there : (moment : Option ℕ) → (is_some moment ≡ false → false ≡ true) → is_some moment ≡ true
is_there None h = absurd (cc (h refl))
is_there (Some moment) h = refl

stopped : (b : Bool) → false ≡ not (b || true)
stopped true = refl
stopped false = refl

-- a state that may last for ever is left at its end alone
unpolled_end : (end : Option ℕ) → is_some end ≡ not ((not (is_some end) && true) || false)
unpolled_end None = refl
unpolled_end (Some moment) = refl

-- and one that was polled has its end and its next attempt
polled_end : (deadline end : Option ℕ) →
    is_some (earlier deadline (earlier end None)) ≡ not ((not (is_some end) && not (is_some deadline)) || false)
polled_end None None = refl
polled_end None (Some end) = refl
polled_end (Some deadline) None = refl
polled_end (Some deadline) (Some end) = refl

unpolled_some : (state : ClientState) (now : ℕ) →
    is_some (if has_attempts state then Some now else ending_moment state) ≡ not ((lasts_for_ever state && true) || false)
unpolled_some Inform now = refl
unpolled_some (Done bound) now = unpolled_end (refresh_moment bound)

polled_some : (config : Config) (state : ClientState) (deadline : Option ℕ) (timeout_sec entered : ℕ) →
    (is_some (earlier deadline (earlier (ending_moment state) (limit_moment (protocol config) timeout_sec entered state))) ≡ false → (false || lasts_for_ever state) ≡ true) →
    is_some (earlier deadline (earlier (ending_moment state) (limit_moment (protocol config) timeout_sec entered state)))
    ≡ not ((lasts_for_ever state && not (is_some deadline)) || false)
polled_some config Inform deadline timeout_sec entered only =
    is_there (earlier deadline (earlier None (limit_moment (protocol config) timeout_sec entered Inform))) only
polled_some config (Done bound) deadline timeout_sec entered only = polled_end deadline (refresh_moment bound)

-- the moment in a phase
some_in : (config : Config) (phase : Phase) (client : Client ClientState Exchange) →
    (is_some (next_poll_in (protocol config) phase client) ≡ false → (is_stopped phase || lasts_for_ever client.state) ≡ true) →
    is_some (next_poll_in (protocol config) phase client)
    ≡ not ((lasts_for_ever client.state && not (not (is_unpolled phase) && is_some client.standing.deadline)) || is_stopped phase)
some_in config Stopped client only = stopped (lasts_for_ever client.state && not (is_some client.standing.deadline))
some_in config Unpolled client only = unpolled_some client.state client.last_moment
some_in config Pausing client only = polled_some config client.state client.standing.deadline client.timeout_sec client.standing.entered only
some_in config Listening client only = polled_some config client.state client.standing.deadline client.timeout_sec client.standing.entered only
some_in config Resting client only = polled_some config client.state client.standing.deadline client.timeout_sec client.standing.entered only

-- a client has no next poll exactly if it rests for ever
pub rests_without_a_moment : (config : Config) (client : Client ClientState Exchange) (moment : Option ℕ) →
    moment ≡ next_poll (protocol config) client →
    (is_some moment ≡ false → (is_stopped client.standing.phase || lasts_for_ever client.state) ≡ true) →
    is_some moment ≡ not (rests_for_ever lasts_for_ever client)
rests_without_a_moment config client moment is only =
    ap is_some is ∙ some_in config client.standing.phase client (λ none. only (ap is_some is ∙ none))

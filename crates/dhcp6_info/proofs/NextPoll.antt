-- When a client has no next poll.
use Rattle.std.proofs.Common.{◌≡◌, ℕ, true, false, refl, sym, ap, ◌∙◌}
use Rattle.std.specs.Prelude.{◌||◌, not, Option, Some, None, is_some, if◌then◌else◌}
use Rattle.dhcp_history.specs.declared.client.Client.{Client}
use Rattle.dhcp_history.specs.declared.client.Phase.{Phase}
use Rattle.dhcp_history.specs.declared.client.Phase.TheVariants.{Unpolled, Pausing, Listening, Resting, Stopped}
use Rattle.dhcp_history.specs.History.{limit_moment}
use Rattle.dhcp_history.specs.Machine.{is_stopped, is_unpolled}
use Rattle.dhcp_history.specs.Schedule.{earlier, next_poll_in}
use Rattle.dhcp6_msg.specs.Config.{Config}
use Rattle.dhcp6_info.specs.declared.client_state.ClientState.{ClientState}
use Rattle.dhcp6_info.specs.declared.client_state.ClientState.TheVariants.{Inform, Done}
use Rattle.dhcp6_info.specs.declared.client_state.Exchange.{Exchange}
use Rattle.dhcp6_info.specs.Client.{lasts_for_ever}
use Rattle.dhcp6_info.specs.Rules.{protocol, ending_moment, has_attempts, refresh_moment}

-- of two moments there is none if both are absent
earlier_none : (first second : Option ℕ) → is_some (earlier first second) ≡ false → (is_some first ≡ false) × (is_some second ≡ false)
earlier_none None second h = (refl, h)
earlier_none (Some first) None h = absurd (cc h)
earlier_none (Some first) (Some second) h = absurd (cc h)

-- a client that was not polled in its state
unpolled_none : (state : ClientState) (now : ℕ) → is_some (if has_attempts state then Some now else ending_moment state) ≡ false → lasts_for_ever state ≡ true
unpolled_none Inform now h = absurd (cc h)
unpolled_none (Done bound) now h = ap not h

-- and one that was
polled_none : (state : ClientState) (deadline limit : Option ℕ) → (has_attempts state ≡ true → is_some deadline ≡ true) →
    is_some (earlier deadline (earlier (ending_moment state) limit)) ≡ false → lasts_for_ever state ≡ true
polled_none Inform deadline limit armed h = absurd (cc (sym (armed refl) ∙ (earlier_none deadline (earlier None limit) h).0))
polled_none (Done bound) deadline limit armed h =
    ap not (earlier_none (refresh_moment bound) limit (earlier_none deadline (earlier (refresh_moment bound) limit) h).1).0

-- an error is kept, or the state lasts for ever
pub none_in : (config : Config) (phase : Phase) (client : Client ClientState Exchange) →
    (is_unpolled phase ≡ false → has_attempts client.state ≡ true → is_some client.standing.deadline ≡ true) →
    is_some (next_poll_in (protocol config) phase client) ≡ false → (is_stopped phase || lasts_for_ever client.state) ≡ true
none_in config Stopped client armed h = refl
none_in config Unpolled client armed h = unpolled_none client.state client.last_moment h
none_in config Pausing client armed h =
    polled_none client.state client.standing.deadline (limit_moment (protocol config) client.timeout_sec client.standing.entered client.state) (armed refl) h
none_in config Listening client armed h =
    polled_none client.state client.standing.deadline (limit_moment (protocol config) client.timeout_sec client.standing.entered client.state) (armed refl) h
none_in config Resting client armed h =
    polled_none client.state client.standing.deadline (limit_moment (protocol config) client.timeout_sec client.standing.entered client.state) (armed refl) h

-- A client can begin with the configuration of a valid script.
use Rattle.std.proofs.Common.{◌≡◌, true, length, List, sym, subst, arith}
use Rattle.std.specs.Prelude.{◌==◌, ◌&&◌, ◌||◌, nat_le, not, IfErr, Result, Ok, Err}
use Rattle.std.proofs.lemmas.Bool.{and_from, le-leb}
use Rattle.dhcp_wire.specs.Error.{ErrorParts, no_memory}
use Rattle.dhcp6_msg.specs.Config.{Config}
use Rattle.dhcp6_msg.specs.Lease.{is_duid, is_no_duid, is_unspecified}
use Rattle.dhcp_script.specs.Script6.{config_of, is_valid}
use Rattle.dhcp_script.specs.declared.event.Event.{Event}
use Rattle.dhcp_script.specs.declared.script6.Script6.{Script6}
use Rattle.dhcp_replay.specs.Life.{CanPlay, IsRefusal}
use Rattle.dhcp_replay.proofs.ReplayLemmas.{can_play}
use Rattle.dhcp_replay.proofs.Valid6Lemmas as valid6
use Rattle.dhcp_replay.proofs.Valid6Lemmas.{config_named, request_list_few}
use Rattle.dhcp6_info.specs.Client.{can_begin}

valid_begins : (script : Script6) → is_valid script ≡ true → can_begin (config_of script) ≡ true
unfolding config_of
valid_begins script valid =
    let parts = valid6.parts script valid in
    let config = config_of script in
    and_from (not (config.iface_index == 0) && not (is_unspecified config.src_ip) && (is_no_duid config.duid || is_duid config.duid)) (nat_le (length config.request_opts) 32766)
    (config_named script parts) (le-leb (length config.request_opts) 32766 (omega (arith, request_list_few script.codes script.mode parts.codes)))

-- and so with the configuration that is made of it
pub config_begins : (script : Script6) (config : Config) → is_valid script ≡ true → config ≡ config_of script → can_begin config ≡ true
config_begins script config valid same = subst (λ (c : Config). can_begin c ≡ true) (sym same) (valid_begins script valid)

-- its events can be played
pub events_play : (script : Script6) (events : List Event) → is_valid script ≡ true → events ≡ script.events → CanPlay events
events_play script events valid same = subst CanPlay (sym same) (can_play script.start script.events (valid6.parts script valid).events)

-- the error of a valid script
pub valid_refusal : {X : Type 0} (result : Result X ErrorParts) (script : Script6) → is_valid script ≡ true → IfErr result (λ error. error ≡ no_memory) → IfErr result (IsRefusal (is_valid script))
valid_refusal (Ok x) script valid error = tt
valid_refusal (Err e) script valid error = rw valid error

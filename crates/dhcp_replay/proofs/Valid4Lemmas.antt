-- The client of a valid IPv4 script can begin.
use Rattle.std.proofs.Common.{◌≡◌, ℕ, Bool, true, List, [], length, Option, Some, None, refl, subst, sym, ap, ◌∙◌, arith}
use Rattle.std.specs.Prelude.{◌&&◌, ◌==◌, nat_le, not, option_map, IfErr, Result}
use Rattle.std.specs.List.{list_any}
use Rattle.std.specs.Option.{option_map_or}
use Rattle.std.specs.Str.{IsUtf8, is_utf8}
use Rattle.std.proofs.lemmas.Bool.{and_from, and_parts, le-leb, leb-true}
use Rattle.std.proofs.lemmas.Str.{IsUtf8-from_is_utf8}
use Rattle.dhcp_wire.specs.Error.{ErrorParts}
use Rattle.dhcp4_msg.specs.OptionCode.{code_of}
use Rattle.dhcp4_client.specs.Client.{can_begin}
use Rattle.dhcp4_lease.specs.Config as configs
use Rattle.dhcp4_lease.specs.Config.{rising_codes}
use Rattle.dhcp4_lease.specs.Lease as leases
use Rattle.dhcp_script.specs.Event.{are_valid}
use Rattle.dhcp_script.specs.Lease4.{lease_with}
use Rattle.dhcp_script.specs.Script4.{are_few, config_of, is_host_name, is_in_order, is_valid, most_client_bytes, most_host_bytes, request_list}
use Rattle.dhcp_script.specs.declared.event.Event.{Event}
use Rattle.dhcp_script.specs.declared.lease4.Lease4.{Lease4}
use Rattle.dhcp_script.specs.declared.script4.Script4.{Script4}
use Rattle.dhcp_replay.specs.Life.{IsRefusal}
use Rattle.dhcp_replay.specs.Replayed4.{can_replay}
use Rattle.dhcp_replay.proofs.RisingLemmas.{rising_few}

-- so many options are asked for at most
request_list_few : (codes : Option (List ℕ)) → are_few codes ≡ true → nat_le (length (request_list codes (configs.config_of []).request_opts)) 255 ≡ true
unfolding configs.config_of
request_list_few None few = refl
request_list_few (Some listed) few = le-leb (length (rising_codes listed)) 255 (omega (arith, rising_few code_of listed, leb-true (length listed) 255 few))

-- the lease that is held has the times of the script
order_kept : (lease : Option Lease4) → is_in_order lease ≡ true → option_map_or leases.are_times_in_order (option_map lease_with lease) true ≡ true
unfolding lease_with
order_kept None order = refl
order_kept (Some lease) order = order

-- the parts of the test of a script
pub record ValidParts (script : Script4) : Type 0 where
  pub index : not (script.iface_index == 0) ≡ true
  pub host : is_host_name script.host ≡ true
  pub client : nat_le (length script.client) most_client_bytes ≡ true
  pub codes : are_few script.codes ≡ true
  pub lease : is_in_order script.lease ≡ true
  pub events : are_valid script.start script.events ≡ true

pub parts : (script : Script4) → is_valid script ≡ true → ValidParts script
unfolding is_valid
parts script valid =
    let lease = and_parts (not (script.iface_index == 0) && is_host_name script.host && nat_le (length script.client) most_client_bytes && are_few script.codes && is_in_order script.lease) (are_valid script.start script.events) valid in
    let codes = and_parts (not (script.iface_index == 0) && is_host_name script.host && nat_le (length script.client) most_client_bytes && are_few script.codes) (is_in_order script.lease) lease.0 in
    let client = and_parts (not (script.iface_index == 0) && is_host_name script.host && nat_le (length script.client) most_client_bytes) (are_few script.codes) codes.0 in
    let host = and_parts (not (script.iface_index == 0) && is_host_name script.host) (nat_le (length script.client) most_client_bytes) client.0 in
    let index = and_parts (not (script.iface_index == 0)) (is_host_name script.host) host.0 in
    record { index = index.0; host = index.1; client = host.1; codes = client.1; lease = codes.1; events = lease.1 }

host_parts : (host : List ℕ) → is_host_name host ≡ true → ((nat_le (length host) most_host_bytes && not (list_any (λ byte. byte == 0) host)) ≡ true) × (is_utf8 host ≡ true)
host_parts host valid = and_parts (nat_le (length host) most_host_bytes && not (list_any (λ byte. byte == 0) host)) (is_utf8 host) valid

-- its host name is a text
pub host_utf8 : (script : Script4) → is_valid script ≡ true → IsUtf8 script.host
host_utf8 script valid = IsUtf8-from_is_utf8 script.host (host_parts script.host (parts script valid).host).1

-- the configuration of a valid script is within its limits
config_within : (script : Script4) → ValidParts script → configs.is_within_limits (config_of script) ≡ true
unfolding config_of configs.is_within_limits
config_within script valid =
    and_from (nat_le (length script.host) most_host_bytes && not (list_any (λ byte. byte == 0) script.host) && nat_le (length script.client) most_client_bytes) (nat_le (length (request_list script.codes (configs.config_of []).request_opts)) 255)
    (and_from (nat_le (length script.host) most_host_bytes && not (list_any (λ byte. byte == 0) script.host)) (nat_le (length script.client) most_client_bytes) (host_parts script.host valid.host).0 valid.client)
    (request_list_few script.codes valid.codes)

index_kept : (script : Script4) → not (script.iface_index == 0) ≡ true → not ((config_of script).iface_index == 0) ≡ true
unfolding config_of
index_kept script is = is

-- so a valid script can be played
pub valid_plays : (script : Script4) → is_valid script ≡ true → can_replay (config_of script) (option_map lease_with script.lease) script.start script.events ≡ true
valid_plays script valid =
    let all = parts script valid in
    and_from (are_valid script.start script.events) (not ((config_of script).iface_index == 0) && configs.is_within_limits (config_of script) && option_map_or leases.are_times_in_order (option_map lease_with script.lease) true) all.events
    (and_from (not ((config_of script).iface_index == 0) && configs.is_within_limits (config_of script)) (option_map_or leases.are_times_in_order (option_map lease_with script.lease) true)
    (and_from (not ((config_of script).iface_index == 0)) (configs.is_within_limits (config_of script)) (index_kept script all.index) (config_within script all))
    (order_kept script.lease all.lease))

-- and its client can begin
pub valid_begins : (script : Script4) (config : configs.Config) (lease : Option leases.Lease) → is_valid script ≡ true → config ≡ config_of script → lease ≡ option_map lease_with script.lease → can_begin config lease ≡ true
valid_begins script config lease valid config_is lease_is =
    ap (λ (c : configs.Config). can_begin c lease) config_is
    ∙ ap (λ (l : Option leases.Lease). can_begin (config_of script) l) lease_is
    ∙ (and_parts (are_valid script.start script.events) (can_begin (config_of script) (option_map lease_with script.lease)) (valid_plays script valid)).1

-- and its replay is refused as the script is
pub played_refusal : {X : Type 0} (result : Result X ErrorParts) (script : Script4) (config : configs.Config) (lease : Option leases.Lease) (events : List Event) →
    config ≡ config_of script → lease ≡ option_map lease_with script.lease → events ≡ script.events → is_valid script ≡ true →
    IfErr result (IsRefusal (can_replay config lease script.start events)) → IfErr result (IsRefusal (is_valid script))
played_refusal result script config lease events config_is lease_is events_is valid refused =
    let same : can_replay config lease script.start events ≡ is_valid script =
    ap (λ (c : configs.Config). can_replay c lease script.start events) config_is
    ∙ ap (λ (l : Option leases.Lease). can_replay (config_of script) l script.start events) lease_is
    ∙ ap (λ (e : List Event). can_replay (config_of script) (option_map lease_with script.lease) script.start e) events_is
    ∙ valid_plays script valid ∙ sym valid in
    subst (λ (b : Bool). IfErr result (IsRefusal b)) same refused

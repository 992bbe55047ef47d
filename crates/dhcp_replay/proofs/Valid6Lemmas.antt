-- The client of a valid IPv6 script can begin.
use Rattle.std.proofs.Common.{◌≡◌, ℕ, ◌≤◌, Bool, true, false, List, [], ◌∷◌, length, Option, Some, None, refl, subst, sym, ap, ◌∙◌, arith}
use Rattle.std.specs.Prelude.{◌&&◌, ◌||◌, ◌==◌, nat_le, not, option_map, IfErr, Result}
use Rattle.std.specs.Option.{option_map_or}
use Rattle.std.proofs.lemmas.Bool.{and_from, and_parts, eqb-true, le-leb, leb-true}
use Rattle.dhcp_wire.specs.Error.{ErrorParts}
use Rattle.dhcp6_opt.specs.declared.duid.DhcpV6Duid.{DhcpV6Duid}
use Rattle.dhcp6_opt.specs.Duid.{written_duid}
use Rattle.dhcp6_opt.specs.OptionCode.{code_of}
use Rattle.dhcp6_client.specs.Client.{can_begin}
use Rattle.dhcp6_msg.specs.Config as configs
use Rattle.dhcp6_msg.specs.Config.{rising_codes}
use Rattle.dhcp6_msg.specs.Lease as leases
use Rattle.dhcp6_msg.specs.Lease.{is_no_duid, is_unspecified}
use Rattle.dhcp_script.specs.Codes.{are_few, request_list}
use Rattle.dhcp_script.specs.Duid.{duid_of, is_script_duid, is_duid_or_none, most_duid_bytes}
use Rattle.dhcp_script.specs.Event.{are_valid}
use Rattle.dhcp_script.specs.Lease6.{are_times_in_order, lease_with}
use Rattle.dhcp_script.specs.Script6.{config_of, is_lease_valid, is_valid, most_codes}
use Rattle.dhcp_script.specs.declared.event.Event.{Event}
use Rattle.dhcp_script.specs.declared.lease6.Lease6.{Lease6}
use Rattle.dhcp_script.specs.declared.script6.Script6.{Script6}
use Rattle.dhcp_replay.specs.Life.{IsRefusal}
use Rattle.dhcp_replay.specs.Replayed6.{can_replay, fit_a_script}
use Rattle.dhcp_replay.proofs.DuidLemmas.{length-duid, no_duid}
use Rattle.dhcp_replay.proofs.RisingLemmas.{rising_few}

-- so many options are asked for at most
pub request_list_few : (codes : Option (List ℕ)) (mode : _) → are_few most_codes codes ≡ true → length (request_list rising_codes codes (configs.config_of [] mode).request_opts) ≤ most_codes
unfolding configs.config_of
request_list_few None mode few = omega arith
request_list_few (Some listed) mode few = omega (arith, rising_few code_of listed, leb-true (length listed) most_codes few)

-- an identifier of a script has as many bytes as it is read from
duid_kept : (bytes : List ℕ) → is_script_duid bytes ≡ true → is_script_duid (written_duid (duid_of bytes)) ≡ true
duid_kept bytes is = subst (λ (n : ℕ). (nat_le 2 n && nat_le n most_duid_bytes) ≡ true) (sym (length-duid bytes)) is

duid_or_none_kept : (bytes : List ℕ) → is_duid_or_none bytes ≡ true → is_duid_or_none (written_duid (duid_of bytes)) ≡ true
duid_or_none_kept bytes is = subst (λ (n : ℕ). ((n == 0) || (nat_le 2 n && nat_le n most_duid_bytes)) ≡ true) (sym (length-duid bytes)) is

-- an identifier of a script can be sent
duid_sent : (bytes : List ℕ) → is_script_duid bytes ≡ true → leases.is_duid (duid_of bytes) ≡ true
duid_sent bytes is =
    let parts = and_parts (nat_le 2 (length bytes)) (nat_le (length bytes) most_duid_bytes) is in
    let written : ℕ = length (written_duid (duid_of bytes)) in
    let same : written ≡ length bytes = length-duid bytes in
    and_from (nat_le 2 written) (nat_le written 65535)
    (le-leb 2 written (omega (arith, same, leb-true 2 (length bytes) parts.0)))
    (le-leb written 65535 (omega (arith, same, leb-true (length bytes) most_duid_bytes parts.1)))

or_right : (a b : Bool) → b ≡ true → (a || b) ≡ true
or_right true b is = refl
or_right false b is = is

-- an identifier of a script is absent or can be sent
record Named (bytes : List ℕ) : Type 0 where
  named : (is_no_duid (duid_of bytes) || leases.is_duid (duid_of bytes)) ≡ true
  short : nat_le (length (written_duid (duid_of bytes))) 65535 ≡ true

duid_named : (bytes : List ℕ) → is_duid_or_none bytes ≡ true → Named bytes
duid_named bytes is = go bytes (length bytes == 0) refl is
  where
    go : (bytes : List ℕ) (none : Bool) → (length bytes == 0) ≡ none → (none || is_script_duid bytes) ≡ true → Named bytes
    go [] none e is = record {
      named = subst (λ (duid : DhcpV6Duid). (is_no_duid duid || leases.is_duid duid) ≡ true) (sym no_duid) refl;
      short = le-leb (length (written_duid (duid_of []))) 65535 (omega (arith, length-duid []));
    }
    go (byte ∷ bytes) true e is = absurd (omega (arith, eqb-true (length (byte ∷ bytes)) 0 e))
    go (byte ∷ bytes) false e is =
        let sent : leases.is_duid (duid_of (byte ∷ bytes)) ≡ true = duid_sent (byte ∷ bytes) is in
        let written : ℕ = length (written_duid (duid_of (byte ∷ bytes))) in
        record {
          named = or_right (is_no_duid (duid_of (byte ∷ bytes))) (leases.is_duid (duid_of (byte ∷ bytes))) sent;
          short = (and_parts (nat_le 2 written) (nat_le written 65535) sent).1;
        }

-- the lease that is held is within the limits of one that a client may hold
lease_within : (lease : Option Lease6) → is_lease_valid lease ≡ true → option_map_or leases.is_within_limits (option_map lease_with lease) true ≡ true
unfolding lease_with leases.is_within_limits
lease_within None valid = refl
lease_within (Some lease) valid =
    let first : Bool = are_times_in_order lease && not (is_unspecified lease.address) in
    let parts = and_parts first (is_script_duid lease.srv_duid) valid in
    and_from (first && true) (leases.is_duid (duid_of lease.srv_duid)) (and_from first true parts.0 refl) (duid_sent lease.srv_duid parts.1)

-- and within those of one that a script may hold
lease_fits : (lease : Option Lease6) → is_lease_valid lease ≡ true → option_map_or (λ (held : leases.Lease). is_script_duid (written_duid held.srv_duid)) (option_map lease_with lease) true ≡ true
unfolding lease_with
lease_fits None valid = refl
lease_fits (Some lease) valid = duid_kept lease.srv_duid (and_parts (are_times_in_order lease && not (is_unspecified lease.address)) (is_script_duid lease.srv_duid) valid).1

-- the parts of the test of a script
pub record ValidParts (script : Script6) : Type 0 where
  pub index : not (script.iface_index == 0) ≡ true
  pub address : not (is_unspecified script.src_ip) ≡ true
  pub duid : is_duid_or_none script.duid ≡ true
  pub codes : are_few most_codes script.codes ≡ true
  pub lease : is_lease_valid script.lease ≡ true
  pub events : are_valid script.start script.events ≡ true

pub parts : (script : Script6) → is_valid script ≡ true → ValidParts script
unfolding is_valid
parts script valid =
    let lease = and_parts (not (script.iface_index == 0) && not (is_unspecified script.src_ip) && is_duid_or_none script.duid && are_few most_codes script.codes && is_lease_valid script.lease) (are_valid script.start script.events) valid in
    let codes = and_parts (not (script.iface_index == 0) && not (is_unspecified script.src_ip) && is_duid_or_none script.duid && are_few most_codes script.codes) (is_lease_valid script.lease) lease.0 in
    let duid = and_parts (not (script.iface_index == 0) && not (is_unspecified script.src_ip) && is_duid_or_none script.duid) (are_few most_codes script.codes) codes.0 in
    let address = and_parts (not (script.iface_index == 0) && not (is_unspecified script.src_ip)) (is_duid_or_none script.duid) duid.0 in
    let index = and_parts (not (script.iface_index == 0)) (not (is_unspecified script.src_ip)) address.0 in
    record { index = index.0; address = index.1; duid = address.1; codes = duid.1; lease = codes.1; events = lease.1 }

-- the configuration of a valid script is within its limits
config_within : (script : Script6) → ValidParts script → configs.is_within_limits (config_of script) ≡ true
unfolding config_of configs.is_within_limits
config_within script valid =
    and_from (nat_le (length (written_duid (duid_of script.duid))) 65535) (nat_le (length (request_list rising_codes script.codes (configs.config_of [] script.mode).request_opts)) 32767)
    (duid_named script.duid valid.duid).short (le-leb (length (request_list rising_codes script.codes (configs.config_of [] script.mode).request_opts)) 32767 (omega (arith, request_list_few script.codes script.mode valid.codes)))

-- and within those of a script
config_fits : (script : Script6) → ValidParts script → (is_duid_or_none (written_duid (config_of script).duid) && nat_le (length (config_of script).request_opts) most_codes) ≡ true
unfolding config_of
config_fits script valid =
    and_from (is_duid_or_none (written_duid (duid_of script.duid))) (nat_le (length (request_list rising_codes script.codes (configs.config_of [] script.mode).request_opts)) most_codes)
    (duid_or_none_kept script.duid valid.duid) (le-leb (length (request_list rising_codes script.codes (configs.config_of [] script.mode).request_opts)) most_codes (request_list_few script.codes script.mode valid.codes))

-- it has an interface, an address and an identifier
pub config_named : (script : Script6) → ValidParts script →
    (not ((config_of script).iface_index == 0) && not (is_unspecified (config_of script).src_ip) && (is_no_duid (config_of script).duid || leases.is_duid (config_of script).duid)) ≡ true
unfolding config_of
config_named script valid =
    and_from (not (script.iface_index == 0) && not (is_unspecified script.src_ip)) (is_no_duid (duid_of script.duid) || leases.is_duid (duid_of script.duid))
    (and_from (not (script.iface_index == 0)) (not (is_unspecified script.src_ip)) valid.index valid.address)
    (duid_named script.duid valid.duid).named

-- so a valid script can be played
pub valid_plays : (script : Script6) → is_valid script ≡ true → can_replay (config_of script) (option_map lease_with script.lease) script.start script.events ≡ true
valid_plays script valid =
    let all = parts script valid in
    let config = config_of script in
    let named : Bool = not (config.iface_index == 0) && not (is_unspecified config.src_ip) && (is_no_duid config.duid || leases.is_duid config.duid) in
    let held : Bool = option_map_or leases.is_within_limits (option_map lease_with script.lease) true in
    let short : Bool = is_duid_or_none (written_duid config.duid) && nat_le (length config.request_opts) most_codes in
    let named_server : Bool = option_map_or (λ (held : leases.Lease). is_script_duid (written_duid held.srv_duid)) (option_map lease_with script.lease) true in
    and_from (are_valid script.start script.events && fit_a_script config (option_map lease_with script.lease)) (named && configs.is_within_limits config && held)
    (and_from (are_valid script.start script.events) (short && named_server) all.events (and_from short named_server (config_fits script all) (lease_fits script.lease all.lease)))
    (and_from (named && configs.is_within_limits config) held
    (and_from named (configs.is_within_limits config) (config_named script all) (config_within script all))
    (lease_within script.lease all.lease))

-- and its client can begin
pub valid_begins : (script : Script6) (config : configs.Config) (lease : Option leases.Lease) → is_valid script ≡ true → config ≡ config_of script → lease ≡ option_map lease_with script.lease → can_begin config lease ≡ true
valid_begins script config lease valid config_is lease_is =
    let held = option_map lease_with script.lease in
    ap (λ (c : configs.Config). can_begin c lease) config_is
    ∙ ap (λ (l : Option leases.Lease). can_begin (config_of script) l) lease_is
    ∙ (and_parts (are_valid script.start script.events && fit_a_script (config_of script) held) (can_begin (config_of script) held) (valid_plays script valid)).1

-- and its replay is refused as the script is
pub played_refusal : {X : Type 0} (result : Result X ErrorParts) (script : Script6) (config : configs.Config) (lease : Option leases.Lease) (events : List Event) →
    config ≡ config_of script → lease ≡ option_map lease_with script.lease → events ≡ script.events → is_valid script ≡ true →
    IfErr result (IsRefusal (can_replay config lease script.start events)) → IfErr result (IsRefusal (is_valid script))
played_refusal result script config lease events config_is lease_is events_is valid refused =
    let same : can_replay config lease script.start events ≡ is_valid script =
    ap (λ (c : configs.Config). can_replay c lease script.start events) config_is
    ∙ ap (λ (l : Option leases.Lease). can_replay (config_of script) l script.start events) lease_is
    ∙ ap (λ (e : List Event). can_replay (config_of script) (option_map lease_with script.lease) script.start e) events_is
    ∙ valid_plays script valid ∙ sym valid in
    subst (λ (b : Bool). IfErr result (IsRefusal b)) same refused

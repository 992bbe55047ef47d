-- What the limits of a configuration and of a lease say of their identifiers.
use Rattle.std.proofs.Common.{◌≡◌, ◌↔◌, ℕ, ◌≤◌, Bool, true, false, [], ◌∷◌, length, IsTrue, refl, ap, ◌∙◌}
use Rattle.std.specs.Prelude.{◌==◌, ◌&&◌, ◌||◌, not, nat_le, Option}
use Rattle.std.specs.Option.{option_map_or}
use Rattle.std.proofs.lemmas.Bool.{and_from, and_parts, leb-true}
use Rattle.dhcp6_opt.specs.declared.duid.DhcpV6Duid.{DhcpV6Duid}
use Rattle.dhcp6_opt.specs.declared.duid.DhcpV6Duid.TheVariants.{LinkLayerAddressPlusTime, EnterpriseNumber, LinkLayerAddress, UUID, Raw}
use Rattle.dhcp6_opt.specs.Duid.{written_duid}
use Rattle.dhcp6_msg.specs.Config as configs
use Rattle.dhcp6_msg.specs.Config.{Config}
use Rattle.dhcp6_msg.specs.Lease.{Lease, are_times_in_order, is_duid, is_no_duid, is_typed, is_unspecified, is_within_limits}
use Rattle.dhcp6_client.specs.Client.{can_begin}

-- an identifier that can be sent fits its option
pub duid_fits : (duid : DhcpV6Duid) → is_duid duid ≡ true → length (written_duid duid) ≤ 65535
duid_fits duid h =
    let bytes : ℕ = length (written_duid duid) in
    leb-true bytes 65535 (and_parts (nat_le 2 bytes) (nat_le bytes 65535) h).1

-- that of the server of a lease within its limits does
pub server_fits : (lease : Lease) → is_within_limits lease ≡ true → length (written_duid lease.srv_duid) ≤ 65535
unfolding is_within_limits
server_fits lease h =
    let others : Bool = are_times_in_order lease && not (is_unspecified lease.address) && is_typed lease.ia_type in
    duid_fits lease.srv_duid (and_parts others (is_duid lease.srv_duid) h).1

-- the test of an identifier without bytes
pub empty_duid : (duid : DhcpV6Duid) (is_empty : Bool) → (IsTrue is_empty ↔ (duid ≡ Raw [])) → is_empty ≡ is_no_duid duid
empty_duid (Raw []) true same = refl
empty_duid (Raw []) false same = same.1 refl
empty_duid (Raw (byte ∷ bytes)) true same = absurd (cc (same.0 refl))
empty_duid (Raw (byte ∷ bytes)) false same = refl
empty_duid (LinkLayerAddressPlusTime duid) true same = absurd (cc (same.0 refl))
empty_duid (LinkLayerAddressPlusTime duid) false same = refl
empty_duid (EnterpriseNumber duid) true same = absurd (cc (same.0 refl))
empty_duid (EnterpriseNumber duid) false same = refl
empty_duid (LinkLayerAddress duid) true same = absurd (cc (same.0 refl))
empty_duid (LinkLayerAddress duid) false same = refl
empty_duid (UUID uuid) true same = absurd (cc (same.0 refl))
empty_duid (UUID uuid) false same = refl

-- what the test of a beginning says: of the identifier, of the configuration and of the lease
begins_by : (config : Config) (lease : Option Lease) → can_begin config lease ≡ true →
    ((is_no_duid config.duid || is_duid config.duid) ≡ true) × (configs.is_within_limits config ≡ true) × (option_map_or is_within_limits lease true ≡ true)
begins_by config lease h =
    let there : Bool = not (config.iface_index == 0) && not (is_unspecified config.src_ip) in
    let named : Bool = is_no_duid config.duid || is_duid config.duid in
    let held : (there && named && configs.is_within_limits config ≡ true) × (option_map_or is_within_limits lease true ≡ true) =
    and_parts (there && named && configs.is_within_limits config) (option_map_or is_within_limits lease true) h in
    let within : (there && named ≡ true) × (configs.is_within_limits config ≡ true) = and_parts (there && named) (configs.is_within_limits config) held.0 in
    ((and_parts there named within.0).1, within.1, held.1)

pub begins_named : (config : Config) (lease : Option Lease) → can_begin config lease ≡ true → (is_no_duid config.duid || is_duid config.duid) ≡ true
begins_named config lease h = (begins_by config lease h).0

pub begins_held : (config : Config) (lease : Option Lease) → can_begin config lease ≡ true → option_map_or is_within_limits lease true ≡ true
begins_held config lease h = (begins_by config lease h).2

-- a configuration stays within its limits where its identifier alone is set
pub stays_within : (given new : Config) (lease : Option Lease) → can_begin given lease ≡ true → new ≡ record given { duid = new.duid } → is_duid new.duid ≡ true →
    IsTrue (configs.is_within_limits new)
unfolding configs.is_within_limits
stays_within given new lease h e named =
    let bytes : DhcpV6Duid → ℕ = λ duid. length (written_duid duid) in
    let parts : (nat_le (bytes given.duid) 65535 ≡ true) × (nat_le (length given.request_opts) 32767 ≡ true) =
    and_parts (nat_le (bytes given.duid) 65535) (nat_le (length given.request_opts) 32767) (begins_by given lease h).1 in
    let fits : nat_le (bytes new.duid) 65535 ≡ true = (and_parts (nat_le 2 (bytes new.duid)) (nat_le (bytes new.duid) 65535) named).1 in
    let asked : nat_le (length new.request_opts) 32767 ≡ true = ap (λ (config : Config). nat_le (length config.request_opts) 32767) e ∙ parts.1 in
    and_from (nat_le (bytes new.duid) 65535) (nat_le (length new.request_opts) 32767) fits asked

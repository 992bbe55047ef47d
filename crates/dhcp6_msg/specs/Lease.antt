-- A lease, as it is read from a message: RFC 8415 sections 18.2.10.1, 21.4 to 21.6, 21.21, 21.22.
use Rattle.std.specs.Prelude.{ℕ, ◌+◌, ◌/◌, ◌==◌, ◌&&◌, not, nat_le, Bool, true, false, List, [], length, Option, Some, None, unwrap_or, Result, Ok, Err, if◌then◌else◌}
use Rattle.std.specs.Str.{bytes_eq}
use Rattle.std.specs.FinMap as map
use Rattle.std.specs.Net.Addr.{ipv6_segments}
use Rattle.std.specs.declared.net.Ipv6Addr.{Ipv6Addr}
use Rattle.dhcp_wire.specs.declared.error.ErrorKind.{ErrorKind}
use Rattle.dhcp_wire.specs.declared.error.ErrorKind.TheVariants.{InvalidDhcpMessage, NoLease}
use Rattle.dhcp6_opt.specs.declared.duid.DhcpV6Duid.{DhcpV6Duid}
use Rattle.dhcp6_opt.specs.declared.duid.DhcpV6Duid.TheVariants.{Raw}
use Rattle.dhcp6_opt.specs.declared.ia.DhcpV6OptionIaNa.{DhcpV6OptionIaNa}
use Rattle.dhcp6_opt.specs.declared.ia.DhcpV6OptionIaTa.{DhcpV6OptionIaTa}
use Rattle.dhcp6_opt.specs.declared.ia.pd.DhcpV6OptionIaPd.{DhcpV6OptionIaPd}
use Rattle.dhcp6_opt.specs.declared.ia.address.DhcpV6OptionIaAddr.{DhcpV6OptionIaAddr}
use Rattle.dhcp6_opt.specs.declared.ia.prefix.DhcpV6OptionIaPrefix.{DhcpV6OptionIaPrefix}
use Rattle.dhcp6_opt.specs.Duid.{no_duid, written_duid}
use Rattle.dhcp6_opt.specs.Ia.{is_delegated, is_granted, unspecified}
use Rattle.dhcp6_opt.specs.Options.{OptionLists}
use Rattle.dhcp6_opt.specs.Said.{client_id_said, ia_na_said, ia_pd_said, ia_ta_said, said_by, server_id_said, server_unicast_said, status_said}
use Rattle.dhcp6_opt.specs.Status.{is_no_failure}
use Rattle.dhcp6_msg.specs.declared.lease.terms.LeaseTerms.{LeaseTerms}
use Rattle.dhcp6_msg.specs.declared.message.DhcpV6Message.{DhcpV6Message}
use Rattle.dhcp6_msg.specs.declared.mode.DhcpV6IaType.{DhcpV6IaType}
use Rattle.dhcp6_msg.specs.declared.mode.DhcpV6IaType.TheVariants.{NonTemporaryAddresses, TemporaryAddresses, PrefixDelegation}
use Rattle.dhcp6_msg.specs.Message.{id_number}

-- what contracts see of a lease; times are in seconds from its reply
pub record Lease : Type 0 where
  pub t1_sec : ℕ
  pub t2_sec : ℕ
  pub preferred_time_sec : ℕ
  pub valid_time_sec : ℕ
  pub xid : ℕ
  pub iaid : ℕ
  pub ia_type : Option DhcpV6IaType
  pub address : Ipv6Addr
  pub prefix_len : ℕ
  pub cli_duid : DhcpV6Duid
  pub srv_duid : DhcpV6Duid
  pub srv_ip : Ipv6Addr
  pub ntp_srvs : List (List ℕ)
  pub options : OptionLists

-- ---- the terms that the identity associations grant

-- nothing granted
abbrev pub no_terms : LeaseTerms
no_terms = record {
  ia_type = None;
  iaid = 0;
  address = unspecified;
  prefix_len = 128;
  t1_sec = 0;
  t2_sec = 0;
  preferred_time_sec = 0;
  valid_time_sec = 0;
}

-- T1; where the server leaves it to the client (section 21.4), half of the preferred lifetime,
-- rounded down
abbrev pub renewal_time : ℕ → ℕ → ℕ
renewal_time t1 preferred = if t1 == 0 then preferred / 2 else t1

-- T2; where the server leaves it to the client, a half and a quarter of the preferred lifetime,
-- each rounded down
abbrev pub rebinding_time : ℕ → ℕ → ℕ
rebinding_time t2 preferred = if t2 == 0 then preferred / 2 + preferred / 4 else t2

-- the address of an IA_NA, if it has one
abbrev pub with_na_address :
    LeaseTerms → DhcpV6OptionIaNa → Option DhcpV6OptionIaAddr → LeaseTerms
with_na_address terms ia None = terms
with_na_address terms ia (Some address) = record terms {
  iaid = ia.iaid;
  address = address.address;
  t1_sec = renewal_time ia.t1_sec address.preferred_time_sec;
  t2_sec = rebinding_time ia.t2_sec address.preferred_time_sec;
  preferred_time_sec = address.preferred_time_sec;
  valid_time_sec = address.valid_time_sec;
}

-- terms after those of an IA_NA, if there is one: its type, and what it grants if it succeeded
unfoldable pub with_na : LeaseTerms → Option DhcpV6OptionIaNa → LeaseTerms
with_na terms None = terms
with_na terms (Some ia) =
    let typed = record terms { ia_type = Some NonTemporaryAddresses } in
    if is_granted ia.address ia.status then with_na_address typed ia ia.address else typed

-- the address of an IA_TA, if it has one: it is preferred for a day and valid for a week, which is
-- this library's own choice. An IA_TA has no T1 and T2 (section 21.5): they stay as they are.
abbrev pub with_ta_address :
    LeaseTerms → DhcpV6OptionIaTa → Option DhcpV6OptionIaAddr → LeaseTerms
with_ta_address terms ia None = terms
with_ta_address terms ia (Some address) = record terms {
  iaid = ia.iaid;
  address = address.address;
  preferred_time_sec = 86400;
  valid_time_sec = 604800;
}

-- the same of an IA_TA, over these terms
unfoldable pub with_ta : LeaseTerms → Option DhcpV6OptionIaTa → LeaseTerms
with_ta terms None = terms
with_ta terms (Some ia) =
    let typed = record terms { ia_type = Some TemporaryAddresses } in
    if is_granted ia.address ia.status then with_ta_address typed ia ia.address else typed

-- the prefix of an IA_PD, if it has one
abbrev pub with_pd_prefix :
    LeaseTerms → DhcpV6OptionIaPd → Option DhcpV6OptionIaPrefix → LeaseTerms
with_pd_prefix terms ia None = terms
with_pd_prefix terms ia (Some prefix) = record terms {
  iaid = ia.iaid;
  address = prefix.prefix;
  prefix_len = prefix.prefix_len;
  t1_sec = renewal_time ia.t1_sec prefix.preferred_time_sec;
  t2_sec = rebinding_time ia.t2_sec prefix.preferred_time_sec;
  preferred_time_sec = prefix.preferred_time_sec;
  valid_time_sec = prefix.valid_time_sec;
}

-- the same of an IA_PD, over these terms
unfoldable pub with_pd : LeaseTerms → Option DhcpV6OptionIaPd → LeaseTerms
with_pd terms None = terms
with_pd terms (Some ia) =
    let typed = record terms { ia_type = Some PrefixDelegation } in
    if is_delegated ia.prefix ia.status then with_pd_prefix typed ia ia.prefix else typed

-- The terms of a lease of these options: those of the first readable IA_NA, then those of the first
-- IA_TA, then those of the first IA_PD, each over those before.
unfoldable pub terms_of : OptionLists → LeaseTerms
terms_of options =
    let addresses = with_na no_terms (said_by ia_na_said options 3) in
    let temporary = with_ta addresses (said_by ia_ta_said options 4) in
    with_pd temporary (said_by ia_pd_said options 25)

-- ---- the lease

-- a lease with this transaction id, these options and these terms
abbrev pub lease_with : ℕ → OptionLists → LeaseTerms → Lease
lease_with xid options terms = record {
  t1_sec = terms.t1_sec;
  t2_sec = terms.t2_sec;
  preferred_time_sec = terms.preferred_time_sec;
  valid_time_sec = terms.valid_time_sec;
  xid = xid;
  iaid = terms.iaid;
  ia_type = terms.ia_type;
  address = terms.address;
  prefix_len = terms.prefix_len;
  cli_duid = unwrap_or (said_by client_id_said options 1) no_duid;
  srv_duid = unwrap_or (said_by server_id_said options 2) no_duid;
  srv_ip = unwrap_or (said_by server_unicast_said options 12) unspecified;
  ntp_srvs = [];
  options = options;
}

-- the lease of a message
abbrev pub lease_of : DhcpV6Message → Lease
lease_of message =
    lease_with (id_number message.xid) message.options (terms_of message.options)

-- every time and number zero but the prefix length, which is 128, each address ::, each identifier
-- without bytes, and nothing else
unfoldable pub empty_lease : Lease
empty_lease = record {
  t1_sec = 0;
  t2_sec = 0;
  preferred_time_sec = 0;
  valid_time_sec = 0;
  xid = 0;
  iaid = 0;
  ia_type = None;
  address = unspecified;
  prefix_len = 128;
  cli_duid = no_duid;
  srv_duid = no_duid;
  srv_ip = unspecified;
  ntp_srvs = [];
  options = map.empty;
}

-- whether an address is the unspecified one, ::
abbrev pub is_unspecified : Ipv6Addr → Bool
is_unspecified address = bytes_eq (ipv6_segments address) (ipv6_segments unspecified)

-- whether a lease is not rebound before it is renewed, does not end before it is rebound, and is
-- not preferred after its end: T1 <= T2 <= valid, and preferred <= valid
abbrev pub are_times_in_order : Lease → Bool
are_times_in_order lease =
    nat_le lease.t1_sec lease.t2_sec && nat_le lease.t2_sec lease.valid_time_sec
    && nat_le lease.preferred_time_sec lease.valid_time_sec

-- whether an identifier has no bytes
abbrev pub is_no_duid : DhcpV6Duid → Bool
is_no_duid (Raw []) = true
is_no_duid _ = false

-- whether a lease grants something: its times are in order, its server's identifier has bytes, and
-- its address is not ::
abbrev pub is_grant : Lease → Bool
is_grant lease =
    are_times_in_order lease && not (is_no_duid lease.srv_duid)
    && not (is_unspecified lease.address)

-- a lease that grants something, or the refusal
abbrev pub granted_lease : Lease → Result Lease ErrorKind
granted_lease lease = if is_grant lease then Ok lease else Err InvalidDhcpMessage

-- The lease that a message grants, or the refusal: a first readable status that is not Success says
-- that there is no lease (section 21.13).
unfoldable pub read_lease : DhcpV6Message → Result Lease ErrorKind
read_lease message =
    if is_no_failure (said_by status_said message.options 13)
    then granted_lease (lease_of message)
    else Err NoLease

-- ---- a lease that a client may hold

-- whether an identifier can be sent: it has 2 to 65,535 bytes, its type of two bytes at least, and
-- at most what an option can carry
abbrev pub is_duid : DhcpV6Duid → Bool
is_duid duid = nat_le 2 (length (written_duid duid)) && nat_le (length (written_duid duid)) 65535

-- whether the type of an association is there
abbrev pub is_typed : Option DhcpV6IaType → Bool
is_typed None = false
is_typed (Some _) = true

-- whether a client may hold a lease: its times are in order, its address is not ::, the type of its
-- identity association is known, and its server's identifier can be sent
unfoldable pub is_within_limits : Lease → Bool
is_within_limits lease =
    are_times_in_order lease && not (is_unspecified lease.address) && is_typed lease.ia_type
    && is_duid lease.srv_duid

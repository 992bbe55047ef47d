-- The lease of an IPv6 script: which lease it stands for, and the fields of its text.
use Rattle.std.specs.Prelude.{◌≡◌, ℕ, Bool, ◌&&◌, not, nat_le, ◌<◌, ◌^◌, List, [], ◌∷◌, ◌++◌, codes, Some}
use Rattle.std.specs.Fmt.{decimal}
use Rattle.std.specs.Net.Addr.{IsIpv6Addr}
use Rattle.hex.specs.Hex.{IsBytes}
use Rattle.dhcp_stream.specs.HexText.{address6_text, hex_text}
use Rattle.dhcp_stream.specs.Line.{spaced}
use Rattle.dhcp6_opt.specs.Duid.{written_duid}
use Rattle.dhcp6_msg.specs.declared.mode.DhcpV6IaType.{DhcpV6IaType}
use Rattle.dhcp6_msg.specs.declared.mode.DhcpV6IaType.TheVariants.{NonTemporaryAddresses, TemporaryAddresses, PrefixDelegation}
use Rattle.dhcp6_msg.specs.Lease.{Lease, empty_lease, is_unspecified}
use Rattle.dhcp_script.specs.declared.lease6.Lease6.{Lease6}
use Rattle.dhcp_script.specs.declared.version.Version.{Version}
use Rattle.dhcp_script.specs.declared.version.Version.TheVariants.{One, Later}
use Rattle.dhcp_script.specs.Duid.{duid_of, is_script_duid}

-- whether a lease is not rebound before it is renewed, does not end before it is rebound, and is
-- not preferred after its end
abbrev pub are_times_in_order : Lease6 → Bool
are_times_in_order lease =
    nat_le lease.t1_sec lease.t2_sec && nat_le lease.t2_sec lease.valid_time_sec
    && nat_le lease.preferred_time_sec lease.valid_time_sec

-- whether a lease is within its limits: its times are in order, its address is not ::, and the
-- identifier of its server has 2 to 130 bytes
abbrev pub is_within_limits : Lease6 → Bool
is_within_limits lease =
    are_times_in_order lease && not (is_unspecified lease.address) && is_script_duid lease.srv_duid

-- a lease with the association, times and addresses of these fields
abbrev pub with_numbers : Lease6 → Lease → Lease
with_numbers fields lease = record lease {
  ia_type = Some fields.ia_type;
  iaid = fields.iaid;
  address = fields.address;
  prefix_len = fields.prefix_len;
  t1_sec = fields.t1_sec;
  t2_sec = fields.t2_sec;
  preferred_time_sec = fields.preferred_time_sec;
  valid_time_sec = fields.valid_time_sec;
  xid = fields.xid;
  srv_ip = fields.srv_ip;
}

-- a lease with the identifiers of server and client of these fields
abbrev pub with_duids : Lease6 → Lease → Lease
with_duids fields lease = record lease {
  srv_duid = duid_of fields.srv_duid;
  cli_duid = duid_of fields.cli_duid;
}

-- the lease with these fields, and with those of the empty lease in all others
unfoldable pub lease_with : Lease6 → Lease
lease_with fields = with_duids fields (with_numbers fields empty_lease)

-- the fields of a lease of this type that its text has
abbrev pub fields_of : DhcpV6IaType → Lease → Lease6
fields_of ia_type lease = record {
  ia_type = ia_type;
  iaid = lease.iaid;
  address = lease.address;
  prefix_len = lease.prefix_len;
  srv_duid = written_duid lease.srv_duid;
  t1_sec = lease.t1_sec;
  t2_sec = lease.t2_sec;
  preferred_time_sec = lease.preferred_time_sec;
  valid_time_sec = lease.valid_time_sec;
  xid = lease.xid;
  cli_duid = written_duid lease.cli_duid;
  srv_ip = lease.srv_ip;
}

-- the type of an identity association
abbrev pub ia_type_text : DhcpV6IaType → List ℕ
ia_type_text NonTemporaryAddresses = codes "na"
ia_type_text TemporaryAddresses = codes "ta"
ia_type_text PrefixDelegation = codes "pd"

-- the identity association of a lease, its server and its times
abbrev pub first_fields : Lease6 → List (List ℕ)
first_fields lease =
    ia_type_text lease.ia_type ∷ decimal lease.iaid ∷ address6_text lease.address
    ∷ decimal lease.prefix_len ∷ hex_text lease.srv_duid
    ∷ decimal lease.t1_sec ∷ decimal lease.t2_sec
    ∷ decimal lease.preferred_time_sec ∷ decimal lease.valid_time_sec ∷ []

-- its other fields
abbrev pub later_fields : Lease6 → List (List ℕ)
later_fields lease =
    decimal lease.xid ∷ hex_text lease.cli_duid ∷ address6_text lease.srv_ip ∷ []

-- the fields of a lease
unfoldable pub lease_text : Lease6 → List ℕ
lease_text lease = spaced (first_fields lease ++ later_fields lease)

-- the fields that it has in a version
abbrev pub versioned_lease_text : Version → Lease6 → List ℕ
versioned_lease_text One lease = spaced (first_fields lease)
versioned_lease_text Later lease = lease_text lease

-- a lease whose numbers, addresses and bytes fit their types
pub record IsLease6 (lease : Lease6) : Type 0 where
  pub iaid : lease.iaid < 2 ^ 32
  pub address : IsIpv6Addr lease.address
  pub prefix_len : lease.prefix_len < 2 ^ 8
  pub srv_duid : IsBytes lease.srv_duid
  pub t1_sec : lease.t1_sec < 2 ^ 32
  pub t2_sec : lease.t2_sec < 2 ^ 32
  pub preferred_time_sec : lease.preferred_time_sec < 2 ^ 32
  pub valid_time_sec : lease.valid_time_sec < 2 ^ 32
  pub xid : lease.xid < 2 ^ 32
  pub cli_duid : IsBytes lease.cli_duid
  pub srv_ip : IsIpv6Addr lease.srv_ip

-- the same association, server and times, and the other fields of the empty lease
abbrev pub first_alone : Lease6 → Lease6
first_alone lease = record lease {
  xid = empty_lease.xid;
  cli_duid = written_duid empty_lease.cli_duid;
  srv_ip = empty_lease.srv_ip;
}

-- a lease that has a text in a version: in version 1 one whose other fields are those of the empty
-- lease
abbrev pub HasLeaseText : Version → Lease6 → Type 0
HasLeaseText One lease = IsLease6 lease × (lease ≡ first_alone lease)
HasLeaseText Later lease = IsLease6 lease

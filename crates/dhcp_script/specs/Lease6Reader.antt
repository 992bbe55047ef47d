-- The reading of the fields of a lease of an IPv6 script.
use Rattle.std.specs.Prelude.{ℕ, List, [], if◌then◌else◌, codes, Option, Some, None}
use Rattle.std.specs.Str.{bytes_eq}
use Rattle.std.specs.declared.net.Ipv6Addr.{Ipv6Addr}
use Rattle.dhcp_wire.specs.Field.{Read}
use Rattle.dhcp_stream.specs.TextReader.{address6_in, both, hex_in, in_field, made_of, number_in}
use Rattle.dhcp6_opt.specs.Ia.{unspecified}
use Rattle.dhcp6_msg.specs.declared.mode.DhcpV6IaType.{DhcpV6IaType}
use Rattle.dhcp6_msg.specs.declared.mode.DhcpV6IaType.TheVariants.{NonTemporaryAddresses, TemporaryAddresses, PrefixDelegation}
use Rattle.dhcp_script.specs.declared.lease6.Lease6.{Lease6}
use Rattle.dhcp_script.specs.declared.lease6.reader.LaterFields.{LaterFields}
use Rattle.dhcp_script.specs.declared.version.Version.{Version}
use Rattle.dhcp_script.specs.declared.version.Version.TheVariants.{One, Later}
use Rattle.dhcp_script.specs.FieldReader.{three_at, u32_at, u32_in}
use Rattle.dhcp_script.specs.Version.{end_of_times}

-- the type of an identity association
abbrev pub ia_type_in : List ℕ → Option DhcpV6IaType
ia_type_in field =
    if bytes_eq field (codes "na") then Some NonTemporaryAddresses
    else if bytes_eq field (codes "ta") then Some TemporaryAddresses
    else if bytes_eq field (codes "pd") then Some PrefixDelegation
    else None

abbrev pub later_fields_of : ℕ × (List ℕ × Ipv6Addr) → LaterFields
later_fields_of parts = record { xid = parts.0; cli_duid = parts.1.0; srv_ip = parts.1.1 }

-- what the empty lease has of them
abbrev pub no_later_fields : LaterFields
no_later_fields = record { xid = 0; cli_duid = []; srv_ip = unspecified }

-- the fields that the later versions alone have
unfoldable pub later_fields_at : Version → List ℕ → Read LaterFields
later_fields_at One text = Some (no_later_fields, text)
later_fields_at Later text =
    made_of later_fields_of
    (both (u32_at 32) (both (in_field hex_in 32) (in_field address6_in 10))) text

-- the type and the IAID of the identity association, and the address
abbrev pub association_at : List ℕ → Read (DhcpV6IaType × ℕ × Ipv6Addr)
association_at text = three_at ia_type_in u32_in address6_in 32 text

-- the length of the prefix, and the identifier of the server
abbrev pub server_at : List ℕ → Read (ℕ × List ℕ)
server_at text = both (in_field (number_in 255) 32) (in_field hex_in 32) text

-- T1, T2 and the preferred lifetime, and the valid lifetime
abbrev pub times_at : Version → List ℕ → Read ((ℕ × ℕ × ℕ) × ℕ)
times_at version text =
    both (three_at u32_in u32_in u32_in 32) (u32_at (end_of_times version)) text

abbrev pub lease6_of : (DhcpV6IaType × ℕ × Ipv6Addr)
    × ((ℕ × List ℕ) × (((ℕ × ℕ × ℕ) × ℕ) × LaterFields)) → Lease6
lease6_of parts = record {
  ia_type = parts.0.0;
  iaid = parts.0.1;
  address = parts.0.2;
  prefix_len = parts.1.0.0;
  srv_duid = parts.1.0.1;
  t1_sec = parts.1.1.0.0.0;
  t2_sec = parts.1.1.0.0.1;
  preferred_time_sec = parts.1.1.0.0.2;
  valid_time_sec = parts.1.1.0.1;
  xid = parts.1.1.1.xid;
  cli_duid = parts.1.1.1.cli_duid;
  srv_ip = parts.1.1.1.srv_ip;
}

-- the fields of a lease, to the end of the line
unfoldable pub lease6_at : Version → List ℕ → Read Lease6
lease6_at version text =
    made_of lease6_of (both association_at (both server_at
    (both (times_at version) (later_fields_at version)))) text

-- DHCP unique identifiers, RFC 8415 section 11: a type, and what the type has after it.
use Rattle.std.specs.Prelude.{ℕ, ◌-◌, ◌%◌, ◌^◌, ◌==◌, List, [], ◌++◌, length, drop, Option, Some, None, unwrap_or, if◌then◌else◌}
use Rattle.std.specs.Int.{w16, w32, w128, to_be_bytes}
use Rattle.dhcp_wire.specs.Field.{◌>>=◌, number_at}
use Rattle.dhcp_clock.specs.Words.{Drawn, drawn_then, drawn_word, undrawn}
use Rattle.dhcp6_opt.specs.declared.duid.DhcpV6Duid.{DhcpV6Duid}
use Rattle.dhcp6_opt.specs.declared.duid.DhcpV6Duid.TheVariants.{LinkLayerAddressPlusTime, EnterpriseNumber, LinkLayerAddress, UUID, Raw}

-- the hardware type, the time and the address of a DUID-LLT, section 11.2
abbrev pub link_layer_time_in : List ℕ → Option DhcpV6Duid
link_layer_time_in bytes = do
  hardware_type ← number_at w16 bytes
  time ← number_at w32 hardware_type.1
  Some (LinkLayerAddressPlusTime record {
    hardware_type = hardware_type.0;
    time = time.0;
    link_layer_address = time.1;
  })

-- the enterprise number and the identifier of a DUID-EN, section 11.3
abbrev pub enterprise_in : List ℕ → Option DhcpV6Duid
enterprise_in bytes = do
  number ← number_at w32 bytes
  Some (EnterpriseNumber (record { enterprise_number = number.0; identifier = number.1 }))

-- the hardware type and the address of a DUID-LL, section 11.4
abbrev pub link_layer_in : List ℕ → Option DhcpV6Duid
link_layer_in bytes = do
  hardware_type ← number_at w16 bytes
  Some (LinkLayerAddress record {
    hardware_type = hardware_type.0;
    link_layer_address = hardware_type.1;
  })

-- the number of a DUID-UUID, section 11.5: sixteen bytes and no more
abbrev pub uuid_in : List ℕ → Option DhcpV6Duid
uuid_in bytes = do
  uuid ← number_at w128 bytes
  if length uuid.1 == 0 then Some (UUID uuid.0) else None

-- the identifier of a type that has a name, in the bytes after the type
abbrev pub typed_duid : ℕ → List ℕ → Option DhcpV6Duid
typed_duid kind bytes =
    if kind == 1 then link_layer_time_in bytes
    else if kind == 2 then enterprise_in bytes
    else if kind == 3 then link_layer_in bytes
    else if kind == 4 then uuid_in bytes
    else None

-- the identifier of some bytes: two or more; what no type reads is its bytes alone
unfoldable pub duid_in : List ℕ → Option DhcpV6Duid
duid_in bytes = do
  kind ← number_at w16 bytes
  Some (unwrap_or (typed_duid kind.0 kind.1) (Raw bytes))

-- the identifier without bytes
abbrev pub no_duid : DhcpV6Duid
no_duid = Raw []

-- the bytes of an identifier
unfoldable pub written_duid : DhcpV6Duid → List ℕ
written_duid (LinkLayerAddressPlusTime duid) =
    to_be_bytes w16 1 ++ to_be_bytes w16 duid.hardware_type ++ to_be_bytes w32 duid.time
    ++ duid.link_layer_address
written_duid (EnterpriseNumber duid) =
    to_be_bytes w16 2 ++ to_be_bytes w32 duid.enterprise_number ++ duid.identifier
written_duid (LinkLayerAddress duid) =
    to_be_bytes w16 3 ++ to_be_bytes w16 duid.hardware_type ++ duid.link_layer_address
written_duid (UUID uuid) = to_be_bytes w16 4 ++ to_be_bytes w128 uuid
written_duid (Raw bytes) = bytes

-- ---- identifiers that are made

-- the time of a DUID-LLT that is made at this second since 1970: seconds since the year 2000,
-- modulo 2^32, and 0 before that
abbrev pub duid_time : ℕ → ℕ
duid_time unix_sec = (unix_sec - 946684800) % 2 ^ 32

-- the identifier of four random words: their bytes, with those of a type that has no name, 255, in
-- front in place of the first two
abbrev pub random_duid : ℕ → ℕ → ℕ → ℕ → DhcpV6Duid
random_duid a b c d =
    let bytes = to_be_bytes w32 a ++ to_be_bytes w32 b ++ to_be_bytes w32 c ++ to_be_bytes w32 d in
    Raw (to_be_bytes w16 255 ++ drop 2 bytes)

-- the same of the next four words
abbrev pub drawn_duid : List ℕ → Drawn DhcpV6Duid
drawn_duid =
    drawn_then drawn_word λ a. drawn_then drawn_word λ b. drawn_then drawn_word λ c.
    drawn_then drawn_word λ d. undrawn (random_duid a b c d)

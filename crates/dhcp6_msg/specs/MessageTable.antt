-- The messages that a client sends, RFC 8415 section 18.2: one row for each.
use Rattle.std.specs.Prelude.{ℕ, Bool, true, false, List, [], ◌∷◌, ◌++◌, Option, Some, None, option_map}
use Rattle.dhcp6_opt.specs.declared.duid.DhcpV6Duid.{DhcpV6Duid}
use Rattle.dhcp6_opt.specs.declared.ia.address.DhcpV6OptionIaAddr.{DhcpV6OptionIaAddr}
use Rattle.dhcp6_opt.specs.declared.ia.prefix.DhcpV6OptionIaPrefix.{DhcpV6OptionIaPrefix}
use Rattle.dhcp6_opt.specs.declared.option.DhcpV6Option.{DhcpV6Option}
use Rattle.dhcp6_opt.specs.declared.option.DhcpV6Option.TheVariants.{ClientId, ServerId, IANA, IATA, IAPD, OptionRequestOption, ElapsedTime}
use Rattle.dhcp6_opt.specs.declared.option_code.DhcpV6OptionCode.{DhcpV6OptionCode}
use Rattle.dhcp6_opt.specs.Ia.{plain_address, plain_prefix, unspecified}
use Rattle.dhcp6_msg.specs.declared.message.DhcpV6Message.{DhcpV6Message}
use Rattle.dhcp6_msg.specs.declared.message_type.DhcpV6MessageType.{DhcpV6MessageType}
use Rattle.dhcp6_msg.specs.declared.message_type.DhcpV6MessageType.TheVariants.{Solicit, Request, Renew, Rebind, Release}
use Rattle.dhcp6_msg.specs.declared.mode.DhcpV6IaType.{DhcpV6IaType}
use Rattle.dhcp6_msg.specs.declared.mode.DhcpV6IaType.TheVariants as types
use Rattle.dhcp6_msg.specs.declared.mode.DhcpV6Mode.{DhcpV6Mode}
use Rattle.dhcp6_msg.specs.declared.mode.DhcpV6Mode.TheVariants as modes
use Rattle.dhcp6_msg.specs.Config.{Config}
use Rattle.dhcp6_msg.specs.Lease.{Lease}
use Rattle.dhcp6_msg.specs.Message.{elapsed_hundredths, message_with}

-- ---- identity associations

-- the association that a client asks for, with this identifier: times 0 and nothing inside, or a
-- hint of the length of a prefix
unfoldable pub association_of_mode : DhcpV6Mode → ℕ → DhcpV6Option
association_of_mode modes.NonTemporaryAddresses iaid = IANA record {
  iaid = iaid;
  t1_sec = 0;
  t2_sec = 0;
  address = None;
  status = None;
}
association_of_mode modes.TemporaryAddresses iaid =
    IATA (record { iaid = iaid; address = None; status = None })
association_of_mode (modes.PrefixDelegation length) iaid = IAPD record {
  iaid = iaid;
  t1_sec = 0;
  t2_sec = 0;
  prefix = Some (plain_prefix unspecified length 0 0);
  status = None;
}

-- the address of a lease, and the prefix, as an association has it
abbrev pub lease_address : Lease → DhcpV6OptionIaAddr
lease_address lease =
    plain_address lease.address lease.preferred_time_sec lease.valid_time_sec

abbrev pub lease_prefix : Lease → DhcpV6OptionIaPrefix
lease_prefix lease =
    plain_prefix
    lease.address lease.prefix_len lease.preferred_time_sec lease.valid_time_sec

-- the association of a lease, with its identifier, its T1 and T2 unless it is an IA_TA, and its
-- address or prefix
unfoldable pub association_of_type : DhcpV6IaType → Lease → DhcpV6Option
association_of_type types.NonTemporaryAddresses lease = IANA record {
  iaid = lease.iaid;
  t1_sec = lease.t1_sec;
  t2_sec = lease.t2_sec;
  address = Some (lease_address lease);
  status = None;
}
association_of_type types.TemporaryAddresses lease = IATA record {
  iaid = lease.iaid;
  address = Some (lease_address lease);
  status = None;
}
association_of_type types.PrefixDelegation lease = IAPD record {
  iaid = lease.iaid;
  t1_sec = lease.t1_sec;
  t2_sec = lease.t2_sec;
  prefix = Some (lease_prefix lease);
  status = None;
}

-- the association of a lease, if its type is known
abbrev pub lease_association : Lease → Option DhcpV6Option
lease_association lease = option_map (λ ia_type. association_of_type ia_type lease) lease.ia_type

-- ---- the rows

-- what the messages of a client differ in: the type, since when the client tries in milliseconds,
-- the server's identifier, the identity association, and whether options are asked for
pub record RowParts : Type 0 where
  pub msg_type : DhcpV6MessageType
  pub elapsed_ms : ℕ
  pub server : Option DhcpV6Duid
  pub association : Option DhcpV6Option
  pub asks : Bool

-- the search for servers (section 18.2.1)
abbrev pub solicit : DhcpV6Mode → ℕ → ℕ → RowParts
solicit mode iaid elapsed_ms = record {
  msg_type = Solicit;
  elapsed_ms = elapsed_ms;
  server = None;
  association = Some (association_of_mode mode iaid);
  asks = true;
}

-- the request of the lease of an offer (section 18.2.2)
abbrev pub request : Lease → ℕ → RowParts
request offer elapsed_ms = record {
  msg_type = Request;
  elapsed_ms = elapsed_ms;
  server = Some offer.srv_duid;
  association = lease_association offer;
  asks = true;
}

-- the request to renew a lease that is held (section 18.2.4)
abbrev pub renew : Lease → ℕ → RowParts
renew held elapsed_ms = record {
  msg_type = Renew;
  elapsed_ms = elapsed_ms;
  server = Some held.srv_duid;
  association = lease_association held;
  asks = true;
}

-- the request to rebind a lease that is held: to any server (section 18.2.5)
abbrev pub rebind : Lease → ℕ → RowParts
rebind held elapsed_ms = record {
  msg_type = Rebind;
  elapsed_ms = elapsed_ms;
  server = None;
  association = lease_association held;
  asks = true;
}

-- the release of a lease (section 18.2.7)
abbrev pub release : Lease → RowParts
release held = record {
  msg_type = Release;
  elapsed_ms = 0;
  server = Some held.srv_duid;
  association = lease_association held;
  asks = false;
}

-- option 2, if a server is named
abbrev pub server_option : Option DhcpV6Duid → List DhcpV6Option
server_option None = []
server_option (Some duid) = ServerId duid ∷ []

-- the identity association, if there is one
abbrev pub association_option : Option DhcpV6Option → List DhcpV6Option
association_option None = []
association_option (Some association) = association ∷ []

-- option 6, if options are asked for
abbrev pub request_option : Bool → List DhcpV6OptionCode → List DhcpV6Option
request_option false codes = []
request_option true codes = OptionRequestOption codes ∷ []

-- what a message takes over from a lease: the server, and the association
abbrev pub lease_options : Lease → List DhcpV6Option
lease_options lease =
    server_option (Some lease.srv_duid) ++ association_option (lease_association lease)

-- the options of a row beside those of every message
abbrev pub own_options : Config → RowParts → List DhcpV6Option
own_options config row =
    server_option row.server ++ association_option row.association
    ++ request_option row.asks config.request_opts

-- the options of a row, each of another code; they are written by rising code, which is as they
-- stand here, but for an IA_PD
abbrev pub options_of : Config → RowParts → List DhcpV6Option
options_of config row =
    ClientId config.duid ∷ (own_options config row
    ++ ElapsedTime (elapsed_hundredths row.elapsed_ms) ∷ [])

-- the message of a row with this transaction id
unfoldable pub table_message : ℕ → Config → RowParts → DhcpV6Message
table_message id config row = message_with row.msg_type id (options_of config row)

-- The Request that an Advertise leads to.
use Rattle.std.specs.Prelude.{ℕ, List, Result, Ok, Err}
use Rattle.dhcp_wire.specs.declared.error.ErrorKind.{ErrorKind}
use Rattle.dhcp6_msg.specs.Config.{Config}
use Rattle.dhcp6_msg.specs.Lease.{Lease, read_lease}
use Rattle.dhcp6_msg.specs.Message.{parsed_message}
use Rattle.dhcp6_msg.specs.MessageTable.{request, table_message}
use Rattle.dhcp6_msg.specs.declared.message.DhcpV6Message.{DhcpV6Message}

-- the lease of a message that was parsed, or the refusal of either
abbrev pub lease_of_parsed : Result DhcpV6Message ErrorKind → Result Lease ErrorKind
lease_of_parsed (Ok message) = read_lease message
lease_of_parsed (Err kind) = Err kind

-- the Request of a lease that was read, or the refusal
abbrev pub request_of_lease : ℕ → Config → Result Lease ErrorKind → Result DhcpV6Message ErrorKind
request_of_lease xid config (Ok lease) = Ok (table_message xid config (request lease 0))
request_of_lease xid config (Err kind) = Err kind

-- the Request of the lease that a payload offers, or the refusal of the payload
abbrev pub request_of_offer : ℕ → Config → List ℕ → Result DhcpV6Message ErrorKind
request_of_offer xid config offer =
    request_of_lease xid config (lease_of_parsed (parsed_message offer))

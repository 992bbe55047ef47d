-- What a manager keeps of a lease of IPv6.
use Rattle.std.specs.Prelude.{◌≡◌, ℕ, nat_lt, if◌then◌else◌, Option, Some, None, Result, Ok, Err}
use Rattle.std.specs.declared.net.Ipv6Addr.{Ipv6Addr}
use Rattle.dhcp_wire.specs.Error.{ErrorParts}
use Rattle.dhcp_clock.specs.Link.{Turn}
use Rattle.dhcp6_msg.specs.Lease.{Lease}
use Rattle.dhcp6_client.specs.Client.{ClientParts}
use Rattle.dhcp6_client.specs.Granted.{HeardLease}
use Rattle.dhcp6_client.specs.Rules.{held_lease, lease_end}
use Rattle.dhcp6_client.specs.State.{plain_state}
use Rattle.dhcp6_client.specs.declared.state.DhcpV6State.{DhcpV6State}
use Rattle.uses.specs.Manager.{interface_after6}
use Rattle.uses.specs.declared.manager.interface.Interface.{Interface}

-- an address of a lease that was read from the packet which the link gave last
pub record HeardAddress {Source Link : Type 0} (gives : ℕ → Source → Source → Type 0)
    (moves : Turn → Link → Link → Type 0) (now : ℕ) (address : Ipv6Addr) (old : ClientParts)
    (words words' : Source) (link link' : Link) : Type 0 where
  pub lease : Lease
  pub is_address : lease.address ≡ address
  pub heard : HeardLease gives moves now lease old words words' link link'

-- the interface after a poll: only a change of the state changes it
abbrev pub interface_following : Result (Option DhcpV6State) ErrorParts → Interface → Interface
interface_following (Ok (Some state)) interface = interface_after6 (plain_state state) interface
interface_following (Ok None) interface = interface
interface_following (Err error) interface = interface

-- the address of this lease at a moment, if that is before this end
abbrev pub address_until : Option ℕ → Option Lease → ℕ → Option Ipv6Addr
address_until (Some end) (Some lease) now = if nat_lt now end then Some lease.address else None
address_until (Some end) None now = None
address_until None lease now = None

-- the address of the lease that a client holds, until the end of that
abbrev pub address_in_use : ℕ → ClientParts → Option Ipv6Addr
address_in_use now parts =
    address_until (lease_end parts.client.state) (held_lease parts.client.state) now

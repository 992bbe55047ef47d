-- A client, and how it begins, RFC 8415 sections 16.1 and 18.2.
use Rattle.std.specs.Prelude.{◌≡◌, ◌==◌, ◌&&◌, ◌||◌, ℕ, List, [], Bool, true, not, Option, Some, None, option_map}
use Rattle.std.specs.Option.{option_map_or}
use Rattle.dhcp_clock.specs.Words.{Drawn, undrawn, drawn_word, drawn_then}
use Rattle.dhcp_history.specs.BoundLease.{Bound}
use Rattle.dhcp_history.specs.Calls as calls
use Rattle.dhcp_history.specs.Client.{BeginsIn, Enters}
use Rattle.dhcp6_msg.specs.declared.mode.DhcpV6Mode.{DhcpV6Mode}
use Rattle.dhcp6_msg.specs.declared.mode.DhcpV6Mode.TheVariants.{NonTemporaryAddresses, TemporaryAddresses, PrefixDelegation}
use Rattle.dhcp6_opt.specs.declared.duid.DhcpV6Duid.{DhcpV6Duid}
use Rattle.dhcp6_opt.specs.declared.duid.DhcpV6Duid.TheVariants.{Raw}
use Rattle.dhcp6_msg.specs.Config.{Config, client_duid, ethernet_duid, is_within_limits}
use Rattle.dhcp6_msg.specs.Exchange.{new_id}
use Rattle.dhcp6_msg.specs.Lease as leases
use Rattle.dhcp6_msg.specs.Lease.{Lease, is_duid, is_no_duid, is_unspecified}
use Rattle.dhcp6_client.specs.declared.client_state.ClientState.{ClientState}
use Rattle.dhcp6_client.specs.declared.client_state.ClientState.TheVariants.{Solicit, Renew}
use Rattle.dhcp6_client.specs.declared.client_state.Exchange.{Exchange}
use Rattle.dhcp6_client.specs.Rules.{bound_state, restarted}

-- what contracts see of a client: its configuration, and the client of its rules
abbrev pub ClientParts : Type 0
ClientParts = calls.ClientParts Config ClientState Exchange

-- whether there is an interface and an address to send from, and the identifier is absent or can be
-- sent
abbrev pub has_source : Config → Bool
has_source config =
    not (config.iface_index == 0) && not (is_unspecified config.src_ip)
    && (is_no_duid config.duid || is_duid config.duid)

-- whether a client can begin with this configuration and this lease: it has where to send from,
-- what it sends fits its options, and the lease is within its limits
abbrev pub can_begin : Config → Option Lease → Bool
can_begin config lease =
    has_source config && is_within_limits config
    && option_map_or leases.is_within_limits lease true

-- the state in which it begins: it renews a lease that it held before, whose times count from the
-- start, unless it asks for temporary addresses, which this client does not renew
abbrev pub first_state_of : DhcpV6Mode → Bound Lease → ClientState
first_state_of NonTemporaryAddresses bound = Renew bound
first_state_of TemporaryAddresses bound = Solicit
first_state_of (PrefixDelegation length) bound = Renew bound

abbrev pub first_state : DhcpV6Mode → Option Lease → ℕ → ClientState
first_state mode None now = Solicit
first_state mode (Some lease) now =
    first_state_of mode (record { lease = lease; since = now })

-- the exchange in which it begins, with this transaction id
abbrev pub first_exchange : ℕ → Exchange
first_exchange xid =
    record { xid = xid; retransmit_count = 0; previous_wait = 0; counted_from = 0 }

-- what is drawn for it: an identifier if it has none, and then the transaction id
pub record FirstDraws : Type 0 where
  pub config : Config
  pub xid : ℕ

abbrev pub first_draws : Config → List ℕ → Drawn FirstDraws
first_draws config =
    drawn_then (client_duid config) (λ duid. drawn_then drawn_word (λ word.
    undrawn (record { config = record config { duid = duid }; xid = new_id word })))

-- the identifier of a client that needs no draw for it: that which it is given, or that of its MAC
-- address
abbrev pub undrawn_duid_of : DhcpV6Duid → Option (List ℕ) → Option DhcpV6Duid
undrawn_duid_of (Raw []) mac = option_map ethernet_duid mac
undrawn_duid_of duid mac = Some duid

abbrev pub undrawn_duid : Config → Option DhcpV6Duid
undrawn_duid config = undrawn_duid_of config.duid config.src_mac

-- what was drawn for a client
abbrev pub drawn_for : ClientParts → FirstDraws
drawn_for parts =
    record { config = parts.config; xid = parts.client.standing.exchange.xid }

-- A client that begins with this configuration, whose identifier is filled, and this lease.
pub record Begins (given : Config) (lease : Option Lease) (now : ℕ) (parts : ClientParts)
    : Type 0 where
  pub config : parts.config ≡ record given { duid = parts.config.duid }
  pub duid : is_duid parts.config.duid ≡ true
  pub begins : BeginsIn (first_state given.mode lease now)
      (first_exchange parts.client.standing.exchange.xid) given.timeout_sec now parts.client
  pub open begins use *

-- a client that was given a lease at a moment
pub record IsDone (lease : Lease) (now : ℕ) (old new : ClientParts) : Type 0 where
  pub config : new.config ≡ old.config
  pub enters : Enters (bound_state old.config.mode (record { lease = lease; since = now }))
      (restarted old.client.standing.exchange) now old.client new.client
  pub open enters use *

-- A client whose count and previous wait begin anew within its stay, from a moment from which its
-- elapsed time counts too; its attempt stays open.
pub record IsReset (now : ℕ) (old new : ClientParts) : Type 0 where
  pub config : new.config ≡ old.config
  pub state : new.client.state ≡ old.client.state
  pub standing : new.client.standing ≡ record old.client.standing {
    exchange = record (restarted old.client.standing.exchange) { counted_from = now };
  }
  pub timeout : new.client.timeout_sec ≡ old.client.timeout_sec
  pub moment : new.client.last_moment ≡ now

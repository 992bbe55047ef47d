-- A client, and how it begins, RFC 2131 sections 3.1, 3.2 and 4.4.
use Rattle.std.specs.Prelude.{◌≡◌, ◌==◌, ◌&&◌, ℕ, Bool, true, not, Option, Some, None}
use Rattle.std.specs.Option.{option_map_or}
use Rattle.dhcp_history.specs.Calls as calls
use Rattle.dhcp_history.specs.Client.{BeginsIn, Enters}
use Rattle.dhcp4_lease.specs.Config.{Config, is_within_limits}
use Rattle.dhcp4_lease.specs.Lease.{Lease, are_times_in_order}
use Rattle.dhcp4_client.specs.declared.client_state.ClientState.{ClientState}
use Rattle.dhcp4_client.specs.declared.client_state.ClientState.TheVariants.{InitReboot, Rebooting, Done}
use Rattle.dhcp4_client.specs.declared.client_state.Exchange.{Exchange}
use Rattle.dhcp4_client.specs.Rules.{restarted}

-- what contracts see of a client: its configuration, and the client of its rules
abbrev pub ClientParts : Type 0
ClientParts = calls.ClientParts Config ClientState Exchange

-- whether a client can begin with this configuration and this lease: there is an interface, what it
-- sends fits its options, and T1, T2 and the end of the lease are in order
abbrev pub can_begin : Config → Option Lease → Bool
can_begin config lease =
    not (config.iface_index == 0) && is_within_limits config
    && option_map_or are_times_in_order lease true

-- the state in which it begins: a lease that it held before is requested first
abbrev pub first_state : Option Lease → ClientState
first_state None = InitReboot
first_state (Some lease) = Rebooting lease

-- the exchange in which it begins, with this transaction id
abbrev pub first_exchange : ℕ → Exchange
first_exchange xid = record { xid = xid; retry_count = 0 }

-- a client that begins with this configuration and this lease
pub record Begins (given : Config) (lease : Option Lease) (parts : ClientParts) : Type 0 where
  pub config : parts.config ≡ given
  pub begins : BeginsIn (first_state lease)
      (first_exchange parts.client.standing.exchange.xid) given.timeout_sec 0 parts.client
  pub open begins use *

-- a client that was given a lease at a moment
pub record IsDone (lease : Lease) (now : ℕ) (old new : ClientParts) : Type 0 where
  pub config : new.config ≡ old.config
  pub enters : Enters (Done (record { lease = lease; since = now }))
      (restarted old.client.standing.exchange) now old.client new.client
  pub open enters use *

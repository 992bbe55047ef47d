-- A client, and how it begins, RFC 8415 section 18.2.6.
use Rattle.std.specs.Prelude.{◌≡◌, ◌==◌, ◌&&◌, ◌||◌, ℕ, Bool, true, false, not, nat_le, length, Option, is_some}
use Rattle.dhcp_history.specs.Calls as calls
use Rattle.dhcp_history.specs.Calls.{HasNextPoll}
use Rattle.dhcp_history.specs.Client.{BeginsIn}
use Rattle.dhcp_history.specs.Machine.{is_stopped}
use Rattle.dhcp6_msg.specs.Config.{Config}
use Rattle.dhcp6_msg.specs.Lease.{is_duid, is_no_duid, is_unspecified}
use Rattle.dhcp6_info.specs.declared.client_state.ClientState.{ClientState}
use Rattle.dhcp6_info.specs.declared.client_state.ClientState.TheVariants.{Inform, Done}
use Rattle.dhcp6_info.specs.declared.client_state.Exchange.{Exchange}
use Rattle.dhcp6_info.specs.Rules.{protocol, refresh_moment}

-- what contracts see of a client: its configuration, and the client of its rules
abbrev pub ClientParts : Type 0
ClientParts = calls.ClientParts Config ClientState Exchange

-- whether a client can begin with this configuration: there is an interface and an address to send
-- from, the identifier is absent or can be sent, and the codes leave room for that of the refresh
-- time
abbrev pub can_begin : Config → Bool
can_begin config =
    not (config.iface_index == 0) && not (is_unspecified config.src_ip)
    && (is_no_duid config.duid || is_duid config.duid)
    && nat_le (length config.request_opts) 32766

-- the exchange in which it begins: each stay draws a transaction id of its own
abbrev pub first_exchange : Exchange
first_exchange = record { xid = 0; previous_wait = 0 }

-- a client that begins with this configuration, whose identifier is filled
pub record Begins (given : Config) (parts : ClientParts) : Type 0 where
  pub config : parts.config ≡ record given { duid = parts.config.duid }
  pub duid : is_duid parts.config.duid ≡ true
  pub begins : BeginsIn Inform first_exchange given.timeout_sec 0 parts.client
  pub open begins use *

-- whether a state lasts for ever: its configuration is never to be refreshed
abbrev pub lasts_for_ever : ClientState → Bool
lasts_for_ever Inform = false
lasts_for_ever (Done bound) = not (is_some (refresh_moment bound))

-- The moment of the next poll. A client has none only if an error is kept, or its state lasts for
-- ever.
pub record IsNextPoll (result : Option ℕ) (parts : ClientParts) : Type 0 where
  pub next : HasNextPoll (protocol parts.config) result parts.client
  pub open next use *
  pub none : is_some result ≡ false →
      (is_stopped parts.client.standing.phase || lasts_for_ever parts.client.state) ≡ true

-- Where a configuration that a poll reports comes from, over every link.
use Rattle.std.specs.Prelude.{ℕ, ◌≡◌, ◌⊎◌, Bool, true, Option, Some}
use Rattle.dhcp_clock.specs.declared.link.Packet.{Packet}
use Rattle.dhcp_history.specs.Machine.{View, attempt_now, begin_stay}
use Rattle.dhcp_history.specs.Traced.{asks}
use Rattle.dhcp6_msg.specs.Config.{Config}
use Rattle.dhcp6_info.specs.declared.client_state.ClientState.{ClientState}
use Rattle.dhcp6_info.specs.declared.client_state.ClientState.TheVariants.{Inform}
use Rattle.dhcp6_info.specs.declared.client_state.Exchange.{Exchange}
use Rattle.dhcp6_info.specs.declared.info.DhcpV6Info.{DhcpV6Info}
use Rattle.dhcp6_info.specs.Answer.{info_in}
use Rattle.dhcp6_info.specs.Rules.{protocol}

-- This very poll asked its link for a packet and was given this one. It gives the configuration to
-- the attempt that was open at the poll, or that the poll made.
pub record IsGiven (config : Config) (now : ℕ) (refuse : Bool) (packet : Option Packet)
    (info : DhcpV6Info) (old : View ClientState Exchange) : Type 0 where
  pub heard : Packet
  pub exchange : Exchange
  pub asked : asks (protocol config) now refuse old ≡ true
  pub given : packet ≡ Some heard
  pub awaits : old.state ≡ Inform
  pub open_attempt : (exchange ≡ old.exchange)
      ⊎ (exchange ≡ (attempt_now (protocol config) now
      (begin_stay (protocol config) now old)).value.exchange)
  pub gives : info_in exchange.xid heard ≡ Some info

-- How a client begins that is told one event at a time.
use Rattle.std.specs.Prelude.{◌≡◌, ℕ, [], option_map}
use Rattle.dhcp_history.specs.Client.{view_of}
use Rattle.dhcp_history.specs.Machine.{View, first_view}
use Rattle.dhcp4_client.specs.declared.client_state.ClientState as state4
use Rattle.dhcp4_client.specs.declared.client_state.Exchange as exchange4
use Rattle.dhcp4_lease.specs.Config as config4
use Rattle.dhcp6_client.specs.declared.client_state.ClientState as state6
use Rattle.dhcp6_client.specs.declared.client_state.Exchange as exchange6
use Rattle.dhcp6_msg.specs.Config as config6
use Rattle.dhcp_replay.specs.Replayed4 as lives4
use Rattle.dhcp_replay.specs.Replayed6 as lives6
use Rattle.dhcp_script.specs.Lease4 as lease4
use Rattle.dhcp_script.specs.Lease6 as lease6
use Rattle.dhcp_script.specs.Script4 as script4
use Rattle.dhcp_script.specs.Script6 as script6
use Rattle.dhcp_script.specs.declared.script4.Script4.{Script4}
use Rattle.dhcp_script.specs.declared.script6.Script6.{Script6}
use Rattle.dhcp4_client.specs.Client as client4
use Rattle.dhcp6_client.specs.Client as client6
use Rattle.dhcp_live.specs.Live.{Held, LiveParts, held}

-- a client that has had no event yet: it has this configuration, stands as a life begins, and this
-- is its start
pub record Begins {Config State Exchange : Type 0} (own : Config) (first : View State Exchange)
    (start : ℕ) (here : LiveParts Config State Exchange) : Type 0 where
  pub config : here.parts.config ≡ own
  pub client : view_of here.parts.client here.words ≡ first
  pub number : here.number ≡ 0
  pub moment : here.moment ≡ start

-- a client of either family, by its parts
abbrev pub held4 : Held client4.ClientParts →
    LiveParts config4.Config state4.ClientState exchange4.Exchange
held4 here = held (λ client. client) here

abbrev pub held6 : Held client6.ClientParts →
    LiveParts config6.Config state6.ClientState exchange6.Exchange
held6 here = held (λ client. client) here

-- it begins as a script of an IPv4 client says
abbrev pub Begins4 : Script4 →
    LiveParts config4.Config state4.ClientState exchange4.Exchange → Type 0
Begins4 script here =
    let config = script4.config_of script in
    Begins config
    (first_view (lives4.life_of config (option_map lease4.lease_with script.lease) script.words []))
    script.start here

-- and of an IPv6 client
abbrev pub Begins6 : Script6 →
    LiveParts config6.Config state6.ClientState exchange6.Exchange → Type 0
Begins6 script here =
    let config = script6.config_of script in
    Begins (lives6.config_in config script.words)
    (first_view (lives6.life_of config (option_map lease6.lease_with script.lease) script.start
    script.words [])) script.start here

-- A client as a network begins it.
use Rattle.std.proofs.Common.{◌≡◌, ℕ, List, refl, true, None, ap, ◌∙◌, drop}
use Rattle.dhcp_clock.specs.Words.{next_of}
use Rattle.dhcp_history.specs.Client.{unpolled, view_of, view_with}
use Rattle.dhcp_history.specs.declared.client.Standing.{Standing}
use Rattle.dhcp_wire.specs.OptionCodes.{rising_codes}
use Rattle.dhcp4_lease.specs.Config as configs
use Rattle.dhcp4_lease.specs.Config.{Config, is_within_limits}
use Rattle.dhcp4_client.specs.Client.{Begins, ClientParts, can_begin, first_exchange}
use Rattle.dhcp4_client.specs.declared.client_state.ClientState.{ClientState}
use Rattle.dhcp4_client.specs.declared.client_state.ClientState.TheVariants as states
use Rattle.dhcp4_client.specs.declared.client_state.Exchange.{Exchange}
use Rattle.dhcp4_net.specs.Clients.{begun, config_of, xid_of}
use Rattle.dhcp4_net.specs.declared.script.NetClient.{NetClient}

pub may_begin : (client : NetClient) → can_begin (config_of client) None ≡ true
unfolding is_within_limits config_of configs.config_of rising_codes
may_begin client = refl

no_limit : (client : NetClient) → (config_of client).timeout_sec ≡ 0
unfolding config_of configs.config_of
no_limit client = refl

-- a client that has begun so has this view
pub begun_view : (client : NetClient) (parts : ClientParts) (left : List ℕ) → Begins (config_of client) None parts →
    parts.client.standing.exchange.xid ≡ next_of client.words → left ≡ drop 1 client.words → view_of parts.client left ≡ begun client
begun_view client parts left begins xid is =
    ap (λ (standing : Standing Exchange). view_with parts.client standing left) begins.standing
    ∙ ap (λ (state : ClientState). record { state = state; exchange = first_exchange parts.client.standing.exchange.xid; timeout_sec = parts.client.timeout_sec; entered = 0; phase = (unpolled (first_exchange 0)).phase; deadline = None; words = left }) begins.state
    ∙ ap (λ (limit : ℕ). record { state = states.InitReboot; exchange = first_exchange parts.client.standing.exchange.xid; timeout_sec = limit; entered = 0; phase = (unpolled (first_exchange 0)).phase; deadline = None; words = left }) (begins.timeout ∙ no_limit client)
    ∙ ap (λ (id : ℕ). record { state = states.InitReboot; exchange = first_exchange id; timeout_sec = 0; entered = 0; phase = (unpolled (first_exchange 0)).phase; deadline = None; words = left }) xid
    ∙ ap (λ (words : List ℕ). record { state = states.InitReboot; exchange = first_exchange (xid_of client); timeout_sec = 0; entered = 0; phase = (unpolled (first_exchange 0)).phase; deadline = None; words = words }) is

-- What a client begins with.
use Rattle.std.proofs.Common.{◌≡◌, ℕ, List, [], ◌∷◌, ◌++◌, sym, ap, ◌∙◌}
use Rattle.std.specs.Prelude.{Option, Some, None, IfSome}
use Rattle.dhcp_clock.specs.Words.{Drawn, Draws}
use Rattle.dhcp_history.specs.Client.{unpolled}
use Rattle.dhcp_history.specs.declared.client.Standing.{Standing}
use Rattle.dhcp6_opt.specs.declared.duid.DhcpV6Duid.{DhcpV6Duid}
use Rattle.dhcp6_opt.specs.declared.duid.DhcpV6Duid.TheVariants.{LinkLayerAddressPlusTime, EnterpriseNumber, LinkLayerAddress, UUID, Raw}
use Rattle.dhcp6_msg.specs.declared.mode.DhcpV6Mode.{DhcpV6Mode}
use Rattle.dhcp6_msg.specs.Config.{Config, client_duid, duid_or_made}
use Rattle.dhcp6_msg.specs.Lease.{Lease}
use Rattle.dhcp6_client.specs.declared.client_state.Exchange.{Exchange}
use Rattle.dhcp6_client.specs.Client.{first_exchange, first_state, undrawn_duid, undrawn_duid_of}

-- this configuration has an identifier that was drawn
abbrev HasDrawn : Option (List ℕ) → Option (List ℕ) → Config → Config → Type 0
HasDrawn before after given new = Draws before after (client_duid given) (λ duid. new ≡ record given { duid = duid })

-- a configuration in which an identifier was set
pub with_own : (given new : Config) (duid : DhcpV6Duid) → new ≡ record given { duid = duid } → new ≡ record given { duid = new.duid }
with_own given new duid e = e ∙ ap (λ (other : DhcpV6Duid). record given { duid = other }) (sym (ap (λ (config : Config). config.duid) e))

-- nothing but its identifier was set
pub sets_duid : (before after : Option (List ℕ)) (given new : Config) → HasDrawn before after given new → new ≡ record given { duid = new.duid }
sets_duid None after given new drawn = with_own given new drawn.1.1.0 drawn.1.1.1.1
sets_duid (Some words) after given new drawn = with_own given new (client_duid given words).value drawn.1

-- an identifier that needs no draw is given by all words
without_draw : (duid : DhcpV6Duid) (mac : Option (List ℕ)) (words : List ℕ) (new : DhcpV6Duid) → new ≡ (duid_or_made duid mac words).value →
    IfSome (undrawn_duid_of duid mac) (λ known. new ≡ known)
without_draw (Raw []) None words new e = tt
without_draw (Raw []) (Some mac) words new e = e
without_draw (Raw (byte ∷ bytes)) mac words new e = e
without_draw (LinkLayerAddressPlusTime duid) mac words new e = e
without_draw (EnterpriseNumber duid) mac words new e = e
without_draw (LinkLayerAddress duid) mac words new e = e
without_draw (UUID duid) mac words new e = e

-- so that over every source it is the one of the configuration
pub identified : (before after : Option (List ℕ)) (given new : Config) → HasDrawn before after given new → IfSome (undrawn_duid given) (λ known. new.duid ≡ known)
identified None after given new drawn =
    let taken = drawn.1.0 in
    let named : new.duid ≡ drawn.1.1.0 = ap (λ (config : Config). config.duid) drawn.1.1.1.1 in
    let given_by : drawn.1.1.0 ≡ (client_duid given (taken ++ [])).value = sym (ap (λ (drawn : Drawn DhcpV6Duid). drawn.value) (drawn.1.1.1.0 [])) in
    without_draw given.duid given.src_mac (taken ++ []) new.duid (named ∙ given_by)
identified (Some words) after given new drawn =
    without_draw given.duid given.src_mac words new.duid (ap (λ (config : Config). config.duid) drawn.1)

-- how it stands: it was not polled yet, with its transaction id
pub stands_unpolled : (standing : Standing Exchange) (exchange : Exchange) (xid : ℕ) → standing ≡ unpolled exchange → exchange ≡ first_exchange xid →
    standing ≡ unpolled (first_exchange standing.exchange.xid)
stands_unpolled standing exchange xid stands first =
    let whole : standing ≡ unpolled (first_exchange xid) = stands ∙ ap (λ (exchange : Exchange). unpolled exchange) first in
    whole ∙ ap (λ (xid : ℕ). unpolled (first_exchange xid)) (sym (ap (λ (standing : Standing Exchange). standing.exchange.xid) whole))

-- the state in which a client begins, once its identifier is set, is that of what it was given
pub begins_given : (given kept : Config) (duid : DhcpV6Duid) (lease held : Option Lease) (mode : DhcpV6Mode) (now : ℕ) → kept ≡ record given { duid = duid } → held ≡ lease → mode ≡ kept.mode →
    first_state mode held now ≡ first_state given.mode lease now
begins_given given kept duid lease held mode now set same is =
    ap (λ (mode : DhcpV6Mode). first_state mode held now) (is ∙ ap (λ (config : Config). config.mode) set) ∙ ap (λ (lease : Option Lease). first_state given.mode lease now) same

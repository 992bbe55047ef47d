-- The orders of enums: by variant, as declared, and then by fields.
use Rattle.std.specs.Prelude.{◌≡◌, ℕ, Bool, true, false, List, [], ◌∷◌}
use Rattle.std.specs.declared.cmp.Ordering.TheVariants.{Less}
use Rattle.dhcp6_opt.specs.contracts.duid.DhcpV6DuidOrd.TheImpl as duids
use Rattle.std.specs.declared.net.Ipv6Addr.{Ipv6Addr}
use Rattle.dhcp_wire.specs.Order.{IsRisingBy}
use Rattle.dhcp6_opt.specs.contracts.ntp_server.DhcpV6OptionNtpServerOrd.TheImpl as servers
use Rattle.dhcp6_opt.specs.contracts.option.order.DhcpV6OptionOrd.TheImpl as options
use Rattle.dhcp6_opt.specs.contracts.status.DhcpV6OptionStatusCodeOrd.TheImpl as statuses
use Rattle.dhcp6_opt.specs.declared.duid.enterprise.DhcpV6DuidEnterpriseNumber.{DhcpV6DuidEnterpriseNumber}
use Rattle.dhcp6_opt.specs.declared.duid.link_layer.DhcpV6DuidLinkLayerAddr.{DhcpV6DuidLinkLayerAddr}
use Rattle.dhcp6_opt.specs.declared.duid.link_layer.DhcpV6DuidLinkLayerAddrPlusTime.{DhcpV6DuidLinkLayerAddrPlusTime}
use Rattle.dhcp6_opt.specs.declared.duid.uuid.DhcpV6DuidUuid.{DhcpV6DuidUuid}
use Rattle.dhcp6_opt.specs.declared.duid.DhcpV6Duid.TheVariants.{LinkLayerAddressPlusTime, EnterpriseNumber, LinkLayerAddress, UUID, Raw}
use Rattle.dhcp6_opt.specs.declared.ntp_server.DhcpV6OptionNtpServer.TheVariants.{ServerAddr, MulticastAddr, ServerFqdn, Other}
use Rattle.dhcp6_opt.specs.declared.option.DhcpV6Option.{DhcpV6Option}
use Rattle.dhcp6_opt.specs.declared.option.DhcpV6Option.TheVariants.{Unknown}
use Rattle.dhcp6_opt.specs.declared.option.DhcpV6OptionUnknown.{DhcpV6OptionUnknown}
use Rattle.dhcp6_opt.specs.declared.status.DhcpV6OptionStatusCode.TheVariants as codes
use Rattle.dhcp6_opt.specs.Value.{option_number}

-- status codes rise as they are numbered, and one without a name is greater than all with a name
abbrev pub StatusesRise : ℕ → Type 0
StatusesRise number = IsRisingBy statuses.ghosts.cmp
    (codes.Success ∷ codes.UnspecFail ∷ codes.NoAddrsAvail ∷ codes.NoBinding ∷ codes.NotOnLink
    ∷ codes.UseMulticast ∷ codes.NoPrefixAvail ∷ codes.Other number ∷ [])

-- identifiers rise by the number of their type, and those kept as their bytes are the greatest
abbrev pub DuidsRise : DhcpV6DuidLinkLayerAddrPlusTime → DhcpV6DuidEnterpriseNumber
    → DhcpV6DuidLinkLayerAddr → DhcpV6DuidUuid → List ℕ → Type 0
DuidsRise timed vendor address uuid bytes = IsRisingBy duids.ghosts.cmp
    (LinkLayerAddressPlusTime timed ∷ EnterpriseNumber vendor ∷ LinkLayerAddress address
    ∷ UUID uuid ∷ Raw bytes ∷ [])

-- time servers rise by the number of their type, and those of a type without a name are the
-- greatest
abbrev pub TimeServersRise : Ipv6Addr → Ipv6Addr → List ℕ → ℕ × List ℕ → Type 0
TimeServersRise server group name other = IsRisingBy servers.ghosts.cmp
    (ServerAddr server ∷ MulticastAddr group ∷ ServerFqdn name ∷ Other other ∷ [])

-- whether an option is one that this library does not read
abbrev pub is_unknown : DhcpV6Option → Bool
is_unknown (Unknown _) = true
is_unknown option = false

-- of two options of one number, one that is read and one that is not, the first is less
abbrev pub IsBeforeUnknown : DhcpV6Option → DhcpV6OptionUnknown → Type 0
IsBeforeUnknown option unknown =
    is_unknown option ≡ false
    → option_number option ≡ option_number (Unknown unknown)
    → options.ghosts.cmp option (Unknown unknown) ≡ Less

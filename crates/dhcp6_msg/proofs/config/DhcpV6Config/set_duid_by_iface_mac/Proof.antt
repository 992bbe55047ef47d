-- `set_duid_by_iface_mac` answers what its step answers, and its configuration ends as the step says.
use Rattle.dhcp_wire.proofs.SetterWalks.{allocator, bytes, setter2}
use Rattle.dhcp6_msg.specs.contracts.config.DhcpV6Config.set_duid_by_iface_mac as setter
use Rattle.dhcp6_msg.proofs.Configs.{configs}
use Rattle.dhcp6_msg.proofs.config.DhcpV6Config.set_duid_by_iface_mac.Code as code
use Rattle.dhcp6_msg.proofs.config.DhcpV6Config.set_duid_by_iface_mac.Statement.{statement}
use Rattle.dhcp6_msg.proofs.config.DhcpV6Config.put_duid_of_mac.Met.{met}

pub set_duid_by_iface_mac_spec : {M : Type 1} → statement M
set_duid_by_iface_mac_spec 𝓤 𝓛 𝓜 𝓡 wired =
    setter2 𝓛 configs 𝓜 𝓡 (code.calls-dhcp_wire::setter_answer 𝓡.env wired) (allocator 𝓛) (bytes 𝓛 1 tt)
    (setter.clauses 𝓛 𝓜.mem 𝓡.returns) (code.unfolded 𝓤 𝓛.H 𝓜 𝓡 wired)
    (met 𝓤 𝓛 𝓜 𝓡 (code.calls-dhcp6_msg::config::DhcpV6Config::put_duid_of_mac 𝓡.env wired))

-- `set_iface_mac_raw` answers what its step answers, and its configuration ends as the step says.
use Rattle.dhcp_wire.proofs.SetterWalks.{bytes, setter1}
use Rattle.dhcp4_lease.specs.contracts.config.DhcpV4Config.set_iface_mac_raw as setter
use Rattle.dhcp4_lease.proofs.Configs.{configs}
use Rattle.dhcp4_lease.proofs.config.DhcpV4Config.set_iface_mac_raw.Code as code
use Rattle.dhcp4_lease.proofs.config.DhcpV4Config.set_iface_mac_raw.Statement.{statement}
use Rattle.dhcp4_lease.proofs.config.DhcpV4Config.put_mac.Met.{met}

pub set_iface_mac_raw_spec : {M : Type 1} → statement M
set_iface_mac_raw_spec 𝓤 𝓛 𝓜 𝓡 wired =
    setter1 𝓛 configs 𝓜 𝓡 (code.calls-dhcp_wire::setter_answer 𝓡.env wired) (bytes 𝓛 1 tt)
    (setter.clauses 𝓛 𝓜.mem 𝓡.returns) (code.unfolded 𝓤 𝓛.H 𝓜 𝓡 wired)
    (met 𝓤 𝓛 𝓜 𝓡 (code.calls-dhcp4_lease::config::DhcpV4Config::put_mac 𝓡.env wired))

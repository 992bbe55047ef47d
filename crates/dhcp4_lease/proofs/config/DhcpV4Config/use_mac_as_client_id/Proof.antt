-- `use_mac_as_client_id` answers what its step answers, and its configuration ends as the step says.
use Rattle.dhcp_wire.proofs.SetterWalks.{allocator, setter1}
use Rattle.dhcp4_lease.specs.contracts.config.DhcpV4Config.use_mac_as_client_id as setter
use Rattle.dhcp4_lease.proofs.Configs.{configs}
use Rattle.dhcp4_lease.proofs.config.DhcpV4Config.use_mac_as_client_id.Code as code
use Rattle.dhcp4_lease.proofs.config.DhcpV4Config.use_mac_as_client_id.Statement.{statement}
use Rattle.dhcp4_lease.proofs.config.DhcpV4Config.put_mac_as_client_id.Met.{met}

pub use_mac_as_client_id_spec : {M : Type 1} → statement M
use_mac_as_client_id_spec 𝓤 𝓛 𝓜 𝓡 wired =
    setter1 𝓛 configs 𝓜 𝓡 (code.calls-dhcp_wire::setter_answer 𝓡.env wired) (allocator 𝓛)
    (setter.clauses 𝓛 𝓜.mem 𝓡.returns) (code.unfolded 𝓤 𝓛.H 𝓜 𝓡 wired)
    (met 𝓤 𝓛 𝓜 𝓡 (code.calls-dhcp4_lease::config::DhcpV4Config::put_mac_as_client_id 𝓡.env wired))

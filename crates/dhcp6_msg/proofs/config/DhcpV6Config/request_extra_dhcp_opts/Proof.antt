-- `request_extra_dhcp_opts` answers what its step answers, and its configuration ends as the step says.
use Rattle.dhcp_wire.proofs.SetterWalks.{allocator, setter2}
use Rattle.dhcp6_msg.specs.contracts.config.DhcpV6Config.request_extra_dhcp_opts as setter
use Rattle.dhcp6_msg.proofs.Configs.{configs, option_codes}
use Rattle.dhcp6_msg.proofs.config.DhcpV6Config.request_extra_dhcp_opts.Code as code
use Rattle.dhcp6_msg.proofs.config.DhcpV6Config.request_extra_dhcp_opts.Statement.{statement}
use Rattle.dhcp6_msg.proofs.config.DhcpV6Config.put_extra_opts.Met.{met}

pub request_extra_dhcp_opts_spec : {M : Type 1} → statement M
request_extra_dhcp_opts_spec 𝓤 𝓛 𝓜 𝓡 wired =
    setter2 𝓛 configs 𝓜 𝓡 (code.calls-dhcp_wire::setter_answer 𝓡.env wired) (allocator 𝓛) (option_codes 𝓛 1 tt)
    (setter.clauses 𝓛 𝓜.mem 𝓡.returns) (code.unfolded 𝓤 𝓛.H 𝓜 𝓡 wired)
    (met 𝓤 𝓛 𝓜 𝓡 (code.calls-dhcp6_msg::config::DhcpV6Config::put_extra_opts 𝓡.env wired))

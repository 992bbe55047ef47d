-- The servers so far, and those of the rest, are those of the value.
use Rattle.std.proofs.Common.{◌≡◌, length}
use Rattle.dhcp6_opt.specs.NtpServer.{ntp_servers_in}
use Rattle.dhcp6_opt.proofs.NtpLemmas.{servers_after}
use Rattle.dhcp6_opt.proofs.ntp_server.DhcpV6OptionNtpServer.parse_list.Given as goal

abbrev pub invariant-loop-rest : goal.invariant-loop-rest
invariant-loop-rest l = servers_after l.servers l.rest ≡ ntp_servers_in l.fn.value

abbrev pub decreases-loop-rest : goal.decreases-loop-rest
decreases-loop-rest l = length l.rest

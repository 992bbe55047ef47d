use Rattle.dhcp6_opt.proofs.NtpLaws.{servers_back}
use Rattle.dhcp6_opt.proofs.laws.time_server_list_reads_back.Goals as goal

pub returns : goal.returns
returns c fit own short = servers_back c.args.servers.now c.all_have.ensures fit own short

-- After the letter of its kind comes the address.
use Rattle.std.proofs.Common.{ap}
use Rattle.dhcp_script.proofs.PrintLemmas.{pushed2}
use Rattle.dhcp_script.specs.TimeServer.{time_server_text}
use Rattle.dhcp_script.proofs.field.DhcpV6OptionNtpServerFieldText.push_to.Goals as goal

pub returns-in_ok-push_str-in-ServerAddr : goal.returns-in_ok-push_str-in-ServerAddr
returns-in_ok-push_str-in-ServerAddr c =
    pushed2 c.push_to.result _ _ _ _ _ _ c.push_to.ensures c.in_ok-push_str-in-ServerAddr.ensures.bytes (ap time_server_text c.in-ServerAddr.is)

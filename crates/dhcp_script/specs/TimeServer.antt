-- A time server (RFC 5908), as what is reported has it.
use Rattle.std.specs.Prelude.{ℕ, List, ◌++◌, codes}
use Rattle.std.specs.Fmt.{decimal}
use Rattle.dhcp_stream.specs.HexText.{address6_text, hex_text}
use Rattle.dhcp6_opt.specs.declared.ntp_server.DhcpV6OptionNtpServer.{DhcpV6OptionNtpServer}
use Rattle.dhcp6_opt.specs.declared.ntp_server.DhcpV6OptionNtpServer.TheVariants.{ServerAddr, MulticastAddr, ServerFqdn, Other}

-- a time server: its address, that of its group, its name, or any other suboption by its type
abbrev pub time_server_text : DhcpV6OptionNtpServer → List ℕ
time_server_text (ServerAddr address) = codes "a/" ++ address6_text address
time_server_text (MulticastAddr address) = codes "m/" ++ address6_text address
time_server_text (ServerFqdn name) = codes "n/" ++ hex_text name
time_server_text (Other suboption) =
    codes "o" ++ decimal suboption.0 ++ codes "/" ++ hex_text suboption.1

-- The versions of the texts: what differs.
use Rattle.std.specs.Prelude.{ℕ, List, codes, Option, Some, None}
use Rattle.dhcp_stream.specs.Line.{line}
use Rattle.dhcp4_lease.specs.declared.message_forms.DhcpV4MessageForms.{DhcpV4MessageForms}
use Rattle.dhcp_script.specs.declared.version.Version.{Version}
use Rattle.dhcp_script.specs.declared.version.Version.TheVariants.{One, Later}

-- what the first line of a script of an IPv4 client begins with, up to the number of the version
abbrev pub family4 : List ℕ
family4 = codes "dhcp4 "

-- that number, to the end of the line: 3 if the script says the forms of its client's messages,
-- which one of version 1 does not
abbrev pub number4 : Version → Option DhcpV4MessageForms → List ℕ
number4 One forms = line (codes "1")
number4 Later None = line (codes "2")
number4 Later (Some forms) = line (codes "3")

-- the first line of a script of an IPv6 client
abbrev pub first_line6 : Version → List ℕ
first_line6 One = line (codes "dhcp6 1")
first_line6 Later = line (codes "dhcp6 2")

-- what follows the last of the times of a lease: in version 1 nothing else is on the line
abbrev pub end_of_times : Version → ℕ
end_of_times One = 10
end_of_times Later = 32

-- Fields with a decimal number or an IPv4 address.
use Rattle.std.specs.Prelude.{ℕ, List}
use Rattle.std.specs.Net.Addr.{ipv4_octets}
use Rattle.std.specs.Net.Text.{ipv4_text}
use Rattle.std.specs.declared.net.Ipv4Addr.{Ipv4Addr}

-- an address: four decimal numbers with dots between them
abbrev pub address_text : Ipv4Addr → List ℕ
address_text address = ipv4_text (ipv4_octets address)

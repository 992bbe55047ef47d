-- Values that are written as options: how long they are, and the low bytes of their lengths.
use Rattle.std.proofs.Common.{◌≡◌, ℕ, ◌+◌, ◌%◌, ◌^◌, List, ◌++◌, length, append_assoc, refl, arith, ◌∙◌}
use Rattle.std.specs.Int.{w16, w32, to_be_bytes}
use Rattle.std.specs.Net.Addr.{ipv6_octets}
use Rattle.dhcp_wire.specs.RawOption.{written_raw_option}
use Rattle.dhcp6_opt.specs.declared.ia.address.DhcpV6OptionIaAddr.{DhcpV6OptionIaAddr}
use Rattle.dhcp6_opt.specs.Ia.{written_ia_address}
use Rattle.dhcp6_opt.specs.Status.{written_status_option}
use Rattle.dhcp6_opt.specs.Written.{as_option}

-- four bytes come before the value
pub length-as_option : (code : ℕ) (value : List ℕ) → length (as_option code value) ≡ length value + 4
unfolding as_option written_raw_option
length-as_option code value = omega arith

pub ruleset option_len = (length-as_option)

-- two bytes hold the low 16 bits of a number
pub to_be_bytes-low : (n : ℕ) → to_be_bytes w16 (n % 2 ^ 16) ≡ to_be_bytes w16 n
to_be_bytes-low n = grind arith

pub as_option-parts : (code : ℕ) (value : List ℕ) → as_option code value ≡ to_be_bytes w16 code ++ (to_be_bytes w16 (length value) ++ value)
unfolding as_option written_raw_option
as_option-parts code value = refl

-- an address by its parts
pub written_ia_address-parts : (address : DhcpV6OptionIaAddr) → written_ia_address address ≡ ipv6_octets address.address ++ (to_be_bytes w32 address.preferred_time_sec ++ (to_be_bytes w32 address.valid_time_sec ++ written_status_option address.status))
unfolding written_ia_address
written_ia_address-parts address =
    let preferred = to_be_bytes w32 address.preferred_time_sec in
    let valid = to_be_bytes w32 address.valid_time_sec in
    append_assoc (ipv6_octets address.address ++ preferred) valid (written_status_option address.status)
    ∙ append_assoc (ipv6_octets address.address) preferred (valid ++ written_status_option address.status)

-- The identifiers of a script of an IPv6 client, RFC 8415 section 11: they are written as bytes.
use Rattle.std.specs.Prelude.{ℕ, Bool, ◌==◌, ◌&&◌, ◌||◌, nat_le, List, length, unwrap_or}
use Rattle.dhcp6_opt.specs.declared.duid.DhcpV6Duid.{DhcpV6Duid}
use Rattle.dhcp6_opt.specs.declared.duid.DhcpV6Duid.TheVariants.{Raw}
use Rattle.dhcp6_opt.specs.Duid.{duid_in}

-- how many bytes an identifier has at most: its type, and 128 bytes (section 11.1)
abbrev pub most_duid_bytes : ℕ
most_duid_bytes = 130

-- whether bytes are an identifier: a type of two bytes, and no more than 128 bytes
abbrev pub is_script_duid : List ℕ → Bool
is_script_duid bytes = nat_le 2 (length bytes) && nat_le (length bytes) most_duid_bytes

-- whether there are no bytes, or those of an identifier
abbrev pub is_duid_or_none : List ℕ → Bool
is_duid_or_none bytes = (length bytes == 0) || is_script_duid bytes

-- the identifier of some bytes; fewer than two stand for themselves
abbrev pub duid_of : List ℕ → DhcpV6Duid
duid_of bytes = unwrap_or (duid_in bytes) (Raw bytes)

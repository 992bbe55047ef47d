-- Identity associations, RFC 8415 sections 21.4, 21.5 and 21.21, and what stands inside them: an
-- address (section 21.6) or a prefix (section 21.22), and a status (section 21.13).
use Rattle.std.specs.Prelude.{ℕ, ◌==◌, Bool, false, ◌&&◌, List, [], ◌∷◌, ◌++◌, replicate, Option, Some, None, option_map, if◌then◌else◌}
use Rattle.std.specs.Int.{w8, w32, to_be_bytes}
use Rattle.std.specs.Net.Addr.{ipv6_octets}
use Rattle.std.specs.declared.net.Ipv6Addr.{Ipv6Addr}
use Rattle.dhcp_wire.specs.Field.{◌>>=◌, number_at, ipv6_address_of, ipv6_address_at}
use Rattle.dhcp_wire.specs.RawOption.{RawOptionParts, filling_options}
use Rattle.dhcp_wire.specs.declared.raw_option.OptionFormat.TheVariants.{DhcpV6}
use Rattle.dhcp6_opt.specs.AddressKind.{AddressKind}
use Rattle.dhcp6_opt.specs.declared.ia.inside.InsideIa.{InsideIa}
use Rattle.dhcp6_opt.specs.declared.status.DhcpV6OptionStatus.{DhcpV6OptionStatus}
use Rattle.dhcp6_opt.specs.declared.ia.DhcpV6OptionIaNa.{DhcpV6OptionIaNa}
use Rattle.dhcp6_opt.specs.declared.ia.DhcpV6OptionIaTa.{DhcpV6OptionIaTa}
use Rattle.dhcp6_opt.specs.declared.ia.pd.DhcpV6OptionIaPd.{DhcpV6OptionIaPd}
use Rattle.dhcp6_opt.specs.declared.ia.address.DhcpV6OptionIaAddr.{DhcpV6OptionIaAddr}
use Rattle.dhcp6_opt.specs.declared.ia.prefix.DhcpV6OptionIaPrefix.{DhcpV6OptionIaPrefix}
use Rattle.dhcp6_opt.specs.Status.{is_no_failure, status_after, status_in, written_status_option}
use Rattle.dhcp6_opt.specs.Written.{if_some}

-- ---- what stands inside

-- nothing inside
abbrev pub nothing_inside : {X : Type 0} → InsideIa X
nothing_inside = record { address = None; status = None }

-- What stands inside with one option more, which counts in place of an earlier one of its code. An
-- option of another code, and one without a reading, may not stand there.
abbrev pub with_inner : {X : Type 0}
    → AddressKind X → InsideIa X → RawOptionParts → Option (InsideIa X)
with_inner kind inside raw =
    if raw.code == kind.code
    then option_map (λ address. record inside { address = Some address }) (kind.value_in raw.value)
    else if raw.code == 13
    then option_map (λ status. record inside { status = Some status }) (status_in raw.value)
    else None

-- what stands inside with some options more, from the first on
abbrev pub with_inners : {X : Type 0}
    → AddressKind X → InsideIa X → List RawOptionParts → Option (InsideIa X)
with_inners kind inside [] = Some inside
with_inners kind inside (raw ∷ raws) = do
  next ← with_inner kind inside raw
  with_inners kind next raws

-- what stands inside some bytes: options that fill them
unfoldable pub inside_in : {X : Type 0} → AddressKind X → List ℕ → Option (InsideIa X)
inside_in kind bytes = filling_options DhcpV6 bytes >>= with_inners kind nothing_inside

-- ---- addresses and prefixes

-- the address of a value, section 21.6
unfoldable pub ia_address_in : List ℕ → Option DhcpV6OptionIaAddr
ia_address_in value = do
  address ← ipv6_address_at value
  preferred ← number_at w32 address.1
  valid ← number_at w32 preferred.1
  status ← status_after valid.1
  Some record {
    address = address.0;
    preferred_time_sec = preferred.0;
    valid_time_sec = valid.0;
    status = status;
  }

-- the prefix of a value, section 21.22
unfoldable pub ia_prefix_in : List ℕ → Option DhcpV6OptionIaPrefix
ia_prefix_in value = do
  preferred ← number_at w32 value
  valid ← number_at w32 preferred.1
  prefix_len ← number_at w8 valid.1
  prefix ← ipv6_address_at prefix_len.1
  status ← status_after prefix.1
  Some record {
    preferred_time_sec = preferred.0;
    valid_time_sec = valid.0;
    prefix_len = prefix_len.0;
    prefix = prefix.0;
    status = status;
  }

-- the addresses of IA_NA and IA_TA
abbrev pub address_kind : AddressKind DhcpV6OptionIaAddr
address_kind = record { code = 5; value_in = ia_address_in }

-- the prefixes of IA_PD
abbrev pub prefix_kind : AddressKind DhcpV6OptionIaPrefix
prefix_kind = record { code = 26; value_in = ia_prefix_in }

-- ---- associations

-- the IA_NA of a value, section 21.4
unfoldable pub ia_na_in : List ℕ → Option DhcpV6OptionIaNa
ia_na_in value = do
  iaid ← number_at w32 value
  t1 ← number_at w32 iaid.1
  t2 ← number_at w32 t1.1
  inside ← inside_in address_kind t2.1
  Some record {
    iaid = iaid.0;
    t1_sec = t1.0;
    t2_sec = t2.0;
    address = inside.address;
    status = inside.status;
  }

-- the IA_TA of a value, section 21.5
unfoldable pub ia_ta_in : List ℕ → Option DhcpV6OptionIaTa
ia_ta_in value = do
  iaid ← number_at w32 value
  inside ← inside_in address_kind iaid.1
  Some (record { iaid = iaid.0; address = inside.address; status = inside.status })

-- the IA_PD of a value, section 21.21
unfoldable pub ia_pd_in : List ℕ → Option DhcpV6OptionIaPd
ia_pd_in value = do
  iaid ← number_at w32 value
  t1 ← number_at w32 iaid.1
  t2 ← number_at w32 t1.1
  inside ← inside_in prefix_kind t2.1
  Some record {
    iaid = iaid.0;
    t1_sec = t1.0;
    t2_sec = t2.0;
    prefix = inside.address;
    status = inside.status;
  }

-- ---- as they are written

-- the value of an address
unfoldable pub written_ia_address : DhcpV6OptionIaAddr → List ℕ
written_ia_address address =
    ipv6_octets address.address ++ to_be_bytes w32 address.preferred_time_sec
    ++ to_be_bytes w32 address.valid_time_sec ++ written_status_option address.status

-- the value of a prefix
unfoldable pub written_ia_prefix : DhcpV6OptionIaPrefix → List ℕ
written_ia_prefix prefix =
    to_be_bytes w32 prefix.preferred_time_sec ++ to_be_bytes w32 prefix.valid_time_sec
    ++ (prefix.prefix_len ∷ []) ++ ipv6_octets prefix.prefix ++ written_status_option prefix.status

-- the address option, if there is an address
abbrev pub written_address_option : Option DhcpV6OptionIaAddr → List ℕ
written_address_option address = if_some 5 written_ia_address address

-- the prefix option, if there is a prefix
abbrev pub written_prefix_option : Option DhcpV6OptionIaPrefix → List ℕ
written_prefix_option prefix = if_some 26 written_ia_prefix prefix

-- the value of an IA_NA: its numbers, then its address, then its status
unfoldable pub written_ia_na : DhcpV6OptionIaNa → List ℕ
written_ia_na ia =
    to_be_bytes w32 ia.iaid ++ to_be_bytes w32 ia.t1_sec ++ to_be_bytes w32 ia.t2_sec
    ++ written_address_option ia.address ++ written_status_option ia.status

-- the value of an IA_TA
unfoldable pub written_ia_ta : DhcpV6OptionIaTa → List ℕ
written_ia_ta ia =
    to_be_bytes w32 ia.iaid ++ written_address_option ia.address ++ written_status_option ia.status

-- the value of an IA_PD
unfoldable pub written_ia_pd : DhcpV6OptionIaPd → List ℕ
written_ia_pd ia =
    to_be_bytes w32 ia.iaid ++ to_be_bytes w32 ia.t1_sec ++ to_be_bytes w32 ia.t2_sec
    ++ written_prefix_option ia.prefix ++ written_status_option ia.status

-- ---- success

-- Whether an association with this address and this status succeeded: the address is there, and
-- neither it nor the association says that something failed.
abbrev pub is_granted : Option DhcpV6OptionIaAddr → Option DhcpV6OptionStatus → Bool
is_granted None status = false
is_granted (Some address) status = is_no_failure address.status && is_no_failure status

-- the same of a prefix
abbrev pub is_delegated : Option DhcpV6OptionIaPrefix → Option DhcpV6OptionStatus → Bool
is_delegated None status = false
is_delegated (Some prefix) status = is_no_failure prefix.status && is_no_failure status

-- ---- values that are made

-- an address without a status
abbrev pub plain_address : Ipv6Addr → ℕ → ℕ → DhcpV6OptionIaAddr
plain_address address preferred valid = record {
  address = address;
  preferred_time_sec = preferred;
  valid_time_sec = valid;
  status = None;
}

-- a prefix without a status
abbrev pub plain_prefix : Ipv6Addr → ℕ → ℕ → ℕ → DhcpV6OptionIaPrefix
plain_prefix prefix prefix_len preferred valid = record {
  preferred_time_sec = preferred;
  valid_time_sec = valid;
  prefix_len = prefix_len;
  prefix = prefix;
  status = None;
}

-- the unspecified address, ::
abbrev pub unspecified : Ipv6Addr
unspecified = ipv6_address_of (replicate 16 0)

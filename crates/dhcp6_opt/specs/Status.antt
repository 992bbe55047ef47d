-- Statuses: the status code option, RFC 8415 section 21.13.
use Rattle.std.specs.Prelude.{ℕ, ◌==◌, Bool, true, false, List, [], ◌∷◌, ◌++◌, find, unwrap_or, Option, Some, None, option_map, codes, decimal, if◌then◌else◌}
use Rattle.std.specs.Int.{w16, to_be_bytes}
use Rattle.dhcp_wire.specs.Field.{◌>>=◌, number_at, text_of}
use Rattle.dhcp_wire.specs.RawOption.{raw_option_at}
use Rattle.dhcp_wire.specs.declared.raw_option.OptionFormat.TheVariants.{DhcpV6}
use Rattle.dhcp6_opt.specs.declared.status.DhcpV6OptionStatus.{DhcpV6OptionStatus}
use Rattle.dhcp6_opt.specs.declared.status.DhcpV6OptionStatusCode.{DhcpV6OptionStatusCode}
use Rattle.dhcp6_opt.specs.declared.status.DhcpV6OptionStatusCode.TheVariants.{Success, UnspecFail, NoAddrsAvail, NoBinding, NotOnLink, UseMulticast, NoPrefixAvail, Other}
use Rattle.dhcp6_opt.specs.Written.{if_some}

-- the number of a status code
unfoldable pub status_number : DhcpV6OptionStatusCode → ℕ
status_number Success = 0
status_number UnspecFail = 1
status_number NoAddrsAvail = 2
status_number NoBinding = 3
status_number NotOnLink = 4
status_number UseMulticast = 5
status_number NoPrefixAvail = 6
status_number (Other number) = number

-- the status codes that have a name
abbrev pub named_statuses : List DhcpV6OptionStatusCode
named_statuses =
    Success ∷ UnspecFail ∷ NoAddrsAvail ∷ NoBinding ∷ NotOnLink ∷ UseMulticast ∷ NoPrefixAvail ∷ []

-- the status code of a number: the name that has it, else the number alone
unfoldable pub status_of : ℕ → DhcpV6OptionStatusCode
status_of number =
    unwrap_or (find (λ code. status_number code == number) named_statuses) (Other number)

-- the name of a status code, as it is printed
unfoldable pub status_name : DhcpV6OptionStatusCode → List ℕ
status_name Success = codes "success"
status_name UnspecFail = codes "unspec_fail"
status_name NoAddrsAvail = codes "no_addrs_avail"
status_name NoBinding = codes "no_binding"
status_name NotOnLink = codes "not_on_link"
status_name UseMulticast = codes "use_multicast"
status_name NoPrefixAvail = codes "no_prefix_avail"
status_name (Other number) = codes "other(" ++ decimal number ++ codes ")"

-- the status of a value: a status code, and a text up to the end
unfoldable pub status_in : List ℕ → Option DhcpV6OptionStatus
status_in value = do
  code ← number_at w16 value
  message ← text_of code.1
  Some (record { status = status_of code.0; message = message })

-- the value of a status as it is written
unfoldable pub written_status : DhcpV6OptionStatus → List ℕ
written_status status = to_be_bytes w16 (status_number status.status) ++ status.message

-- ---- the status option inside another option

-- The status after the fixed part of an address or a prefix: none where nothing follows, else that
-- of the option at the front; bytes after it are ignored.
unfoldable pub status_after : List ℕ → Option (Option DhcpV6OptionStatus)
status_after [] = Some None
status_after (byte ∷ bytes) = do
  option ← raw_option_at DhcpV6 (byte ∷ bytes)
  if option.0.code == 13 then option_map Some (status_in option.0.value) else None

-- the status option, if there is a status
abbrev pub written_status_option : Option DhcpV6OptionStatus → List ℕ
written_status_option status = if_some 13 written_status status

-- ---- success

-- whether a status code is Success
abbrev pub is_success_code : DhcpV6OptionStatusCode → Bool
is_success_code Success = true
is_success_code _ = false

-- whether a status is absent or says success
abbrev pub is_no_failure : Option DhcpV6OptionStatus → Bool
is_no_failure None = true
is_no_failure (Some status) = is_success_code status.status

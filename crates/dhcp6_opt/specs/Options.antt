-- Options by their codes, RFC 8415 section 21: how they are read from a list, and how they are
-- written. Options of one code stay in order of insertion.
use Rattle.std.specs.Prelude.{ℕ, List, [], ◌∷◌, ◌++◌, Option, Some, None, unwrap_or}
use Rattle.std.specs.Ordering.{nat_cmp}
use Rattle.std.specs.List.{flat_map, filter_map}
use Rattle.std.specs.FinMap as map
use Rattle.dhcp_wire.specs.Field.{Read}
use Rattle.dhcp_wire.specs.RawOption.{RawOptionParts, raw_option_at, raw_options}
use Rattle.dhcp_wire.specs.declared.raw_option.OptionFormat.TheVariants.{DhcpV6}
use Rattle.dhcp6_opt.specs.declared.option.DhcpV6Option.{DhcpV6Option}
use Rattle.dhcp6_opt.specs.OptionCode.{code_of}
use Rattle.dhcp6_opt.specs.Value.{value_of, written_option, option_number}

-- for each number the options that have it, in order of insertion; a number that no option has is
-- not there
abbrev pub OptionLists : Type 0
OptionLists = map.FinMap nat_cmp (List DhcpV6Option)

-- the reading of a raw option, if it has one
abbrev pub reading_of : RawOptionParts → Option DhcpV6Option
reading_of raw = value_of (code_of raw.code) raw.value

-- the reading of the option that was found in some bytes, if it has one, and the bytes after it;
-- where none was found, all bytes
abbrev pub read_after : List ℕ → Read RawOptionParts → Option DhcpV6Option × List ℕ
read_after bytes None = (None, bytes)
read_after bytes (Some found) = (reading_of found.0, found.1)

-- The option at the front, if it reads, and the bytes after it. A truncated option doesn't read,
-- and nothing is skipped then.
unfoldable pub option_at : List ℕ → Option DhcpV6Option × List ℕ
option_at bytes = read_after bytes (raw_option_at DhcpV6 bytes)

-- the options of this number
abbrev pub options_under : OptionLists → ℕ → List DhcpV6Option
options_under options number = unwrap_or (map.get options number) []

-- the options with one more, after those of its number
abbrev pub with_option : OptionLists → DhcpV6Option → OptionLists
with_option options option =
    let number = option_number option in
    map.insert options number (options_under options number ++ option ∷ [])

-- the options with some more, from the first on
abbrev pub with_options : OptionLists → List DhcpV6Option → OptionLists
with_options options [] = options
with_options options (option ∷ more) = with_options (with_option options option) more

-- some options, from the first on, by their numbers
abbrev pub lists_of : List DhcpV6Option → OptionLists
lists_of options = with_options map.empty options

-- the options of a list of bytes: those that read, from the first on
abbrev pub options_in : List ℕ → List DhcpV6Option
options_in bytes = filter_map reading_of (raw_options DhcpV6 bytes)

-- the same, by their numbers
unfoldable pub read_options : List ℕ → OptionLists
read_options bytes = lists_of (options_in bytes)

-- the first of a list
abbrev pub first_in : List DhcpV6Option → Option DhcpV6Option
first_in [] = None
first_in (option ∷ options) = Some option

-- the first option of this number
abbrev pub first_of : OptionLists → ℕ → Option DhcpV6Option
first_of options number = first_in (options_under options number)

-- the options by rising number, those of one number in order of insertion
unfoldable pub written_options : OptionLists → List ℕ
written_options options = flat_map (flat_map written_option) (map.values options)

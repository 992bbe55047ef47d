-- Options as a map from their numbers, RFC 2132: how they are read from a list, how they are
-- written, and how they are kept.
use Rattle.std.specs.Prelude.{◌≡◌, ℕ, ◌<◌, ◌≤◌, ◌+◌, Bool, ◌==◌, ◌&&◌, List, [], ◌∷◌, ◌++◌, length, reverse, position, Option, Some, None, IsTrue, is_some, option_map, slice_get, slice_index_or, if◌then◌else◌, fold, Result, Ok, Err}
use Rattle.std.specs.Ordering.{nat_cmp}
use Rattle.std.specs.List.{All, count_by, flat_map, filter_map}
use Rattle.std.specs.Cmp.{IsPartialEquivalence, on_per, and_per, nat_eq_equiv, partial_equiv_from_equiv}
use Rattle.std.specs.Cmp.Lexicographic.{pointwise, lists_per}
use Rattle.std.specs.Option.{option_or}
use Rattle.std.specs.FinMap as map
use Rattle.std.specs.declared.net.Ipv4Addr.{Ipv4Addr}
use Rattle.dhcp_wire.specs.Error.{ErrorParts, no_memory}
use Rattle.dhcp_wire.specs.Field.{Read, ◌>>=◌}
use Rattle.dhcp_wire.specs.RawOption.{RawOptionParts, raw_option_at, raw_options}
use Rattle.dhcp_wire.specs.declared.raw_option.RawOption.{RawOption}
use Rattle.dhcp_wire.specs.declared.raw_option.OptionFormat.TheVariants.{DhcpV4}
use Rattle.dhcp4_msg.specs.declared.message_type.DhcpV4MessageType.{DhcpV4MessageType}
use Rattle.dhcp4_msg.specs.declared.option.DhcpV4Option.{DhcpV4Option}
use Rattle.dhcp4_msg.specs.declared.route.DhcpV4ClasslessRoute.{DhcpV4ClasslessRoute}
use Rattle.dhcp4_msg.specs.OptionCode.{code_of}
use Rattle.dhcp4_msg.specs.Value.{address_said, value_of, written_option, type_said, routes_said, option_number, fits}

-- options by their numbers
abbrev pub OptionMap : Type 0
OptionMap = map.FinMap nat_cmp DhcpV4Option

-- whether two maps have the same numbers, and options under them that are equal
abbrev pub same_options : (DhcpV4Option → DhcpV4Option → Bool) → OptionMap → OptionMap → Bool
same_options same x y =
    pointwise (λ p q. (p.0 == q.0) && same p.1 q.1) (map.entries x) (map.entries y)

-- it is symmetric and transitive, as that of options is
pub same_options_per : {same : DhcpV4Option → DhcpV4Option → Bool}
    → IsPartialEquivalence same → IsPartialEquivalence (same_options same)
same_options_per per =
    on_per map.entries (lists_per (and_per
    (on_per (λ p. p.0) (partial_equiv_from_equiv nat_eq_equiv))
    (on_per (λ p. p.1) per)))

-- a raw option as contracts see it
abbrev pub parts_of : RawOption → RawOptionParts
parts_of raw = record { code = raw.code; value = raw.value.now }

-- the reading of a raw option, if it has one
abbrev pub reading_of : RawOptionParts → Option DhcpV4Option
reading_of raw = value_of (code_of raw.code) raw.value

-- the reading of the option that was found in some bytes, if it has one, and the bytes after it;
-- where none was found, all bytes
abbrev pub read_after : List ℕ → Read RawOptionParts → Option DhcpV4Option × List ℕ
read_after bytes None = (None, bytes)
read_after bytes (Some found) = (reading_of found.0, found.1)

-- The option at the front, if it reads, and the bytes after it. A truncated option doesn't read,
-- and nothing is skipped then.
unfoldable pub option_at : List ℕ → Option DhcpV4Option × List ℕ
option_at bytes = read_after bytes (raw_option_at DhcpV4 bytes)

-- the reading of a raw option under its number; one without a reading is skipped
abbrev pub entry_of : RawOptionParts → Option (ℕ × DhcpV4Option)
entry_of raw = option_map (λ option. (raw.code, option)) (reading_of raw)

-- a map with one more entry, if there is one
abbrev pub with_entry : OptionMap → Option (ℕ × DhcpV4Option) → OptionMap
with_entry options None = options
with_entry options (Some entry) = map.insert options entry.0 entry.1

-- a map with these options added to it, each in place of one with its number
abbrev pub with_options : OptionMap → List DhcpV4Option → OptionMap
with_options kept list =
    fold (λ kept option. map.insert kept (option_number option) option) kept list

-- Options are added one after the other, or out of memory.
abbrev pub Adds : {X : Type 0} →
    Result X ErrorParts → OptionMap → OptionMap → List DhcpV4Option → Type 0
Adds (Ok _) old new list = new ≡ with_options old list
Adds (Err e) old new list = e ≡ no_memory

-- the options of some raw options: of each number the last that reads
abbrev pub options_of : List RawOptionParts → OptionMap
options_of raws = map.from_entries (reverse (filter_map entry_of raws))

-- the options of a list of bytes
unfoldable pub read_options : List ℕ → OptionMap
read_options bytes = options_of (raw_options DhcpV4 bytes)

-- the reading of a raw option, if it has this number and a reading
abbrev pub reading_under : ℕ → RawOptionParts → Option DhcpV4Option
reading_under number raw = if number == raw.code then reading_of raw else None

-- the last of some raw options of this number that has a reading
abbrev pub last_of : ℕ → List RawOptionParts → Option DhcpV4Option
last_of number [] = None
last_of number (raw ∷ later) = option_or (last_of number later) (reading_under number raw)

-- End, where it isn't there
abbrev pub added_end : OptionMap → List ℕ
added_end options = if map.contains_key options 255 then [] else 255 ∷ []

-- the options by rising number, and End last
unfoldable pub written_options : OptionMap → List ℕ
written_options options = flat_map written_option (map.values options) ++ added_end options

-- what the option of this number says
abbrev pub said_by : {X : Type 0} → (DhcpV4Option → Option X) → OptionMap → ℕ → Option X
said_by says options number = map.get options number >>= says

-- the type of a message with these options, of option 53
unfoldable pub message_type : OptionMap → Option DhcpV4MessageType
message_type options = said_by type_said options 53

-- the server of a message with these options, of option 54
unfoldable pub server_identifier : OptionMap → Option Ipv4Addr
server_identifier options = said_by address_said options 54

-- the routes of option 121, RFC 3442; where it is absent those of option 249, in which some servers
-- send them
unfoldable pub classless_routes : OptionMap → Option (List DhcpV4ClasslessRoute)
classless_routes options = option_or (map.get options 121) (map.get options 249) >>= routes_said

-- options by rising numbers, from this number on
abbrev pub RiseFrom : ℕ → List DhcpV4Option → Type 0
RiseFrom least [] = Unit {0}
RiseFrom least (option ∷ options) =
    (least ≤ option_number option) × RiseFrom (option_number option + 1) options

-- ---- how they are kept: in a list, with the place of the option of each number

-- each option under its number
abbrev pub by_number : List DhcpV4Option → List (ℕ × DhcpV4Option)
by_number [] = []
by_number (option ∷ options) = (option_number option, option) ∷ by_number options

-- the map of the options that are kept
abbrev pub map_of : List DhcpV4Option → OptionMap
map_of kept = map.from_entries (by_number kept)

-- whether an option has this number
abbrev pub has_number : ℕ → DhcpV4Option → Bool
has_number number option = number == option_number option

-- the option at a place, where there is one
abbrev pub kept_in : List DhcpV4Option → Option ℕ → Option DhcpV4Option
kept_in kept None = None
kept_in kept (Some place) = slice_get kept place

-- an option that can be kept: its number is a byte, and it can be written
pub record CanBeKept (option : DhcpV4Option) : Type 0 where
  pub is_byte : option_number option < 256
  pub fit : IsTrue (fits option)

-- Each option can be kept. The table has for each number the place of its option, if it is there,
-- and as many places as options.
pub record IsIndexed (kept : List DhcpV4Option) (places : List (Option ℕ)) : Type 0 where
  pub sized : length places ≡ 256
  pub fit : All CanBeKept kept
  pub placed : (number : ℕ)
      → number < 256
      → slice_index_or places number None ≡ position (has_number number) kept
  pub counted : count_by is_some places ≡ length kept

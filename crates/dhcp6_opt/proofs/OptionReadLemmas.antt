-- Options that are read from a list, one after the other.
use Rattle.std.proofs.Common.{◌≡◌, ℕ, List, [], ◌∷◌, ◌++◌, append_assoc, append-nil, filter_map, Some, None, refl, sym, ap, ◌∙◌}
use Rattle.std.specs.Prelude.{unwrap_or}
use Rattle.std.specs.List.{cons_option, filter}
use Rattle.dhcp_wire.specs.RawOption.{RawOptionParts, raw_option_at, raw_options, with_later}
use Rattle.dhcp_wire.specs.declared.raw_option.OptionFormat.TheVariants.{DhcpV6}
use Rattle.dhcp_wire.proofs.RawOptionLemmas.{raw_options-raw_option_at}
use Rattle.dhcp6_opt.specs.declared.option.DhcpV6Option.{DhcpV6Option}
use Rattle.dhcp6_opt.specs.OptionIndex.{has_number}
use Rattle.dhcp6_opt.specs.Options.{options_in, options_under, read_options, reading_of}
use Rattle.dhcp6_opt.proofs.OptionListLemmas.{get-lists_of, joined}

-- the options at the front, and those of what follows
pub options_in-raw_option_at : (bytes : List ℕ) → options_in bytes ≡ filter_map reading_of (with_later DhcpV6 (raw_options DhcpV6) (raw_option_at DhcpV6 bytes))
options_in-raw_option_at bytes = ap (filter_map reading_of) (raw_options-raw_option_at DhcpV6 bytes)

-- where an option is found
pub options_in-found : (bytes later : List ℕ) (raw : RawOptionParts) → raw_option_at DhcpV6 bytes ≡ Some (raw, later) → options_in bytes ≡ cons_option (reading_of raw) (options_in later)
options_in-found bytes later raw is = options_in-raw_option_at bytes ∙ ap (λ found. filter_map reading_of (with_later DhcpV6 (raw_options DhcpV6) found)) is

-- where none is
pub options_in-none : (bytes : List ℕ) → raw_option_at DhcpV6 bytes ≡ None → options_in bytes ≡ []
options_in-none bytes is = options_in-raw_option_at bytes ∙ ap (λ found. filter_map reading_of (with_later DhcpV6 (raw_options DhcpV6) found)) is

-- the options so far, and those of some bytes, with the one at their front
pub options_more : (options : List DhcpV6Option) (bytes later : List ℕ) (raw : RawOptionParts) (option : DhcpV6Option) (all : List DhcpV6Option) → options ++ options_in bytes ≡ all → raw_option_at DhcpV6 bytes ≡ Some (raw, later) → reading_of raw ≡ Some option → (options ++ option ∷ []) ++ options_in later ≡ all
options_more options bytes later raw option all so_far is reads =
    append_assoc options (option ∷ []) (options_in later)
    ∙ ap (λ more. options ++ more) (sym (options_in-found bytes later raw is ∙ ap (λ read. cons_option read (options_in later)) reads))
    ∙ so_far

-- with one that does not read
pub options_skipped : (options : List DhcpV6Option) (bytes later : List ℕ) (raw : RawOptionParts) (all : List DhcpV6Option) → options ++ options_in bytes ≡ all → raw_option_at DhcpV6 bytes ≡ Some (raw, later) → reading_of raw ≡ None → options ++ options_in later ≡ all
options_skipped options bytes later raw all so_far is reads =
    ap (λ more. options ++ more) (sym (options_in-found bytes later raw is ∙ ap (λ read. cons_option read (options_in later)) reads))
    ∙ so_far

-- at the end
pub options_end : (options : List DhcpV6Option) (bytes : List ℕ) (all : List DhcpV6Option) → options ++ options_in bytes ≡ all → raw_option_at DhcpV6 bytes ≡ None → options ≡ all
options_end options bytes all so_far is =
    sym (ap (λ more. options ++ more) (options_in-none bytes is) ∙ append-nil options) ∙ so_far

-- ---- under each number

unwrap_joined : (options : List DhcpV6Option) → unwrap_or (joined None options) [] ≡ options
unwrap_joined [] = refl
unwrap_joined (option ∷ options) = refl

pub options_under-read_options : (bytes : List ℕ) (number : ℕ) → options_under (read_options bytes) number ≡ filter (has_number number) (filter_map reading_of (raw_options DhcpV6 bytes))
unfolding read_options
options_under-read_options bytes number =
    let options : List DhcpV6Option = options_in bytes in
    ap (λ found. unwrap_or found []) (get-lists_of options number) ∙ unwrap_joined (filter (has_number number) options)

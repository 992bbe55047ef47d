-- Options entered in a map one after the other.
use Rattle.std.proofs.Common.{◌≡◌, ℕ, Bool, true, false, ◌==◌, cond, List, [], ◌∷◌, IsTrue, Option, Some, None, option_map, filter_map, refl, sym, ap, subst, ◌∙◌}
use Rattle.std.specs.List.{cons_option}
use Rattle.std.specs.Option.{option_or}
use Rattle.std.specs.Cmp.{nat_cmp_total, unsigned_tied}
use Rattle.std.specs.Ordering.{nat_cmp, is_lt, is_eq}
use Rattle.std.specs.declared.cmp.Ordering.TheVariants.{Less, Equal, Greater}
use mathlib.Core.List.{reverse_aux}
use Rattle.std.specs.FinMap as map
use Rattle.std.specs.FinMap.{is_sorted, find, nat_cmp-IsAntisymmetric}
use Rattle.std.specs.FinMap.Entries.{below_all}
use Rattle.std.proofs.lemmas.Bool.{and_parts, false≢true}
use Rattle.std.specs.declared.cmp.Ordering.{Ordering}
use Rattle.dhcp4_msg.specs.declared.option.DhcpV4Option.{DhcpV4Option}
use Rattle.dhcp_wire.specs.RawOption.{RawOptionParts, raw_option_at, raw_options, counted_after, with_later}
use Rattle.dhcp_wire.specs.declared.raw_option.OptionFormat.TheVariants.{DhcpV4}
use Rattle.dhcp_wire.proofs.RawOptionLemmas.{raw_options-raw_option_at}
use Rattle.dhcp4_msg.specs.Options.{OptionMap, reading_of, entry_of, with_entry, read_options, reading_under, last_of}

-- the options of some raw options, entered in turn
abbrev pub entered : OptionMap → List RawOptionParts → OptionMap
entered options [] = options
entered options (raw ∷ raws) = entered (with_entry options (entry_of raw)) raws

entered-reversed : (raws : List RawOptionParts) (entries : List (ℕ × DhcpV4Option)) → map.from_entries (reverse_aux (filter_map entry_of raws) entries) ≡ entered (map.from_entries entries) raws
entered-reversed [] entries = refl
entered-reversed (raw ∷ raws) entries =
    elim (entry_of raw) as (λ read. map.from_entries (reverse_aux (cons_option read (filter_map entry_of raws)) entries) ≡ entered (with_entry (map.from_entries entries) read) raws) [
      | None ↦ entered-reversed raws entries
      | Some entry ↦ entered-reversed raws (entry ∷ entries)
    ]

-- a list of bytes is read by entering its options in turn
pub read_options-entered : (bytes : List ℕ) → entered map.empty (raw_options DhcpV4 bytes) ≡ read_options bytes
unfolding read_options
read_options-entered bytes = sym (entered-reversed (raw_options DhcpV4 bytes) [])

-- the step of a reader that enters the option at the front,
pub entered_more : (options : OptionMap) (bytes later : List ℕ) (raw : RawOptionParts) (all : OptionMap) → entered options (raw_options DhcpV4 bytes) ≡ all → raw_option_at DhcpV4 bytes ≡ Some (raw, later) → entered (with_entry options (entry_of raw)) (raw_options DhcpV4 (counted_after DhcpV4 raw.code later)) ≡ all
entered_more options bytes later raw all so_far is =
    sym (ap (entered options) (raw_options-raw_option_at DhcpV4 bytes ∙ ap (with_later DhcpV4 (raw_options DhcpV4)) is)) ∙ so_far

-- and its end.
pub entered_end : (options : OptionMap) (bytes : List ℕ) (all : OptionMap) → entered options (raw_options DhcpV4 bytes) ≡ all → raw_option_at DhcpV4 bytes ≡ None → options ≡ all
entered_end options bytes all so_far is =
    sym (ap (entered options) (raw_options-raw_option_at DhcpV4 bytes ∙ ap (with_later DhcpV4 (raw_options DhcpV4)) is)) ∙ so_far

-- what a map has under a number once one entry is entered
get-with_entry : (options : OptionMap) (raw : RawOptionParts) (q : ℕ) → map.get (with_entry options (entry_of raw)) q ≡ option_or (reading_under q raw) (map.get options q)
get-with_entry options raw q =
    elim (reading_of raw) as (λ read. map.get (with_entry options (option_map (λ option. (raw.code, option)) read)) q ≡ option_or (cond (q == raw.code) read None) (map.get options q)) [
      | None ↦ ap (λ found. option_or found (map.get options q)) (sym (either (q == raw.code)))
      | Some option ↦
          map.get-insert nat_cmp_total options raw.code option q
          ∙ ap (λ b. cond b (Some option) (map.get options q)) (unsigned_tied q raw.code) ∙ chosen (q == raw.code) option (map.get options q)
    ]
  where
    either : (b : Bool) → (let found : Option DhcpV4Option = cond b None None in found) ≡ None
    either true = refl
    either false = refl

    chosen : (b : Bool) (option : DhcpV4Option) (other : Option DhcpV4Option) → cond b (Some option) other ≡ option_or (cond b (Some option) None) other
    chosen true option other = refl
    chosen false option other = refl

-- and once all are entered
get-entered : (raws : List RawOptionParts) (options : OptionMap) (q : ℕ) → map.get (entered options raws) q ≡ option_or (last_of q raws) (map.get options q)
get-entered [] options q = refl
get-entered (raw ∷ raws) options q =
    get-entered raws (with_entry options (entry_of raw)) q ∙ ap (option_or (last_of q raws)) (get-with_entry options raw q)
    ∙ in_turn (last_of q raws) (reading_under q raw) (map.get options q)
  where
    in_turn : (a b c : Option DhcpV4Option) → option_or a (option_or b c) ≡ option_or (option_or a b) c
    in_turn None b c = refl
    in_turn (Some x) b c = refl

-- what was read has under a number the last raw option of that number that reads
pub get-read_options : (bytes : List ℕ) (q : ℕ) → map.get (read_options bytes) q ≡ last_of q (raw_options DhcpV4 bytes)
get-read_options bytes q =
    ap (λ options. map.get options q) (sym (read_options-entered bytes)) ∙ get-entered (raw_options DhcpV4 bytes) map.empty q
    ∙ ap (option_or (last_of q (raw_options DhcpV4 bytes))) (map.get-empty nat_cmp q) ∙ or_none (last_of q (raw_options DhcpV4 bytes))
  where
    or_none : (found : Option DhcpV4Option) → option_or found None ≡ found
    or_none None = refl
    or_none (Some option) = refl

unfoldable pub entries_entered : OptionMap → List (ℕ × DhcpV4Option) → OptionMap
entries_entered options [] = options
entries_entered options (e ∷ es) = entries_entered (map.insert options e.0 e.1) es

-- a number that is below all is not found
pub find-below_all : (q : ℕ) (es : List (ℕ × DhcpV4Option)) → IsTrue (below_all nat_cmp q es) → find nat_cmp q es ≡ None
find-below_all q [] below = refl
find-below_all q (e ∷ es) below =
    let parts = and_parts _ _ below in
    elim (nat_cmp q e.0) as (λ r. is_lt r ≡ true → cond (is_eq r) (Some e.1) (find nat_cmp q es) ≡ None) [
      | Less ↦ λ _. find-below_all q es parts.1
      | Equal ↦ λ no. absurd (false≢true no)
      | Greater ↦ λ no. absurd (false≢true no)
    ] parts.0

tie : (r : Ordering) → is_eq r ≡ true → r ≡ Equal
tie Less is = absurd (false≢true is)
tie Equal is = refl
tie Greater is = absurd (false≢true is)

unfoldable pub first_of_two : Option DhcpV4Option → Option DhcpV4Option → Option DhcpV4Option
first_of_two None other = other
first_of_two (Some x) other = Some x

-- what is found after rising entries were entered
pub get-entries_entered : (es : List (ℕ × DhcpV4Option)) (options : OptionMap) (q : ℕ) → IsTrue (is_sorted nat_cmp es) → map.get (entries_entered options es) q ≡ first_of_two (find nat_cmp q es) (map.get options q)
unfolding entries_entered first_of_two
get-entries_entered [] options q rises = refl
get-entries_entered (e ∷ es) options q rises =
    let parts = and_parts _ _ rises in
    get-entries_entered es (map.insert options e.0 e.1) q parts.1
    ∙ ap (first_of_two (find nat_cmp q es)) (map.get-insert nat_cmp_total options e.0 e.1 q)
    ∙ elim (is_eq (nat_cmp q e.0)) as (λ b. is_eq (nat_cmp q e.0) ≡ b → first_of_two (find nat_cmp q es) (cond b (Some e.1) (map.get options q)) ≡ first_of_two (cond b (Some e.1) (find nat_cmp q es)) (map.get options q)) [
      | true ↦ λ tied. ap (λ found. first_of_two found (Some e.1)) (find-below_all q es (subst (λ key. IsTrue (below_all nat_cmp key es)) (sym (nat_cmp-IsAntisymmetric q e.0 (tie _ tied))) parts.0))
      | false ↦ λ _. refl
    ] refl

pub alone : (found : Option DhcpV4Option) → first_of_two found None ≡ found
unfolding first_of_two
alone None = refl
alone (Some option) = refl

-- Options that are added to others: they read back, and take no more bytes than they have.
use Rattle.std.proofs.Common.{◌≡◌, ℕ, ◌+◌, ◌≤◌, Bool, true, false, cond, List, [], ◌∷◌, ◌++◌, if◌then◌else◌, length, Some, refl, sym, ◌∙◌, arith, length-append, lit≤}
use Rattle.std.specs.List.{AllByRecursion, flat_map}
use Rattle.std.specs.Cmp.{nat_cmp_total, unsigned_tied}
use Rattle.std.specs.Ordering.{nat_cmp, eq_by_cmp}
use Rattle.std.specs.Map.{values_of}
use Rattle.std.specs.FinMap as map
use Rattle.std.specs.FinMap.{get, insert, empty, entries, put, entries-insert, get-insert, get-empty}
use Rattle.std.specs.declared.cmp.Ordering.TheVariants.{Less, Equal, Greater}
use Rattle.std.specs.Int.{w16, w32, to_be_bytes}
use Rattle.std.proofs.lemmas.Bool.{eqb-true}
use Rattle.std.proofs.lemmas.Option.{none-some, same_Some}
use Rattle.dhcp_wire.proofs.FieldLaws.{length-bytes_high_first}
use Rattle.dhcp4_msg.specs.declared.option.DhcpV4Option.{DhcpV4Option}
use Rattle.dhcp4_msg.specs.declared.message.DhcpV4Message.{DhcpV4Message}
use Rattle.dhcp4_msg.specs.Laws.{OptionsReadBack, ReadsBackUnder}
use Rattle.dhcp4_msg.specs.Message.{written_numbers}
use Rattle.dhcp4_msg.specs.Options.{OptionMap, added_end, with_options, written_options}
use Rattle.dhcp4_msg.specs.Value.{option_number, written_option}

-- an option that reads back under its own number
abbrev pub Stands : DhcpV4Option → Type 0
Stands option = ReadsBackUnder (option_number option) option

-- one more option
one_more : (kept : OptionMap) (option : DhcpV4Option) → OptionsReadBack kept → Stands option → OptionsReadBack (insert kept (option_number option) option)
one_more kept option back stands q found is =
    elim (eq_by_cmp nat_cmp q (option_number option)) as (λ b. eq_by_cmp nat_cmp q (option_number option) ≡ b → cond b (Some option) (get kept q) ≡ Some found → ReadsBackUnder q found) [
      | true ↦ λ tied is.
          let same : q ≡ option_number option = eqb-true _ _ (sym (unsigned_tied q (option_number option)) ∙ tied) in
          rw (same, ← same_Some _ _ is) stands
      | false ↦ λ _ is. back q found is
    ] refl (sym (get-insert nat_cmp_total kept (option_number option) option q) ∙ is)

-- options that read back, added to others
pub all_added : (list : List DhcpV4Option) (kept : OptionMap) → OptionsReadBack kept → AllByRecursion Stands list → OptionsReadBack (with_options kept list)
all_added [] kept back all = back
all_added (option ∷ list) kept back all = all_added list (insert kept (option_number option) option) (one_more kept option back all.0) all.1

-- where there are none
pub none_kept : OptionsReadBack empty
none_kept number option is = absurd (none-some _ (sym (get-empty nat_cmp number) ∙ is))

-- how many bytes options take in a message, by entries of a map and as a list
abbrev pub size_of : List (ℕ × DhcpV4Option) → ℕ
size_of es = length (flat_map written_option (values_of es))

abbrev pub total : List DhcpV4Option → ℕ
total [] = 0
total (option ∷ options) = length (written_option option) + total options

size_of-first : (number : ℕ) (option : DhcpV4Option) (es : List (ℕ × DhcpV4Option)) → size_of ((number, option) ∷ es) ≡ length (written_option option) + size_of es
size_of-first number option es = length-append (written_option option) (flat_map written_option (values_of es))

-- one more entry adds its own bytes at most
size_of-put : (number : ℕ) (option : DhcpV4Option) (es : List (ℕ × DhcpV4Option)) → size_of (put nat_cmp number option es) ≤ size_of es + length (written_option option)
size_of-put number option [] = omega (arith, size_of-first number option [])
size_of-put number option (e ∷ es) =
    elim (nat_cmp number e.0) as (λ order. size_of (map.Entries.by_order order ((number, option) ∷ e ∷ es) ((e.0, option) ∷ es) (e ∷ put nat_cmp number option es)) ≤ size_of (e ∷ es) + length (written_option option)) [
      | Less ↦ omega (arith, size_of-first number option (e ∷ es))
      | Equal ↦ omega (arith, size_of-first e.0 option es, size_of-first e.0 e.1 es)
      | Greater ↦ omega (arith, size_of-first e.0 e.1 (put nat_cmp number option es), size_of-first e.0 e.1 es, size_of-put number option es)
    ]

-- so do options that are added to others
pub size_of-with_options : (options : List DhcpV4Option) (kept : OptionMap) → size_of (entries (with_options kept options)) ≤ size_of (entries kept) + total options
size_of-with_options [] kept = omega arith
size_of-with_options (option ∷ options) kept =
    let added : size_of (entries (insert kept (option_number option) option)) ≤ size_of (entries kept) + length (written_option option) =
    rw (entries-insert nat_cmp_total kept (option_number option) option) (size_of-put (option_number option) option (entries kept)) in
    omega (arith, added, size_of-with_options options (insert kept (option_number option) option))

-- End adds a byte at most
length-end : (found : Bool) → length {A = ℕ} (if found then [] else 255 ∷ []) ≤ 1
length-end true = lit≤ tt
length-end false = lit≤ tt

length-added_end : (options : OptionMap) → length (added_end options) ≤ 1
length-added_end options = length-end (map.contains_key options 255)

pub length-written_options : (options : OptionMap) → length (written_options options) ≤ size_of (entries options) + 1
unfolding written_options
length-written_options options =
    omega (arith, length-append (flat_map written_option (map.values options)) (added_end options), length-added_end options)

-- the fields before the options
pub length-numbers : (message : DhcpV4Message) → length (written_numbers message) ≡ 12
length-numbers message =
    let id = to_be_bytes w32 message.xid in
    let secs = to_be_bytes w16 message.secs in
    let flags = to_be_bytes w16 message.flags in
    omega (
      arith,
      length-append id (secs ++ flags),
      length-append secs flags,
      length-bytes_high_first 4 message.xid,
      length-bytes_high_first 2 message.secs,
      length-bytes_high_first 2 message.flags,
    )

-- a map without entries takes none
size_of-none : (es : List (ℕ × DhcpV4Option)) → length es ≡ 0 → size_of es ≡ 0
size_of-none [] none = refl
size_of-none (e ∷ es) none = absurd (omega (arith, none))

pub size_of-empty : size_of (entries (map.empty {X = DhcpV4Option} {R = nat_cmp})) ≡ 0
size_of-empty = size_of-none (entries map.empty) (sym (map.len-entries map.empty) ∙ map.len-empty nat_cmp DhcpV4Option)

-- Lists of options read back as they are written.
use Rattle.std.proofs.Common.{◌≡◌, ◌≢◌, ◌==◌, ℕ, ◌<◌, Bool, true, false, cond, List, [], ◌∷◌, ◌++◌, append-nil, append_assoc, filter_map, map, Some, None, is_some, IsTrue, refl, sym, ap, subst, ◌∙◌, arith, tests}
use Rattle.std.specs.Prelude.{position}
use Rattle.std.specs.Cmp.{nat_cmp_total, unsigned_tied}
use Rattle.std.specs.FinMap as map
use Rattle.std.specs.FinMap.{nat_cmp-IsAntisymmetric}
use Rattle.std.specs.FinMap.Entries.{below_all}
use Rattle.std.specs.List.{AllByRecursion, cons_option, filter, flat_map}
use Rattle.std.specs.Ordering.{is_lt, nat_cmp}
use Rattle.std.proofs.lemmas.Bool.{and_parts, eq-eqb, eqb-true, false≢true, ne_eqb}
use Rattle.std.proofs.lemmas.List.Concat.{flat_map-cons}
use Rattle.std.proofs.lemmas.List.Elements.{filter-append}
use Rattle.dhcp_wire.specs.RawOption.{raw_options, raw_options_within}
use Rattle.dhcp_wire.specs.declared.raw_option.OptionFormat.TheVariants.{DhcpV6}
use Rattle.dhcp_wire.proofs.Entries.{is_passed}
use Rattle.dhcp6_opt.specs.declared.option.DhcpV6Option.{DhcpV6Option}
use Rattle.dhcp6_opt.specs.declared.option.DhcpV6Option.TheVariants.{RapidCommit}
use Rattle.dhcp6_opt.specs.declared.options.index.IndexEntry.{IndexEntry}
use Rattle.dhcp6_opt.specs.Laws.{AllStand, AllStandUnder, AreInRange, HasWidths, IsInRange, StandsUnder, options_read_back, read_back}
use Rattle.dhcp6_opt.specs.OptionIndex.{entry_in, first_place, has_number, IsIndexed}
use Rattle.dhcp6_opt.specs.Options.{lists_of, OptionLists, options_in, read_options, reading_of, with_option, with_options, written_options}
use Rattle.dhcp6_opt.specs.Value.{fits, option_number, written_option, written_value}
use Rattle.dhcp6_opt.proofs.LawLemmas.{option_number-read_back, raw_option_back, value_back}
use Rattle.dhcp6_opt.proofs.OptionListLemmas.{entries-lists_of, get-lists_of, has_some, is_some-position, joined, with_options-append}
use Rattle.dhcp6_opt.proofs.OptionReadLemmas.{options_in-found}

-- ---- options one after the other

-- the options so far, and those of some bytes
abbrev entered : OptionLists → List ℕ → OptionLists
entered options bytes = with_options options (options_in bytes)

-- options that are written are entered as they read back, and then what follows
entered_all : (before : OptionLists) (number : ℕ) (options : List DhcpV6Option) (rest : List ℕ) → AllByRecursion (StandsUnder number) options → AllByRecursion IsInRange options → entered before (flat_map written_option options ++ rest) ≡ entered (with_options before (map read_back options)) rest
entered_all before number [] rest stand range = refl
entered_all before number (option ∷ options) rest stand range =
    let later : List ℕ = flat_map written_option options ++ rest in
    let whole : List ℕ = written_option option ++ later in
    let raw = raw_option_back option later stand.0.fit stand.0.widths in
    ap (λ bytes. entered before (bytes ++ rest)) (flat_map-cons written_option option options)
    ∙ ap (entered before) (append_assoc (written_option option) (flat_map written_option options) rest)
    ∙ ap (with_options before) (options_in-found whole later (record { code = option_number option; value = written_value option }) raw)
    ∙ ap (λ read. with_options before (cons_option read (options_in later))) (value_back option stand.0.fit stand.0.widths range.0)
    ∙ entered_all (with_option before (read_back option)) number options rest stand.1 range.1

-- ---- lists by rising number

-- a number and the options that are kept under it
abbrev Entry : Type 0
Entry = ℕ × List DhcpV6Option

-- the options of entries as they read back
abbrev read_entries : List Entry → List DhcpV6Option
read_entries es = flat_map (λ entry. map read_back entry.1) es

-- each entry with its options as they read back
abbrev back_entries : List Entry → List Entry
back_entries es = map (λ entry. (entry.0, map read_back entry.1)) es

entered_entries : (before : OptionLists) (es : List Entry) (rest : List ℕ) → AllByRecursion (λ entry. AllStandUnder entry.0 entry.1) es → AllByRecursion (AllByRecursion IsInRange) (map (λ entry. entry.1) es) → entered before (flat_map (flat_map written_option) (map (λ entry. entry.1) es) ++ rest) ≡ entered (with_options before (read_entries es)) rest
entered_entries before [] rest stand range = refl
entered_entries before (e ∷ es) rest stand range =
    let lists : List (List DhcpV6Option) = map (λ entry. entry.1) es in
    let later : List ℕ = flat_map (flat_map written_option) lists in
    ap (λ bytes. entered before (bytes ++ rest)) (flat_map-cons (flat_map written_option) e.1 lists)
    ∙ ap (entered before) (append_assoc (flat_map written_option e.1) later rest)
    ∙ entered_all before e.0 e.1 (later ++ rest) stand.0.each range.0
    ∙ entered_entries (with_options before (map read_back e.1)) es rest stand.1 range.1
    ∙ ap (λ options. entered options rest) (sym (ap (with_options before) (flat_map-cons (λ entry. map read_back entry.1) e es) ∙ with_options-append before (map read_back e.1) (read_entries es)))

-- ---- under each number

-- of the options of one number all have it, or none
under_number : (q number : ℕ) (options : List DhcpV6Option) → AllByRecursion (StandsUnder number) options → filter (has_number q) (map read_back options) ≡ cond (q == number) (map read_back options) []
under_number q number [] stand = nothing (q == number)
  where
    nothing : (b : Bool) → ◌≡◌ {A = List DhcpV6Option} [] (cond b [] [])
    nothing true = refl
    nothing false = refl
under_number q number (option ∷ options) stand =
    let later : List DhcpV6Option = filter (has_number q) (map read_back options) in
    ap (λ n. cond (q == n) (read_back option ∷ later) later) (option_number-read_back option ∙ stand.0.is_own)
    ∙ ap (λ more. cond (q == number) (read_back option ∷ more) more) (under_number q number options stand.1)
    ∙ by_test (q == number)
  where
    by_test : (b : Bool) → cond b (read_back option ∷ cond b (map read_back options) []) (cond b (map read_back options) []) ≡ cond b (read_back option ∷ map read_back options) []
    by_test true = refl
    by_test false = refl

pub apart : (a b : ℕ) → is_lt (nat_cmp a b) ≡ true → a < b
apart a b less = grind (arith, tests)

-- under a number below all there is none
none_below : (q : ℕ) (es : List Entry) → IsTrue (below_all nat_cmp q es) → AllByRecursion (λ entry. AllStandUnder entry.0 entry.1) es → filter (has_number q) (read_entries es) ≡ []
none_below q [] below stand = refl
none_below q (e ∷ es) below stand =
    let parts = and_parts _ _ below in
    let other : (q == e.0) ≡ false = ne_eqb q e.0 (λ same. omega (arith, same, apart q e.0 parts.0)) in
    ap (filter (has_number q)) (flat_map-cons (λ entry. map read_back entry.1) e es)
    ∙ filter-append (has_number q) (map read_back e.1) (read_entries es)
    ∙ ap (λ front. front ++ filter (has_number q) (read_entries es)) (under_number q e.0 e.1 stand.0.each ∙ ap (λ b. cond b (map read_back e.1) []) other)
    ∙ none_below q es parts.1 stand.1

joined_some : (options : List DhcpV6Option) → options ≢ [] → joined None (map read_back options ++ []) ≡ Some (map read_back options)
joined_some [] some = absurd (some refl)
joined_some (option ∷ options) some = ap Some (append-nil (map read_back (option ∷ options)))

-- under each number there is what reads back of its entry
under_each : (q : ℕ) (es : List Entry) → IsTrue (map.is_sorted nat_cmp es) → AllByRecursion (λ entry. AllStandUnder entry.0 entry.1) es → joined None (filter (has_number q) (read_entries es)) ≡ map.find nat_cmp q (back_entries es)
under_each q [] sorted stand = refl
under_each q (e ∷ es) sorted stand =
    let rises = and_parts _ _ sorted in
    let later : List DhcpV6Option = filter (has_number q) (read_entries es) in
    ap (λ options. joined None (filter (has_number q) options)) (flat_map-cons (λ entry. map read_back entry.1) e es)
    ∙ ap (joined None) (filter-append (has_number q) (map read_back e.1) (read_entries es))
    ∙ ap (λ front. joined None (front ++ later)) (under_number q e.0 e.1 stand.0.each)
    ∙ elim (q == e.0) as (λ b. (q == e.0) ≡ b → joined None (cond b (map read_back e.1) [] ++ later) ≡ cond b (Some (map read_back e.1)) (map.find nat_cmp q (back_entries es))) [
      | true ↦ λ same.
          let none : later ≡ [] = ap (λ q. filter (has_number q) (read_entries es)) (eqb-true q e.0 same) ∙ none_below e.0 es rises.0 stand.1 in
          ap (λ later. joined None (map read_back e.1 ++ later)) none ∙ joined_some e.1 stand.0.some
      | false ↦ λ _. under_each q es rises.1 stand.1
    ] refl
    ∙ sym (ap (λ b. cond b (Some (map read_back e.1)) (map.find nat_cmp q (back_entries es))) (unsigned_tied q e.0))

-- the options that are written read back, and then those of what follows
pub options_back : (options : OptionLists) (rest : List ℕ) → AllStand options → AreInRange options → read_options (written_options options ++ rest) ≡ with_options (options_read_back options) (filter_map reading_of (raw_options DhcpV6 rest))
unfolding written_options read_options
options_back options rest stand range =
    let es : List Entry = map.entries options in
    entered_entries map.empty es rest stand range
    ∙ ap (λ lists. entered lists rest) (map.same_map nat_cmp_total nat_cmp-IsAntisymmetric (lists_of (read_entries es)) (options_read_back options) (λ q.
    get-lists_of (read_entries es) q ∙ under_each q es (is_passed _ (map.entries_sorted options)) stand ∙ sym (map.get-from_entries nat_cmp_total (back_entries es) q)))

-- with nothing after them they read back alone
pub options_back_alone : (options : OptionLists) → AllStand options → AreInRange options → read_options (written_options options) ≡ options_read_back options
unfolding raw_options_within
options_back_alone options stand range = ap read_options (sym (append-nil (written_options options))) ∙ options_back options [] stand range

-- ---- the options of a list that is kept stand

-- those of a number
stand_under : (number : ℕ) (kept : List DhcpV6Option) → AllByRecursion (λ option. IsTrue (fits option)) kept → AllByRecursion HasWidths kept → AllByRecursion (StandsUnder number) (filter (has_number number) kept)
stand_under number [] fit widths = tt
stand_under number (option ∷ kept) fit widths =
    elim (number == option_number option) as (λ b. (number == option_number option) ≡ b → AllByRecursion (StandsUnder number) (cond b (option ∷ filter (has_number number) kept) (filter (has_number number) kept))) [
      | true ↦ λ is. (record { is_own = sym (eqb-true number (option_number option) is); fit = fit.0; widths = widths.0 }, stand_under number kept fit.1 widths.1)
      | false ↦ λ _. stand_under number kept fit.1 widths.1
    ] refl

some_under : (number : ℕ) (kept : List DhcpV6Option) → is_some (position (has_number number) kept) ≡ true → filter (has_number number) kept ≢ []
some_under number kept there none = absurd (false≢true (sym (is_some-position (has_number number) kept RapidCommit ∙ ap has_some none) ∙ there))

-- what holds of the options of each number that is indexed holds of each entry
pub each_entry : (Q : ℕ → List DhcpV6Option → Type 0) (kept : List DhcpV6Option) (es : List IndexEntry) → ((number : ℕ) → is_some (first_place number es) ≡ true → Q number (filter (has_number number) kept)) → AllByRecursion (λ entry. Q entry.0 entry.1) (map (entry_in kept) es)
each_entry Q kept [] holds = tt
each_entry Q kept (e ∷ es) holds = (
  holds e.number (ap (λ b. is_some (cond b (Some e.first) (first_place e.number es))) (eq-eqb e.number e.number refl)),
  each_entry Q kept es (λ number is. holds number (more number (number == e.number) is)),
)
  where
    more : (number : ℕ) (b : Bool) → is_some (first_place number es) ≡ true → is_some (cond b (Some e.first) (first_place number es)) ≡ true
    more number true is = refl
    more number false is = is

-- each number that is indexed has an option
pub some_indexed : (kept : List DhcpV6Option) (es : List IndexEntry) → IsIndexed kept es → (number : ℕ) → is_some (first_place number es) ≡ true → filter (has_number number) kept ≢ []
some_indexed kept es indexed number is = some_under number kept (sym (ap is_some (indexed.firsts number)) ∙ is)

pub AllStand-lists_of : (kept : List DhcpV6Option) (es : List IndexEntry) → IsIndexed kept es → AllByRecursion HasWidths kept → AllStand (lists_of kept)
AllStand-lists_of kept es indexed widths =
    subst (AllByRecursion (λ entry. AllStandUnder entry.0 entry.1)) (sym (entries-lists_of kept es RapidCommit indexed))
    (each_entry AllStandUnder kept es (λ number is. record { some = some_indexed kept es indexed number is; each = stand_under number kept indexed.fit widths }))

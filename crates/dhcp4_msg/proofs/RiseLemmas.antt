-- Options that are kept by rising numbers.
use Rattle.std.proofs.Common.{cond, is_some, ◌≡◌, ℕ, ◌+◌, ◌<◌, ◌≤◌, List, [], ◌∷◌, ◌++◌, length, drop, get_or, IsTrue, refl, sym, ap, subst, ◌∙◌, arith}
use Rattle.std.specs.declared.cmp.Ordering.TheVariants.{Less}
use Rattle.std.specs.List.{All, flat_map}
use Rattle.std.specs.Ordering.{nat_cmp}
use Rattle.std.specs.Cmp.{nat_cmp_is, nat_cmp_total}
use Rattle.std.specs.FinMap as map
use Rattle.std.specs.FinMap.{put}
use Rattle.std.specs.Map.{values_of}
use Rattle.std.proofs.lemmas.List.{drop_more}
use Rattle.dhcp4_msg.specs.declared.option.DhcpV4Option.{DhcpV4Option}
use Rattle.dhcp4_msg.specs.Value.{option_number, fits, written_option}
use Rattle.dhcp4_msg.specs.Options.{CanBeKept, RiseFrom, added_end, by_number, map_of, written_options}

-- a smaller number comes first
less : (a b : ℕ) → a < b → nat_cmp a b ≡ Less
less a b below = sym (nat_cmp_is a b Less below)

-- an option before all others goes to the front
put_first : (option : DhcpV4Option) (options : List DhcpV4Option) → RiseFrom (option_number option + 1) options
    → put nat_cmp (option_number option) option (by_number options) ≡ by_number (option ∷ options)
put_first option [] rise = refl
put_first option (next ∷ options) rise =
    let first = rise.0 in
    ap (λ r. map.Entries.by_order r (by_number (option ∷ next ∷ options)) ((option_number next, option) ∷ by_number options) ((option_number next, next) ∷ put nat_cmp (option_number option) option (by_number options)))
    (less (option_number option) (option_number next) (omega (arith, first)))

-- a list of length 0
none_left : {X : Type 0} (xs : List X) → length xs ≡ 0 → xs ≡ []
none_left [] none = refl
none_left (x ∷ xs) none = absurd (omega arith)

-- where there are no options, there are no entries
pub no_entries : map.entries {K = ℕ} {X = DhcpV4Option} {R = nat_cmp} map.empty ≡ []
no_entries = none_left _ (sym (map.len-entries map.empty) ∙ map.len-empty nat_cmp DhcpV4Option)

-- the entries of the map are the options that rise
entries_rising : (least : ℕ) (options : List DhcpV4Option) → RiseFrom least options → map.entries (map_of options) ≡ by_number options
entries_rising least [] rise = no_entries
entries_rising least (option ∷ options) rise =
    map.entries-insert nat_cmp_total (map_of options) (option_number option) option
    ∙ ap (put nat_cmp (option_number option) option) (entries_rising (option_number option + 1) options rise.1)
    ∙ put_first option options rise.1

-- the options under their numbers
values_by_number : (options : List DhcpV4Option) → values_of (by_number options) ≡ options
values_by_number [] = refl
values_by_number (option ∷ options) = ap (λ later. option ∷ later) (values_by_number options)

-- the map has options that rise as they are kept
pub values_rising : (options : List DhcpV4Option) → RiseFrom 0 options → map.values (map_of options) ≡ options
values_rising options rise = ap values_of (entries_rising 0 options rise) ∙ values_by_number options

-- one option more that rises
pub rise_more : (least number i : ℕ) (options : List DhcpV4Option) (d : DhcpV4Option) → i < length options → number ≡ option_number (get_or options i d) → least ≤ number
    → RiseFrom (number + 1) (drop (i + 1) options) → RiseFrom least (drop i options)
rise_more least number i options d inside own from later =
    subst (RiseFrom least) (sym (drop_more options i d inside)) (subst (λ n. (least ≤ n) × RiseFrom (n + 1) (drop (i + 1) options)) own (from, later))

-- options that can be kept fit
pub all_fit : (options : List DhcpV4Option) → All CanBeKept options → All (λ option. IsTrue (fits option)) options
all_fit options kept k d below = (kept k d below).fit

-- where there are no options, End alone is written
pub written_none : written_options map.empty ≡ 255 ∷ []
unfolding written_options
written_none =
    ap (λ entries. flat_map written_option (values_of entries) ++ added_end map.empty) no_entries
    ∙ ap (λ found. cond (is_some found) [] (255 ∷ [])) (map.get-empty nat_cmp 255)

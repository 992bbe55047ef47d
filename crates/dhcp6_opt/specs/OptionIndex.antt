-- The index of an option list: where the first option of each code is.
use Rattle.std.specs.Prelude.{◌≡◌, ◌≢◌, ℕ, ◌<◌, ◌==◌, ◌&&◌, Bool, List, [], ◌∷◌, ◌++◌, length, position, Option, Some, None, IsTrue, if◌then◌else◌}
use Rattle.std.specs.List.{AllByRecursion, filter}
use Rattle.std.specs.Cmp.Lexicographic.{pointwise}
use Rattle.dhcp6_opt.specs.declared.option.DhcpV6Option.{DhcpV6Option}
use Rattle.dhcp6_opt.specs.declared.options.index.IndexEntry.{IndexEntry}
use Rattle.dhcp6_opt.specs.Value.{fits, option_number}

-- whether an option has this number
abbrev pub has_number : ℕ → DhcpV6Option → Bool
has_number number option = number == option_number option

-- where the first option of this number is
abbrev pub first_place : ℕ → List IndexEntry → Option ℕ
first_place number [] = None
first_place number (entry ∷ entries) =
    if number == entry.number then Some entry.first else first_place number entries

-- the options of the number of an entry
abbrev pub numbered : List DhcpV6Option → IndexEntry → List DhcpV6Option
numbered kept entry = filter (has_number entry.number) kept

-- the number of an entry, and its options
abbrev pub entry_in : List DhcpV6Option → IndexEntry → ℕ × List DhcpV6Option
entry_in kept entry = (entry.number, numbered kept entry)

-- the options of a number: there is one, and each has it
pub record IsGroup (number : ℕ) (options : List DhcpV6Option) : Type 0 where
  pub some : options ≢ []
  pub own : AllByRecursion (λ option. option_number option ≡ number) options

-- so it is of each number
abbrev pub AreGroups : List (ℕ × List DhcpV6Option) → Type 0
AreGroups entries = AllByRecursion (λ entry. IsGroup entry.0 entry.1) entries

-- whether two numbers are equal, and their options are, one by one
abbrev pub same_entry : (DhcpV6Option → DhcpV6Option → Bool)
    → ℕ × List DhcpV6Option → ℕ × List DhcpV6Option → Bool
same_entry same x y = (x.0 == y.0) && pointwise same x.1 y.1

-- each entry's number is below
abbrev pub AllBelow : ℕ → List IndexEntry → Type 0
AllBelow number entries = AllByRecursion (λ entry. entry.number < number) entries

-- each entry's number is above
abbrev pub AllAbove : ℕ → List IndexEntry → Type 0
AllAbove number entries = AllByRecursion (λ entry. number < entry.number) entries

-- the numbers rise
abbrev pub Rises : List IndexEntry → Type 0
Rises [] = Unit {0}
Rises (entry ∷ entries) = AllAbove entry.number entries × Rises entries

-- the entry of a number at a place, between those below and those above
pub record IsEntryAt (entries : List IndexEntry) (number at : ℕ) : Type 0 where
  pub front : List IndexEntry
  pub entry : IndexEntry
  pub back : List IndexEntry
  pub split : entries ≡ front ++ entry ∷ back
  pub place : length front ≡ at
  pub own : entry.number ≡ number
  pub below : AllBelow number front
  pub above : AllAbove number back

-- where the entry of a number would go
pub record GoesAt (entries : List IndexEntry) (number at : ℕ) : Type 0 where
  pub front : List IndexEntry
  pub back : List IndexEntry
  pub split : entries ≡ front ++ back
  pub place : length front ≡ at
  pub below : AllBelow number front
  pub above : AllAbove number back

-- Each option that is kept can be written. The entries rise, and have for each number the place of
-- its first option.
pub record IsIndexed (kept : List DhcpV6Option) (entries : List IndexEntry) : Type 0 where
  pub fit : AllByRecursion (λ option. IsTrue (fits option)) kept
  pub rises : Rises entries
  pub firsts : (number : ℕ) → first_place number entries ≡ position (has_number number) kept

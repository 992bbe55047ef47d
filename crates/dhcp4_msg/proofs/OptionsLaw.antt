-- A list of options reads back.
use Rattle.std.proofs.Common.{◌≡◌, ℕ, ◌<◌, Bool, true, false, ◌==◌, cond, List, [], ◌∷◌, ◌++◌, map, IsTrue, Some, None, option_map, is_some, refl, sym, ap, ◌∙◌, arith, append_assoc}
use Rattle.std.specs.List.{flat_map}
use Rattle.std.specs.Map.{values_of}
use Rattle.std.specs.Cmp.{nat_cmp_total, ranked, tied_itself, unsigned_tied}
use Rattle.std.specs.declared.cmp.Ordering.TheVariants.{Less, Equal, Greater}
use Rattle.std.specs.Ordering.{nat_cmp, is_lt, is_eq, eq_by_cmp}
use Rattle.std.specs.FinMap.{get, insert, entries, from_entries, empty, find, is_sorted, same_map, nat_cmp-IsAntisymmetric, get-insert, get-empty, get-entries, get-from_entries, entries_sorted}
use Rattle.std.specs.FinMap.Entries.{below_all}
use Rattle.std.proofs.lemmas.Bool.{and_parts, and_from, eq-eqb, eqb-true, ne_eqb, false≢true}
use Rattle.std.proofs.lemmas.Option.{none-some, same_Some}
use Rattle.dhcp_wire.specs.Field.{Read}
use Rattle.dhcp4_msg.specs.declared.option.DhcpV4Option.{DhcpV4Option}
use Rattle.dhcp4_msg.specs.declared.option.DhcpV4Option.TheVariants.{ParameterRequestList, End}
use Rattle.dhcp4_msg.specs.OptionCode.{code_of, number_of}
use Rattle.dhcp_wire.specs.RawOption.{RawOptionParts, raw_option_at, counted_after, with_later, raw_options, raw_options_within}
use Rattle.dhcp_wire.specs.declared.raw_option.OptionFormat.TheVariants.{DhcpV4}
use Rattle.dhcp4_msg.specs.Laws.{ReadsBackUnder, OptionsReadBack, with_names, all_with_names}
use Rattle.dhcp4_msg.specs.Options.{OptionMap, with_entry, read_after, option_at, read_options, written_options, added_end}
use Rattle.dhcp4_msg.specs.Value.{option_code, option_number, value_of, written_option}
use Rattle.dhcp_wire.proofs.RawOptionLemmas.{raw_options-raw_option_at, raw_option_at-code_alone}
use Rattle.dhcp_wire.proofs.Entries.{is_passed}
use Rattle.dhcp4_msg.proofs.LawLemmas.{option_back}
use Rattle.dhcp4_msg.proofs.OptionsLemmas.{entered, entries_entered, get-entries_entered, alone, first_of_two, find-below_all, read_options-entered}
use Rattle.dhcp4_msg.proofs.ValueLemmas.{option_number_value_of}

-- an item that an option was read from, before the bytes that are left
record IsItemOf (bytes rest : List ℕ) (option : DhcpV4Option) (item : RawOptionParts) : Type 0 where
  found : raw_option_at DhcpV4 bytes ≡ Some (item, rest)
  reads : value_of (code_of item.code) item.value ≡ Some option

-- an option that was read was read from an item
item_of_read : (read : Read RawOptionParts) (bytes rest : List ℕ) (option : DhcpV4Option) → read_after bytes read ≡ (Some option, rest) → (item : RawOptionParts) × (read ≡ Some (item, rest)) × (value_of (code_of item.code) item.value ≡ Some option)
item_of_read None bytes rest option is = absurd (none-some _ (ap (λ pair. pair.0) is))
item_of_read (Some found) bytes rest option is = (found.0, ap (λ left. Some (found.0, left)) (ap (λ pair. pair.1) is), ap (λ pair. pair.0) is)

item_of : (bytes rest : List ℕ) (option : DhcpV4Option) → option_at bytes ≡ (Some option, rest) → (item : RawOptionParts) × IsItemOf bytes rest option item
unfolding option_at
item_of bytes rest option is = let found = item_of_read (raw_option_at DhcpV4 bytes) bytes rest option is in (found.0, record { found = found.1; reads = found.2 })

-- an option at the front is entered, and then those after it
entered_one : (options : OptionMap) (bytes rest : List ℕ) (option : DhcpV4Option) (item : RawOptionParts) → IsItemOf bytes rest option item → entered options (raw_options DhcpV4 bytes) ≡ entered (insert options item.code option) (raw_options DhcpV4 (counted_after DhcpV4 item.code rest))
entered_one options bytes rest option item is =
    ap (entered options) (raw_options-raw_option_at DhcpV4 bytes ∙ ap (with_later DhcpV4 (raw_options DhcpV4)) is.found)
    ∙ ap (λ read. entered (with_entry options (option_map (λ option. (item.code, option)) read)) (raw_options DhcpV4 (counted_after DhcpV4 item.code rest))) is.reads

-- names change no number
option_number-with_names : (option : DhcpV4Option) → option_number (with_names option) ≡ option_number option
unfolding option_code
option_number-with_names (ParameterRequestList requested) = refl
option_number-with_names _ = refl

-- what reads under the number of End is End
end_of : (number : ℕ) (value : List ℕ) (option : DhcpV4Option) → number ≡ 255 → value_of (code_of number) value ≡ Some option → option ≡ End
unfolding value_of code_of number_of
end_of number value option is reads = sym (same_Some _ _ (rw is at reads))

-- End alone is entered, whatever follows it
entered_end_alone : (options : OptionMap) (more : List ℕ) → entered options (raw_options DhcpV4 (255 ∷ more)) ≡ insert options 255 End
unfolding raw_options_within value_of code_of number_of
entered_end_alone options more =
    ap (entered options) (raw_options-raw_option_at DhcpV4 (255 ∷ more) ∙ ap (with_later DhcpV4 (raw_options DhcpV4)) (raw_option_at-code_alone 255 more refl))

-- End once more changes nothing
end_again : (options : OptionMap) (number : ℕ) (option : DhcpV4Option) → number ≡ 255 → option ≡ End → insert options number option ≡ insert (insert options number option) 255 End
end_again options number option at is =
    rw (at, is) (same_map nat_cmp_total nat_cmp-IsAntisymmetric _ _ (λ q.
    get-insert nat_cmp_total options 255 End q ∙ twice (eq_by_cmp nat_cmp q 255) (Some End) (get options q)
    ∙ sym (get-insert nat_cmp_total (insert options 255 End) 255 End q ∙ ap (cond (eq_by_cmp nat_cmp q 255) (Some End)) (get-insert nat_cmp_total options 255 End q))))
  where
    twice : {X : Type 0} (b : Bool) (x y : X) → cond b x y ≡ cond b x (cond b x y)
    twice true x y = refl
    twice false x y = refl

-- entries each of which reads back
abbrev EntriesReadBack : List (ℕ × DhcpV4Option) → Type 0
EntriesReadBack es = (number : ℕ) (option : DhcpV4Option) → find nat_cmp number es ≡ Some option → ReadsBackUnder number option

-- the same entries, each with names
abbrev named : List (ℕ × DhcpV4Option) → List (ℕ × DhcpV4Option)
named es = map (λ entry. (entry.0, with_names entry.1)) es

-- End, where no entry is under its number
abbrev end_after : List (ℕ × DhcpV4Option) → List ℕ
end_after es = cond (is_some (find nat_cmp 255 es)) [] (255 ∷ [])

-- what the order answers below
pub is_below : (a b : ℕ) → is_lt (nat_cmp a b) ≡ true → a < b
is_below a b is =
    elim (nat_cmp a b) as (λ r. r ≡ nat_cmp a b → is_lt r ≡ true → a < b) [
      | Less ↦ λ same _. ranked a b Less same
      | Equal ↦ λ _ no. absurd (false≢true no)
      | Greater ↦ λ _ no. absurd (false≢true no)
    ] refl is

-- the first entry is found at its number
find_first : (number : ℕ) (option : DhcpV4Option) (es : List (ℕ × DhcpV4Option)) → find nat_cmp number ((number, option) ∷ es) ≡ Some option
find_first number option es = ap (λ r. cond (is_eq r) (Some option) (find nat_cmp number es)) (tied_itself nat_cmp_total number)

-- what is found among later entries is found among all
find_later : (number q : ℕ) (option first : DhcpV4Option) (es : List (ℕ × DhcpV4Option)) → IsTrue (below_all nat_cmp number es) → find nat_cmp q es ≡ Some option → find nat_cmp q ((number, first) ∷ es) ≡ Some option
find_later number q option first es below is =
    elim (eq_by_cmp nat_cmp q number) as (λ b. eq_by_cmp nat_cmp q number ≡ b → cond b (Some first) (find nat_cmp q es) ≡ Some option) [
      | true ↦ λ tied.
          let same : q ≡ number = eqb-true _ _ (sym (unsigned_tied q number) ∙ tied) in
          absurd (none-some _ (sym (find-below_all q es (rw same below)) ∙ is))
      | false ↦ λ _. is
    ] refl

-- no number of a byte is above 255
none_above : (es : List (ℕ × DhcpV4Option)) → IsTrue (below_all nat_cmp 255 es) → EntriesReadBack es → es ≡ []
none_above [] below back = refl
none_above (e ∷ es) below back =
    let above = is_below 255 e.0 (and_parts _ _ below).0 in
    let byte = (back e.0 e.1 (find_first e.0 e.1 es)).is_byte in
    absurd (omega (arith, above, byte))

-- an option that is written is read from an item under its number
item_back : (number : ℕ) (option : DhcpV4Option) (rest : List ℕ) → ReadsBackUnder number option → (item : RawOptionParts) × IsItemOf (written_option option ++ rest) rest (with_names option) item × (item.code ≡ number)
item_back number option rest has =
    let item = item_of (written_option option ++ rest) rest (with_names option) (option_back option rest has.fit has.reads_back) in
    (item.0, item.1, sym (option_number_value_of item.0.code item.0.value (with_names option) item.1.reads) ∙ option_number-with_names option ∙ has.is_own)

-- it is entered under that number, and then what follows it
entered_first : (options : OptionMap) (number : ℕ) (option : DhcpV4Option) (rest : List ℕ) → ReadsBackUnder number option → entered options (raw_options DhcpV4 (written_option option ++ rest)) ≡ entered (insert options number (with_names option)) (raw_options DhcpV4 (counted_after DhcpV4 number rest))
entered_first options number option rest has =
    let item = item_back number option rest has in
    entered_one options (written_option option ++ rest) rest (with_names option) item.0 item.1
    ∙ ap (λ number. entered (insert options number (with_names option)) (raw_options DhcpV4 (counted_after DhcpV4 number rest))) item.2

-- an option under the number of End is End
is_end : (number : ℕ) (option : DhcpV4Option) → number ≡ 255 → ReadsBackUnder number option → with_names option ≡ End
is_end number option at has =
    let item = item_back number option [] has in
    end_of item.0.code item.0.value (with_names option) (item.2 ∙ at) item.1.reads

-- after End there is nothing
after_end : (options : OptionMap) (number : ℕ) (option : DhcpV4Option) (es : List (ℕ × DhcpV4Option)) → number ≡ 255 → ReadsBackUnder number option → es ≡ [] → entered (insert options number (with_names option)) (raw_options DhcpV4 []) ≡ insert (entries_entered (insert options number (with_names option)) (named es)) 255 End
unfolding entries_entered raw_options_within
after_end options number option es at has none =
    rw none (end_again options number (with_names option) at (is_end number option at has))

-- Rising entries that are written, with End, are entered in turn, whatever follows.
entries_back : (es : List (ℕ × DhcpV4Option)) (options : OptionMap) (more : List ℕ) → IsTrue (is_sorted nat_cmp es) → EntriesReadBack es → entered options (raw_options DhcpV4 (flat_map written_option (values_of es) ++ (end_after es ++ more))) ≡ insert (entries_entered options (named es)) 255 End
unfolding entries_entered
entries_back [] options more rises back = entered_end_alone options more
entries_back (e ∷ es) options more rises back =
    let parts = and_parts _ _ rises in
    let has = back e.0 e.1 (find_first e.0 e.1 es) in
    let later : EntriesReadBack es = λ q option is. back q option (find_later e.0 q option e.1 es parts.0 is) in
    let entered_now = insert options e.0 (with_names e.1) in
    let rest : List ℕ → List ℕ = λ last. flat_map written_option (values_of es) ++ (last ++ more) in
    ap (λ bytes. entered options (raw_options DhcpV4 bytes)) (append_assoc (written_option e.1) (flat_map written_option (values_of es)) (end_after (e ∷ es) ++ more))
    ∙ entered_first options e.0 e.1 (rest (end_after (e ∷ es))) has
    ∙ elim (e.0 == 255) as (λ b. (e.0 == 255) ≡ b → entered entered_now (raw_options DhcpV4 (cond b [] (rest (end_after (e ∷ es))))) ≡ insert (entries_entered entered_now (named es)) 255 End) [
      | true ↦ λ at.
          let is : e.0 ≡ 255 = eqb-true _ _ at in
          after_end options e.0 e.1 es is has (none_above es (rw (← is) parts.0) later)
      | false ↦ λ at.
          let apart : eq_by_cmp nat_cmp 255 e.0 ≡ false = unsigned_tied 255 e.0 ∙ ne_eqb 255 e.0 (λ same. false≢true (sym at ∙ eq-eqb e.0 255 (sym same))) in
          ap (λ b. entered entered_now (raw_options DhcpV4 (rest (cond (is_some (cond b (Some e.1) (find nat_cmp 255 es))) [] (255 ∷ []))))) apart
          ∙ entries_back es entered_now more parts.1 later
    ] refl

-- entries with names still rise
rises-named : (es : List (ℕ × DhcpV4Option)) → IsTrue (is_sorted nat_cmp es) → IsTrue (is_sorted nat_cmp (named es))
rises-named [] rises = refl
rises-named (e ∷ es) rises =
    let parts = and_parts _ _ rises in
    and_from _ _ (below e.0 es parts.0) (rises-named es parts.1)
  where
    below : (number : ℕ) (es : List (ℕ × DhcpV4Option)) → IsTrue (below_all nat_cmp number es) → IsTrue (below_all nat_cmp number (named es))
    below number [] all = refl
    below number (e ∷ es) all = let parts = and_parts _ _ all in and_from _ _ parts.0 (below number es parts.1)

-- rising entries, entered in turn, are their map
entries_entered-map : (es : List (ℕ × DhcpV4Option)) → IsTrue (is_sorted nat_cmp es) → entries_entered empty es ≡ from_entries es
entries_entered-map es rises =
    same_map nat_cmp_total nat_cmp-IsAntisymmetric _ _ (λ q. get-entries_entered es empty q rises
    ∙ ap (first_of_two (find nat_cmp q es)) (get-empty nat_cmp q) ∙ alone _ ∙ sym (get-from_entries nat_cmp_total es q))

-- the options that are written read back, with End, whatever follows it
pub options_map_back : (options : OptionMap) (more : List ℕ) → OptionsReadBack options → read_options (written_options options ++ more) ≡ insert (all_with_names options) 255 End
unfolding written_options
options_map_back options more back =
    let es = entries options in
    let rises = is_passed _ (entries_sorted options) in
    ap read_options (append_assoc (flat_map written_option (values_of es)) (added_end options) more)
    ∙ sym (read_options-entered _)
    ∙ ap (λ found. entered empty (raw_options DhcpV4 (flat_map written_option (values_of es) ++ (cond (is_some found) [] (255 ∷ []) ++ more)))) (get-entries options 255)
    ∙ entries_back es empty more rises (λ number option is. back number option (get-entries options number ∙ is))
    ∙ ap (λ named. insert named 255 End) (entries_entered-map (named es) (rises-named es rises))

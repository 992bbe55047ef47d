-- Whether a message grants a lease, whatever random words are the next ones: two words decide.
use Rattle.std.proofs.Common.{◌≡◌, ℕ, ◌+◌, ◌-◌, ◌*◌, ◌/◌, ◌%◌, ◌≤◌, List, [], ◌∷◌, Bool, true, false, refl, ap, sym, ◌∙◌, arith}
use Rattle.std.specs.Prelude.{Option, Some, None, is_some, option_map, nat_le, nat_lt, ◌&&◌, if◌then◌else◌}
use Rattle.std.proofs.lemmas.Bool.{and_from, and_parts, le-leb, leb-true, ltb-false, ltb-true}
use Rattle.dhcp_clock.specs.Words.{next_of}
use Rattle.dhcp4_msg.specs.declared.message.DhcpV4Message.{DhcpV4Message}
use Rattle.dhcp4_msg.specs.Options.{OptionMap, said_by}
use Rattle.dhcp4_msg.specs.Value.{seconds_said}
use Rattle.dhcp4_lease.specs.declared.lease.times.LeaseTimes.{LeaseTimes}
use Rattle.dhcp4_lease.specs.Lease.{are_in_order, drawn_about, lease_of, ordered_times, read_lease, read_times, said_or_drawn, times_of}
use Rattle.dhcp4_client.specs.Verdict.{always_grants, grants_with}

-- 1. How far a word moves a time.

-- about this time, by this word
abbrev moved : ℕ → ℕ → ℕ
moved base word = if nat_lt base 20 then base else base + word % 4 - 2

drawn_moved : (base : ℕ) (words : List ℕ) → (drawn_about base words).value ≡ moved base (next_of words)
drawn_moved base words = by_length (nat_lt base 20) refl
  where
    by_length : (b : Bool) → nat_lt base 20 ≡ b → (drawn_about base words).value ≡ moved base (next_of words)
    by_length true e = rw e refl
    by_length false e = rw e refl

-- none moves it further than these two
earliest : (base word : ℕ) → moved base 0 ≤ moved base word
earliest base word = by_length (nat_lt base 20) refl
  where
    by_length : (b : Bool) → nat_lt base 20 ≡ b → moved base 0 ≤ moved base word
    by_length true e = rw e (omega arith)
    by_length false e = rw e (omega arith)

latest : (base word : ℕ) → moved base word ≤ moved base 3
latest base word = by_length (nat_lt base 20) refl
  where
    by_length : (b : Bool) → nat_lt base 20 ≡ b → moved base word ≤ moved base 3
    by_length true e = rw e (omega arith)
    by_length false e = rw e (omega arith)

-- half of a time, moved, is never after seven eighths of it, moved, and these are never after its end
half_first : (time word other : ℕ) → moved (time / 2) word ≤ moved (7 * time / 8) other
half_first time word other = by_lengths (nat_lt (time / 2) 20) (nat_lt (7 * time / 8) 20) refl refl
  where
    by_lengths : (a b : Bool) → nat_lt (time / 2) 20 ≡ a → nat_lt (7 * time / 8) 20 ≡ b → moved (time / 2) word ≤ moved (7 * time / 8) other
    by_lengths true true e f = rw (e, f) (omega arith)
    by_lengths true false e f = rw (e, f) (omega (arith, ltb-true (time / 2) 20 e, ltb-false (7 * time / 8) 20 f))
    by_lengths false true e f = absurd (omega (arith, ltb-false (time / 2) 20 e, ltb-true (7 * time / 8) 20 f))
    by_lengths false false e f = rw (e, f) (omega (arith, ltb-false (time / 2) 20 e, ltb-false (7 * time / 8) 20 f))

within_end : (time word : ℕ) → moved (7 * time / 8) word ≤ time
within_end time word = by_length (nat_lt (7 * time / 8) 20) refl
  where
    by_length : (b : Bool) → nat_lt (7 * time / 8) 20 ≡ b → moved (7 * time / 8) word ≤ time
    by_length true e = rw e (omega arith)
    by_length false e = rw e (omega (arith, ltb-false (7 * time / 8) 20 e))

-- 2. The times that a message says or leaves to the words.

-- whether T1, T2 and the end are in order
abbrev in_order : ℕ → ℕ → ℕ → Bool
in_order t1 t2 time = nat_le t1 t2 && nat_le t2 time

order_from : (t1 t2 time : ℕ) → t1 ≤ t2 → t2 ≤ time → in_order t1 t2 time ≡ true
order_from t1 t2 time a b = and_from (nat_le t1 t2) (nat_le t2 time) (le-leb t1 t2 a) (le-leb t2 time b)

-- those of a lease that lasts so long, with these T1 and T2, if they are said
abbrev times_with : Option ℕ → Option ℕ → ℕ → List ℕ → Bool
times_with t1 t2 time words =
    let first = said_or_drawn t1 (time / 2) words in
    in_order first.value (said_or_drawn t2 (7 * time / 8) first.left).value time

moved_first : (t1 t2 time : ℕ) (word : ℕ) → in_order (moved t1 0) t2 time ≡ true → in_order (moved t1 3) t2 time ≡ true → in_order (moved t1 word) t2 time ≡ true
moved_first t1 t2 time word low high =
    let ends = and_parts (nat_le (moved t1 3) t2) (nat_le t2 time) high in
    let first : moved t1 3 ≤ t2 = leb-true (moved t1 3) t2 ends.0 in
    let last : t2 ≤ time = leb-true t2 time ends.1 in
    order_from (moved t1 word) t2 time (omega (arith, latest t1 word, first)) last

moved_second : (t1 t2 time : ℕ) (word : ℕ) → in_order t1 (moved t2 0) time ≡ true → in_order t1 (moved t2 3) time ≡ true → in_order t1 (moved t2 word) time ≡ true
moved_second t1 t2 time word low high =
    let first : t1 ≤ moved t2 0 = leb-true t1 (moved t2 0) (and_parts (nat_le t1 (moved t2 0)) (nat_le (moved t2 0) time) low).0 in
    let last : moved t2 3 ≤ time = leb-true (moved t2 3) time (and_parts (nat_le t1 (moved t2 3)) (nat_le (moved t2 3) time) high).1 in
    order_from t1 (moved t2 word) time (omega (arith, earliest t2 word, first)) (omega (arith, latest t2 word, last))

-- two words decide whether they are in order for every list of words
always_in_order : (t1 t2 : Option ℕ) (time : ℕ) → times_with t1 t2 time (0 ∷ []) ≡ true → times_with t1 t2 time (3 ∷ []) ≡ true → (words : List ℕ) → times_with t1 t2 time words ≡ true
unfolding said_or_drawn
always_in_order (Some t1) (Some t2) time low high words = low
always_in_order (Some t1) None time low high words =
    let with_second = λ (t2 : ℕ). in_order t1 t2 time in
    ap with_second (drawn_moved (7 * time / 8) words)
    ∙ moved_second t1 (7 * time / 8) time (next_of words) (sym (ap with_second (drawn_moved (7 * time / 8) (0 ∷ []))) ∙ low) (sym (ap with_second (drawn_moved (7 * time / 8) (3 ∷ []))) ∙ high)
always_in_order None (Some t2) time low high words =
    let with_first = λ (t1 : ℕ). in_order t1 t2 time in
    ap with_first (drawn_moved (time / 2) words)
    ∙ moved_first (time / 2) t2 time (next_of words) (sym (ap with_first (drawn_moved (time / 2) (0 ∷ []))) ∙ low) (sym (ap with_first (drawn_moved (time / 2) (3 ∷ []))) ∙ high)
always_in_order None None time low high words =
    let left = (drawn_about (time / 2) words).left in
    ap (λ (t1 : ℕ). in_order t1 (drawn_about (7 * time / 8) left).value time) (drawn_moved (time / 2) words)
    ∙ ap (λ (t2 : ℕ). in_order (moved (time / 2) (next_of words)) t2 time) (drawn_moved (7 * time / 8) left)
    ∙ order_from (moved (time / 2) (next_of words)) (moved (7 * time / 8) (next_of left)) time (half_first time (next_of words) (next_of left)) (within_end time (next_of left))

-- 3. The lease.

some_if : (b : Bool) (times : LeaseTimes) → is_some (if b then Some times else None) ≡ b
some_if true times = refl
some_if false times = refl

some_mapped : (message : DhcpV4Message) (times : Option LeaseTimes) → is_some (option_map (lease_of message) times) ≡ is_some times
some_mapped message None = refl
some_mapped message (Some times) = refl

-- whether a message grants a lease, by its lease time, if it says one
abbrev grants_by : OptionMap → List ℕ → Option ℕ → Bool
grants_by options words None = false
grants_by options words (Some time) = times_with (said_by seconds_said options 58) (said_by seconds_said options 59) time words

granting_by : (options : OptionMap) (words : List ℕ) (said : Option ℕ) → is_some (ordered_times options words said).value ≡ grants_by options words said
unfolding times_of
granting_by options words None = refl
granting_by options words (Some time) = some_if (are_in_order (times_of options time words).value) (times_of options time words).value

granting : (message : DhcpV4Message) (words : List ℕ) → is_some (read_lease message words).value ≡ grants_by message.options words (said_by seconds_said message.options 51)
unfolding read_times
granting message words = some_mapped message (read_times message.options words).value ∙ granting_by message.options words (said_by seconds_said message.options 51)

-- a message that always grants a lease does with every list of words
pub always_granted : (message : DhcpV4Message) → always_grants message ≡ true → (words : List ℕ) → is_some (read_lease message words).value ≡ true
always_granted message always words =
    let both = and_parts (grants_with 0 message) (grants_with 3 message) always in
    granting message words
    ∙ by_time (said_by seconds_said message.options 51) (sym (granting message (0 ∷ [])) ∙ both.0) (sym (granting message (3 ∷ [])) ∙ both.1)
  where
    by_time : (said : Option ℕ) → grants_by message.options (0 ∷ []) said ≡ true → grants_by message.options (3 ∷ []) said ≡ true → grants_by message.options words said ≡ true
    by_time None low high = low
    by_time (Some time) low high = always_in_order (said_by seconds_said message.options 58) (said_by seconds_said message.options 59) time low high words

-- and with some list of words any other does not
pub not_granted : (message : DhcpV4Message) → always_grants message ≡ false → (words : List ℕ) × (is_some (read_lease message words).value ≡ false)
not_granted message e = by_first (grants_with 0 message) refl
  where
    by_first : (b : Bool) → grants_with 0 message ≡ b → (words : List ℕ) × (is_some (read_lease message words).value ≡ false)
    by_first false is = (0 ∷ [], is)
    by_first true is = (3 ∷ [], sym (ap (λ (b : Bool). b && grants_with 3 message) is) ∙ e)

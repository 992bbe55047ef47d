-- The times of a lease, by the words that were taken from any source.
use Rattle.std.proofs.Common.{◌≡◌, ◌⊎◌, inl, inr, ℕ, ◌+◌, ◌-◌, ◌*◌, ◌/◌, ◌%◌, ◌≤◌, Bool, true, false, List, ◌++◌, Option, Some, None, option_map, if◌then◌else◌, Result, Ok, Err, ok_or, ap, subst, sym, refl, ◌∙◌}
use Rattle.dhcp_clock.specs.Words.{Drawn, undrawn, drawn_word, drawn_then, DrawsBy}
use Rattle.dhcp_clock.proofs.Taken.{taken_nothing, taken_word, taken_both, taken_same}
use Rattle.dhcp_wire.specs.Error.{ErrorParts}
use Rattle.dhcp_wire.specs.Outcome.{Gives, Makes}
use Rattle.dhcp_wire.specs.declared.error.ErrorKind.TheVariants.{InvalidDhcpMessage}
use Rattle.dhcp4_msg.specs.declared.message.DhcpV4Message.{DhcpV4Message}
use Rattle.dhcp4_msg.specs.Options.{OptionMap, said_by}
use Rattle.dhcp4_msg.specs.Value.{seconds_said}
use Rattle.dhcp4_lease.specs.declared.lease.times.LeaseTimes.{LeaseTimes}
use Rattle.dhcp4_lease.specs.Lease.{said_or_drawn, times_of, are_in_order, ordered_times, read_times, read_lease, Lease, lease_of, ReadsLeaseBy}
use Rattle.dhcp4_lease.proofs.TimesLemmas.{about_long, makes_gives}

module _ {Source : Type 0} (gives : ℕ → Source → Source → Type 0) where
  -- a time that is said
  pub taken_said : (source : Source) (said : Option ℕ) (base seconds : ℕ) → said ≡ Some seconds → DrawsBy gives (said_or_drawn said base) source seconds source
  unfolding said_or_drawn
  taken_said source said base seconds is = rw is (taken_nothing gives source seconds)

  -- a word was taken for the time
  pub taken_by_word : (old new : Source) (said : Option ℕ) (base word : ℕ) → said ≡ None → 20 ≤ base → gives word old new → DrawsBy gives (said_or_drawn said base) old (base - 2 + word % 4) new
  taken_by_word old new said base word is long given =
      let about : ℕ → List ℕ → Drawn ℕ = λ drawn. undrawn (base - 2 + drawn % 4) in
      rw is (taken_same gives old new (drawn_then drawn_word about) (said_or_drawn None base) (base - 2 + word % 4) (λ words. about_long base words long)
      (taken_both gives old new new drawn_word about word (base - 2 + word % 4) (taken_word gives old new word given) (taken_nothing gives new (base - 2 + word % 4))))

  -- T1 is drawn, and T2 after it
  pub taken_times : (old between new : Source) (options : OptionMap) (lease_time : ℕ) (renewal rebinding : Option ℕ) (most t1 t2 : ℕ) →
      renewal ≡ said_by seconds_said options 58 → rebinding ≡ said_by seconds_said options 59 → most ≡ 7 * lease_time / 8 →
      DrawsBy gives (said_or_drawn renewal (lease_time / 2)) old t1 between →
      DrawsBy gives (said_or_drawn rebinding most) between t2 new →
      DrawsBy gives (times_of options lease_time) old (record { t1_sec = t1; t2_sec = t2; lease_time_sec = lease_time }) new
  unfolding times_of
  taken_times old between new options lease_time renewal rebinding most t1 t2 is_renewal is_rebinding is_most first second =
      let all : ℕ → ℕ → LeaseTimes = λ one two. record { t1_sec = one; t2_sec = two; lease_time_sec = lease_time } in
      let half : List ℕ → Drawn ℕ = said_or_drawn (said_by seconds_said options 58) (lease_time / 2) in
      let late : List ℕ → Drawn ℕ = said_or_drawn (said_by seconds_said options 59) (7 * lease_time / 8) in
      let t1_drawn : DrawsBy gives half old t1 between = subst (λ said. DrawsBy gives (said_or_drawn said (lease_time / 2)) old t1 between) is_renewal first in
      let t2_about : DrawsBy gives (said_or_drawn rebinding (7 * lease_time / 8)) between t2 new = subst (λ base. DrawsBy gives (said_or_drawn rebinding base) between t2 new) is_most second in
      let t2_drawn : DrawsBy gives late between t2 new = subst (λ said. DrawsBy gives (said_or_drawn said (7 * lease_time / 8)) between t2 new) is_rebinding t2_about in
      taken_both gives old between new half (λ one. drawn_then late (λ two. undrawn (all one two))) t1 (all t1 t2) t1_drawn
      (taken_both gives between new new late (λ two. undrawn (all t1 two)) t2 (all t1 t2) t2_drawn (taken_nothing gives new (all t1 t2)))

  -- the times of a message with a lease time, in order or not
  abbrev kept : Bool → LeaseTimes → Option LeaseTimes
  kept true times = Some times
  kept false times = None

  kept_is : (in_order : Bool) (times : LeaseTimes) → (if in_order then Some times else None) ≡ kept in_order times
  kept_is true times = refl
  kept_is false times = refl

  taken_ordered : (old new : Source) (options : OptionMap) (lease_time : ℕ) (times : LeaseTimes) (in_order : Bool) → Some lease_time ≡ said_by seconds_said options 51 →
      are_in_order times ≡ in_order → DrawsBy gives (times_of options lease_time) old times new → DrawsBy gives (read_times options) old (kept in_order times) new
  unfolding read_times
  taken_ordered old new options lease_time times in_order said order drawn =
      let keep : LeaseTimes → List ℕ → Drawn (Option LeaseTimes) = λ all. undrawn (if are_in_order all then Some all else None) in
      let is : (if are_in_order times then Some times else None) ≡ kept in_order times = ap (λ (b : Bool). if b then Some times else None) order ∙ kept_is in_order times in
      taken_same gives old new (drawn_then (times_of options lease_time) keep) (λ words. ordered_times options words (said_by seconds_said options 51)) (kept in_order times)
      (λ words. ap (λ (told : Option ℕ). ordered_times options words told) (sym said))
      (taken_both gives old new new (times_of options lease_time) keep times (kept in_order times) drawn
      (subst (λ (value : Option LeaseTimes). DrawsBy gives (keep times) new value new) is (taken_nothing gives new (if are_in_order times then Some times else None))))

  pub taken_some : (old new : Source) (options : OptionMap) (lease_time : ℕ) (times : LeaseTimes) → Some lease_time ≡ said_by seconds_said options 51 →
      are_in_order times ≡ true → DrawsBy gives (times_of options lease_time) old times new → DrawsBy gives (read_times options) old (Some times) new
  taken_some old new options lease_time times said order drawn = taken_ordered old new options lease_time times true said order drawn

  pub taken_unordered : (old new : Source) (options : OptionMap) (lease_time : ℕ) (times : LeaseTimes) → Some lease_time ≡ said_by seconds_said options 51 →
      are_in_order times ≡ false → DrawsBy gives (times_of options lease_time) old times new → DrawsBy gives (read_times options) old None new
  taken_unordered old new options lease_time times said order drawn = taken_ordered old new options lease_time times false said order drawn

  pub taken_none : (source : Source) (options : OptionMap) → None ≡ said_by seconds_said options 51 → DrawsBy gives (read_times options) source None source
  unfolding read_times
  taken_none source options said = rw (← said) (taken_nothing gives source None)

  -- the lease of a message whose times are drawn, or none
  reads_by : (old new : Source) (result : Result Lease ErrorParts) (message : DhcpV4Message) (drawn : Option LeaseTimes) → DrawsBy gives (read_times message.options) old drawn new →
      Gives (λ lease. lease) result (ok_or (option_map (lease_of message) drawn) InvalidDhcpMessage) → ReadsLeaseBy gives old result new message
  reads_by old new result message drawn read given =
      let granted : Option LeaseTimes → Option Lease = option_map (lease_of message) in
      (granted drawn, (taken_both gives old new new (read_times message.options) (λ times. undrawn (granted times)) drawn (granted drawn) read (taken_nothing gives new (granted drawn)), given))

  pub reads_lease_by : (old new : Source) (result : Result Lease ErrorParts) (message : DhcpV4Message) (drawn : Option LeaseTimes) (times : LeaseTimes) →
      drawn ≡ Some times → DrawsBy gives (read_times message.options) old drawn new → Makes (λ lease. lease) result (lease_of message times) → ReadsLeaseBy gives old result new message
  reads_lease_by old new result message drawn times is read made =
      reads_by old new result message (Some times) (subst (λ (value : Option LeaseTimes). DrawsBy gives (read_times message.options) old value new) is read) (makes_gives result (lease_of message times) made)

  pub reads_none_by : (old new : Source) (error : ErrorParts) (message : DhcpV4Message) (drawn : Option LeaseTimes) →
      drawn ≡ None → DrawsBy gives (read_times message.options) old drawn new → error.kind ≡ InvalidDhcpMessage → ReadsLeaseBy gives old (Err error) new message
  reads_none_by old new error message drawn is read kind =
      reads_by old new (Err error) message None (subst (λ (value : Option LeaseTimes). DrawsBy gives (read_times message.options) old value new) is read) (inr (ap Err (sym kind)))

-- What the statuses of a program say.
use Rattle.std.proofs.Common.{◌≡◌, ℕ, ◌<◌, ◌≤◌, true, false, List, length, length-append, Option, Some, None, Ok, Err, inl, inr, ◌⊎◌, refl, subst, sym, ap, ◌∙◌, arith}
use Rattle.std.specs.Io.KnownBytes.{Appends}
use Rattle.std.specs.Prelude.{IfSome, Result, if◌then◌else◌, nat_eq}
use Rattle.std.proofs.lemmas.Bool.{false≢true}
use Rattle.dhcp_wire.specs.Fault.{Rose}
use Rattle.dhcp_stream.specs.Whole.{HasReadTooMany, TakesFront, most_bytes}
use Rattle.dhcp_tool.specs.Ends.{EndsReading, EndsPrinting, EndsJob, Moved, Writes}
use Rattle.dhcp_tool.specs.Input.{HasRead, ReadsInput, AnswersSource}
use Rattle.dhcp_tool.specs.Job.{Job, Reads, Prints, is_reading, AnswersBytes, AnswersJob}
use Rattle.dhcp_tool.specs.Status.{status_number}
use Rattle.dhcp_tool.specs.Texts.{Texts, IsNoText, IsJudged, IsPrintedFor, IsAnsweredBy, AnswersText}
use Rattle.dhcp_tool.specs.declared.status.Status.{Status}
use Rattle.dhcp_tool.specs.declared.status.Status.TheVariants.{Done, WrongWords, NoScript, ReadFault, WriteFault, NoMemory, TooLong, Invalid}

-- why a run ends with this status, of these bytes, where the source has not failed
abbrev EndsBy : {S : Type 0} → Texts S → Status → List ℕ → Type 0
EndsBy texts status bytes =
    (status ≡ NoMemory)
    ⊎ ((status ≡ NoScript) × (length bytes ≤ most_bytes) × IsNoText texts bytes)
    ⊎ ((status ≡ Invalid) × (length bytes ≤ most_bytes) × IsJudged texts false bytes)
    ⊎ ((status ≡ TooLong) × (most_bytes < length bytes))

-- more bytes than the most can be read only where there are more
more_than_most : (bytes : List ℕ) (after : Option (List ℕ)) → HasReadTooMany (Some bytes) after → most_bytes < length bytes
more_than_most bytes None long = absurd long.2
more_than_most bytes (Some rest) long =
    let parts = ap (λ (text : List ℕ). length text) long.2 ∙ length-append long.0 rest in
    let many = long.1 in
    omega (arith, parts, many)

ends_by : {S : Type 0} (texts : Texts S) (status : Status) (bytes : List ℕ) (after : Option (List ℕ)) (faults faults_after : ℕ) →
    AnswersSource texts (Err status) (Some bytes) after faults faults_after → (Rose faults faults_after → ⊥) → EndsBy texts status bytes
ends_by texts NoMemory bytes after faults faults_after answers kept = inl refl
ends_by texts NoScript bytes after faults faults_after answers kept = inr (inl (refl, answers.0.0, answers.0.1))
ends_by texts Invalid bytes after faults faults_after answers kept = inr (inr (inl (refl, answers.0.0.0, answers.0.0.1)))
ends_by texts TooLong bytes after faults faults_after answers kept = inr (inr (inr (refl, more_than_most bytes after answers)))
ends_by texts ReadFault bytes after faults faults_after answers kept = absurd (kept answers.0)
ends_by texts Done bytes after faults faults_after answers kept = absurd answers
ends_by texts WrongWords bytes after faults faults_after answers kept = absurd answers
ends_by texts WriteFault bytes after faults faults_after answers kept = absurd answers

-- the text of no script is refused as such
by_no_text : {S : Type 0} (texts : Texts S) (status : Status) (bytes : List ℕ) → EndsBy texts status bytes → length bytes ≤ most_bytes → IsNoText texts bytes → (status_number status ≡ 5) ⊎ (status_number status ≡ 2)
by_no_text texts status bytes (inl is) short none = inl (ap status_number is)
by_no_text texts status bytes (inr (inl ends)) short none = inr (ap status_number ends.0)
by_no_text texts status bytes (inr (inr (inl ends))) short none = absurd (none ends.2.some.0 ends.2.some.1)
by_no_text texts status bytes (inr (inr (inr ends))) short none = absurd (omega (arith, ends.1))

-- that of a script that is not valid too
by_invalid : {S : Type 0} (texts : Texts S) (status : Status) (bytes : List ℕ) → EndsBy texts status bytes → length bytes ≤ most_bytes → IsJudged texts false bytes → (status_number status ≡ 5) ⊎ (status_number status ≡ 7)
by_invalid texts status bytes (inl is) short judged = inl (ap status_number is)
by_invalid texts status bytes (inr (inl ends)) short judged = absurd (ends.2 judged.some.0 judged.some.1)
by_invalid texts status bytes (inr (inr (inl ends))) short judged = inr (ap status_number ends.0)
by_invalid texts status bytes (inr (inr (inr ends))) short judged = absurd (omega (arith, ends.1))

-- and a text that is too long
by_length : {S : Type 0} (texts : Texts S) (status : Status) (bytes : List ℕ) → EndsBy texts status bytes → most_bytes < length bytes → (status_number status ≡ 5) ⊎ (status_number status ≡ 6)
by_length texts status bytes (inl is) long = inl (ap status_number is)
by_length texts status bytes (inr (inl ends)) long = absurd (omega (arith, ends.1))
by_length texts status bytes (inr (inr (inl ends))) long = absurd (omega (arith, ends.1))
by_length texts status bytes (inr (inr (inr ends))) long = inr (ap status_number ends.0)

-- where the source has not failed, each text that is refused is refused by its cause
pub refused_text : {S : Type 0} (texts : Texts S) (status : Status) (before after : Option (List ℕ)) (faults faults_after : ℕ) →
    AnswersSource texts (Err status) before after faults faults_after → (Rose faults faults_after → ⊥) →
    IfSome before (λ bytes. length bytes ≤ most_bytes → IsNoText texts bytes → (status_number status ≡ 5) ⊎ (status_number status ≡ 2))
refused_text texts status None after faults faults_after answers kept = tt
refused_text texts status (Some bytes) after faults faults_after answers kept = by_no_text texts status bytes (ends_by texts status bytes after faults faults_after answers kept)

pub refused_invalid : {S : Type 0} (texts : Texts S) (status : Status) (before after : Option (List ℕ)) (faults faults_after : ℕ) →
    AnswersSource texts (Err status) before after faults faults_after → (Rose faults faults_after → ⊥) →
    IfSome before (λ bytes. length bytes ≤ most_bytes → IsJudged texts false bytes → (status_number status ≡ 5) ⊎ (status_number status ≡ 7))
refused_invalid texts status None after faults faults_after answers kept = tt
refused_invalid texts status (Some bytes) after faults faults_after answers kept = by_invalid texts status bytes (ends_by texts status bytes after faults faults_after answers kept)

pub refused_length : {S : Type 0} (texts : Texts S) (status : Status) (before after : Option (List ℕ)) (faults faults_after : ℕ) →
    AnswersSource texts (Err status) before after faults faults_after → (Rose faults faults_after → ⊥) →
    IfSome before (λ bytes. most_bytes < length bytes → (status_number status ≡ 5) ⊎ (status_number status ≡ 6))
refused_length texts status None after faults faults_after answers kept = tt
refused_length texts status (Some bytes) after faults faults_after answers kept = by_length texts status bytes (ends_by texts status bytes after faults faults_after answers kept)

-- the status of a number
status_at : ℕ → Status
status_at n =
    if nat_eq n 0 then Done else if nat_eq n 1 then WrongWords else if nat_eq n 2 then NoScript else if nat_eq n 3 then ReadFault
    else if nat_eq n 4 then WriteFault else if nat_eq n 5 then NoMemory else if nat_eq n 6 then TooLong else Invalid

round : (status : Status) → status_at (status_number status) ≡ status
unfolding status_at
round Done = refl
round WrongWords = refl
round NoScript = refl
round ReadFault = refl
round WriteFault = refl
round NoMemory = refl
round TooLong = refl
round Invalid = refl

-- what is said of a status is said of the one with its number
at : (Says : Status → Type 0) (status wanted : Status) → Says status → status_number status ≡ status_number wanted → Says wanted
at Says status wanted says same = subst Says (sym (round status) ∙ ap (λ n. status_at n) same ∙ round wanted) says

-- a text that is answered is not refused by its status
complete_early : {S : Type 0} (texts : Texts S) (status : Status) (script : S) → EndsBy texts status (texts.text script) → texts.IsOne script → texts.is_valid script ≡ true → length (texts.text script) ≤ most_bytes → status_number status ≡ 5
complete_early texts status script (inl is) one valid short = ap status_number is
complete_early texts status script (inr (inl ends)) one valid short = absurd (ends.2 script (record { is_script = one; spells = refl }))
complete_early texts status script (inr (inr (inl ends))) one valid short =
    let invalid : texts.is_valid script ≡ false = ends.2.each script (record { is_script = one; spells = refl }) in
    absurd (false≢true (sym invalid ∙ valid))
complete_early texts status script (inr (inr (inr ends))) one valid short = absurd (omega (arith, ends.1))

-- a run that ends before it writes
ends_early_texts : {S : Type 0} (texts : Texts S) (status : Status) (moved : Moved) →
    AnswersSource texts (Err status) moved.left moved.left_after moved.faults moved.faults_after → EndsReading texts (status_number status) moved
ends_early_texts {S} texts status moved answers = record {
  complete = λ script one valid left short kept sink_kept. inl (complete_early texts status script
      (ends_by texts status (texts.text script) moved.left_after moved.faults moved.faults_after
      (subst (λ (before : Option (List ℕ)). AnswersSource texts (Err status) before moved.left_after moved.faults moved.faults_after) left answers) kept) one valid short);
  done = λ is. absurd (at Says status Done answers is);
  promises = λ is. absurd (at Says status Done answers is);
  no_script = λ is. at Says status NoScript answers is;
  read_fault = λ is. at Says status ReadFault answers is;
  write_fault = λ is. absurd (at Says status WriteFault answers is);
  front_written = λ is. absurd (at Says status WriteFault answers is);
  too_long = λ is. at Says status TooLong answers is;
  invalid = λ is. at Says status Invalid answers is;
  refuses = λ kept. refused_text texts status moved.left moved.left_after moved.faults moved.faults_after answers kept;
  refuses_invalid = λ kept. refused_invalid texts status moved.left moved.left_after moved.faults moved.faults_after answers kept;
  refuses_long = λ kept. refused_length texts status moved.left moved.left_after moved.faults moved.faults_after answers kept;
}
  where
    Says : Status → Type 0
    Says = λ s. AnswersSource texts (Err s) moved.left moved.left_after moved.faults moved.faults_after

ends_early_printing : (text : List ℕ) (status : Status) (moved : Moved) → status ≡ NoMemory → EndsPrinting text (status_number status) moved
ends_early_printing text status moved is =
    let five : status_number status ≡ 5 = ap status_number is in
    record {
      complete = λ kept. inl five;
      done = λ other. absurd (omega (arith, five, other));
      write_fault = λ other. absurd (omega (arith, five, other));
      front_written = λ other. absurd (omega (arith, five, other));
      no_other = inr (inr five);
    }

-- a run that ends before it writes
pub ends_early : {S : Type 0} (job : Job S) (status : Status) (moved : Moved) →
    AnswersJob job (Err status) moved.left moved.left_after moved.faults moved.faults_after → EndsJob job (status_number status) moved
ends_early (Reads texts) status moved answers = ends_early_texts texts status moved answers
ends_early (Prints text) status moved answers = ends_early_printing text status moved answers

both_if_some : {P Q : List ℕ → Type 0} → ((bytes : List ℕ) → P bytes → Q bytes) → (some : Option (List ℕ)) → IfSome some P → IfSome some Q
both_if_some f None holds = tt
both_if_some f (Some bytes) holds = f bytes holds

zero_or_four : {R : Type 0} (status : ℕ) → (status ≡ 0) ⊎ ((status ≡ 4) × R) → (status ≡ 0) ⊎ (status ≡ 4)
zero_or_four status (inl is) = inl is
zero_or_four status (inr is) = inr is.0

faulted : {R : Type 0} (status : ℕ) → (status ≡ 0) ⊎ ((status ≡ 4) × R) → status ≡ 4 → R
faulted status (inl is) four = absurd (omega (arith, is, four))
faulted status (inr is) four = is.1

neither : {R : Type 0} (status number : ℕ) → (status ≡ 0) ⊎ ((status ≡ 4) × R) → status ≡ number → (number ≡ 0 → ⊥) → (number ≡ 4 → ⊥) → ⊥
neither status number (inl is) same zero four = zero (sym same ∙ is)
neither status number (inr is) same zero four = four (sym same ∙ is.0)

-- a run that writes a text
ends_written_texts : {S : Type 0} (texts : Texts S) (text : List ℕ) (status : ℕ) (moved : Moved) →
    AnswersSource texts (Ok text) moved.left moved.left_after moved.faults moved.faults_after → Writes text status moved.taken moved.taken_after moved.sink_faults moved.sink_faults_after → EndsReading texts status moved
ends_written_texts {S} texts text status moved answers writes = record {
  complete = λ script one valid left short kept sink_kept. complete script one left sink_kept writes.either;
  done = λ is. answered (Appends moved.taken moved.taken_after) (writes.whole is);
  promises = λ is. both_if_some (λ bytes so. so.1.kept) moved.left answers.0;
  no_script = λ is. absurd (neither status 2 writes.either is (λ e. omega (arith, e)) (λ e. omega (arith, e)));
  read_fault = λ is. absurd (neither status 3 writes.either is (λ e. omega (arith, e)) (λ e. omega (arith, e)));
  write_fault = λ is. faulted status writes.either is;
  front_written = λ is. answered (TakesFront moved.taken moved.taken_after) (writes.front is);
  too_long = λ is. absurd (neither status 6 writes.either is (λ e. omega (arith, e)) (λ e. omega (arith, e)));
  invalid = λ is. absurd (neither status 7 writes.either is (λ e. omega (arith, e)) (λ e. omega (arith, e)));
  refuses = λ kept. both_if_some (λ bytes so short none. absurd (none so.1.valid.some.0 so.1.valid.some.1)) moved.left answers.0;
  refuses_invalid = λ kept. both_if_some (λ bytes so short judged. absurd (contrary bytes so.1.valid judged)) moved.left answers.0;
  refuses_long = λ kept. both_if_some (λ bytes so long. absurd (omega (arith, so.0, long))) moved.left answers.0;
}
  where
    contrary : (bytes : List ℕ) → IsJudged texts true bytes → IsJudged texts false bytes → ⊥
    contrary bytes valid invalid = false≢true (sym (invalid.each valid.some.0 valid.some.1) ∙ valid.each valid.some.0 valid.some.1)

    answered : (IsTaken : List ℕ → Type 0) → IsTaken text → HasRead moved.left moved.left_after (IsAnsweredBy texts IsTaken)
    answered IsTaken taken =
        (both_if_some (λ bytes so. (so.0, (so.1.valid.some.0, (so.1.valid.some.1, so.1.valid.each so.1.valid.some.0 so.1.valid.some.1, subst IsTaken (so.1.each so.1.valid.some.0 so.1.valid.some.1) taken)))) moved.left answers.0, answers.1)

    same_text : (script : S) → texts.IsOne script → moved.left ≡ Some (texts.text script) → text ≡ texts.printed script
    same_text script one left =
        let so = subst (λ (before : Option (List ℕ)). IfSome before (λ bytes. (length bytes ≤ most_bytes) × IsPrintedFor texts text bytes)) left answers.0 in
        so.1.each script (record { is_script = one; spells = refl })

    complete : (script : S) → texts.IsOne script → moved.left ≡ Some (texts.text script) → (Rose moved.sink_faults moved.sink_faults_after → ⊥) → (status ≡ 0) ⊎ ((status ≡ 4) × Rose moved.sink_faults moved.sink_faults_after) →
        (status ≡ 5) ⊎ ((status ≡ 0) × Appends moved.taken moved.taken_after (texts.printed script))
    complete script one left sink_kept (inl is) = inr (is, subst (Appends moved.taken moved.taken_after) (same_text script one left) (writes.whole is))
    complete script one left sink_kept (inr is) = absurd (sink_kept is.1)

ends_written_printing : (text : List ℕ) (status : ℕ) (moved : Moved) → Writes text status moved.taken moved.taken_after moved.sink_faults moved.sink_faults_after → EndsPrinting text status moved
ends_written_printing text status moved writes = record {
  complete = λ kept. complete kept writes.either;
  done = writes.whole;
  write_fault = λ is. faulted status writes.either is;
  front_written = writes.front;
  no_other = no_other writes.either;
}
  where
    complete : (Rose moved.sink_faults moved.sink_faults_after → ⊥) → (status ≡ 0) ⊎ ((status ≡ 4) × Rose moved.sink_faults moved.sink_faults_after) → (status ≡ 5) ⊎ (status ≡ 0)
    complete kept (inl is) = inr is
    complete kept (inr is) = absurd (kept is.1)

    no_other : (status ≡ 0) ⊎ ((status ≡ 4) × Rose moved.sink_faults moved.sink_faults_after) → (status ≡ 0) ⊎ (status ≡ 4) ⊎ (status ≡ 5)
    no_other (inl is) = inl is
    no_other (inr is) = inr (inl is.0)

-- a run that writes a text
pub ends_written : {S : Type 0} (job : Job S) (text : List ℕ) (status : ℕ) (moved : Moved) →
    AnswersJob job (Ok text) moved.left moved.left_after moved.faults moved.faults_after → Writes text status moved.taken moved.taken_after moved.sink_faults moved.sink_faults_after → EndsJob job status moved
ends_written (Reads texts) text status moved answers writes = ends_written_texts texts text status moved answers writes
ends_written (Prints printed) text status moved answers writes =
    ends_written_printing printed status moved (subst (λ (t : List ℕ). Writes t status moved.taken moved.taken_after moved.sink_faults moved.sink_faults_after) answers writes)

-- a run that was asked for does not say that it was not
pub is_asked : {S : Type 0} (job : Job S) (status : Status) (before after : Option (List ℕ)) (faults faults_after : ℕ) → AnswersJob job (Err status) before after faults faults_after → status_number status ≡ 1 → ⊥
is_asked (Reads texts) status before after faults faults_after answers is = at (λ s. AnswersSource texts (Err s) before after faults faults_after) status WrongWords answers is
is_asked (Prints text) status before after faults faults_after answers is = let five : status_number status ≡ 5 = ap status_number answers in omega (arith, five, is)

-- what is made of the bytes that a source held, is made of the source
pub of_input : {S : Type 0} (job : Job S) (result : Result (List ℕ) Status) (bytes : List ℕ) (before after : Option (List ℕ)) (faults faults_after : ℕ) →
    ReadsInput (Ok bytes) before after faults faults_after → AnswersBytes job result bytes → AnswersJob job result before after faults faults_after
of_input (Prints text) result bytes before after faults faults_after input answers = answers
of_input (Reads texts) result bytes before after faults faults_after input answers = go result answers
  where
    read : (AreSo : List ℕ → Type 0) → AreSo bytes → HasRead before after AreSo
    read AreSo so = (both_if_some (λ left is. subst (λ (b : List ℕ). (length b ≤ most_bytes) × AreSo b) (sym is) (input.1, so)) before input.0, input.2)

    go : (answer : Result (List ℕ) Status) → AnswersText texts answer bytes → AnswersSource texts answer before after faults faults_after
    go (Ok text) so = read (IsPrintedFor texts text) so
    go (Err NoScript) so = read (IsNoText texts) so
    go (Err Invalid) so = (read (IsJudged texts false) so, (so.some.0, so.each so.some.0 so.some.1))
    go (Err NoMemory) so = tt
    go (Err Done) so = absurd so
    go (Err WrongWords) so = absurd so
    go (Err ReadFault) so = absurd so
    go (Err WriteFault) so = absurd so
    go (Err TooLong) so = absurd so

-- a source that could not be read is answered by its status, where it is to be read
pub of_no_input : {S : Type 0} (job : Job S) (status : Status) (before after : Option (List ℕ)) (faults faults_after : ℕ) →
    ReadsInput (Err status) before after faults faults_after → is_reading job ≡ true → AnswersJob job (Err status) before after faults faults_after
of_no_input (Prints text) status before after faults faults_after input reads = absurd (false≢true reads)
of_no_input (Reads texts) status before after faults faults_after input reads = go status input
  where
    go : (s : Status) → ReadsInput (Err s) before after faults faults_after → AnswersSource texts (Err s) before after faults faults_after
    go ReadFault so = so
    go TooLong so = so
    go NoMemory so = tt
    go Done so = absurd so
    go WrongWords so = absurd so
    go NoScript so = absurd so
    go WriteFault so = absurd so
    go Invalid so = absurd so

-- where no source is read, what is made of no bytes is the answer
pub of_nothing : {S : Type 0} (job : Job S) (result : Result (List ℕ) Status) (bytes : List ℕ) (before after : Option (List ℕ)) (faults faults_after : ℕ) →
    AnswersBytes job result bytes → is_reading job ≡ false → AnswersJob job result before after faults faults_after
of_nothing (Prints text) result bytes before after faults faults_after answers reads = answers
of_nothing (Reads texts) result bytes before after faults faults_after answers reads = absurd (false≢true (sym reads))

-- what carrying a request out comes to
pub ruleset carried_out = (ends_early, ends_written, is_asked)

-- what answering a source, or none, comes to
pub ruleset answered = (of_input, of_no_input, of_nothing)

-- What a program reads from its source, and what it makes of it.
use Rattle.std.specs.Prelude.{◌≡◌, ℕ, ◌≤◌, false, List, length, Option, IfSome, Result, Ok, Err}
use Rattle.std.specs.Io.KnownBytes.{IsAtEnd}
use Rattle.dhcp_wire.specs.Fault.{Rose}
use Rattle.dhcp_stream.specs.Whole.{HasGone, HasReadTooMany, most_bytes}
use Rattle.dhcp_tool.specs.Texts.{Texts, IsNoText, IsJudged, IsPrintedFor, HasInvalid}
use Rattle.dhcp_tool.specs.declared.status.Status.{Status}
use Rattle.dhcp_tool.specs.declared.status.Status.TheVariants.{Done, WrongWords, NoScript, ReadFault, WriteFault, NoMemory, TooLong, Invalid}

-- The source was read to its end, where its bytes are known: there were at most as many as are
-- read, and they are so.
abbrev pub HasRead : Option (List ℕ) → Option (List ℕ) → (List ℕ → Type 0) → Type 0
HasRead before after AreSo =
    IfSome before (λ bytes. (length bytes ≤ most_bytes) × AreSo bytes) × IsAtEnd after

-- what a program reads from a source, from the bytes left before and after and from the counts of
-- faults
abbrev pub ReadsInput : Result (List ℕ) Status →
    Option (List ℕ) → Option (List ℕ) → ℕ → ℕ → Type 0
ReadsInput (Ok bytes) before after faults faults_after =
    IfSome before (λ left. left ≡ bytes) × (length bytes ≤ most_bytes) × IsAtEnd after
ReadsInput (Err ReadFault) before after faults faults_after =
    Rose faults faults_after × HasGone most_bytes before after
ReadsInput (Err TooLong) before after faults faults_after = HasReadTooMany before after
ReadsInput (Err NoMemory) before after faults faults_after = Unit {0}
ReadsInput (Err Done) before after faults faults_after = ⊥
ReadsInput (Err WrongWords) before after faults faults_after = ⊥
ReadsInput (Err NoScript) before after faults faults_after = ⊥
ReadsInput (Err WriteFault) before after faults faults_after = ⊥
ReadsInput (Err Invalid) before after faults faults_after = ⊥

-- what it makes of a source, from the bytes left before and after and from the counts of faults
abbrev pub AnswersSource : {S : Type 0} → Texts S → Result (List ℕ) Status →
    Option (List ℕ) → Option (List ℕ) → ℕ → ℕ → Type 0
AnswersSource texts (Ok text) before after faults faults_after =
    HasRead before after (IsPrintedFor texts text)
AnswersSource texts (Err NoScript) before after faults faults_after =
    HasRead before after (IsNoText texts)
AnswersSource texts (Err Invalid) before after faults faults_after =
    HasRead before after (IsJudged texts false) × HasInvalid texts
AnswersSource texts (Err ReadFault) before after faults faults_after =
    Rose faults faults_after × HasGone most_bytes before after
AnswersSource texts (Err TooLong) before after faults faults_after = HasReadTooMany before after
AnswersSource texts (Err NoMemory) before after faults faults_after = Unit {0}
AnswersSource texts (Err Done) before after faults faults_after = ⊥
AnswersSource texts (Err WrongWords) before after faults faults_after = ⊥
AnswersSource texts (Err WriteFault) before after faults faults_after = ⊥

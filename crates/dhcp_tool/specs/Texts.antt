-- Texts, over a type of scripts: which scripts there are, how they are written, and what is printed
-- for each.
use Rattle.std.specs.Prelude.{◌≡◌, ℕ, Bool, true, false, List, Result, Ok, Err}
use Rattle.dhcp_tool.specs.declared.status.Status.{Status}
use Rattle.dhcp_tool.specs.declared.status.Status.TheVariants.{Done, WrongWords, NoScript, ReadFault, WriteFault, NoMemory, TooLong, Invalid}

-- how the scripts of a program are written: their text, which values are scripts, which of them are
-- valid, and for a valid one what is printed and what is promised of its client
pub record Texts (S : Type 0) : Type 1 where
  pub text : S → List ℕ
  pub IsOne : S → Type 0
  pub is_valid : S → Bool
  pub printed : S → List ℕ
  pub IsKept : S → Type 0

-- the bytes are the text of this script
pub record IsTextOf {S : Type 0} (texts : Texts S) (script : S) (bytes : List ℕ) : Type 0 where
  pub is_script : texts.IsOne script
  pub spells : texts.text script ≡ bytes

-- the bytes are the text of no script
abbrev pub IsNoText : {S : Type 0} → Texts S → List ℕ → Type 0
IsNoText texts bytes = (script : _) → ¬ (IsTextOf texts script bytes)

-- there is a script that is not valid; where there is none, no run ends with status 7
abbrev pub HasInvalid : {S : Type 0} → Texts S → Type 0
HasInvalid {S} texts = (script : S) × (texts.is_valid script ≡ false)

-- the bytes are the text of a script, and each script whose text they are is valid, or is not
pub record IsJudged {S : Type 0} (texts : Texts S) (valid : Bool) (bytes : List ℕ) : Type 0 where
  pub some : (script : S) × IsTextOf texts script bytes
  pub each : (script : S) → IsTextOf texts script bytes → texts.is_valid script ≡ valid

-- what is promised of each script whose text the bytes are is kept
abbrev pub AreKept : {S : Type 0} → Texts S → List ℕ → Type 0
AreKept texts bytes = (script : _) → IsTextOf texts script bytes → texts.IsKept script

-- the bytes are the text of a valid script, this is printed for each script whose text they are,
-- and what is promised of it is kept
pub record IsPrintedFor {S : Type 0} (texts : Texts S) (text bytes : List ℕ) : Type 0 where
  pub valid : IsJudged texts true bytes
  pub each : (script : S) → IsTextOf texts script bytes → text ≡ texts.printed script
  pub kept : AreKept texts bytes

-- the bytes are the text of a valid script, and so much of what is printed for it was taken
abbrev pub IsAnsweredBy : {S : Type 0} → Texts S → (List ℕ → Type 0) → List ℕ → Type 0
IsAnsweredBy texts IsTaken bytes =
    (script : _) × (IsTextOf texts script bytes × (texts.is_valid script ≡ true)
    × IsTaken (texts.printed script))

-- what a program makes of the bytes that it has read: the text to print, or the status
abbrev pub AnswersText : {S : Type 0} → Texts S → Result (List ℕ) Status → List ℕ → Type 0
AnswersText texts (Ok text) bytes = IsPrintedFor texts text bytes
AnswersText texts (Err NoScript) bytes = IsNoText texts bytes
AnswersText texts (Err Invalid) bytes = IsJudged texts false bytes
AnswersText texts (Err NoMemory) bytes = Unit {0}
AnswersText texts (Err Done) bytes = ⊥
AnswersText texts (Err WrongWords) bytes = ⊥
AnswersText texts (Err ReadFault) bytes = ⊥
AnswersText texts (Err WriteFault) bytes = ⊥
AnswersText texts (Err TooLong) bytes = ⊥

-- what it makes of the script whose text they are: the same
abbrev pub AnswersScript : {S : Type 0} → Texts S → Result (List ℕ) Status → S → Type 0
AnswersScript texts (Ok text) script =
    (texts.is_valid script ≡ true) × (text ≡ texts.printed script) × texts.IsKept script
AnswersScript texts (Err Invalid) script = texts.is_valid script ≡ false
AnswersScript texts (Err NoMemory) script = Unit {0}
AnswersScript texts (Err Done) script = ⊥
AnswersScript texts (Err WrongWords) script = ⊥
AnswersScript texts (Err NoScript) script = ⊥
AnswersScript texts (Err ReadFault) script = ⊥
AnswersScript texts (Err WriteFault) script = ⊥
AnswersScript texts (Err TooLong) script = ⊥

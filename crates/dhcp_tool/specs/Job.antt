-- What a request of a program is: that scripts are read and answered, or that a text is printed.
use Rattle.std.specs.Prelude.{◌≡◌, ℕ, Bool, true, false, List, Option, Result, Ok, Err}
use Rattle.dhcp_tool.specs.Input.{AnswersSource}
use Rattle.dhcp_tool.specs.Texts.{Texts, AnswersText}
use Rattle.dhcp_tool.specs.declared.status.Status.{Status}
use Rattle.dhcp_tool.specs.declared.status.Status.TheVariants.{NoMemory}

-- scripts of these texts are read, and what is printed for them is; or this text is printed, and
-- nothing is read
pub data Job (S : Type 0) : Type 1 where
  Reads : Texts S → Job S
  Prints : List ℕ → Job S

-- whether a source is read
abbrev pub is_reading : {S : Type 0} → Job S → Bool
is_reading (Reads texts) = true
is_reading (Prints text) = false

-- what is made of a text that is printed, where nothing is read: the text, or out of memory
abbrev pub AnswersPrinting : List ℕ → Result (List ℕ) Status → Type 0
AnswersPrinting text (Ok made) = made ≡ text
AnswersPrinting text (Err status) = status ≡ NoMemory

-- what is made of the bytes that were read, if any are
abbrev pub AnswersBytes : {S : Type 0} → Job S → Result (List ℕ) Status → List ℕ → Type 0
AnswersBytes (Reads texts) result bytes = AnswersText texts result bytes
AnswersBytes (Prints text) result bytes = AnswersPrinting text result

-- what is made of a source, if it is read, from the bytes left before and after and from the counts
-- of faults
abbrev pub AnswersJob : {S : Type 0} → Job S → Result (List ℕ) Status →
    Option (List ℕ) → Option (List ℕ) → ℕ → ℕ → Type 0
AnswersJob (Reads texts) result before after faults faults_after =
    AnswersSource texts result before after faults faults_after
AnswersJob (Prints text) result before after faults faults_after = AnswersPrinting text result

-- What a program answers to the text of a script.
use Rattle.std.proofs.Common.{◌≡◌, ℕ, Bool, true, false, List, Option, Some, Ok, Err, subst, sym, ap, ◌∙◌}
use Rattle.std.specs.Prelude.{Result}
use Rattle.dhcp_stream.specs.Reading.{IsReading}
use Rattle.dhcp_tool.specs.Texts.{Texts, IsTextOf, IsJudged, AnswersScript, AnswersText}
use Rattle.dhcp_tool.specs.declared.status.Status.{Status}
use Rattle.dhcp_tool.specs.declared.status.Status.TheVariants.{Done, WrongWords, NoScript, ReadFault, WriteFault, NoMemory, TooLong, Invalid}

-- what is said of the script that was read, is said of each script whose text the bytes are
pub answers_text : {S : Type 0} (texts : Texts S) (found : Option S) (script : S) (bytes : List ℕ) (result : Result (List ℕ) Status) → found ≡ Some script → IsReading texts.text texts.IsOne found bytes →
    ((other : S) → texts.IsOne other → texts.text other ≡ bytes → found ≡ Some other) → AnswersScript texts result script → AnswersText texts result bytes
answers_text {S} texts found script bytes result is reading one = go result
  where
    reads : IsReading texts.text texts.IsOne (Some script) bytes
    reads = subst (λ (f : Option S). IsReading texts.text texts.IsOne f bytes) is reading

    some : (s : S) × IsTextOf texts s bytes
    some = (script, record { is_script = reads.1; spells = reads.0 })

    inner : (a b : S) → Some a ≡ Some b → a ≡ b
    inner a b e = cc

    same : (other : S) → IsTextOf texts other bytes → script ≡ other
    same other text = inner script other (sym is ∙ one other text.is_script text.spells)

    judged : (valid : Bool) → texts.is_valid script ≡ valid → IsJudged texts valid bytes
    judged valid holds = record { some = some; each = λ other text. subst (λ (s : S). texts.is_valid s ≡ valid) (same other text) holds }

    go : (answer : Result (List ℕ) Status) → AnswersScript texts answer script → AnswersText texts answer bytes
    go (Ok text) answers = record {
      valid = judged true answers.0;
      each = λ other is_text. answers.1 ∙ ap (λ (s : S). texts.printed s) (same other is_text);
      kept = λ other is_text. subst (λ (s : S). texts.IsKept s) (same other is_text) answers.2;
    }
    go (Err Invalid) answers = judged false answers
    go (Err NoMemory) answers = tt
    go (Err NoScript) answers = absurd answers
    go (Err Done) answers = absurd answers
    go (Err WrongWords) answers = absurd answers
    go (Err ReadFault) answers = absurd answers
    go (Err WriteFault) answers = absurd answers
    go (Err TooLong) answers = absurd answers

-- What the program answers.
use Rattle.std.proofs.Common.{◌≡◌, ℕ, ◌⊎◌, inl, inr, Bool, true, false, List, [], ◌∷◌, ◌++◌, Option, Some, None, Ok, Err, refl, subst, sym, ap, ◌∙◌}
use Rattle.std.specs.Prelude.{Result, is_ok}
use Rattle.std.specs.Result.{result_unwrap_or}
use Rattle.hex.specs.Hex.{IsBytes}
use Rattle.dhcp_stream.specs.HexText.{hex_text}
use Rattle.dhcp_stream.specs.Reading.{IsReading}
use Rattle.dhcp_stream.proofs.HexTextLemmas.{hex_text-unique}
use Rattle.dhcp_tool.specs.Ends.{EndsReading, Moved}
use Rattle.dhcp_tool.specs.Job.{AnswersPrinting}
use Rattle.dhcp_tool.specs.Texts.{AnswersText, IsJudged, IsTextOf}
use Rattle.dhcp_tool.specs.declared.status.Status.{Status}
use Rattle.dhcp_tool.specs.declared.status.Status.TheVariants.{Done, WrongWords, NoScript, ReadFault, WriteFault, NoMemory, TooLong, Invalid}
use Rattle.dhcp6_relay.specs.Request.{AsksFor, IsRequestIn}
use Rattle.dhcp6_relay.specs.Tool.{AnswersMessage, hex_line, messages, result_for, status_of}
use Rattle.dhcp6_relay.specs.declared.error.RelayError.{RelayError}
use Rattle.dhcp6_relay.specs.declared.error.RelayError.TheVariants as errors
use Rattle.dhcp6_relay.specs.declared.request.Request.{Request}
use Rattle.dhcp6_relay.proofs.RequestLemmas.{one_request}

-- a text without its line feed
before_end : List ℕ → List ℕ
before_end [] = []
before_end (byte ∷ []) = []
before_end (byte ∷ next ∷ bytes) = byte ∷ before_end (next ∷ bytes)

before_end-line : (field : List ℕ) (end : ℕ) → before_end (field ++ end ∷ []) ≡ field
unfolding before_end
before_end-line [] end = refl
before_end-line (byte ∷ []) end = refl
before_end-line (byte ∷ next ∷ field) end = ap (λ bytes. byte ∷ bytes) (before_end-line (next ∷ field) end)

-- lines that are the same have the same text
same_text : (a b : List ℕ) (end : ℕ) → a ++ end ∷ [] ≡ b ++ end ∷ [] → a ≡ b
same_text a b end same = sym (before_end-line a end) ∙ ap before_end same ∙ before_end-line b end

-- a line of hex is read from its text
pub line-read : (found : Option (List ℕ)) (field text : List ℕ) → text ≡ field ++ 10 ∷ [] → IsReading hex_text IsBytes found field → IsReading hex_line IsBytes found text
line-read (Some bytes) field text is reads = (ap (λ field. field ++ 10 ∷ []) reads.0 ∙ sym is, reads.1)
line-read None field text is none = λ bytes are same. none bytes are (same_text (hex_text bytes) field 10 (same ∙ is))

-- lists of bytes with one line are one
line-unique : (xs ys : List ℕ) → IsBytes xs → IsBytes ys → hex_line xs ≡ hex_line ys → xs ≡ ys
line-unique xs ys are also same = hex_text-unique xs ys are also (same_text (hex_text xs) (hex_text ys) 10 same)

-- what is said of the message that was read, is said of each message whose line the text is
pub answers_line : (request : Request) (message text : List ℕ) (result : Result (List ℕ) Status) → hex_line message ≡ text → IsBytes message → AnswersMessage request result message → AnswersText (messages request) result text
answers_line request message text result spells are answers = go result answers
  where
    some : (other : List ℕ) × IsTextOf (messages request) other text
    some = (message, record { is_script = are; spells = spells })

    same : (other : List ℕ) → IsTextOf (messages request) other text → message ≡ other
    same other is = line-unique message other are is.is_script (spells ∙ sym is.spells)

    judged : (valid : Bool) → is_ok (result_for request message) ≡ valid → IsJudged (messages request) valid text
    judged valid holds = record { some = some; each = λ other is. subst (λ (m : List ℕ). is_ok (result_for request m) ≡ valid) (same other is) holds }

    go : (answer : Result (List ℕ) Status) → AnswersMessage request answer message → AnswersText (messages request) answer text
    go (Ok printed) answers = record {
      valid = judged true answers.0;
      each = λ other is. answers.1 ∙ ap (λ (m : List ℕ). hex_line (result_unwrap_or (result_for request m) [])) (same other is);
      kept = λ other is. tt;
    }
    go (Err Invalid) answers = judged false answers
    go (Err NoMemory) answers = tt
    go (Err NoScript) answers = absurd answers
    go (Err Done) answers = absurd answers
    go (Err WrongWords) answers = absurd answers
    go (Err ReadFault) answers = absurd answers
    go (Err WriteFault) answers = absurd answers
    go (Err TooLong) answers = absurd answers

-- what is made of a message is printed
pub answers_made : (request : Request) (message bytes : List ℕ) (result : Result (List ℕ) Status) → result_for request message ≡ Ok bytes → AnswersPrinting (hex_line bytes) result → AnswersMessage request result message
answers_made request message bytes (Ok text) made prints =
    (ap is_ok made, prints ∙ ap (λ (r : Result (List ℕ) RelayError). hex_line (result_unwrap_or r [])) (sym made))
answers_made request message bytes (Err status) made prints = subst (λ (s : Status). AnswersMessage request (Err s) message) (sym prints) tt

-- a message that is refused
pub answers_refused : (request : Request) (message : List ℕ) (e : RelayError) → (e ≡ errors.OutOfMemory) ⊎ (result_for request message ≡ Err e) → AnswersMessage request (Err (status_of e)) message
answers_refused request message errors.OutOfMemory refused = tt
answers_refused request message errors.NotRelay (inl is) = cc is
answers_refused request message errors.NotRelay (inr is) = ap is_ok is
answers_refused request message errors.Short (inl is) = cc is
answers_refused request message errors.Short (inr is) = ap is_ok is
answers_refused request message errors.NoMessage (inl is) = cc is
answers_refused request message errors.NoMessage (inr is) = ap is_ok is
answers_refused request message errors.TooManyHops (inl is) = cc is
answers_refused request message errors.TooManyHops (inr is) = ap is_ok is
answers_refused request message errors.TooLong (inl is) = cc is
answers_refused request message errors.TooLong (inr is) = ap is_ok is

-- the message that was read is the only one whose line the text is
pub answers_read : (request : Request) (found : Option (List ℕ)) (message slice text : List ℕ) (result : Result (List ℕ) Status) → found ≡ Some message → IsReading hex_line IsBytes found text
    → slice ≡ message → AnswersMessage request result slice → AnswersText (messages request) result text
answers_read request found message slice text result is reading same answers =
    let reads : IsReading hex_line IsBytes (Some message) text = subst (λ (f : Option (List ℕ)). IsReading hex_line IsBytes f text) is reading in
    answers_line request message text result reads.0 reads.1 (subst (λ (m : List ℕ). AnswersMessage request result m) same answers)

-- what is said of the request that was found, is said of each that the words ask for
pub ends_for : (words : List (List ℕ)) (found : Option Request) (request other : Request) (status number : ℕ) (moved : Moved) → found ≡ Some request → IsRequestIn found words → AsksFor words other
    → number ≡ status → EndsReading (messages request) status moved → EndsReading (messages other) number moved
ends_for words found request other status number moved is finds asks same ends =
    let asked : IsRequestIn (Some request) words = subst (λ (f : Option Request). IsRequestIn f words) is finds in
    subst (λ (r : Request). EndsReading (messages r) number moved) (one_request words request other asked asks)
    (subst (λ (n : ℕ). EndsReading (messages request) n moved) (sym same) ends)

-- A line that is heard in pieces has its line feed at the end alone.
use Rattle.std.proofs.Common.{◌≡◌, ◌≢◌, ℕ, suc, ◌+◌, ◌-◌, ◌≤◌, length, take, drop, arith, length-append, eqb, Bool, true, false, cond, List, [], ◌∷◌, ◌++◌, Option, Some, None, option_map, refl, sym, subst, ap, ◌∙◌, append_assoc}
use Rattle.std.specs.Prelude.{OnOk, Result, Ok, Err}
use Rattle.std.proofs.lemmas.Bool.{eq-eqb, false≢true}
use Rattle.std.proofs.Math.Seq.{drop-append-add, take-append-add}
use Rattle.std.proofs.lemmas.Int.{clamps}
use Rattle.std.proofs.lemmas.List.{drop-drop, drop-take, length-take, length-take-le}
use Rattle.std.proofs.lemmas.List.Elements.{All-append, All-cons, All-nil}
use Rattle.dhcp_stream.specs.Line.{line}
use Rattle.dhcp_stream.specs.TextReader.{field_at}
use Rattle.dhcp_stream.proofs.CodecLaws.{HasNo, field_at-complete, field_at-sound}
use Rattle.dhcp_dialogue.specs.Dialogue.{IsLine}
use Rattle.dhcp_dialogue.specs.Standard.{MovesLine}

-- what is no field has no such byte
none-clear : (end : ℕ) (text : List ℕ) → field_at end text ≡ None → HasNo end text
unfolding field_at
none-clear end [] h = All-nil (λ byte. byte ≢ end)
none-clear end (byte ∷ text) h = by_test (λ e. none-clear end text e) (eqb byte end) refl h
  where
    longer : List ℕ × List ℕ → List ℕ × List ℕ
    longer read = (byte ∷ read.0, read.1)

    at_front : Option (List ℕ × List ℕ)
    at_front = Some ([], text)

    unmapped : (read : Option (List ℕ × List ℕ)) → option_map longer read ≡ None → read ≡ None
    unmapped None e = refl
    unmapped (Some found) e = cc e

    by_test : (field_at end text ≡ None → HasNo end text) → (same : Bool) → eqb byte end ≡ same → cond same at_front (option_map longer (field_at end text)) ≡ None → HasNo end (byte ∷ text)
    by_test rest true same e = cc e
    by_test rest false same e = All-cons (λ byte. byte ≢ end) byte text (λ equal. false≢true (sym same ∙ eq-eqb byte end equal)) (rest (unmapped (field_at end text) e))

-- a piece without a line feed is added to a line that has none yet
pub line-goes-on : (ahead ahead' text text' : List ℕ) → HasNo 10 text → MovesLine false ahead ahead' text text' → HasNo 10 text'
line-goes-on ahead ahead' text text' clear moves =
    subst (HasNo 10) (sym moves.1.0) (All-append (λ byte. byte ≢ 10) text ahead clear (none-clear 10 ahead moves.0))

-- a piece with a line feed ends it
pub line-ends : (ahead ahead' text text' : List ℕ) → HasNo 10 text → MovesLine true ahead ahead' text text' → IsLine text'
line-ends ahead ahead' text text' clear moves =
    let before = moves.0 in
    let parts = field_at-sound 10 ahead before ahead' moves.1.0 in
    let whole = All-append (λ byte. byte ≢ 10) text before clear parts.1 in
    (text ++ before, ap (field_at 10) (moves.1.1 ∙ sym (append_assoc text before (10 ∷ []))) ∙ field_at-complete 10 (text ++ before) [] whole)

-- a text that is taken from the front of another has at most so many bytes
take-within : (n : ℕ) (text : List ℕ) → length (take n text) ≤ n
take-within n text = let count = length-take n text in omega (arith, clamps)

-- A piece whose first line feed is found: the bytes before it and it are that many bytes of the
-- piece, and the rest are those behind them.
module _ (start end : ℕ) (items before rest : List ℕ) (found : field_at 10 (take (end - start) (drop start items)) ≡ Some (before, rest)) where
  parts : take (end - start) (drop start items) ≡ before ++ 10 ∷ rest
  parts = (field_at-sound 10 (take (end - start) (drop start items)) before rest found).0

  count : length (take (end - start) (drop start items)) ≡ length before + suc (length rest)
  count = ap (λ (text : List ℕ). length text) parts ∙ length-append before (10 ∷ rest)

  pub field-fits : length before + 1 ≤ end - start
  field-fits = let small = take-within (end - start) (drop start items) in omega (arith, count)

  pub field-length : length before + 1 ≡ length (take (length before + 1) (take (end - start) (drop start items)))
  field-length = sym (length-take-le (length before + 1) (take (end - start) (drop start items)) (omega (arith, count)))

  front : take (length before + 1) (take (end - start) (drop start items)) ≡ line before
  front = ap (take (length before + 1)) parts ∙ take-append-add before (10 ∷ rest) 1

  pub field-rest : start ≤ end → rest ≡ take (end - (start + (length before + 1))) (drop (start + (length before + 1)) items)
  field-rest ordered =
      let n = length before + 1 in
      let m = end - (start + (length before + 1)) in
      let small = field-fits in
      let split : end - start ≡ (length before + 1) + (end - (start + (length before + 1))) = omega (arith, small, ordered) in
      sym (drop-append-add before (10 ∷ rest) 1) ∙ ap (drop (length before + 1)) (sym parts)
      ∙ ap (λ (k : ℕ). drop (length before + 1) (take k (drop start items))) split
      ∙ drop-take (length before + 1) (end - (start + (length before + 1))) (drop start items)
      ∙ ap (take (end - (start + (length before + 1)))) (drop-drop (length before + 1) start items)

  pub field-moves : start ≤ end → (text text' : List ℕ) → text' ≡ text ++ take (length before + 1) (take (end - start) (drop start items)) →
      MovesLine true (take (end - start) (drop start items)) (take (end - (start + (length before + 1))) (drop (start + (length before + 1)) items)) text text'
  field-moves ordered text text' pushed =
      (before, (found ∙ ap (λ (left : List ℕ). Some (before, left)) (field-rest ordered), pushed ∙ ap (λ (more : List ℕ). text ++ more) front))

-- what is known whatever a result is
pub on_ok : {A E : Type 0} {Known : Type 0} (result : Result A E) → Known → OnOk result Known
on_ok (Ok x) known = known
on_ok (Err e) known = tt

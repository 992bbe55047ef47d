-- The outputs, a packet that was no answer, the next moment, and what follows it.
use Rattle.std.proofs.Common.{◌≡◌, ℕ, Bool, List, [], ◌∷◌, ◌++◌, Option, sym, ap, ◌∙◌, append_assoc, codes}
use Rattle.std.specs.Prelude.{map}
use Rattle.std.specs.Fmt.{decimal}
use Rattle.std.specs.List.{flat_map}
use Rattle.dhcp_stream.specs.Line.{line}
use Rattle.dhcp_output.specs.Output.{output_line, plain_output}
use Rattle.dhcp_output.specs.declared.output.Output.{Output}
use Rattle.dhcp_script.proofs.PrintLemmas.{pushed4}
use Rattle.dhcp_live.specs.Answer.{answer_text, dropped_text, listening_text, moment_text}
use Rattle.dhcp_live.specs.declared.dropped.Dropped.{Dropped}
use Rattle.dhcp_live.proofs.answer.push_answer.Goals as goal

pieces : (outputs dropped moment listening left : List ℕ) → outputs ++ dropped ++ line (codes "next" ++ 32 ∷ (moment ++ 32 ∷ (listening ++ 32 ∷ left))) ≡ outputs ++ dropped ++ (codes "next " ++ moment) ++ (32 ∷ (listening ++ 32 ∷ (left ++ 10 ∷ [])))
pieces outputs dropped moment listening left = simp append_assoc

answered : (outs items : List Output) (dropped : Option Dropped) (next : Option ℕ) (listening : Bool) (word : List ℕ) (left : ℕ) → items ≡ outs → word ≡ listening_text listening →
    answer_text (map plain_output outs) dropped next listening left ≡ flat_map output_line (map plain_output items) ++ dropped_text dropped ++ (codes "next " ++ moment_text next) ++ (32 ∷ (word ++ 32 ∷ (decimal left ++ 10 ∷ [])))
unfolding answer_text
answered outs items dropped next listening word left items_are word_is =
    ap (λ (all : List Output). answer_text (map plain_output all) dropped next listening left) (sym items_are)
    ∙ pieces (flat_map output_line (map plain_output items)) (dropped_text dropped) (moment_text next) (listening_text listening) (decimal left)
    ∙ ap (λ (text : List ℕ). flat_map output_line (map plain_output items) ++ dropped_text dropped ++ (codes "next " ++ moment_text next) ++ (32 ∷ (text ++ 32 ∷ (decimal left ++ 10 ∷ [])))) (sym word_is)

pub returns : goal.returns
returns c =
    let answer = c.args.answer.now in
    let word = c.listening_word-listening.result.now in
    pushed4 c.write.result _ _ _ _ _ (flat_map output_line (map plain_output c.as_slice.result.now)) (dropped_text answer.dropped) (codes "next " ++ moment_text answer.next) (32 ∷ (word ++ 32 ∷ (decimal answer.words_left ++ 10 ∷ [])))
    (answer_text (map plain_output answer.outputs) answer.dropped answer.next answer.is_listening answer.words_left)
    c.write.ensures.bytes c.in_ok-push_next.ensures c.in_ok-push_dropped.ensures c.in_ok-push_outputs.ensures
    (answered answer.outputs c.as_slice.result.now answer.dropped answer.next answer.is_listening word answer.words_left c.as_slice.ensures c.listening_word-listening.ensures)

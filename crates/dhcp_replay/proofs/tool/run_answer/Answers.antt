-- The script that was read is the only one with this text.
use Rattle.std.proofs.Common.{ℕ, List, subst}
use Rattle.dhcp_tool.proofs.TextsLemmas.{answers_text}
use Rattle.dhcp_tool.specs.Texts.{AnswersText}
use Rattle.dhcp_replay.specs.Tool.{scripts}
use Rattle.dhcp_replay.proofs.tool.run_answer.Goals as goal

pub returns-in-Ok-Some : goal.returns-in-Ok-Some
returns-in-Ok-Some c =
    subst (λ (bytes : List ℕ). AnswersText scripts c.script_answer.result bytes) c.as_slice.ensures
    (answers_text scripts c.in-Ok-Some.field-0 c.in-Ok-Some.script c.as_slice.result.now c.script_answer.result c.in-Ok-Some.field-0-is c.in-Ok-Some.ensures.reading c.in-Ok-Some.ensures.one c.script_answer.ensures)

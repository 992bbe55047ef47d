-- The script that was read is the only one with this text.
use Rattle.dhcp_tool.proofs.TextsLemmas.{answers_text}
use Rattle.dhcp6_info_play.specs.Tool.{info_scripts}
use Rattle.dhcp6_info_play.proofs.tool.text_answer.Goals as goal

pub returns-in-Ok-Some : goal.returns-in-Ok-Some
returns-in-Ok-Some c =
    answers_text info_scripts c.in-Ok-Some.field-0 c.in-Ok-Some.script c.args.bytes.now c.script_answer-answer.result c.in-Ok-Some.field-0-is c.in-Ok-Some.ensures.reading c.in-Ok-Some.ensures.one c.script_answer-answer.ensures

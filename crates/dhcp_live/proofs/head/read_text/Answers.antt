-- The text that is read is the head and the line `end`.
use Rattle.std.proofs.Common.{◌≡◌, ℕ, List, Some, ◌∙◌, subst}
use Rattle.dhcp_wire.specs.Outcome.{Makes}
use Rattle.dhcp_script.specs.Script.{IsScript, script_text}
use Rattle.dhcp_script.specs.declared.script.Script.{Script}
use Rattle.dhcp_stream.specs.Reading.{GivesReading}
use Rattle.dhcp_live.proofs.head.read_text.Goals as goal

pub returns-clause-reading : goal.returns-clause-reading
returns-clause-reading c = subst (λ (text : List ℕ). GivesReading script_text IsScript c.read_script.result text) (c.as_slice.ensures ∙ c.in_ok-text.ensures) c.read_script.ensures.reading

pub returns-clause-one : goal.returns-clause-one
returns-clause-one c = subst (λ (text : List ℕ). (script : Script) → IsScript script → script_text script ≡ text → Makes (λ read. read) c.read_script.result (Some script)) (c.as_slice.ensures ∙ c.in_ok-text.ensures) c.read_script.ensures.one

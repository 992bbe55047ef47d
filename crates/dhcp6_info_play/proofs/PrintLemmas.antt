-- How the lines that are put make up the text of a script.
use Rattle.std.proofs.Common.{◌≡◌, ℕ, List, ◌++◌, Result, refl, codes}
use Rattle.std.specs.Prelude.{OnOk}
use Rattle.std.specs.Int.{w16}
use Rattle.dhcp_stream.specs.HexText.{numbers_text}
use Rattle.dhcp_stream.specs.Line.{line}
use Rattle.dhcp_script.specs.declared.script6.Script6.{Script6}
use Rattle.dhcp_script.specs.Codes.{listed_text}
use Rattle.dhcp_script.specs.Life.{life_text}
use Rattle.dhcp_script.proofs.PrintLemmas.{pushed3}
use Rattle.dhcp6_info_play.specs.InfoScript.{first_lines, info_script_text}

-- a script, line after line
pub pushed_script : {X E : Type 0} (done : Result X E) (new m2 m1 old : List ℕ) (script : Script6) → OnOk done (new ≡ m2 ++ life_text script.words script.start script.events) →
    m2 ≡ m1 ++ line (codes "codes " ++ listed_text (numbers_text w16) script.codes) → m1 ≡ old ++ first_lines script → OnOk done (new ≡ old ++ info_script_text script)
unfolding info_script_text
pushed_script done new m2 m1 old script last second first =
    pushed3 done new m2 m1 old (first_lines script) (line (codes "codes " ++ listed_text (numbers_text w16) script.codes)) (life_text script.words script.start script.events) (info_script_text script)
    last second first refl

-- What the program of scripts of a client for configuration alone answers.
use Rattle.std.specs.Prelude.{ℕ, List}
use Rattle.dhcp_tool.specs.Texts.{Texts}
use Rattle.dhcp_output.specs.Output.{outputs_text}
use Rattle.dhcp_script.specs.Script6.{is_valid}
use Rattle.dhcp_script.specs.declared.script6.Script6.{Script6}
use Rattle.dhcp6_info_play.specs.InfoScript.{IsInfoScript, info_script_text}
use Rattle.dhcp6_info_play.specs.Promises.{KeepsPromisesOf}
use Rattle.dhcp6_info_play.specs.Replayed.{outputs_of}

-- what is printed for a script: the text of what is reported of its client
unfoldable pub printed : Script6 → List ℕ
printed script = outputs_text (outputs_of script)

-- scripts of a client for configuration alone; they are valid by the limits of every IPv6 script
abbrev pub info_scripts : Texts Script6
info_scripts = record {
  text = info_script_text;
  IsOne = IsInfoScript;
  is_valid = is_valid;
  printed = printed;
  IsKept = KeepsPromisesOf;
}

-- What the program of scripts answers: for `run`, for `upgrade` and for `demo`.
use Rattle.std.specs.Prelude.{ℕ, true, List, length}
use Rattle.dhcp_tool.specs.Ends.{EndsJob, Moved}
use Rattle.dhcp_tool.specs.Job.{Job, Reads, Prints}
use Rattle.dhcp_tool.specs.Texts.{Texts}
use Rattle.dhcp_output.specs.Output.{outputs_text, summary_text}
use Rattle.dhcp_script.specs.Demo.{demo_script}
use Rattle.dhcp_script.specs.Script.{IsScript, IsScriptV1, is_valid, script_text, script_text_v1}
use Rattle.dhcp_script.specs.declared.script.Script.{Script}
use Rattle.dhcp_replay.specs.declared.request.Request.{Request}
use Rattle.dhcp_replay.specs.declared.request.Request.TheVariants.{Run, Upgrade, Demo}
use Rattle.dhcp_replay.specs.Promises.{KeepsPromisesOf}
use Rattle.dhcp_replay.specs.Replayed.{outputs_of, outputs_of_v4}

-- what is printed for a script: the text of what is reported of its client
unfoldable pub printed : Script → List ℕ
printed script = outputs_text (outputs_of script)

-- scripts in the later versions of the texts: version 2, and version 3 of an IPv4 client
abbrev pub scripts : Texts Script
scripts = record {
  text = script_text;
  IsOne = IsScript;
  is_valid = is_valid;
  printed = printed;
  IsKept = KeepsPromisesOf;
}

-- scripts in version 1 of the texts: they are printed in version 2; no test is made whether they
-- are valid, so that `upgrade` never ends with status 7, and nothing is promised of a client
abbrev pub scripts_v1 : Texts Script
scripts_v1 = record {
  text = script_text_v1;
  IsOne = IsScriptV1;
  is_valid = λ script. true;
  printed = script_text;
  IsKept = λ script. Unit {0};
}

-- the summary of a demonstration of so many rounds: how many events its script has, and how many
-- outputs of each kind are reported of its client
unfoldable pub demo_summary : ℕ → List ℕ
demo_summary rounds =
    summary_text (length (demo_script rounds).events) (outputs_of_v4 (demo_script rounds))

-- what is read and printed for each request
abbrev pub job_of : Request → Job Script
job_of Run = Reads scripts
job_of Upgrade = Reads scripts_v1
job_of (Demo rounds) = Prints (demo_summary rounds)

-- what each status says of a request
abbrev pub Ends : Request → ℕ → Moved → Type 0
Ends request status moved = EndsJob (job_of request) status moved

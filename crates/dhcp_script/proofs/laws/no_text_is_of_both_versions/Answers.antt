use Rattle.dhcp_script.proofs.ScriptLaws.{versions-apart}
use Rattle.dhcp_script.proofs.laws.no_text_is_of_both_versions.Goals as goal

pub returns : goal.returns
returns c = λ first second e. versions-apart first second e

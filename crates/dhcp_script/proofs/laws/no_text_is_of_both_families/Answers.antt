use Rattle.dhcp_script.proofs.ScriptLaws.{families-apart}
use Rattle.dhcp_script.proofs.laws.no_text_is_of_both_families.Goals as goal

pub returns : goal.returns
returns c = λ version other first second e. families-apart version other first second e

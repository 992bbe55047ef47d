use Rattle.std.proofs.Common.{◌∙◌}
use Rattle.dhcp_script.proofs.Utf8.{is_ok-utf8}
use Rattle.dhcp_script.proofs.script4.is_utf8.Goals as goal

pub returns : goal.returns
returns c = c.is_ok.ensures.value ∙ is_ok-utf8 _ _ c.from_utf8.result c.args.bytes.now c.from_utf8.ensures.cases

-- Piece after piece.
use Rattle.dhcp_script.proofs.PrintLemmas.{pushed3}
use Rattle.dhcp_output.proofs.InfoLemmas.{info_text-pieces}
use Rattle.dhcp_output.proofs.info.push_info.Goals as goal

pub returns : goal.returns
returns c = pushed3 c.push_to.result _ _ _ _ _ _ _ _ c.push_to.ensures c.in_ok-push_lists_more.ensures c.in_ok-push_servers_more.ensures (info_text-pieces c.args.info.now)

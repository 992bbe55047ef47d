use Rattle.dhcp_script.proofs.PrintLemmas.{lease6_text-pieces, pushed5}
use Rattle.dhcp_script.proofs.lease6.printer.push_fields.Goals as goal

pub returns : goal.returns
returns c =
    pushed5 c.push_to.result _ _ _ _ _ _ _ _ _ _ _ _ c.push_to.ensures
    c.in_ok-push_client_more.ensures c.in_ok-push_three_more-2.ensures c.in_ok-push_server_more.ensures c.in_ok-push_three_more.ensures
    (lease6_text-pieces c.args.lease.now)

use Rattle.dhcp_script.proofs.PrintLemmas.{lease_text-threes, pushed5}
use Rattle.dhcp_script.proofs.lease4.printer.push_lease.Goals as goal

pub returns : goal.returns
returns c =
    rw (← c.lease.view_is)
    (pushed5 c.push_three.result _ _ _ _ _ _ _ _ _ _ _ _ c.push_three.ensures
    c.in_ok-push_three_more-4.ensures c.in_ok-push_three_more-3.ensures c.in_ok-push_three_more-2.ensures c.in_ok-push_three_more.ensures
    (lease_text-threes _))

-- What the reading of the lease says is what the definition gives.
use Rattle.std.proofs.Common.{◌≡◌, sym, subst}
use Rattle.std.specs.Prelude.{Result, IfOk}
use Rattle.dhcp_wire.specs.Error.{ErrorParts}
use Rattle.dhcp6_msg.specs.Lease.{read_lease}
use Rattle.dhcp6_client.specs.Verdict.{Verdict, verdict_of_lease}
use Rattle.dhcp6_client.proofs.Verdicts.{told_by_read}
use Rattle.dhcp6_client.proofs.verdict.verdict_of_copy.Goals as goal

pub returns-clause-found : goal.returns-clause-found
returns-clause-found c =
    subst (λ (r : Result Verdict ErrorParts). IfOk r (λ found. found ≡ verdict_of_lease (read_lease c.args.message))) (sym c.verdict_if_read.ensures.said)
    (told_by_read c.from_message.result (read_lease c.args.message) c.from_message.ensures.reads)

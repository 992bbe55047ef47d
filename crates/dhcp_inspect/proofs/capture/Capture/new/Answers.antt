-- What has a header is a capture.
use Rattle.std.proofs.Common.{refl, sym, ap, ◌∙◌, arith}
use Rattle.std.specs.Prelude.{is_some}
use Rattle.std.proofs.lemmas.Bool.{false≢true}
use Rattle.dhcp_inspect.proofs.HeaderLemmas.{read_header-capture}
use Rattle.dhcp_inspect.proofs.RecordLemmas.{length-records_in}
use Rattle.dhcp_inspect.proofs.capture.Capture.new.Goals as goal

pub returns-in-Some-clause-capture : goal.returns-in-Some-clause-capture
returns-in-Some-clause-capture c =
    (λ some. (read_header-capture c.args.file.now).0 (ap is_some c.in-Some.ensures.found), λ capture. refl)

pub returns-in-None-clause-capture : goal.returns-in-None-clause-capture
returns-in-None-clause-capture c =
    (λ some. absurd (false≢true some), λ capture. absurd (false≢true (sym (ap is_some c.in-None.ensures.found) ∙ (read_header-capture c.args.file.now).1 capture)))

pub returns-in-Some-clause-few : goal.returns-in-Some-clause-few
returns-in-Some-clause-few c =
    let few = length-records_in c.in-Some.header.order c.in-Some.left.now in
    omega (arith, few, c.in-Some.ensures.shorter)

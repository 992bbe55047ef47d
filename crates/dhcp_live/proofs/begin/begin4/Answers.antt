-- By the life of the client that begins.
use Rattle.std.proofs.Common.{◌∙◌, ap}
use Rattle.dhcp_live.specs.Begin.{held4}
use Rattle.dhcp_live.proofs.BeginLemmas.{begins4}
use Rattle.dhcp_live.proofs.begin.begin4.Goals as goal

pub returns-clause-begins : goal.returns-clause-begins
returns-clause-begins c =
    begins4 c.args.script.now c.in_ok-words.words c.begin_script4.new.words c.in_ok-client.client.value (held4 c.new.result) (c.in_ok-words.ensures ∙ c.as_slice.ensures)
    c.in_ok-client.ensures.begun c.in_ok-client.ensures.drawn (ap held4 c.new.ensures)

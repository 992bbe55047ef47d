-- By the life of the client that begins.
use Rattle.std.proofs.Common.{◌∙◌, ap}
use Rattle.dhcp_live.specs.Begin.{held6}
use Rattle.dhcp_live.proofs.BeginLemmas.{begins6}
use Rattle.dhcp_live.proofs.begin.begin6.Goals as goal

pub returns-clause-begins : goal.returns-clause-begins
returns-clause-begins c =
    begins6 c.args.script.now c.in_ok-words.words c.begin_script6.new.words c.in_ok-client.client.value (held6 c.new.result) (c.in_ok-words.ensures ∙ c.as_slice.ensures)
    c.in_ok-client.ensures.begun c.in_ok-client.ensures.drawn (ap held6 c.new.ensures)

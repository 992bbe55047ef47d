-- The error is that of a client that cannot begin, which this one can, or of its box.
use Rattle.dhcp_replay.proofs.ReplayLemmas.{box_error}
use Rattle.dhcp6_info_play.proofs.replayed.begun.Goals as goal

pub returns-clause-error : goal.returns-clause-error
returns-clause-error g c = box_error c.boxed.result c.init.result c.boxed.ensures.error (c.init.ensures.errors c.requires)

-- A layer that is written forward begins with its type.
use Rattle.dhcp6_relay.proofs.StepLemmas.{given-forward}
use Rattle.dhcp6_relay.proofs.wrap.wrap_forward.Goals as goal

pub returns-clause-forward : goal.returns-clause-forward
returns-clause-forward c = given-forward _ _ c.emit_around.result c.emit_around.ensures

-- Whether a script was read, and whether it has events.
use Rattle.std.proofs.Common.{inr, refl}
use Rattle.dhcp_live.proofs.HeadLemmas.{kept_if_head}
use Rattle.dhcp_live.proofs.head.read_head.Goals as goal

pub returns-in-Ok-Some : goal.returns-in-Ok-Some
returns-in-Ok-Some c =
    kept_if_head c.in-Ok-Some.field-0 c.in-Ok-Some.script c.args.head.now c.has_no_events-is_head.result c.then_some.result c.ok_or.result c.in-Ok-Some.field-0-is
    c.in-Ok-Some.ensures.reading c.in-Ok-Some.ensures.one c.has_no_events-is_head.ensures c.then_some.ensures c.ok_or.ensures.value

pub returns-in-Ok-None : goal.returns-in-Ok-None
returns-in-Ok-None c = inr (refl, λ script is. (rw c.in-Ok-None.field-0-is at c.in-Ok-None.ensures.reading) script is.fits is.text)

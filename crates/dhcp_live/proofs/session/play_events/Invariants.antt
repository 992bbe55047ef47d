-- The session so far, with the lines that are left.
use Rattle.std.proofs.Common.{◌-◌}
use Rattle.dhcp_live.specs.Live.{held}
use Rattle.dhcp_live.specs.Session.{most_lines}
use Rattle.dhcp_live.proofs.SessionLemmas.{SoFar}
use Rattle.dhcp_live.proofs.session.play_events.Given as goal

abbrev pub invariant-lines : goal.invariant-lines
invariant-lines g l = SoFar g.C.FamilyClient.protocol g.C.Reported.FamilyState.changed g.C.FamilyClient.parts g.C.VerdictClient.packet_verdict g.D.Dialogue.moves (held g.C.FamilyClient.parts l.fn.client) l.fn.dialogue (most_lines - l.counter) (held g.C.FamilyClient.parts l.client) l.dialogue

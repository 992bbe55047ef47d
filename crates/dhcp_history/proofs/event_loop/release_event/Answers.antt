use Rattle.std.proofs.Common.{ap, []}
use Rattle.dhcp_clock.specs.Link.{MemoryParts}
use Rattle.dhcp_history.specs.Client.{view_of}
use Rattle.dhcp_history.proofs.Looping.{on_ok_both, on_release, release_called, release_link}
use Rattle.dhcp_history.proofs.event_loop.release_event.Goals as goal

pub returns-clause-called : goal.returns-clause-called
returns-clause-called g c =
    on_ok_both c.report_release.result c.report_release.ensures.memory c.report_release.ensures.outputs (λ memory adds available.
    release_called (g.R.Rules.protocol c.args.rules.now) c.args.at.number c.args.at.moment c.args.at.refuse c.args.link.now.shown c.release_held-released.new.link.shown
    (view_of c.args.client.now available) (view_of c.release_held-released.new.client available) c.release_held-released.result c.take_message-handed.result c.args.outputs.now.items c.report_release.new.outputs.items
    c.requires.empty c.requires.refuses (on_release c.release_held-released.result memory c.release_held-released.ensures.released available) c.take_message-handed.ensures.message adds)

pub returns-clause-link : goal.returns-clause-link
returns-clause-link g c =
    on_ok_both c.report_release.result c.report_release.ensures.memory c.report_release.ensures.outputs (λ memory adds.
    release_link (g.R.Rules.protocol c.args.rules.now) c.args.link.now.shown c.release_held-released.new.link.shown c.take_message-handed.new.link.shown
    (view_of c.args.client.now []) (view_of c.release_held-released.new.client []) c.release_held-released.result
    c.requires.empty (on_release c.release_held-released.result memory c.release_held-released.ensures.released []) (ap (λ (l : MemoryParts). l.shown) c.take_message-handed.ensures.rest))

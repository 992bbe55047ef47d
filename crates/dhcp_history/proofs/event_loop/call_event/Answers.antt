use Rattle.std.proofs.Common.{sym, append-nil, refl}
use Rattle.dhcp_history.specs.Client.{view_of}
use Rattle.dhcp_history.specs.EventLoop.{event_of}
use Rattle.dhcp_history.proofs.Looping.{call_cleaned, call_nothing, call_arrival}
use Rattle.dhcp_history.proofs.event_loop.call_event.Goals as goal

pub returns-in-CleanUp-clause-called : goal.returns-in-CleanUp-clause-called
returns-in-CleanUp-clause-called g c = λ available.
    rw (call_cleaned (g.R.Rules.protocol c.args.rules.now) (event_of c.args.at c.args.input) (view_of c.args.client.now available) c.in-CleanUp.is)
    (record { outputs = sym (append-nil c.args.outputs.now.items); client = c.clean_up.ensures.client available })

pub returns-in-Nothing-clause-called : goal.returns-in-Nothing-clause-called
returns-in-Nothing-clause-called g c = λ available.
    rw (call_nothing (g.R.Rules.protocol c.args.rules.now) (event_of c.args.at c.args.input) (view_of c.args.client.now available) c.in-Nothing.is)
    (record { outputs = sym (append-nil c.args.outputs.now.items); client = refl })

pub returns-in-Arrival-clause-called : goal.returns-in-Arrival-clause-called
returns-in-Arrival-clause-called g c = λ available.
    rw (call_arrival (g.R.Rules.protocol c.args.rules.now) (event_of c.args.at c.args.input) (view_of c.args.client.now available) c.in-Arrival.packet c.in-Arrival.is)
    (record { outputs = sym (append-nil c.args.outputs.now.items); client = refl })

use Rattle.std.proofs.Common.{sym, ◌∙◌, refl, [], ap, rules}
use Rattle.std.specs.Prelude.{Ok, Err, Some}
use Rattle.dhcp_history.specs.Machine.{View}
use Rattle.dhcp_history.specs.Client.{view_of, view_with}
use Rattle.dhcp_history.proofs.Running.{poll_ends, poll_works, on_run, unsent_due, unsent_early, begun_due, needed_early, unpolled_armed, over_polled, stopped_phase, quiet_stopped, quiet_over, quiet_ended, quiet_busy, due_busy, early_quiet}
use Rattle.dhcp_history.proofs.Settled.{traced_settles}
use Rattle.dhcp_history.proofs.TurnLemmas.{out_as, polls_unheard, takes_turns, traced_keeps}
use Rattle.dhcp_history.proofs.Traced.{traces_stopped, traces_over, traces_ended, traces_works}
use Rattle.dhcp_history.specs.declared.machine.RunError.TheVariants as run
use Rattle.dhcp_history.proofs.machine.run.Goals as goal

pub returns-then-is_stopped-clause-traced : goal.returns-then-is_stopped-clause-traced
returns-then-is_stopped-clause-traced g c =
    traces_stopped (g.R.Rules.protocol c.args.rules.now) g.W.Words.gives g.L.DhcpLink.moves c.args.now c.args.client.now _ (Err run.TimedOut) c.args.words.now c.args.link.now refl (sym c.is_stopped.ensures ∙ c.if-is_stopped.true) (λ rest. refl)

pub returns-then-limit_is_over-clause-traced : goal.returns-then-limit_is_over-clause-traced
returns-then-limit_is_over-clause-traced g c =
    traces_over (g.R.Rules.protocol c.args.rules.now) g.W.Words.gives g.L.DhcpLink.moves c.args.now c.args.client.now _ (Err run.TimedOut) c.args.words.now c.args.link.now refl (sym c.is_stopped.ensures ∙ c.if-is_stopped.false) (λ rest. sym (c.limit_is_over.ensures rest) ∙ c.if-limit_is_over.true) (λ rest. refl)

pub returns-then-has_ended-clause-traced : goal.returns-then-has_ended-clause-traced
returns-then-has_ended-clause-traced g c =
    traces_ended (g.R.Rules.protocol c.args.rules.now) g.W.Words.gives g.L.DhcpLink.moves c.args.now c.args.client.now c.end_state.new.client (Ok (Some c.end_state.result)) c.end_state.result c.args.words.now c.args.link.now refl (sym c.is_stopped.ensures ∙ c.if-is_stopped.false) (λ rest. sym (c.limit_is_over.ensures rest) ∙ c.if-limit_is_over.false) (λ rest. sym (c.has_ended.ensures rest) ∙ c.if-has_ended.true)
    c.end_state.ensures.client c.end_state.ensures.reported

pub returns-then-has_come-clause-traced : goal.returns-then-has_come-clause-traced
returns-then-has_come-clause-traced g c =
    on_run c.transmit_due.result
    (traces_works (g.R.Rules.protocol c.args.rules.now) g.W.Words.gives g.L.DhcpLink.moves c.args.now c.args.client.now c.transmit_due.new.client c.transmit_due.result (view_with c.args.client.now c.begin_stay-begun.result)
    c.args.words.now c.begin_stay-begun.new.words c.transmit_due.new.words c.args.link.now c.transmit_due.new.link (sym c.is_stopped.ensures ∙ c.if-is_stopped.false) (λ rest. sym (c.limit_is_over.ensures rest) ∙ c.if-limit_is_over.false) (λ rest. sym (c.has_ended.ensures rest) ∙ c.if-has_ended.false) c.begin_stay-begun.ensures.taken)
    c.transmit_due.ensures.traced

pub returns-clause-traced : goal.returns-clause-traced
returns-clause-traced g c =
    on_run c.receive_early.result
    (traces_works (g.R.Rules.protocol c.args.rules.now) g.W.Words.gives g.L.DhcpLink.moves c.args.now c.args.client.now c.receive_early.new.client c.receive_early.result (view_with c.args.client.now c.begin_stay-begun.result)
    c.args.words.now c.begin_stay-begun.new.words c.receive_early.new.words c.args.link.now c.receive_early.new.link (sym c.is_stopped.ensures ∙ c.if-is_stopped.false) (λ rest. sym (c.limit_is_over.ensures rest) ∙ c.if-limit_is_over.false) (λ rest. sym (c.has_ended.ensures rest) ∙ c.if-has_ended.false) c.begin_stay-begun.ensures.taken)
    c.receive_early.ensures.traced

pub returns-then-is_stopped-clause-polls : goal.returns-then-is_stopped-clause-polls
returns-then-is_stopped-clause-polls g c = record {
  polled = search rules;
  quiet =
      λ available.
      rw (quiet_stopped (g.R.Rules.protocol c.args.rules.now) c.args.now (view_of c.args.client.now available) (sym c.is_stopped.ensures ∙ c.if-is_stopped.true))
      (record { answer = refl; client = rw (stopped_phase c.args.client.now.standing.phase (sym c.is_stopped.ensures ∙ c.if-is_stopped.true)); words = refl; link = refl; faults = refl });
  cause = search rules;
  timeout = search rules;
  moment = search rules;
  state = search rules;
  still = search rules;
  settles = λ lawful is. absurd (cc is);
  reported = search rules;
  keeps = λ holds preserves first. first;
  armed = search rules;
  memory = search rules;
  needed = search rules;
  due = search rules;
  uses = search rules;
  later = search rules;
}

pub returns-then-limit_is_over-clause-polls : goal.returns-then-limit_is_over-clause-polls
returns-then-limit_is_over-clause-polls g c = record {
  polled = search rules;
  quiet =
      λ available.
      rw (quiet_over (g.R.Rules.protocol c.args.rules.now) c.args.now (view_of c.args.client.now available) (sym c.is_stopped.ensures ∙ c.if-is_stopped.false) (sym (c.limit_is_over.ensures available) ∙ c.if-limit_is_over.true))
      (record { answer = refl; client = refl; words = refl; link = refl; faults = refl });
  cause = search rules;
  timeout = search rules;
  moment = search rules;
  state = search rules;
  still = search rules;
  settles = λ lawful is. absurd (cc is);
  reported = search rules;
  keeps = λ holds preserves first. first;
  armed =
      λ armed polled sends.
      armed (over_polled (g.R.Rules.protocol c.args.rules.now) c.args.now (view_of c.args.client.now []) (sym (c.limit_is_over.ensures []) ∙ c.if-limit_is_over.true)) sends;
  memory = search rules;
  needed = search rules;
  due = search rules;
  uses = search rules;
  later = search rules;
}

pub returns-then-has_ended-clause-polls : goal.returns-then-has_ended-clause-polls
returns-then-has_ended-clause-polls g c = record {
  polled =
      poll_ends (g.R.Rules.protocol c.args.rules.now) c.args.now (g.W.Words.left c.args.words.now) (g.L.DhcpLink.shown c.args.link.now)
      (view_of c.args.client.now) (view_of c.end_state.new.client) (λ words. refl)
      c.end_state.result (λ words. sym c.is_stopped.ensures ∙ c.if-is_stopped.false) (λ words. sym (c.limit_is_over.ensures words) ∙ c.if-limit_is_over.false) (λ words. sym (c.has_ended.ensures words) ∙ c.if-has_ended.true)
      c.end_state.ensures.client (λ words. c.end_state.ensures.reported);
  quiet =
      λ available.
      let p = g.R.Rules.protocol c.args.rules.now in
      rw (quiet_ended p c.args.now (view_of c.args.client.now available) (sym c.is_stopped.ensures ∙ c.if-is_stopped.false) (sym (c.limit_is_over.ensures available) ∙ c.if-limit_is_over.false) (sym (c.has_ended.ensures available) ∙ c.if-has_ended.true))
      (record {
        answer = ap (λ (r : _). Ok (Some r)) (c.end_state.ensures.reported ∙ ap (λ (v : View _ _). p.public_state v.state) (c.end_state.ensures.client available));
        client = c.end_state.ensures.client available;
        words = refl;
        link = refl;
        faults = refl;
      });
  cause = search rules;
  timeout = search rules;
  moment = search rules;
  state = search rules;
  still = search rules;
  settles = λ lawful is. absurd (cc is);
  reported = search rules;
  keeps =
      traced_keeps (g.R.Rules.protocol c.args.rules.now) g.W.Words.gives g.L.DhcpLink.moves c.args.now (Ok (Some c.end_state.result)) c.args.client.now c.end_state.new.client c.args.words.now c.args.words.now c.args.link.now c.args.link.now
      (returns-then-has_ended-clause-traced g c) tt (λ is. absurd (cc is));
  armed =
      λ armed. unpolled_armed (g.R.Rules.protocol c.args.rules.now).has_attempts c.end_state.new.client c.end_state.ensures.unpolled;
  memory = search rules;
  needed = search rules;
  due = search rules;
  uses = search rules;
  later = search rules;
}

pub returns-then-has_come-clause-polls : goal.returns-then-has_come-clause-polls
returns-then-has_come-clause-polls g c = record {
  polled =
      on_run c.transmit_due.result (poll_works (g.R.Rules.protocol c.args.rules.now) c.args.now (g.W.Words.left c.args.words.now) (g.W.Words.left c.begin_stay-begun.new.words) (g.W.Words.left c.transmit_due.new.words)
      (g.L.DhcpLink.shown c.args.link.now) (g.L.DhcpLink.shown c.args.link.now) (g.L.DhcpLink.shown c.transmit_due.new.link)
      (view_of c.args.client.now) (view_with c.args.client.now c.begin_stay-begun.result) (view_of c.transmit_due.new.client)
      c.transmit_due.result (λ words. sym c.is_stopped.ensures ∙ c.if-is_stopped.false) (λ words. sym (c.limit_is_over.ensures words) ∙ c.if-limit_is_over.false) (λ words. sym (c.has_ended.ensures words) ∙ c.if-has_ended.false)
      c.begin_stay-begun.ensures.drawn) c.transmit_due.ensures.worked.polled;
  quiet =
      λ available.
      let p = g.R.Rules.protocol c.args.rules.now in
      rw (quiet_busy p c.args.now (view_of c.args.client.now available) (sym c.is_stopped.ensures ∙ c.if-is_stopped.false) (sym (c.limit_is_over.ensures available) ∙ c.if-limit_is_over.false) (sym (c.has_ended.ensures available) ∙ c.if-has_ended.false)
      (due_busy p c.args.now c.args.client.now c.begin_stay-begun.result available c.begin_stay-begun.ensures.polled c.begin_stay-begun.ensures.silent (sym c.has_come.ensures ∙ c.if-has_come.true)))
      tt;
  cause = search rules;
  timeout = search rules;
  moment = search rules;
  state = search rules;
  still = search rules;
  settles = λ lawful is.
      traced_settles (g.R.Rules.protocol c.args.rules.now) g.W.Words.gives g.L.DhcpLink.moves c.args.now c.transmit_due.result c.args.client.now c.transmit_due.new.client
      c.args.words.now c.transmit_due.new.words c.args.link.now c.transmit_due.new.link (returns-then-has_come-clause-traced g c) lawful is;
  reported = search rules;
  keeps =
      traced_keeps (g.R.Rules.protocol c.args.rules.now) g.W.Words.gives g.L.DhcpLink.moves c.args.now c.transmit_due.result c.args.client.now c.transmit_due.new.client c.args.words.now c.transmit_due.new.words c.args.link.now c.transmit_due.new.link
      (returns-then-has_come-clause-traced g c) c.transmit_due.ensures.worked.state c.transmit_due.ensures.worked.still;
  armed =
      c.transmit_due.ensures.armed;
  memory =
      unsent_due (g.R.Rules.protocol c.args.rules.now) _ c.transmit_due.result c.args.now (g.W.Words.left c.args.words.now) (g.W.Words.left c.begin_stay-begun.new.words) (g.L.DhcpLink.shown c.args.link.now) (g.L.DhcpLink.shown c.transmit_due.new.link)
      (view_of c.args.client.now) (view_with c.args.client.now c.begin_stay-begun.result) c.transmit_due.new.client
      c.begin_stay-begun.ensures.drawn c.transmit_due.ensures.memory;
  needed = search rules;
  due =
      begun_due (g.R.Rules.protocol c.args.rules.now) _ c.transmit_due.result c.args.now (g.W.Words.left c.args.words.now) (g.W.Words.left c.begin_stay-begun.new.words)
      (view_of c.args.client.now) (view_with c.args.client.now c.begin_stay-begun.result) c.begin_stay-begun.ensures.drawn (λ words. sym c.has_come.ensures ∙ c.if-has_come.true);
  uses = search rules;
  later = search rules;
}

pub returns-clause-polls : goal.returns-clause-polls
returns-clause-polls g c = record {
  polled =
      on_run c.receive_early.result (poll_works (g.R.Rules.protocol c.args.rules.now) c.args.now (g.W.Words.left c.args.words.now) (g.W.Words.left c.begin_stay-begun.new.words) (g.W.Words.left c.receive_early.new.words)
      (g.L.DhcpLink.shown c.args.link.now) (g.L.DhcpLink.shown c.args.link.now) (g.L.DhcpLink.shown c.receive_early.new.link)
      (view_of c.args.client.now) (view_with c.args.client.now c.begin_stay-begun.result) (view_of c.receive_early.new.client)
      c.receive_early.result (λ words. sym c.is_stopped.ensures ∙ c.if-is_stopped.false) (λ words. sym (c.limit_is_over.ensures words) ∙ c.if-limit_is_over.false) (λ words. sym (c.has_ended.ensures words) ∙ c.if-has_ended.false)
      c.begin_stay-begun.ensures.drawn) c.receive_early.ensures.worked.polled;
  quiet =
      λ available.
      early_quiet (g.R.Rules.protocol c.args.rules.now) c.args.now c.args.client.now c.receive_early.new.client c.begin_stay-begun.result c.receive_early.result
      (g.W.Words.left c.args.words.now) (g.W.Words.left c.begin_stay-begun.new.words) (g.W.Words.left c.receive_early.new.words) (g.L.DhcpLink.shown c.args.link.now) (g.L.DhcpLink.shown c.receive_early.new.link)
      (g.L.DhcpLink.faults c.args.link.now) (g.L.DhcpLink.faults c.receive_early.new.link) available
      (sym c.is_stopped.ensures ∙ c.if-is_stopped.false) (sym (c.limit_is_over.ensures available) ∙ c.if-limit_is_over.false) (sym (c.has_ended.ensures available) ∙ c.if-has_ended.false)
      c.begin_stay-begun.ensures.polled c.begin_stay-begun.ensures.silent c.receive_early.ensures.worked.timeout c.receive_early.ensures.shut;
  cause = search rules;
  timeout = search rules;
  moment = search rules;
  state = search rules;
  still = search rules;
  settles = λ lawful is.
      traced_settles (g.R.Rules.protocol c.args.rules.now) g.W.Words.gives g.L.DhcpLink.moves c.args.now c.receive_early.result c.args.client.now c.receive_early.new.client
      c.args.words.now c.receive_early.new.words c.args.link.now c.receive_early.new.link (returns-clause-traced g c) lawful is;
  reported = search rules;
  keeps =
      traced_keeps (g.R.Rules.protocol c.args.rules.now) g.W.Words.gives g.L.DhcpLink.moves c.args.now c.receive_early.result c.args.client.now c.receive_early.new.client c.args.words.now c.receive_early.new.words c.args.link.now c.receive_early.new.link
      (returns-clause-traced g c) c.receive_early.ensures.worked.state c.receive_early.ensures.worked.still;
  armed =
      λ armed. c.receive_early.ensures.armed (c.begin_stay-begun.ensures.armed armed);
  memory =
      unsent_early _ c.receive_early.result c.args.client.now c.receive_early.new.client (g.L.DhcpLink.shown c.args.link.now) (g.L.DhcpLink.shown c.receive_early.new.link)
      c.receive_early.ensures.unsent;
  needed = search rules;
  due =
      needed_early _ _ c.receive_early.result (g.W.Words.left c.args.words.now) c.receive_early.ensures.needed;
  uses = search rules;
  later = search rules;
}

pub returns-then-has_come-clause-ran_out : goal.returns-then-has_come-clause-ran_out
returns-then-has_come-clause-ran_out g c =
    out_as g.L.DhcpLink.moves c.transmit_due.result c.args.client.now c.transmit_due.new.client c.args.link.now c.transmit_due.new.link
    (λ message.
    polls_unheard (g.R.Rules.protocol c.args.rules.now) g.W.Words.gives g.L.DhcpLink.moves c.args.now message c.args.client.now c.transmit_due.new.client (view_with c.args.client.now c.begin_stay-begun.result) c.args.words.now c.begin_stay-begun.new.words
    (sym c.is_stopped.ensures ∙ c.if-is_stopped.false) (λ rest. sym (c.limit_is_over.ensures rest) ∙ c.if-limit_is_over.false) (λ rest. sym (c.has_ended.ensures rest) ∙ c.if-has_ended.false) c.begin_stay-begun.ensures.taken)
    c.transmit_due.ensures.ran_out

pub returns-clause-ran_out : goal.returns-clause-ran_out
returns-clause-ran_out g c =
    out_as g.L.DhcpLink.moves c.receive_early.result c.args.client.now c.receive_early.new.client c.args.link.now c.receive_early.new.link (λ message none. absurd none)
    c.receive_early.ensures.ran_out

pub returns-then-has_come-clause-used : goal.returns-then-has_come-clause-used
returns-then-has_come-clause-used g c =
    takes_turns (g.R.Rules.protocol c.args.rules.now) g.W.Words.gives g.L.DhcpLink.moves _ c.args.now c.transmit_due.result c.args.client.now c.transmit_due.new.client c.args.words.now c.transmit_due.new.words c.args.link.now c.transmit_due.new.link
    (returns-then-has_come-clause-traced g c) (returns-then-has_come-clause-ran_out g c)

pub returns-clause-used : goal.returns-clause-used
returns-clause-used g c =
    takes_turns (g.R.Rules.protocol c.args.rules.now) g.W.Words.gives g.L.DhcpLink.moves _ c.args.now c.receive_early.result c.args.client.now c.receive_early.new.client c.args.words.now c.receive_early.new.words c.args.link.now c.receive_early.new.link
    (returns-clause-traced g c) (returns-clause-ran_out g c)

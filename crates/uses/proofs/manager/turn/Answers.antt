-- Each poll of a turn follows those before it.
use Rattle.std.proofs.Common.{◌≡◌, refl, sym, ◌∙◌, arith, inl, inr, Ok, Err, Some, None}
use Rattle.uses.specs.Manager.{HasTurned, linked}
use Rattle.uses.proofs.Turns.{follows_last, follows_more, follows_none, polled_by, traced_of}
use Rattle.uses.proofs.manager.turn.Goals as goal
use Rattle.uses.proofs.manager.turn.Goals.{else-loop-test, then-loop-test+in_ok-state+in_default}

pub loop-init : goal.loop-init
loop-init g c = record { polls = follows_none _ _ _ _ _ _ _ _; same = refl; answers = refl }

pub loop-preserved : goal.loop-preserved
loop-preserved g c =
    let is : c.run.result ≡ Ok (Some c.in-Some.state) = grind arith in
    record {
      polls =
          follows_more _ _ _ _ _ _ _ c.in-Some.state _ _ _ _ _ _ c.loop.invariant.polls
          (traced_of _ _ _ _ (g.C.ManagedClient.may_answer c.args.client.now) g.W.Words.left g.L.DhcpLink.shown g.L.DhcpLink.faults _ c.run.result (Some c.in-Some.state) _ _ is
          (polled_by _ _ _ _ _ _ _ _ _ _ _ _ _ _ c.loop.invariant.same c.loop.invariant.answers c.run.ensures.polled))
          c.follow.ensures;
      same = c.run.ensures.same ∙ c.loop.invariant.same;
      answers = c.run.ensures.answers ∙ c.loop.invariant.answers;
    }

pub returns-in_err-state-clause-turned : goal.returns-in_err-state-clause-turned
unfolding HasTurned
returns-in_err-state-clause-turned g c =
    let is : c.from_residual.result ≡ Err c.in_err-state.field-0.0 = grind arith in
    rw is (record {
      count = c.loop.counter;
      few = omega arith;
      between = linked (g.C.ManagedClient.client c.loop.client) c.loop.words c.loop.link;
      reported = c.loop.invariant.polls;
      last = polled_by _ _ _ _ _ _ _ _ _ _ _ _ _ _ c.loop.invariant.same c.loop.invariant.answers c.in_err-state.ensures.polled;
    })

pub returns-clause-turned : goal.returns-clause-turned
unfolding HasTurned
returns-clause-turned g c = elim c.loop-test.branch [
  | else-loop-test w ↦
      let whole : c.loop.counter ≡ 7 = omega arith in
      rw (w.client-is, w.words-is, w.link-is) (inr (rw (sym whole) c.loop.invariant.polls))
  | then-loop-test+in_ok-state+in_default w ↦
      let is : w.run.result ≡ Ok None = grind arith in
      rw (w.client-is, w.words-is, w.link-is)
      (inl (
        c.loop.counter,
        (
          omega arith,
          follows_last _ _ _ _ _ _ _ _ _ _ _ _ c.loop.invariant.polls
              (traced_of _ _ _ _ (g.C.ManagedClient.may_answer c.args.client.now) g.W.Words.left g.L.DhcpLink.shown g.L.DhcpLink.faults _ w.run.result None _ _ is
              (polled_by _ _ _ _ _ _ _ _ _ _ _ _ _ _ c.loop.invariant.same c.loop.invariant.answers w.run.ensures.polled)),
        ),
      ))
]

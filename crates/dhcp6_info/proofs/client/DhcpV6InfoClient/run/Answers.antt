-- The poll of the rules, of the client that contracts see.
use Rattle.std.proofs.Common.{◌≡◌, ◌∙◌, ap, sym, subst, refl, arith, rules}
use Rattle.std.specs.Prelude.{Option, Ok, Result}
use Rattle.dhcp_history.specs.declared.machine.RunError.{RunError}
use Rattle.dhcp_history.specs.Errors.{run_answer}
use Rattle.dhcp_history.specs.Run.{UnlessNoMemory}
use Rattle.dhcp_history.specs.Traced.{Traces}
use Rattle.dhcp_history.proofs.ErrorLemmas.{on_failure}
use Rattle.dhcp6_info.specs.declared.state.PlainInfoState.{PlainInfoState}
use Rattle.dhcp6_info.specs.Rules.{protocol}
use Rattle.dhcp6_info.specs.State.{plain_state}
use Rattle.dhcp6_info.proofs.client.DhcpV6InfoClient.run.Goals as goal

pub invariant_of-self-2 : goal.invariant_of-self-2
invariant_of-self-2 g c = c.run.ensures.polls.armed c.self.invariant

pub returns-in_err-reported-clause-ran : goal.returns-in_err-reported-clause-ran
returns-in_err-reported-clause-ran g c =
    let same : run_answer plain_state c.from_residual.result ≡ c.run.result = grind arith in
    rw (← c.self.view_is) (record { polls = rw same c.run.ensures.polls; settled = search rules; errors = grind arith; config = refl })

pub returns-in_err-reported-clause-traced : goal.returns-in_err-reported-clause-traced
returns-in_err-reported-clause-traced g c =
    let same : run_answer plain_state c.from_residual.result ≡ c.run.result = grind arith in
    rw (← c.self.view_is) (rw same c.run.ensures.traced)

pub returns-in_err-reported-clause-ran_out : goal.returns-in_err-reported-clause-ran_out
returns-in_err-reported-clause-ran_out g c =
    rw (← c.self.view_is) (on_failure (Option PlainInfoState) plain_state c.from_residual.result c.in_err-reported.field-0.0 _ c.from_residual.ensures.1 c.in_err-reported.ensures.ran_out)

pub returns-clause-ran : goal.returns-clause-ran
returns-clause-ran g c =
    let same : run_answer plain_state (Ok c.map.result) ≡ c.run.result = grind arith in
    rw (← c.self.view_is) (record {
      polls = rw same c.run.ensures.polls;
      settled = λ none. c.run.ensures.polls.settles (c.table_is_lawful.ensures c.self.inside.rules.config) (sym same ∙ ap (run_answer plain_state) none);
      errors = search rules;
      config = refl;
    })

pub returns-clause-traced : goal.returns-clause-traced
returns-clause-traced g c =
    let same : run_answer plain_state (Ok c.map.result) ≡ c.run.result = grind arith in
    rw (← c.self.view_is)
    (subst (λ (answer : Result (Option PlainInfoState) RunError). UnlessNoMemory answer
    (Traces (protocol c.self.inside.rules.config) g.W.Words.gives g.L.DhcpLink.moves c.args.now answer c.self.inside.client c.run.new.client c.args.words.now c.run.new.words c.args.link.now c.run.new.link))
    (sym same) c.run.ensures.traced)

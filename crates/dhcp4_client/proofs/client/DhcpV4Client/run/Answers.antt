-- What a poll leaves of the lease that is held.
use Rattle.std.proofs.Common.{◌≡◌, ◌∙◌, ap, sym, subst, refl, arith, rules}
use Rattle.std.specs.Prelude.{Option, Ok, option_map}
use Rattle.dhcp4_client.specs.declared.state.PlainState.{PlainState}
use Rattle.dhcp4_client.specs.declared.state.PlainState.TheVariants as states
use Rattle.dhcp4_client.specs.Client.{ClientParts}
use Rattle.dhcp4_client.specs.Granted.{IsGranted, LeasesAreGranted as Law}
use Rattle.dhcp4_client.specs.Rules.{protocol}
use Rattle.dhcp4_client.specs.State.{plain_state}
use Rattle.dhcp4_client.specs.Held.{KeepsLease, has_times_in_order}
use Rattle.dhcp_history.specs.Errors.{run_answer}
use Rattle.dhcp_history.proofs.ErrorLemmas.{on_failure}
use Rattle.dhcp_history.proofs.GrantedLast.{granted_by, traced_as}
use Rattle.dhcp4_client.proofs.Held.{keeps_lease, order_preserved}
use Rattle.dhcp4_client.proofs.client.DhcpV4Client.run.Goals as goal

pub invariant_of-self-2 : goal.invariant_of-self-2
invariant_of-self-2 g c = (
  c.run.ensures.polls.armed c.self.invariant.0,
  c.run.ensures.polls.keeps has_times_in_order (order_preserved c.self.inside.rules.config) c.self.invariant.1,
)

pub returns-in_err-reported-clause-ran_out : goal.returns-in_err-reported-clause-ran_out
returns-in_err-reported-clause-ran_out g c =
    rw (← c.self.view_is) (on_failure (Option PlainState) plain_state c.from_residual.result c.in_err-reported.field-0.0 _ c.from_residual.ensures.1 c.in_err-reported.ensures.ran_out)

pub returns-clause-leases : goal.returns-clause-leases
returns-clause-leases g c =
    let same : option_map plain_state c.map.result ≡ c.in_ok-reported.reported = search rules in
    rw (← c.self.view_is)
    (subst (λ (change : Option PlainState). KeepsLease c.args.now (Ok change) c.self.inside.client c.run.new.client) (sym same)
    (keeps_lease g.W.Words.gives g.L.DhcpLink.moves c.self.inside.rules.config c.args.now (Ok c.in_ok-reported.reported) c.self.inside.client c.run.new.client
    c.args.words.now c.run.new.words c.args.link.now c.run.new.link
    c.in_ok-reported.ensures.traced tt c.in_ok-reported.ensures.polls.still c.in_ok-reported.ensures.polls.reported
    (λ is. (c.in_ok-reported.ensures.polls.settles (c.table_is_lawful.ensures c.self.inside.rules.config) is).lasts)
    (c.run.ensures.polls.keeps has_times_in_order (order_preserved c.self.inside.rules.config) c.self.invariant.1)))

pub returns-in_err-reported-clause-ran : goal.returns-in_err-reported-clause-ran
returns-in_err-reported-clause-ran g c =
    let same : run_answer plain_state c.from_residual.result ≡ c.run.result = grind arith in
    rw (← c.self.view_is) (record { polls = rw same c.run.ensures.polls; settled = search rules; errors = grind arith; config = refl })

pub returns-in_err-reported-clause-traced : goal.returns-in_err-reported-clause-traced
returns-in_err-reported-clause-traced g c =
    let same : run_answer plain_state c.from_residual.result ≡ c.run.result = grind arith in
    rw (← c.self.view_is) (rw same c.run.ensures.traced)

pub returns-clause-ran : goal.returns-clause-ran
returns-clause-ran g c =
    let same : run_answer plain_state (Ok c.map.result) ≡ c.run.result = grind arith in
    rw (← c.self.view_is) (record {
      polls = rw same c.run.ensures.polls;
      settled = λ none. c.run.ensures.polls.settles (c.table_is_lawful.ensures c.self.inside.rules.config) (sym same ∙ ap (run_answer plain_state) none);
      errors = search rules;
      config = refl;
    })

pub returns-clause-traced : goal.returns-clause-traced
returns-clause-traced g c =
    let same : run_answer plain_state (Ok c.map.result) ≡ c.run.result = grind arith in
    rw (← c.self.view_is)
    (traced_as (protocol c.self.inside.rules.config) g.W.Words.gives g.L.DhcpLink.moves c.args.now (run_answer plain_state (Ok c.map.result)) c.run.result c.self.inside.client c.run.new.client
    c.args.words.now c.run.new.words c.args.link.now c.run.new.link same c.run.ensures.traced)

pub returns-clause-heard : goal.returns-clause-heard
returns-clause-heard g c =
    let same : run_answer plain_state (Ok c.map.result) ≡ c.run.result = grind arith in
    rw (← c.self.view_is)
    (granted_by (protocol c.self.inside.rules.config) c.args.now plain_state states.Done (λ lease refuse packet before. IsGranted c.self.inside.rules.config c.args.now refuse packet lease before)
    (subst (λ (parts : ClientParts). Law parts.config c.args.now) (sym c.self.view_is) (c.leases_are_granted.ensures c.args.now))
    (λ lease refuse packet before granted. record { heard = granted.heard; asked = granted.asked; given = granted.given })
    g.W.Words.gives g.L.DhcpLink.moves c.self.inside.client c.run.new.client c.args.words.now c.run.new.words c.args.link.now c.run.new.link
    (Ok c.map.result) c.run.result same c.run.ensures.traced c.run.ensures.polls.reported)

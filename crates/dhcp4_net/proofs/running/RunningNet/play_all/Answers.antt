-- One event more.
use Rattle.std.proofs.Common.{◌≡◌, ℕ, suc, ◌+◌, ◌∷◌, drop, get_or, Bool, true, false, Ok, Option, subst, rules, arith}
use Rattle.std.proofs.Math.Seq.{drop-cons}
use Rattle.dhcp4_server.specs.Answer.{answer_to}
use Rattle.dhcp4_net.specs.Net.{Net, after_event, net_after}
use Rattle.dhcp4_net.specs.Running.{StepsTo}
use Rattle.dhcp4_net.specs.Script.{GoesOn}
use Rattle.dhcp4_net.specs.declared.script.NetAct.TheVariants.{Nothing}
use Rattle.dhcp4_net.specs.declared.script.NetEvent.{NetEvent}
use Rattle.dhcp4_net.specs.declared.script.NetWho.TheVariants.{Client}
use Rattle.dhcp4_net.proofs.RunningLemmas.{refused_step, taken_step}
use Rattle.dhcp4_net.proofs.running.RunningNet.play_all.Goals as goal

no_event : NetEvent
no_event = record { moment = 0; who = Client 0 false Nothing }

pub returns-then-not-branch-clause-steps : goal.returns-then-not-branch-clause-steps
unfolding no_event
returns-then-not-branch-clause-steps c = λ config configs count net stands.
    let index : ℕ = c.loop-event.event-index in
    let whole : Option Net = net_after (answer_to config) configs config.bound_ms count net 1 c.args.events.now in
    let on : GoesOn config configs count whole (1 + index) (drop index c.args.events.now) c.loop-event.self = c.loop-event.invariant.goes_on config configs count net stands in
    let event : NetEvent = get_or c.args.events.now index no_event in
    let is : drop index c.args.events.now ≡ event ∷ drop (suc index) c.args.events.now = drop-cons c.args.events.now index no_event c.loop-event-test.true in
    let no : c.in_ok-step.field-0 ≡ false = search rules in
    let stepped : StepsTo config configs count (Ok false) c.step.new.self (after_event (answer_to config) configs config.bound_ms count on.net (1 + index) event) =
    subst (λ (test : Bool). StepsTo config configs count (Ok test) c.step.new.self (after_event (answer_to config) configs config.bound_ms count on.net (1 + index) event)) no
    (subst (λ (number : ℕ). StepsTo config configs count (Ok c.in_ok-step.field-0) c.step.new.self (after_event (answer_to config) configs config.bound_ms count on.net number event)) c.loop-event.invariant.number
    (c.in_ok-step.ensures.steps config configs count on.net on.stands)) in
    refused_step config configs count whole (1 + index) index c.args.events.now event c.loop-event.self c.step.new.self c.step.new.self on is stepped

pub loop-event-preserved : goal.loop-event-preserved
unfolding no_event
loop-event-preserved c = record {
  goes_on = λ config configs count net stands.
      let index : ℕ = c.loop-event.event-index in
      let whole : Option Net = net_after (answer_to config) configs config.bound_ms count net 1 c.args.events.now in
      let on : GoesOn config configs count whole (1 + index) (drop index c.args.events.now) c.loop-event.self = c.loop-event.invariant.goes_on config configs count net stands in
      let event : NetEvent = get_or c.args.events.now index no_event in
      let is : drop index c.args.events.now ≡ event ∷ drop (suc index) c.args.events.now = drop-cons c.args.events.now index no_event c.loop-event-test.true in
      let yes : c.in_ok-step.field-0 ≡ true = search rules in
      let stepped : StepsTo config configs count (Ok true) c.step.new.self (after_event (answer_to config) configs config.bound_ms count on.net (1 + index) event) =
      subst (λ (test : Bool). StepsTo config configs count (Ok test) c.step.new.self (after_event (answer_to config) configs config.bound_ms count on.net (1 + index) event)) yes
      (subst (λ (number : ℕ). StepsTo config configs count (Ok c.in_ok-step.field-0) c.step.new.self (after_event (answer_to config) configs config.bound_ms count on.net number event)) c.loop-event.invariant.number
      (c.in_ok-step.ensures.steps config configs count on.net on.stands)) in
      let next : GoesOn config configs count whole (suc (1 + index)) (drop (suc index) c.args.events.now) c.step.new.self =
      taken_step config configs count whole (1 + index) index c.args.events.now event c.loop-event.self c.step.new.self on is stepped in
      let later : suc index ≡ index + 1 = omega arith in
      let number : suc (1 + index) ≡ 1 + (index + 1) = omega arith in
      subst (λ (place : ℕ). GoesOn config configs count whole (1 + (index + 1)) (drop place c.args.events.now) c.step.new.self) later
      (subst (λ (many : ℕ). GoesOn config configs count whole many (drop (suc index) c.args.events.now) c.step.new.self) number next);
  number = omega (arith, c.loop-event.invariant.number);
}

-- What is said of each state that a client reports: it follows an answer that was read, or the end of a state.
use Rattle.std.proofs.Common.{◌≡◌, ℕ, suc, zero, Bool, true, false, List, [], ◌∷◌, ◌++◌, Option, Some, None, refl, subst}
use Rattle.std.specs.Prelude.{if◌then◌else◌}
use Rattle.std.specs.List.{AllByRecursion}
use Rattle.dhcp_clock.specs.declared.link.Handed.{Handed}
use Rattle.dhcp_clock.specs.declared.link.Packet.{Packet}
use Rattle.dhcp_history.specs.EventLoop.{call_at, event_at, events_at, polls_at}
use Rattle.dhcp_history.specs.History.{reading_of}
use Rattle.dhcp_history.specs.Machine.{EventEffect, PollEffect, View, after_poll, attempt_now, begin_stay, call, call_by, clean_up, end_state, failed_output, handed_output, has_ended, has_open_attempt, is_stopped, limit_is_over, poll, polls, receive, release_of, stop, take_answer, transmit, transmit_and_receive}
use Rattle.dhcp_history.specs.Protocol.{Protocol, has_come}
use Rattle.dhcp_history.specs.Script.{after_call}
use Rattle.dhcp_history.specs.declared.script.NumberedEvent.{NumberedEvent}
use Rattle.dhcp_history.specs.declared.script.Failure.TheVariants as failures
use Rattle.dhcp_history.specs.declared.script.Input.{Input}
use Rattle.dhcp_history.specs.declared.script.Input.TheVariants as inputs
use Rattle.dhcp_history.specs.declared.script.NumberedReport.{NumberedReport}
use Rattle.dhcp_history.specs.declared.script.Report.{Report}
use Rattle.dhcp_history.specs.declared.script.Report.TheVariants as reports

inner : {A : Type 0} (a b : A) → Some a ≡ Some b → a ≡ b
inner a b e = cc

module _ {PublicState : Type 0} (Says : PublicState → Type 0) where
  -- what is said of a report: of a state that is reported
  abbrev pub SaysReport : Report PublicState Handed → Type 0
  SaysReport (reports.Changed state) = Says state
  SaysReport (reports.Handed message) = Unit {0}
  SaysReport (reports.Refused message) = Unit {0}
  SaysReport (reports.Failed failure) = Unit {0}

  abbrev pub AllSaid : List (NumberedReport PublicState Handed) → Type 0
  AllSaid outputs = AllByRecursion (λ (output : NumberedReport PublicState Handed). SaysReport output.report) outputs

  said-append : (xs ys : List (NumberedReport PublicState Handed)) → AllSaid xs → AllSaid ys → AllSaid (xs ++ ys)
  said-append [] ys hx hy = hy
  said-append (x ∷ xs) ys hx hy = (hx.0, said-append xs ys hx.1 hy)

  handed_said : (number : ℕ) (refuse : Bool) (message : Option Handed) → AllSaid (handed_output number refuse message)
  handed_said number refuse None = tt
  handed_said number true (Some message) = (tt, tt)
  handed_said number false (Some message) = (tt, tt)

  failed_said : (number : ℕ) (failed : Bool) → AllSaid (failed_output number failed)
  failed_said number true = (tt, tt)
  failed_said number false = tt

  -- what is said of every state
  pub said_of_each : ((state : PublicState) → Says state) → (outputs : List (NumberedReport PublicState Handed)) → AllSaid outputs
  said_of_each each [] = tt
  said_of_each each (output ∷ outputs) = (go output.report, said_of_each each outputs)
    where
      go : (report : Report PublicState Handed) → SaysReport report
      go (reports.Changed state) = each state
      go (reports.Handed message) = tt
      go (reports.Refused message) = tt
      go (reports.Failed failure) = tt

module _ {PublicState State Exchange Answer Lease : Type 0} (p : Protocol PublicState Packet Handed State Exchange Answer Lease) (Says : PublicState → Type 0)
    (answered : (state : State) (exchange : Exchange) (packet : Packet) (words : List ℕ) (answer : Answer) (now : ℕ) → (p.reading state exchange packet words).value ≡ Some answer → Says (p.public_state (p.after_answer state answer now exchange).state))
    (ended : (state : State) (exchange : Exchange) → Says (p.public_state (p.after_end state exchange).state)) where
  -- the state to which a poll changes
  abbrev Fine : PollEffect Packet Handed State Exchange → Type 0
  Fine once = (next : State) → once.change ≡ Some next → Says (p.public_state next)

  fine_if : (b : Bool) (x y : PollEffect Packet Handed State Exchange) → Fine x → Fine y → Fine (if b then x else y)
  fine_if true x y hx hy = hx
  fine_if false x y hx hy = hy

  none_fine : (once : PollEffect Packet Handed State Exchange) → once.change ≡ None → Fine once
  none_fine once is next e = absurd cc

  end_fine : (now : ℕ) (input : Input Packet) (view : View State Exchange) → Fine (end_state p now input view)
  end_fine now input view next e = subst (λ (state : State). Says (p.public_state state)) (inner _ next e) (ended view.state _)

  read_said : (view : View State Exchange) (input : Input Packet) (now : ℕ) (answer : Answer) → (reading_of p view.state view.exchange view.words input).value ≡ Some answer → Says (p.public_state (p.after_answer view.state answer now view.exchange).state)
  read_said view (inputs.Arrival packet) now answer e = answered view.state view.exchange packet view.words answer now e
  read_said view inputs.Nothing now answer e = absurd cc
  read_said view inputs.Release now answer e = absurd cc
  read_said view inputs.CleanUp now answer e = absurd cc

  take_fine : (now : ℕ) (message : Option Handed) (view : View State Exchange) (answer : Option Answer) (words : List ℕ) →
      ((a : Answer) → answer ≡ Some a → Says (p.public_state (p.after_answer view.state a now view.exchange).state)) → Fine (take_answer p now message view answer words)
  take_fine now message view None words h next e = absurd cc
  take_fine now message view (Some a) words h next e = subst (λ (state : State). Says (p.public_state state)) (inner _ next e) (h a refl)

  receive_fine : (now : ℕ) (input : Input Packet) (message : Option Handed) (view : View State Exchange) → Fine (receive p now input message view)
  receive_fine now input message view =
      let read = reading_of p view.state view.exchange view.words input in
      fine_if (has_open_attempt view.phase) (take_answer p now message view read.value read.left) (record { view = view; handed = message; left = input; change = None; failed = false })
      (take_fine now message view read.value read.left (λ answer e. read_said view input now answer e))
      (none_fine (record { view = view; handed = message; left = input; change = None; failed = false }) refl)

  try_fine : (now : ℕ) (refuse : Bool) (input : Input Packet) (view : View State Exchange) → Fine (transmit_and_receive p now refuse input view)
  try_fine now refuse input view =
      fine_if (has_come now view.deadline) (receive p now input (Some (attempt_now p now view).value.message) (transmit p now refuse view)) (receive p now input None view)
      (receive_fine now input (Some (attempt_now p now view).value.message) (transmit p now refuse view))
      (receive_fine now input None view)

  poll_fine : (now : ℕ) (refuse : Bool) (input : Input Packet) (view : View State Exchange) → Fine (poll p now refuse input view)
  poll_fine now refuse input view =
      let tried = transmit_and_receive p now refuse input (begin_stay p now view) in
      let later = if has_ended p now view then end_state p now input view else tried in
      let limited = if limit_is_over p now view then stop input view else later in
      fine_if (is_stopped view.phase) (stop input view) limited (none_fine (stop input view) refl)
      (fine_if (limit_is_over p now view) (stop input view) later (none_fine (stop input view) refl)
      (fine_if (has_ended p now view) (end_state p now input view) tried (end_fine now input view) (try_fine now refuse input (begin_stay p now view))))

  polls_said : (fuel : ℕ) (event : NumberedEvent Packet) (view : View State Exchange) → AllSaid Says (polls p fuel event view).outputs
  polls_said zero event view = tt
  polls_said (suc fuel) event view = go once.change (poll_fine event.moment event.refuse event.input view) (λ left next. polls_said fuel left next)
    where
      once : PollEffect Packet Handed State Exchange
      once = poll p event.moment event.refuse event.input view

      go : (change : Option State) → ((next : State) → change ≡ Some next → Says (p.public_state next)) →
          ((left : NumberedEvent Packet) (next : View State Exchange) → AllSaid Says (polls p fuel left next).outputs) → AllSaid Says (after_poll p (polls p fuel) event change once).outputs
      go None fine ih = said-append Says (handed_output event.number event.refuse once.handed) (failed_output event.number once.failed) (handed_said Says event.number event.refuse once.handed) (failed_said Says event.number once.failed)
      go (Some next) fine ih =
          let left : NumberedEvent Packet = record event { input = once.left } in
          said-append Says (handed_output event.number event.refuse once.handed) (record { event = event.number; report = reports.Changed (p.public_state next) } ∷ (polls p fuel left once.view).outputs)
          (handed_said Says event.number event.refuse once.handed) (fine next refl, ih left once.view)

  released_said : (lease : Option Lease) (event : NumberedEvent Packet) (view : View State Exchange) → AllSaid Says (release_of p lease event view).outputs
  released_said None event view = tt
  released_said (Some lease) event view = go event.refuse
    where
      go : (b : Bool) → AllSaid Says (let effect : EventEffect PublicState Handed State Exchange = if b then record {
        outputs = record { event = event.number; report = reports.Refused (p.release_message lease view.exchange) } ∷ record { event = event.number; report = reports.Failed failures.SendRefused } ∷ [];
        view = view;
      } else record { outputs = record { event = event.number; report = reports.Handed (p.release_message lease view.exchange) } ∷ []; view = clean_up p view } in effect).outputs
      go true = (tt, (tt, tt))
      go false = (tt, tt)

  call_said : (input : Input Packet) (event : NumberedEvent Packet) (view : View State Exchange) → AllSaid Says (call_by p input event view).outputs
  call_said inputs.Nothing event view = tt
  call_said (inputs.Arrival packet) event view = tt
  call_said inputs.Release event view = released_said (p.held_lease view.state) event view
  call_said inputs.CleanUp event view = tt

  event_said : (event : NumberedEvent Packet) (view : View State Exchange) → AllSaid Says (event_at p event view).outputs
  unfolding call_at polls_at
  event_said event view =
      said-append Says (call p event view).outputs (polls p 7 (after_call event) (call p event view).view).outputs
      (call_said event.input event view) (polls_said 7 (after_call event) (call p event view).view)

  pub events_said : (view : View State Exchange) (events : List (NumberedEvent Packet)) → AllSaid Says (events_at p view events).outputs
  events_said view [] = tt
  events_said view (event ∷ events) =
      said-append Says (event_at p event view).outputs (events_at p (event_at p event view).view events).outputs
      (event_said event view) (events_said (event_at p event view).view events)

-- In what a history reports, an event has at most two messages besides that of a release.
use Rattle.std.proofs.Common.{subst, sym, ◌≡◌, ℕ, suc, zero, ◌+◌, ◌≤◌, List, [], ◌∷◌, ◌++◌, refl, Bool, true, false, arith}
use Rattle.std.specs.Prelude.{Option, Some, None, ◌==◌, if◌then◌else◌}
use Rattle.std.specs.List.{AllByRecursion}
use Rattle.dhcp_history.specs.Protocol.{Protocol, Lawful}
use Rattle.dhcp_history.specs.Script.{Input, Nothing, Arrival, Release, CleanUp, NumberedEvent, NumberedReport, Changed, Script}
use Rattle.dhcp_history.specs.History.{history, outputs}
use Rattle.dhcp_history.specs.Script.{after_call}
use Rattle.dhcp_history.specs.Machine.{View, PollEffect, EventEffect, poll, polls, after_poll, handed_output, failed_output, call, call_by, release_of, replay_from, first_view}
use Rattle.dhcp_history.specs.Bounds.{Numbered, InOrder, count_of, is_send, is_send_at, allowance, allowed}
use Rattle.dhcp_history.proofs.Events.{count_of-append, two_sends}
use Rattle.dhcp_history.proofs.Calls.{replay_history}

module _ {PublicState Message : Type 0} where
  -- all these outputs are of the event with this number
  abbrev Of : ℕ → List (NumberedReport PublicState Message) → Type 0
  Of number outs = AllByRecursion (λ output. output.event ≡ number) outs

  of-append : (number : ℕ) (xs ys : List (NumberedReport PublicState Message)) → Of number xs → Of number ys → Of number (xs ++ ys)
  of-append number [] ys a b = b
  of-append number (x ∷ xs) ys a b = (a.0, of-append number xs ys a.1 b)

  -- of the event with another number there is none among them
  counted_at : (n number : ℕ) (outs : List (NumberedReport PublicState Message)) → Of number outs → count_of (is_send_at n) outs ≡ (if number == n then count_of is_send outs else 0)
  counted_at n number outs all = go (number == n) refl
    where
      here : (number == n) ≡ true → (xs : List (NumberedReport PublicState Message)) → Of number xs → count_of (is_send_at n) xs ≡ count_of is_send xs
      here e [] a = refl
      here e (x ∷ xs) a = rw (a.0, e, here e xs a.1)

      elsewhere : (number == n) ≡ false → (xs : List (NumberedReport PublicState Message)) → Of number xs → count_of (is_send_at n) xs ≡ 0
      elsewhere e [] a = refl
      elsewhere e (x ∷ xs) a = rw (a.0, e, elsewhere e xs a.1)

      go : (b : Bool) → (number == n) ≡ b → count_of (is_send_at n) outs ≡ (if b then count_of is_send outs else 0)
      go true e = here e outs all
      go false e = elsewhere e outs all

module _ {PublicState Packet Message State Exchange Answer Lease : Type 0} (p : Protocol PublicState Packet Message State Exchange Answer Lease) where
  of_handed : (v : NumberedEvent Packet) (handed : Option Message) → Of {PublicState = PublicState} v.number (handed_output v.number v.refuse handed)
  of_handed v None = tt
  of_handed v (Some message) = (refl, tt)

  of_failed : (v : NumberedEvent Packet) (failed : Bool) → Of {PublicState = PublicState} {Message = Message} v.number (failed_output v.number failed)
  of_failed v true = (refl, tt)
  of_failed v false = tt

  of_polls : (fuel : ℕ) (v : NumberedEvent Packet) (view : View State Exchange) → Of v.number (polls p fuel v view).outputs
  of_polls zero v view = tt
  of_polls (suc fuel) v view = go once.change (λ left next. of_polls fuel left next)
    where
      once : PollEffect Packet Message State Exchange
      once = poll p v.moment v.refuse v.input view

      go : (change : Option State) → ((left : NumberedEvent Packet) (next : View State Exchange) → Of left.number (polls p fuel left next).outputs) → Of v.number (after_poll p (polls p fuel) v change once).outputs
      go None ih = of-append v.number (handed_output v.number v.refuse once.handed) (failed_output v.number once.failed) (of_handed v once.handed) (of_failed v once.failed)
      go (Some next) ih =
          let left : NumberedEvent Packet = record v { input = once.left } in
          of-append v.number (handed_output v.number v.refuse once.handed) (record { event = v.number; report = Changed (p.public_state next) } ∷ (polls p fuel left once.view).outputs) (of_handed v once.handed) (refl, ih left once.view)

  -- a call has at most one message, and that is of a release
  record Calls (v : NumberedEvent Packet) (outs : List (NumberedReport PublicState Message)) : Type 0 where
    numbered : Of v.number outs
    few : count_of is_send outs + 2 ≤ allowance v.input

  call_few : (v : NumberedEvent Packet) (view : View State Exchange) → Calls v (call p v view).outputs
  call_few v view = by_what v.input refl
    where
      by_held : v.input ≡ Release → (held : Option Lease) (refuse : Bool) → v.refuse ≡ refuse → Calls v (release_of p held v view).outputs
      by_held w None refuse e = record { numbered = tt; few = rw w (omega arith) }
      by_held w (Some lease) true e = rw e (record { numbered = (refl, (refl, tt)); few = rw w (omega arith) })
      by_held w (Some lease) false e = rw e (record { numbered = (refl, tt); few = rw w (omega arith) })

      by_what : (input : Input Packet) → v.input ≡ input → Calls v (call_by p input v view).outputs
      by_what Nothing w = record { numbered = tt; few = rw w (omega arith) }
      by_what (Arrival packet) w = record { numbered = tt; few = rw w (omega arith) }
      by_what CleanUp w = record { numbered = tt; few = rw w (omega arith) }
      by_what Release w = by_held w (p.held_lease view.state) v.refuse refl

  replay_few : Lawful p → (n : ℕ) (view : View State Exchange) (events : List (NumberedEvent Packet)) → count_of (is_send_at n) (replay_from p view events) ≤ allowed n events
  replay_few lawful n view [] = omega arith
  replay_few lawful n view (v ∷ vs) =
      let first : EventEffect PublicState Message State Exchange = call p v view in
      let then' : EventEffect PublicState Message State Exchange = polls p 7 (after_call v) first.view in
      sum first.outputs then'.outputs (replay_from p then'.view vs) (call_few v view) (of_polls 7 (after_call v) first.view) (two_sends p lawful 7 (after_call v) first.view) (replay_few lawful n then'.view vs)
    where
      sum : (xs ys zs : List (NumberedReport PublicState Message)) → Calls v xs → Of v.number ys → count_of is_send ys ≤ 2 → count_of (is_send_at n) zs ≤ allowed n vs →
          count_of (is_send_at n) (xs ++ (ys ++ zs)) ≤ (if v.number == n then allowance v.input else 0) + allowed n vs
      sum xs ys zs calls numbered two later =
          rw (count_of-append (is_send_at n) xs (ys ++ zs), count_of-append (is_send_at n) ys zs, counted_at n v.number xs calls.numbered, counted_at n v.number ys numbered)
          (go (v.number == n))
        where
          go : (b : Bool) → (if b then count_of is_send xs else 0) + ((if b then count_of is_send ys else 0) + count_of (is_send_at n) zs) ≤ (if b then allowance v.input else 0) + allowed n vs
          go true = omega (arith, calls.few, two, later)
          go false = omega (arith, later)

  pub history_sends : Lawful p → (script : Script Packet State Exchange) (n : ℕ) → count_of (is_send_at n) (outputs p (history p script)) ≤ allowed n script.events
  history_sends lawful script n =
      subst (λ (outs : List (NumberedReport PublicState Message)). count_of (is_send_at n) outs ≤ allowed n script.events) (replay_history p lawful script) (replay_few lawful n (first_view script) script.events)

  -- what is reported of one event comes before what is reported of later ones
  earlier : (least more : ℕ) (outs : List (NumberedReport PublicState Message)) → least ≤ more → InOrder more outs → InOrder least outs
  earlier least more [] h o = tt
  earlier least more (x ∷ xs) h o = (omega (arith, h, o.0), o.1)

  then_later : (least number : ℕ) (xs ys : List (NumberedReport PublicState Message)) → least ≤ number → Of number xs → InOrder number ys → InOrder least (xs ++ ys)
  then_later least number [] ys h a o = earlier least number ys h o
  then_later least number (x ∷ xs) ys h a o =
      (rw a.0 h, subst (λ (n : ℕ). InOrder n (xs ++ ys)) (sym a.0) (then_later number number xs ys (omega arith) a.1 o))

  replay_in_order : (least : ℕ) (view : View State Exchange) (events : List (NumberedEvent Packet)) → Numbered least events → InOrder least (replay_from p view events)
  replay_in_order least view [] h = tt
  replay_in_order least view (v ∷ vs) h =
      let first : EventEffect PublicState Message State Exchange = call p v view in
      let then' : EventEffect PublicState Message State Exchange = polls p 7 (after_call v) first.view in
      then_later least v.number first.outputs (then'.outputs ++ replay_from p then'.view vs) h.0 (call_few v view).numbered
      (then_later v.number v.number then'.outputs (replay_from p then'.view vs) (omega arith) (of_polls 7 (after_call v) first.view) (replay_in_order v.number then'.view vs h.1))

  -- what a history reports stay by stay stands in the order of events
  pub history_in_order : Lawful p → (script : Script Packet State Exchange) (least : ℕ) → Numbered least script.events → InOrder least (outputs p (history p script))
  history_in_order lawful script least h =
      subst (λ (outs : List (NumberedReport PublicState Message)). InOrder least outs) (replay_history p lawful script) (replay_in_order least (first_view script) script.events h)

-- What holds of the polls of each event of a script, and of the states and messages of each stay.
use Rattle.std.proofs.Common.{◌≡◌, ℕ, suc, ◌≤◌, List, [], ◌∷◌, refl, sym, subst, arith}
use Rattle.std.specs.Prelude.{All}
use Rattle.std.specs.List.{AllByRecursion, Contains}
use Rattle.std.proofs.lemmas.List.Elements.{All-contains_itself, All-from_recursion, recursion_from_All}
use Rattle.dhcp_clock.specs.declared.link.Handed.{Handed}
use Rattle.dhcp_clock.specs.declared.link.Packet.{Packet}
use Rattle.dhcp_history.specs.Bounds.{count_of, is_change, is_send, poll_count, IsWithinState}
use Rattle.dhcp_history.specs.EventLoop.{call_at, event_at}
use Rattle.dhcp_history.specs.History.{Stay, history}
use Rattle.dhcp_history.specs.Machine.{View, polls}
use Rattle.dhcp_history.specs.Protocol.{Protocol}
use Rattle.dhcp_history.specs.Script.{Script, after_call}
use Rattle.dhcp_history.specs.declared.script.NumberedEvent.{NumberedEvent}
use Rattle.dhcp_history.specs.declared.script.Input.{Input}
use Rattle.dhcp_history.specs.declared.script.Input.TheVariants as inputs
use Rattle.dhcp_history.proofs.HistoryLemmas as kept
use Rattle.dhcp_script.specs.declared.event.Event.{Event}
use Rattle.dhcp_replay.specs.Life.{input_of, numbered, numbered_event}
use Rattle.dhcp_replay.specs.Settles.{ComesInBy, NamesItsBasis, SettlesAtEach}

-- what holds of the polls of every event, holds at each event
module _ {PublicState State Exchange Answer Lease : Type 0} (p : Protocol PublicState Packet Handed State Exchange Answer Lease)
    (seven : (fuel : ℕ) (event : NumberedEvent Packet) (client : View State Exchange) → poll_count p fuel event client ≤ 7)
    (six : (fuel : ℕ) (event : NumberedEvent Packet) (client : View State Exchange) → count_of is_change (polls p fuel event client).outputs ≤ 6)
    (two : (fuel : ℕ) (event : NumberedEvent Packet) (client : View State Exchange) → count_of is_send (polls p fuel event client).outputs ≤ 2)
    (within : (event : NumberedEvent Packet) (client : View State Exchange) → IsWithinState p event.moment (polls p 7 event client).view) where
  pub settles_at_each : (client : View State Exchange) (events : List (NumberedEvent Packet)) → SettlesAtEach p client events
  settles_at_each client [] = tt
  settles_at_each client (event ∷ events) = (
    record {
      seven_polls = λ fuel. seven fuel (after_call event) (call_at p event client).view;
      six_changes = λ fuel. six fuel (after_call event) (call_at p event client).view;
      two_messages = λ fuel. two fuel (after_call event) (call_at p event client).view;
      not_overdue = within (after_call event) (call_at p event client).view;
    },
    settles_at_each (event_at p event client).view events,
  )

-- what comes in by the event with a number comes in by each later one
pub comes_later : (events : List (NumberedEvent Packet)) (number more : ℕ) (packet : Packet) → number ≤ more → ComesInBy events number packet → ComesInBy events more packet
comes_later events number more packet le comes = record { event = comes.event; is_among = comes.is_among; brings = comes.brings; earlier = omega (arith, le, comes.earlier) }

-- what a protocol keeps of states and messages, where the packets of these events come in, holds of each stay
module _ {PublicState State Exchange Answer Lease : Type 0} (p : Protocol PublicState Packet Handed State Exchange Answer Lease)
    (Good : Exchange → Type 0) (Held : ℕ → State → Type 0) (Read : ℕ → State → Answer → Type 0) (Fits : State → Handed → Type 0) (events : List Event) where
  abbrev Comes : ℕ → Packet → Type 0
  Comes = ComesInBy (numbered 1 events)

  comes_in : (event : NumberedEvent Packet) → Contains (numbered 1 events) event → (input : Input Packet) → event.input ≡ input → kept.ComesIn p Good Held Read Comes Fits event.number input
  comes_in event among (inputs.Arrival packet) is = record { event = event; is_among = among; brings = is; earlier = omega arith }
  comes_in event among inputs.Nothing is = tt
  comes_in event among inputs.Release is = tt
  comes_in event among inputs.CleanUp is = tt

  all_come : (least number : ℕ) (later : List Event) → least ≤ number → AllByRecursion (Contains (numbered 1 events)) (numbered number later) → kept.AllCome p Good Held Read Comes Fits least (numbered number later)
  all_come least number [] le h = tt
  all_come least number (event ∷ later) le h = (
    record { reached = le; comes = comes_in (numbered_event number event) h.0 (input_of event.what) refl },
    all_come number (suc number) later (omega arith) h.1,
  )

  own_come : kept.AllCome p Good Held Read Comes Fits 1 (numbered 1 events)
  own_come = all_come 1 1 events (omega arith) (recursion_from_All (Contains (numbered 1 events)) (numbered 1 events) (All-contains_itself (numbered 1 events)))

  module _ (keeps : kept.Keeps p Good Held Read Comes Fits) where
    all_named : (stays : List (Stay State Handed)) → AllByRecursion (kept.HoldsIn p Good Held Read Comes Fits keeps) stays → AllByRecursion (NamesItsBasis Held Fits) stays
    all_named [] h = tt
    all_named (stay ∷ stays) h = (
      record { basis = h.0.held; no_earlier = λ k d lt. (h.0.attempts k d lt).reached; messages = λ k d lt. (h.0.attempts k d lt).fits },
      all_named stays h.1,
    )

    pub stays_named : (script : Script Packet State Exchange) → script.events ≡ numbered 1 events → Held 1 script.state → Good script.exchange → All (NamesItsBasis Held Fits) (history p script)
    stays_named script is held good =
        All-from_recursion (NamesItsBasis Held Fits) (history p script)
        (all_named (history p script) (kept.history_holds_in p Good Held Read Comes Fits keeps script 1 held good
        (subst (kept.AllCome p Good Held Read Comes Fits 1) (sym is) own_come)))

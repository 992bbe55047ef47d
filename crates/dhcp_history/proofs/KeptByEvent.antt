-- What a protocol keeps is kept by each poll, by each call, and so by each event.
use Rattle.std.proofs.Common.{◌≡◌, ℕ, suc, zero, List, [], ◌∷◌, ◌++◌, refl, sym, ◌∙◌, subst, Bool, true, false}
use Rattle.std.specs.Prelude.{Option, Some, None, IfSome, if◌then◌else◌}
use Rattle.std.specs.List.{AllByRecursion}
use Rattle.dhcp_clock.specs.declared.link.Handed.{Handed as Message}
use Rattle.dhcp_clock.specs.declared.link.Packet.{Packet}
use Rattle.dhcp_history.specs.declared.script.Report.TheVariants.{Handed, Refused, Changed, Failed}
use Rattle.dhcp_history.specs.declared.script.Failure.TheVariants.{SendRefused}
use Rattle.dhcp_history.specs.declared.script.NumberedReport.{NumberedReport}
use Rattle.dhcp_history.specs.declared.script.NumberedEvent.{NumberedEvent}
use Rattle.dhcp_history.specs.declared.script.Input.{Input}
use Rattle.dhcp_history.specs.declared.script.Input.TheVariants.{Nothing, Arrival, Release, CleanUp}
use Rattle.dhcp_history.specs.declared.client.Phase.{Phase}
use Rattle.dhcp_history.specs.declared.client.Phase.TheVariants.{Unpolled, Pausing, Listening, Resting, Stopped}
use Rattle.dhcp_history.specs.EventLoop.{call_at, event_at, polls_at}
use Rattle.dhcp_history.specs.History.{after_wait_if, reading_of}
use Rattle.dhcp_history.specs.Machine.{EventEffect, PollEffect, View, after_poll, attempt_now, begin_in, begin_stay, call_by, clean_up, end_state, exchange_at, failed_output, handed_output, has_ended, has_open_attempt, is_pausing, is_stopped, is_wait_over, limit_is_over, poll, polls, receive, release_of, stop, take_answer, transmit, transmit_and_receive}
use Rattle.dhcp_history.specs.Protocol.{Protocol, has_come}
use Rattle.dhcp_history.specs.Script.{after_call, input_after_call}
use Rattle.dhcp_history.specs.KeptByEvent as kept

module _ {PublicState State Exchange Answer Lease : Type 0} (p : Protocol PublicState Packet Message State Exchange Answer Lease)
    (Good : Exchange → Type 0) (Held : State → Type 0) (Comes : Packet → Type 0) (Fits : Message → Type 0) (Shows : PublicState → Type 0) (moment : ℕ) (keeps : kept.Keeps p Good Held Comes Fits Shows moment) where
  abbrev ComesIn : Input Packet → Type 0
  ComesIn = kept.ComesIn p Good Held Comes Fits Shows moment

  abbrev Told : List (NumberedReport PublicState Message) → Type 0
  Told outputs = AllByRecursion (λ output. kept.Tells p Good Held Comes Fits Shows moment output.report) outputs

  abbrev IsKept : EventEffect PublicState Message State Exchange → Type 0
  IsKept = kept.IsKept p Good Held Comes Fits Shows moment

  told-append : (xs ys : List (NumberedReport PublicState Message)) → Told xs → Told ys → Told (xs ++ ys)
  told-append [] ys hx hy = hy
  told-append (x ∷ xs) ys hx hy = (hx.0, told-append xs ys hx.1 hy)

  -- 1. A poll.

  record Polled (once : PollEffect Packet Message State Exchange) : Type 0 where
    good : Good once.view.exchange
    held : Held once.view.state
    fits : IfSome once.handed Fits
    shows : IfSome once.change (λ next. Shows (p.public_state next))
    left : ComesIn once.left

  either : (b : Bool) (x y : PollEffect Packet Message State Exchange) → Polled x → Polled y → Polled (if b then x else y)
  either true x y hx hy = hx
  either false x y hx hy = hy

  waited_good : (b : Bool) (exchange : Exchange) → Good exchange → Good (after_wait_if p b exchange)
  waited_good true exchange g = keeps.waited exchange g
  waited_good false exchange g = g

  begun_good : (phase : Phase) (now : ℕ) (view : View State Exchange) → Good view.exchange → Good (begin_in p phase now view).exchange
  begun_good Unpolled now view g = g
  begun_good Pausing now view g = g
  begun_good Listening now view g = g
  begun_good Resting now view g = g
  begun_good Stopped now view g = g

  begun_held : (phase : Phase) (now : ℕ) (view : View State Exchange) → Held view.state → Held (begin_in p phase now view).state
  begun_held Unpolled now view h = h
  begun_held Pausing now view h = h
  begun_held Listening now view h = h
  begun_held Resting now view h = h
  begun_held Stopped now view h = h

  -- what a state that comes after an answer has
  record Next (state : State) : Type 0 where
    held : Held state
    shows : Shows (p.public_state state)

  read_gives : (state : State) (exchange : Exchange) (words : List ℕ) (input : Input Packet) (answer : Answer) (now : ℕ) → now ≡ moment → Good exchange → Held state → ComesIn input →
      (reading_of p state exchange words input).value ≡ Some answer → Next (p.after_answer state answer now exchange).state
  read_gives state exchange words (Arrival packet) answer now at g h comes e = subst (λ (when : ℕ). Next (p.after_answer state answer when exchange).state) (sym at) (record {
    held = keeps.answered_held state exchange packet words answer g h comes e;
    shows = keeps.shows_answered state exchange packet words answer g comes e;
  })
  read_gives state exchange words Nothing answer now at g h comes e = absurd (cc e)
  read_gives state exchange words Release answer now at g h comes e = absurd (cc e)
  read_gives state exchange words CleanUp answer now at g h comes e = absurd (cc e)

  taken : (now : ℕ) (handed : Option Message) (view : View State Exchange) (answer : Option Answer) (words : List ℕ) → Good view.exchange → Held view.state → IfSome handed Fits →
      ((found : Answer) → answer ≡ Some found → Next (p.after_answer view.state found now view.exchange).state) → Polled (take_answer p now handed view answer words)
  taken now handed view None words g h fits gives = record { good = g; held = h; fits = fits; shows = tt; left = tt }
  taken now handed view (Some answer) words g h fits gives = record {
    good = keeps.answered view.state answer now view.exchange g;
    held = (gives answer refl).held;
    fits = fits;
    shows = (gives answer refl).shows;
    left = tt;
  }

  received : (now : ℕ) (input : Input Packet) (handed : Option Message) (view : View State Exchange) → now ≡ moment → Good view.exchange → Held view.state → ComesIn input → IfSome handed Fits → Polled (receive p now input handed view)
  received now input handed view at g h comes fits =
      either (has_open_attempt view.phase)
      (take_answer p now handed view (reading_of p view.state view.exchange view.words input).value (reading_of p view.state view.exchange view.words input).left)
      (record { view = view; handed = handed; left = input; change = None; failed = false })
      (taken now handed view (reading_of p view.state view.exchange view.words input).value (reading_of p view.state view.exchange view.words input).left g h fits
      (λ found e. read_gives view.state view.exchange view.words input found now at g h comes e))
      (record { good = g; held = h; fits = fits; shows = tt; left = comes })

  tried : (now : ℕ) (refuse : Bool) (input : Input Packet) (view : View State Exchange) → now ≡ moment → Good view.exchange → Held view.state → ComesIn input → Polled (transmit_and_receive p now refuse input view)
  tried now refuse input view at g h comes =
      either (has_come now view.deadline)
      (receive p now input (Some (attempt_now p now view).value.message) (transmit p now refuse view))
      (receive p now input None view)
      (received now input (Some (attempt_now p now view).value.message) (transmit p now refuse view) at
      (keeps.attempted view.state (exchange_at p now view) (record { is_first = is_pausing view.phase; entered = view.entered; now = now }) view.words (waited_good (is_wait_over p now view) view.exchange g)) h comes
      (keeps.fits view.state (exchange_at p now view) (record { is_first = is_pausing view.phase; entered = view.entered; now = now }) view.words (waited_good (is_wait_over p now view) view.exchange g) h))
      (received now input None view at g h comes tt)

  poll_keeps : (now : ℕ) (refuse : Bool) (input : Input Packet) (view : View State Exchange) → now ≡ moment → Good view.exchange → Held view.state → ComesIn input → Polled (poll p now refuse input view)
  poll_keeps now refuse input view at g h comes =
      let stopped : Polled (stop input view) = record { good = g; held = h; fits = tt; shows = tt; left = comes } in
      either (is_stopped view.phase) (stop input view)
      (if limit_is_over p now view then stop input view else (if has_ended p now view then end_state p now input view else transmit_and_receive p now refuse input (begin_stay p now view)))
      stopped
      (either (limit_is_over p now view) (stop input view)
      (if has_ended p now view then end_state p now input view else transmit_and_receive p now refuse input (begin_stay p now view))
      stopped
      (either (has_ended p now view) (end_state p now input view) (transmit_and_receive p now refuse input (begin_stay p now view))
      (record {
        good = keeps.ended view.state (exchange_at p now view) (waited_good (is_wait_over p now view) view.exchange g);
        held = keeps.ended_held view.state (exchange_at p now view) h;
        fits = tt;
        shows = keeps.shows_ended view.state (exchange_at p now view) (waited_good (is_wait_over p now view) view.exchange g);
        left = comes;
      })
      (tried now refuse input (begin_stay p now view) at (begun_good view.phase now view g) (begun_held view.phase now view h) comes)))

  -- 2. The polls of an event.

  handed_told : (number : ℕ) (refuse : Bool) (handed : Option Message) → IfSome handed Fits → Told (handed_output number refuse handed)
  handed_told number refuse None fits = tt
  handed_told number true (Some message) fits = (tt, tt)
  handed_told number false (Some message) fits = (fits, tt)

  failed_told : (number : ℕ) (failed : Bool) → Told (failed_output number failed)
  failed_told number true = (tt, tt)
  failed_told number false = tt

  polls_keep : (fuel : ℕ) (event : NumberedEvent Packet) (view : View State Exchange) → event.moment ≡ moment → Good view.exchange → Held view.state → ComesIn event.input → IsKept (polls p fuel event view)
  polls_keep zero event view at g h comes = record { good = g; held = h; told = tt }
  polls_keep (suc fuel) event view at g h comes =
      go (poll p event.moment event.refuse event.input view).change (poll p event.moment event.refuse event.input view) (poll_keeps event.moment event.refuse event.input view at g h comes)
      (poll_keeps event.moment event.refuse event.input view at g h comes).shows
      (λ left next same good held later. polls_keep fuel left next (same ∙ at) good held later)
    where
      go : (change : Option State) (once : PollEffect Packet Message State Exchange) → Polled once → IfSome change (λ next. Shows (p.public_state next)) →
          ((left : NumberedEvent Packet) (next : View State Exchange) → left.moment ≡ event.moment → Good next.exchange → Held next.state → ComesIn left.input → IsKept (polls p fuel left next)) → IsKept (after_poll p (polls p fuel) event change once)
      go None once polled shows again = record {
        good = polled.good;
        held = polled.held;
        told = told-append (handed_output event.number event.refuse once.handed) (failed_output event.number once.failed) (handed_told event.number event.refuse once.handed polled.fits) (failed_told event.number once.failed);
      }
      go (Some next) once polled shows again =
          let more : IsKept (polls p fuel (record event { input = once.left }) once.view) = again (record event { input = once.left }) once.view refl polled.good polled.held polled.left in
          record {
            good = more.good;
            held = more.held;
            told = told-append (handed_output event.number event.refuse once.handed)
                (record { event = event.number; report = Changed (p.public_state next) } ∷ (polls p fuel (record event { input = once.left }) once.view).outputs)
                (handed_told event.number event.refuse once.handed polled.fits) (shows, more.told);
          }

  -- 3. The call of an event, and the event.

  release_keeps : (held : Option Lease) (event : NumberedEvent Packet) (view : View State Exchange) → p.held_lease view.state ≡ held → Good view.exchange → Held view.state → IsKept (release_of p held event view)
  release_keeps None event view is g h = record { good = g; held = h; told = tt }
  release_keeps (Some lease) event view is g h = go event.refuse
    where
      go : (refuse : Bool) → IsKept (if refuse then record {
        outputs = record { event = event.number; report = Refused (p.release_message lease view.exchange) } ∷ record { event = event.number; report = Failed SendRefused } ∷ [];
        view = view;
      } else record {
        outputs = record { event = event.number; report = Handed (p.release_message lease view.exchange) } ∷ [];
        view = clean_up p view;
      })
      go true = record { good = g; held = h; told = (tt, (tt, tt)) }
      go false = record { good = keeps.cut view.exchange g; held = keeps.cut_held view.exchange; told = (keeps.released view.state lease view.exchange g h is, tt) }

  call_keeps : (input : Input Packet) (event : NumberedEvent Packet) (view : View State Exchange) → Good view.exchange → Held view.state → IsKept (call_by p input event view)
  call_keeps Nothing event view g h = record { good = g; held = h; told = tt }
  call_keeps (Arrival packet) event view g h = record { good = g; held = h; told = tt }
  call_keeps Release event view g h = release_keeps (p.held_lease view.state) event view refl g h
  call_keeps CleanUp event view g h = record { good = keeps.cut view.exchange g; held = keeps.cut_held view.exchange; told = tt }

  called_comes : (input : Input Packet) → ComesIn input → ComesIn (input_after_call input)
  called_comes (Arrival packet) h = h
  called_comes Nothing h = tt
  called_comes Release h = tt
  called_comes CleanUp h = tt

  polls_at_keep : (fuel : ℕ) (event : NumberedEvent Packet) (view : View State Exchange) → event.moment ≡ moment → Good view.exchange → Held view.state → ComesIn event.input → IsKept (polls_at p fuel event view)
  unfolding polls_at
  polls_at_keep fuel event view at g h comes = polls_keep fuel event view at g h comes

  call_at_keeps : (event : NumberedEvent Packet) (view : View State Exchange) → Good view.exchange → Held view.state → IsKept (call_at p event view)
  unfolding call_at
  call_at_keeps event view g h = call_keeps event.input event view g h

  pub event_keeps : (event : NumberedEvent Packet) (view : View State Exchange) → event.moment ≡ moment → Good view.exchange → Held view.state → ComesIn event.input → IsKept (event_at p event view)
  event_keeps event view at g h comes =
      let called : IsKept (call_at p event view) = call_at_keeps event view g h in
      let polled : IsKept (polls_at p 7 (after_call event) (call_at p event view).view) =
      polls_at_keep 7 (after_call event) (call_at p event view).view at called.good called.held (called_comes event.input comes) in
      record {
        good = polled.good;
        held = polled.held;
        told = told-append (call_at p event view).outputs (polls_at p 7 (after_call event) (call_at p event view).view).outputs called.told polled.told;
      }

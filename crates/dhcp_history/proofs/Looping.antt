-- How the loop over events goes on by one poll and by one event, and that it reports what the history reports.
use Rattle.std.proofs.Common.{◌≡◌, ℕ, suc, zero, ◌-◌, ◌<◌, List, [], ◌∷◌, ◌++◌, Bool, true, false, refl, ap, sym, subst, arith, ◌∙◌, append_assoc, append-nil}
use Rattle.std.specs.Prelude.{Option, Some, None, is_some, option_map, drop, slice_get, Result, Ok, Err, OnOk, IfOk, IfSome, IsSomeAnd}
use Rattle.std.specs.declared.alloc.AllocError.{AllocError}
use Rattle.dhcp_clock.specs.declared.link.Packet.{Packet}
use Rattle.dhcp_clock.specs.declared.link.Handed.{Handed}
use Rattle.dhcp_clock.specs.declared.link.Sent.{Sent}
use Rattle.dhcp_clock.specs.Link.{Shown}
use Rattle.dhcp_history.specs.declared.machine.RunError.{RunError}
use Rattle.dhcp_history.specs.declared.machine.RunError.TheVariants as run
use Rattle.dhcp_history.specs.declared.release.ReleaseError.{ReleaseError}
use Rattle.dhcp_history.specs.declared.release.ReleaseError.TheVariants as release
use Rattle.dhcp_history.specs.Protocol.{Protocol, Lawful, has_come}
use Rattle.dhcp_history.specs.Script.{Input, Nothing, Arrival, Release, CleanUp, NumberedEvent, NumberedReport, Changed, Script, after_call}
use Rattle.dhcp_history.specs.History.{history, outputs, reading_of}
use Rattle.dhcp_history.specs.Machine.{View, PollEffect, EventEffect, has_open_attempt, is_stopped, limit_is_over, has_ended, begin_stay, attempt_now, transmit, take_answer, receive, transmit_and_receive, poll, after_poll, clean_up, release_of, replay_from, first_view, handed_output}
use Rattle.dhcp_history.specs.Run.{input_of, waiting_of, handed_by, shown_after, UnlessNoMemory, answer_by, answer_of, HasPolled}
use Rattle.dhcp_history.specs.Release.{UnlessOutOfMemory, ReleaseEffect, release_by, release_held, HasReleased}
use Rattle.dhcp_history.proofs.Calls.{replay_history}
use Rattle.dhcp_history.specs.EventLoop.{release_outputs, poll_outputs, is_again, has_memory, once_outputs, HasPolledOnce, polls_at, call_at, event_at, events_at, HasReported, HasCalled, MakesUp}

pub on_ok_both : {T E A B C : Type 0} (result : Result T E) → OnOk result A → OnOk result B → (A → B → C) → OnOk result C
on_ok_both (Ok value) a b go = go a b
on_ok_both (Err error) a b go = tt

pub on_run : {A : Type 0} {P : Type 0} (result : Result A RunError) → has_memory result ≡ true → UnlessNoMemory result P → P
on_run (Ok a) m h = h
on_run (Err run.TimedOut) m h = h
on_run (Err run.OutOfMemory) m h = absurd (cc m)

pub on_release : {A : Type 0} {P : Type 0} (result : Result A ReleaseError) → (result ≡ Err release.OutOfMemory → ⊥) → UnlessOutOfMemory result P → P
on_release (Ok a) m h = h
on_release (Err release.Refused) m h = h
on_release (Err release.OutOfMemory) m h = absurd (m refl)

-- the message of an empty link to which one or none was handed
handed_same : (refuse : Bool) (handed : Option Handed) → option_map (λ (listed : Handed × Sent). listed.0) (slice_get (handed_by refuse handed []) 0) ≡ handed
handed_same refuse None = refl
handed_same refuse (Some message) = refl

module _ {PublicState State Exchange Answer Lease : Type 0} (p : Protocol PublicState Packet Handed State Exchange Answer Lease) where
  again_same : (change : Option State) (failed : Bool) → is_again (answer_by p change failed) ≡ is_some change
  again_same (Some next) failed = refl
  again_same None true = refl
  again_same None false = refl

  outputs_same : (number : ℕ) (refuse : Bool) (once : PollEffect Packet Handed State Exchange) → poll_outputs number refuse once.handed (answer_of p once) ≡ once_outputs p number refuse once.change once
  outputs_same number refuse once = go once.change once.failed refl
    where
      go : (change : Option State) (failed : Bool) → once.failed ≡ failed → poll_outputs number refuse once.handed (answer_by p change failed) ≡ once_outputs p number refuse change once
      go (Some next) failed f = refl
      go None true f = rw f
      go None false f = rw f (sym (append-nil (handed_output number refuse once.handed)))

  -- one poll of the loop, over a link that lists no message before
  pub polled_once : (number : ℕ) (refuse : Bool) (shown after : Shown) (once : PollEffect Packet Handed State Exchange) (result : Result (Option PublicState) RunError) (view : List ℕ → View State Exchange)
      (left : Option (List ℕ)) (handed : Option Handed) (packet : Option Packet) (again : Bool) (outs outs' : List (NumberedReport PublicState Handed)) →
      shown.handed ≡ [] → HasPolled p once result view left shown (Some after) → handed ≡ option_map (λ (listed : Handed × Sent). listed.0) (slice_get after.handed 0) → packet ≡ after.waiting →
      again ≡ is_again result → outs' ≡ outs ++ poll_outputs number refuse handed result → HasPolledOnce p number refuse once again outs outs' view left packet
  polled_once number refuse shown after once result view left handed packet again outs outs' empty polled takes waits says adds =
      let is : after ≡ shown_after shown once = cc polled.link in
      let none : handed_by shown.refuses once.handed shown.handed ≡ handed_by shown.refuses once.handed [] = ap (λ (listed : List (Handed × Sent)). handed_by shown.refuses once.handed listed) empty in
      let same : handed ≡ once.handed = takes ∙ ap (λ (s : Shown). option_map (λ (listed : Handed × Sent). listed.0) (slice_get s.handed 0)) is ∙
      (ap (λ (listed : List (Handed × Sent)). option_map (λ (l : Handed × Sent). l.0) (slice_get listed 0)) none ∙ handed_same shown.refuses once.handed) in
      record {
        again = says ∙ (ap (λ (r : Result (Option PublicState) RunError). is_again r) polled.answer ∙ again_same once.change once.failed);
        outputs = adds ∙ ap (λ (more : List (NumberedReport PublicState Handed)). outs ++ more)
            (ap (λ (h : Option Handed). poll_outputs number refuse h result) same ∙ (ap (λ (r : Result (Option PublicState) RunError). poll_outputs number refuse once.handed r) polled.answer ∙ outputs_same number refuse once));
        client = polled.client;
        words = polled.words;
        waiting = waits ∙ ap (λ (s : Shown). s.waiting) is;
      }

  pub one_poll : (number : ℕ) (refuse : Bool) (now : ℕ) (shown after : Shown) (first view : List ℕ → View State Exchange) (available left : Option (List ℕ)) (result : Result (Option PublicState) RunError)
      (reported : Result Bool AllocError) (handed : Option Handed) (packet : Option Packet) (outs outs' : List (NumberedReport PublicState Handed)) → shown.handed ≡ [] →
      UnlessNoMemory result (IfSome available (λ words. HasPolled p (poll p now shown.refuses (input_of shown.waiting) (first words)) result view left shown (Some after))) →
      handed ≡ option_map (λ (listed : Handed × Sent). listed.0) (slice_get after.handed 0) → packet ≡ after.waiting →
      OnOk reported (has_memory result ≡ true) → IfOk reported (λ again. again ≡ is_again result) → OnOk reported (outs' ≡ outs ++ poll_outputs number refuse handed result) →
      IfOk reported (λ again. IfSome available (λ words. HasPolledOnce p number refuse (poll p now shown.refuses (input_of shown.waiting) (first words)) again outs outs' view left packet))
  one_poll number refuse now shown after first view available left result (Err error) handed packet outs outs' empty polled takes waits memory says adds = tt
  one_poll number refuse now shown after first view None left result (Ok again) handed packet outs outs' empty polled takes waits memory says adds = tt
  one_poll number refuse now shown after first view (Some words) left result (Ok again) handed packet outs outs' empty polled takes waits memory says adds =
      polled_once number refuse shown after (poll p now shown.refuses (input_of shown.waiting) (first words)) result view left handed packet again outs outs' empty (on_run result memory polled) takes waits says adds

  -- what a poll leaves of a packet that waits is that packet, or none
  module _ (now : ℕ) (refuse : Bool) (packet : Option Packet) where
    abbrev IsPacket : Input Packet → Type 0
    IsPacket input = input_of (waiting_of input) ≡ input

    all_left : (w : Option Packet) → IsPacket (input_of w)
    all_left None = refl
    all_left (Some packet') = refl

    receive_left : (handed : Option Handed) (view : View State Exchange) → IsPacket (receive p now (input_of packet) handed view).left
    receive_left handed view = by_phase (has_open_attempt view.phase) refl
      where
        by_answer : (answer : Option Answer) (words : List ℕ) → IsPacket (take_answer p now handed view answer words).left
        by_answer None words = refl
        by_answer (Some answer) words = refl

        by_phase : (b : Bool) → has_open_attempt view.phase ≡ b → IsPacket (receive p now (input_of packet) handed view).left
        by_phase true e = rw e (let read = reading_of p view.state view.exchange view.words (input_of packet) in by_answer read.value read.left)
        by_phase false e = rw e (all_left packet)

    work_left : (view : View State Exchange) → IsPacket (transmit_and_receive p now refuse (input_of packet) view).left
    work_left view = go (has_come now view.deadline) refl
      where
        go : (b : Bool) → has_come now view.deadline ≡ b → IsPacket (transmit_and_receive p now refuse (input_of packet) view).left
        go true e = rw e (receive_left (Some (attempt_now p now view).value.message) (transmit p now refuse view))
        go false e = rw e (receive_left None view)

    poll_left : (view : View State Exchange) → IsPacket (poll p now refuse (input_of packet) view).left
    poll_left view = go (is_stopped view.phase) refl (limit_is_over p now view) refl (has_ended p now view) refl
      where
        go : (a : Bool) → is_stopped view.phase ≡ a → (b : Bool) → limit_is_over p now view ≡ b → (c : Bool) → has_ended p now view ≡ c → IsPacket (poll p now refuse (input_of packet) view).left
        go true e b f c g = rw e (all_left packet)
        go false e true f c g = rw (e, f) (all_left packet)
        go false e false f true g = rw (e, f, g) (all_left packet)
        go false e false f false g = rw (e, f, g) (work_left (begin_stay p now view))

  -- no poll is left
  polls_zero : (left : ℕ) (event : NumberedEvent Packet) (view : View State Exchange) → left ≡ 0 → polls_at p left event view ≡ record { outputs = []; view = view }
  unfolding polls_at
  polls_zero left event view e = rw e

  polls_next : (left : ℕ) (event : NumberedEvent Packet) (view : View State Exchange) → 0 < left →
      polls_at p left event view ≡ after_poll p (polls_at p (left - 1)) event (poll p event.moment event.refuse event.input view).change (poll p event.moment event.refuse event.input view)
  unfolding polls_at
  polls_next zero event view h = absurd (omega arith)
  polls_next (suc left) event view h = let less : suc left - 1 ≡ left = omega arith in rw less

  module _ (left : ℕ) (event : NumberedEvent Packet) (view : View State Exchange) (some_left : 0 < left) where
    abbrev once : PollEffect Packet Handed State Exchange
    once = poll p event.moment event.refuse event.input view

    -- a poll that answers no change is the last
    last_poll : is_some once.change ≡ false → polls_at p left event view ≡ record { outputs = once_outputs p event.number event.refuse once.change once; view = once.view }
    last_poll quiet = go once.change refl
      where
        go : (change : Option State) → once.change ≡ change → polls_at p left event view ≡ record { outputs = once_outputs p event.number event.refuse once.change once; view = once.view }
        go (Some next) c = absurd (cc (rw c at quiet))
        go None c = rw (polls_next left event view some_left, c)

    -- after a poll that answers a change the others follow
    next_poll : is_some once.change ≡ true →
        let more = polls_at p (left - 1) (record event { input = once.left }) once.view in
        polls_at p left event view ≡ record { outputs = once_outputs p event.number event.refuse once.change once ++ more.outputs; view = more.view }
    next_poll again = go once.change refl
      where
        more : EventEffect PublicState Handed State Exchange
        more = polls_at p (left - 1) (record event { input = once.left }) once.view

        go : (change : Option State) → once.change ≡ change → polls_at p left event view ≡ record { outputs = once_outputs p event.number event.refuse once.change once ++ more.outputs; view = more.view }
        go None c = absurd (cc (rw c at again))
        go (Some next) c =
            rw (polls_next left event view some_left, c)
            (ap (λ (outputs : List (NumberedReport PublicState Handed)). record { outputs = outputs; view = more.view })
            (sym (append_assoc (handed_output event.number event.refuse once.handed) (record { event = event.number; report = Changed (p.public_state next) } ∷ []) more.outputs)))

  -- a poll in the loop, of an event with this packet left
  module _ (event : NumberedEvent Packet) (first now next : Option (List ℕ)) (first_view view later : List ℕ → View State Exchange) (left : ℕ) (packet packet' : Option Packet) (refuse : Bool)
      (before so_far after : List (NumberedReport PublicState Handed)) (again : Bool) where
    abbrev all : List ℕ → EventEffect PublicState Handed State Exchange
    all words = polls_at p 7 event (first_view words)

    abbrev at : NumberedEvent Packet
    at = record event { input = input_of packet }

    abbrev this : List ℕ → PollEffect Packet Handed State Exchange
    this available = poll p event.moment event.refuse (input_of packet) (view available)

    abbrev pub Going : Type 0
    Going = IfSome first (λ words. IsSomeAnd now (λ available. MakesUp (polls_at p left at (view available)) (all words) so_far before))

    abbrev pub HasRun : Type 0
    HasRun = IfSome now (λ available. HasPolledOnce p event.number event.refuse (poll p event.moment refuse (input_of packet) (view available)) again so_far after later next packet')

    module _ (some_left : 0 < left) (same_refuse : refuse ≡ event.refuse) where
      module _ (words available : List ℕ) (going : MakesUp (polls_at p left at (view available)) (all words) so_far before)
          (polled : HasPolledOnce p event.number event.refuse (poll p event.moment refuse (input_of packet) (view available)) again so_far after later next packet') where
        really : HasPolledOnce p event.number event.refuse (this available) again so_far after later next packet'
        really = subst (λ (r : Bool). HasPolledOnce p event.number event.refuse (poll p event.moment r (input_of packet) (view available)) again so_far after later next packet') same_refuse polled

        step : again ≡ true → MakesUp (polls_at p (left - 1) (record event { input = input_of packet' }) (later (this available).view.words)) (all words) after before
        step more_polls =
            let once' : PollEffect Packet Handed State Exchange = this available in
            let more : EventEffect PublicState Handed State Exchange = polls_at p (left - 1) (record at { input = once'.left }) once'.view in
            let outs : List (NumberedReport PublicState Handed) = once_outputs p event.number event.refuse once'.change once' in
            let goes : polls_at p left at (view available) ≡ record { outputs = outs ++ more.outputs; view = more.view } = next_poll left at (view available) some_left (sym really.again ∙ more_polls) in
            let waits : input_of packet' ≡ once'.left = ap (λ (w : Option Packet). input_of w) really.waiting ∙ poll_left event.moment event.refuse packet (view available) in
            rw (waits, really.client, really.outputs) (record {
              outputs = append_assoc so_far outs more.outputs ∙ (ap (λ (once : EventEffect PublicState Handed State Exchange). so_far ++ once.outputs) (sym goes) ∙ going.outputs);
              view = ap (λ (once : EventEffect PublicState Handed State Exchange). once.view) (sym goes) ∙ going.view;
            })

        stop : again ≡ false → HasReported (all words) before after later next
        stop quiet =
            let once' : PollEffect Packet Handed State Exchange = this available in
            let goes : polls_at p left at (view available) ≡ record { outputs = once_outputs p event.number event.refuse once'.change once'; view = once'.view } = last_poll left at (view available) some_left (sym really.again ∙ quiet) in
            let ends : (all words).view ≡ once'.view = sym (ap (λ (once : EventEffect PublicState Handed State Exchange). once.view) (sym goes) ∙ going.view) in
            record {
              outputs = really.outputs ∙ (ap (λ (once : EventEffect PublicState Handed State Exchange). so_far ++ once.outputs) (sym goes) ∙ going.outputs);
              client = rw ends really.client;
              words = rw ends really.words;
            }

      pub loop_goes_on : Going → HasRun → again ≡ true →
          IfSome first (λ words. IsSomeAnd next (λ available. MakesUp (polls_at p (left - 1) (record event { input = input_of packet' }) (later available)) (all words) after before))
      loop_goes_on going run more = by_first first now going run
        where
          by_first : (first' now' : Option (List ℕ)) → IfSome first' (λ words. IsSomeAnd now' (λ available. MakesUp (polls_at p left at (view available)) (all words) so_far before)) →
              IfSome now' (λ available. HasPolledOnce p event.number event.refuse (poll p event.moment refuse (input_of packet) (view available)) again so_far after later next packet') →
              IfSome first' (λ words. IsSomeAnd next (λ available. MakesUp (polls_at p (left - 1) (record event { input = input_of packet' }) (later available)) (all words) after before))
          by_first None now' h r = tt
          by_first (Some words) None h r = absurd h
          by_first (Some words) (Some available) h r = rw (really words available h r).words (step words available h r more)

      pub loop_stops : Going → HasRun → again ≡ false → IfSome first (λ words. HasReported (all words) before after later next)
      loop_stops going run quiet = by_first first now going run
        where
          by_first : (first' now' : Option (List ℕ)) → IfSome first' (λ words. IsSomeAnd now' (λ available. MakesUp (polls_at p left at (view available)) (all words) so_far before)) →
              IfSome now' (λ available. HasPolledOnce p event.number event.refuse (poll p event.moment refuse (input_of packet) (view available)) again so_far after later next packet') →
              IfSome first' (λ words. HasReported (all words) before after later next)
          by_first None now' h r = tt
          by_first (Some words) None h r = absurd h
          by_first (Some words) (Some available) h r = stop words available h r quiet

  -- the loop at its beginning, and after its last poll; where it ends there, the client reports no more
  pub loop_begins : (event : NumberedEvent Packet) (first : Option (List ℕ)) (view : List ℕ → View State Exchange) (so_far : List (NumberedReport PublicState Handed)) →
      IfSome first (λ words. IsSomeAnd first (λ available. MakesUp (polls_at p 7 event (view available)) (polls_at p 7 event (view words)) so_far so_far))
  loop_begins event None view so_far = tt
  loop_begins event (Some words) view so_far = record { outputs = refl; view = refl }

  pub loop_ends : (event : NumberedEvent Packet) (first now : Option (List ℕ)) (first_view view : List ℕ → View State Exchange) (left : ℕ) (packet : Option Packet) (before so_far : List (NumberedReport PublicState Handed)) → left ≡ 0 →
      (words_kept : (available : List ℕ) → (view available).words ≡ available) →
      IfSome first (λ words. IsSomeAnd now (λ available. MakesUp (polls_at p left (record event { input = input_of packet }) (view available)) (polls_at p 7 event (first_view words)) so_far before)) →
      IfSome first (λ words. HasReported (polls_at p 7 event (first_view words)) before so_far view now)
  loop_ends event None now first_view view left packet before so_far e kept h = tt
  loop_ends event (Some words) None first_view view left packet before so_far e kept h = absurd h
  loop_ends event (Some words) (Some available) first_view view left packet before so_far e kept h =
      let none : polls_at p left (record event { input = input_of packet }) (view available) ≡ record { outputs = []; view = view available } = polls_zero left (record event { input = input_of packet }) (view available) e in
      let ends : (polls_at p 7 event (first_view words)).view ≡ view available = sym (ap (λ (once : EventEffect PublicState Handed State Exchange). once.view) (sym none) ∙ h.view) in
      record {
        outputs = sym (append-nil so_far) ∙ (ap (λ (once : EventEffect PublicState Handed State Exchange). so_far ++ once.outputs) (sym none) ∙ h.outputs);
        client = rw ends (ap view (kept available));
        words = rw ends (ap (λ (left' : List ℕ). Some left') (sym (kept available)));
      }

  -- what is reported of a release
  release_reports : (number moment : ℕ) (refuse : Bool) (held : Option Lease) (view : View State Exchange) →
      release_of p held (record { number = number; moment = moment; refuse = refuse; input = Release }) view ≡
      record { outputs = release_outputs number refuse (release_by p held refuse view).handed (release_by p held refuse view).answer; view = (release_by p held refuse view).view }
  release_reports number moment refuse None view = refl
  release_reports number moment true (Some lease) view = refl
  release_reports number moment false (Some lease) view = refl

  call_released : (event : NumberedEvent Packet) (view : View State Exchange) → event.input ≡ Release → call_at p event view ≡ release_of p (p.held_lease view.state) event view
  unfolding call_at
  call_released event view e = rw e

  pub call_cleaned : (event : NumberedEvent Packet) (view : View State Exchange) → event.input ≡ CleanUp → call_at p event view ≡ record { outputs = []; view = clean_up p view }
  unfolding call_at
  call_cleaned event view e = rw e

  pub call_nothing : (event : NumberedEvent Packet) (view : View State Exchange) → event.input ≡ Nothing → call_at p event view ≡ record { outputs = []; view = view }
  unfolding call_at
  call_nothing event view e = rw e

  pub call_arrival : (event : NumberedEvent Packet) (view : View State Exchange) (packet : Packet) → event.input ≡ Arrival packet → call_at p event view ≡ record { outputs = []; view = view }
  unfolding call_at
  call_arrival event view packet e = rw e

  -- a release over a link that lists no message before, as it was reported
  pub release_called : (number moment : ℕ) (refuse : Bool) (shown after : Shown) (old new : View State Exchange) (result : Result Bool ReleaseError) (handed : Option Handed) (outs outs' : List (NumberedReport PublicState Handed)) →
      shown.handed ≡ [] → shown.refuses ≡ refuse → HasReleased (release_held p shown.refuses old) result new shown (Some after) →
      handed ≡ option_map (λ (listed : Handed × Sent). listed.0) (slice_get after.handed 0) → outs' ≡ outs ++ release_outputs number refuse handed result →
      HasCalled (call_at p (record { number = number; moment = moment; refuse = refuse; input = Release }) old) outs outs' new
  release_called number moment refuse shown after old new result handed outs outs' empty same has takes adds =
      let once : ReleaseEffect State Exchange = release_held p refuse old in
      let really : HasReleased once result new shown (Some after) = subst (λ (b : Bool). HasReleased (release_held p b old) result new shown (Some after)) same has in
      let is : after ≡ record shown { handed = handed_by shown.refuses once.handed shown.handed } = cc really.link in
      let none : handed_by shown.refuses once.handed shown.handed ≡ handed_by shown.refuses once.handed [] = ap (λ (listed : List (Handed × Sent)). handed_by shown.refuses once.handed listed) empty in
      let one : handed ≡ once.handed = takes ∙ ap (λ (s : Shown). option_map (λ (listed : Handed × Sent). listed.0) (slice_get s.handed 0)) is ∙
      (ap (λ (listed : List (Handed × Sent)). option_map (λ (l : Handed × Sent). l.0) (slice_get listed 0)) none ∙ handed_same shown.refuses once.handed) in
      let event : NumberedEvent Packet = record { number = number; moment = moment; refuse = refuse; input = Release } in
      let called : call_at p event old ≡ record { outputs = release_outputs number refuse once.handed once.answer; view = once.view } =
      call_released event old refl ∙ release_reports number moment refuse (p.held_lease old.state) old in
      rw called (record { outputs = adds ∙ rw (one, really.answer); client = really.client })

  -- and the link is as before, once the message was taken out
  pub release_link : (shown after last : Shown) (old new : View State Exchange) (result : Result Bool ReleaseError) →
      shown.handed ≡ [] → HasReleased (release_held p shown.refuses old) result new shown (Some after) → last ≡ record after { handed = drop 1 after.handed } → last ≡ shown
  release_link shown after last old new result empty has e =
      let once : ReleaseEffect State Exchange = release_held p shown.refuses old in
      let is : after ≡ record shown { handed = handed_by shown.refuses once.handed shown.handed } = cc has.link in
      let none : (handed : Option Handed) → drop 1 (handed_by shown.refuses handed shown.handed) ≡ shown.handed = λ handed. rw empty (go handed) in
      e ∙ (ap (λ (s : Shown). record s { handed = drop 1 s.handed }) is ∙ ap (λ (listed : List (Handed × Sent)). record shown { handed = listed }) (none once.handed))
    where
      go : (handed : Option Handed) → drop 1 (handed_by shown.refuses handed []) ≡ []
      go None = refl
      go (Some message) = refl

  -- an event: its call, and then its polls
  pub event_reported : {T E : Type 0} (result : Result T E) (event : NumberedEvent Packet) (input : Input Packet) (available left : Option (List ℕ)) (first mid view : List ℕ → View State Exchange) (before told after : List (NumberedReport PublicState Handed)) →
      ((words : List ℕ) → HasCalled (call_at p event (first words)) before told (mid words)) → input ≡ (after_call event).input →
      OnOk result (IfSome available (λ words. HasReported (polls_at p 7 (record event { input = input }) (mid words)) told after view left)) →
      OnOk result (IfSome available (λ words. HasReported (event_at p event (first words)) before after view left))
  event_reported (Err error) event input available left first mid view before told after called e polled = tt
  event_reported (Ok value) event input None left first mid view before told after called e polled = tt
  event_reported (Ok value) event input (Some words) left first mid view before told after called e polled =
      let call' : EventEffect PublicState Handed State Exchange = call_at p event (first words) in
      let once : EventEffect PublicState Handed State Exchange = polls_at p 7 (after_call event) call'.view in
      let is : HasReported once told after view left =
      subst (λ (v : View State Exchange). HasReported (polls_at p 7 (after_call event) v) told after view left) (called words).client
      (subst (λ (i : Input Packet). HasReported (polls_at p 7 (record event { input = i }) (mid words)) told after view left) e polled) in
      record {
        outputs = is.outputs ∙ (ap (λ (outs : List (NumberedReport PublicState Handed)). outs ++ once.outputs) (called words).outputs ∙ append_assoc before call'.outputs once.outputs);
        client = is.client;
        words = is.words;
      }

  -- an event in the loop over events
  module _ (first now next : Option (List ℕ)) (first_view view later : List ℕ → View State Exchange) (event : NumberedEvent Packet) (rest events : List (NumberedEvent Packet)) (before so_far after : List (NumberedReport PublicState Handed)) where
    abbrev whole : List ℕ → EventEffect PublicState Handed State Exchange
    whole words = events_at p (first_view words) events

    next_event : (words available : List ℕ) → MakesUp (events_at p (view available) (event ∷ rest)) (whole words) so_far before → HasReported (event_at p event (view available)) so_far after later next →
        IsSomeAnd next (λ available'. MakesUp (events_at p (later available') rest) (whole words) after before)
    next_event words available going reported =
        let once : EventEffect PublicState Handed State Exchange = event_at p event (view available) in
        rw (reported.words, reported.client, reported.outputs) (record {
          outputs = append_assoc so_far once.outputs (events_at p once.view rest).outputs ∙ going.outputs;
          view = going.view;
        })

    pub events_go_on : IfSome first (λ words. IsSomeAnd now (λ available. MakesUp (events_at p (view available) (event ∷ rest)) (whole words) so_far before)) →
        IfSome now (λ available. HasReported (event_at p event (view available)) so_far after later next) →
        IfSome first (λ words. IsSomeAnd next (λ available. MakesUp (events_at p (later available) rest) (whole words) after before))
    events_go_on going reported = go first now going reported
      where
        go : (first' now' : Option (List ℕ)) → IfSome first' (λ words. IsSomeAnd now' (λ available. MakesUp (events_at p (view available) (event ∷ rest)) (whole words) so_far before)) →
            IfSome now' (λ available. HasReported (event_at p event (view available)) so_far after later next) →
            IfSome first' (λ words. IsSomeAnd next (λ available. MakesUp (events_at p (later available) rest) (whole words) after before))
        go None now' h r = tt
        go (Some words) None h r = absurd h
        go (Some words) (Some available) h r = next_event words available h r

  pub events_begin : (first : Option (List ℕ)) (view : List ℕ → View State Exchange) (events : List (NumberedEvent Packet)) (so_far : List (NumberedReport PublicState Handed)) →
      IfSome first (λ words. IsSomeAnd first (λ available. MakesUp (events_at p (view available) events) (events_at p (view words) events) so_far so_far))
  events_begin None view events so_far = tt
  events_begin (Some words) view events so_far = record { outputs = refl; view = refl }

  pub events_end : (first now : Option (List ℕ)) (first_view view : List ℕ → View State Exchange) (rest events : List (NumberedEvent Packet)) (before so_far : List (NumberedReport PublicState Handed)) → rest ≡ [] →
      ((available : List ℕ) → (view available).words ≡ available) →
      IfSome first (λ words. IsSomeAnd now (λ available. MakesUp (events_at p (view available) rest) (events_at p (first_view words) events) so_far before)) →
      IfSome first (λ words. HasReported (events_at p (first_view words) events) before so_far view now)
  events_end None now first_view view rest events before so_far e kept h = tt
  events_end (Some words) None first_view view rest events before so_far e kept h = absurd h
  events_end (Some words) (Some available) first_view view rest events before so_far e kept h =
      let none : events_at p (view available) rest ≡ record { outputs = []; view = view available } = rw e in
      let ends : (events_at p (first_view words) events).view ≡ view available = sym (ap (λ (once : EventEffect PublicState Handed State Exchange). once.view) (sym none) ∙ h.view) in
      record {
        outputs = sym (append-nil so_far) ∙ (ap (λ (once : EventEffect PublicState Handed State Exchange). so_far ++ once.outputs) (sym none) ∙ h.outputs);
        client = rw ends (ap view (kept available));
        words = rw ends (ap (λ (left' : List ℕ). Some left') (sym (kept available)));
      }

  -- the loop over events reports what the replay reports
  events_replay : (view : View State Exchange) (events : List (NumberedEvent Packet)) → (events_at p view events).outputs ≡ replay_from p view events
  unfolding polls_at call_at
  events_replay view [] = refl
  events_replay view (event ∷ events) =
      let first : EventEffect PublicState Handed State Exchange = call_at p event view in
      let then' : EventEffect PublicState Handed State Exchange = polls_at p 7 (after_call event) first.view in
      append_assoc first.outputs then'.outputs (events_at p then'.view events).outputs ∙
      ap (λ (more : List (NumberedReport PublicState Handed)). first.outputs ++ (then'.outputs ++ more)) (events_replay then'.view events)

  -- what the loop reports is what the history of a script reports, where the client begins as the script says
  pub loop_history : (first now : Option (List ℕ)) (first_view' view : List ℕ → View State Exchange) (events : List (NumberedEvent Packet)) (reported : List (NumberedReport PublicState Handed)) →
      IfSome first (λ available. HasReported (events_at p (first_view' available) events) [] reported view now) → Lawful p →
      IfSome first (λ available. (script : Script Packet State Exchange) → first_view' available ≡ first_view script → script.events ≡ events → reported ≡ outputs p (history p script))
  loop_history None now first_view' view events reported h lawful = tt
  loop_history (Some available) now first_view' view events reported h lawful = λ script begins same.
      h.outputs ∙ (events_replay (first_view' available) events ∙
      (ap (λ (v : View State Exchange). replay_from p v events) begins ∙ (ap (λ (vs : List (NumberedEvent Packet)). replay_from p (first_view script) vs) (sym same) ∙ replay_history p lawful script)))

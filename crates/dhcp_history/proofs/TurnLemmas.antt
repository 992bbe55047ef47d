-- The turns of a poll over every link, where it runs out of memory too; what a poll keeps of the state; the turns of a release.
use Rattle.std.proofs.Common.{◌≡◌, ℕ, List, [], ◌∷◌, ◌++◌, Bool, true, false, refl, ap, sym, subst, ◌∙◌, ◌⊎◌, inl, inr, append_assoc}
use Rattle.std.specs.Prelude.{Option, Some, None, not, ◌||◌, Result, Ok, Err, OnErr, OnOk}
use Rattle.dhcp_wire.specs.Error.{ErrorParts}
use Rattle.dhcp_clock.specs.declared.link.Packet.{Packet}
use Rattle.dhcp_clock.specs.declared.link.Handed.{Handed}
use Rattle.dhcp_clock.specs.declared.link.Sent.{Sent}
use Rattle.dhcp_clock.specs.declared.link.Sent.TheVariants.{Taken, NoMemory}
use Rattle.dhcp_clock.specs.Leads.{Leads}
use Rattle.dhcp_clock.specs.Link.{Turn, Hands, Gives}
use Rattle.dhcp_clock.proofs.Taken.{leads_both}
use Rattle.dhcp_history.specs.declared.client.Client.{Client}
use Rattle.dhcp_history.specs.declared.machine.RunError.{RunError}
use Rattle.dhcp_history.specs.declared.machine.RunError.TheVariants as run
use Rattle.dhcp_history.specs.declared.release.ReleaseError.{ReleaseError}
use Rattle.dhcp_history.specs.declared.release.ReleaseError.TheVariants as release
use Rattle.dhcp_history.specs.Protocol.{Protocol, has_come}
use Rattle.dhcp_history.specs.Script.{Nothing}
use Rattle.dhcp_history.specs.Errors.{release_answer, sent_when}
use Rattle.dhcp_history.specs.Client.{view_of}
use Rattle.dhcp_history.specs.HeardBy.{IsEnded, IsHeard}
use Rattle.dhcp_history.specs.Kept.{Keeps, Preserves}
use Rattle.dhcp_history.specs.Machine.{View, Phase, Unpolled, Pausing, Listening, Resting, Stopped, PollEffect, phase_by, has_open_attempt, is_stopped, limit_is_over, has_ended, begin_in, begin_stay, attempt_now, transmit, transmit_and_receive, poll}
use Rattle.dhcp_history.specs.Run.{input_of, sent_by, answer_of, UnlessNoMemory, OnNoMemory}
use Rattle.dhcp_history.specs.Traced.{made, asked, asks_in, asks, StepsBy, IsPollBy, IsWorkBy, Traces, Transmits}
use Rattle.dhcp_history.specs.Turns.{AreOfOnePoll, TakesTurns, IsAsBefore, StandsAfter, RunsOut, sent_alone, PollsUnheard, WorksUnheard, release_turns, TracesRelease}
use Rattle.dhcp_history.proofs.Heard.{comes_from}
use Rattle.dhcp_history.proofs.Running.{taken_with}

-- a fact for every answer is one for each error
pub on_error : {A E : Type 0} {P : Type 0} (result : Result A E) → P → OnErr result P
on_error (Ok a) h = tt
on_error (Err error) h = h

-- a fact for the answer of a release is one for that of the call
pub on_answer : {A : Type 0} (result : Result A ErrorParts) (released : Result A ReleaseError) (P : Type 0) → release_answer result ≡ released → OnOk released P → OnOk result P
on_answer {A} (Ok a) released P same h = subst (λ (r : Result A ReleaseError). OnOk r P) (sym same) h
on_answer (Err error) released P same h = tt

-- 1. Out of memory.

module _ {State Exchange Link : Type 0} (moves : Turn → Link → Link → Type 0) where
  -- no message was made, or the link had no memory for it
  pub unmade_out : {Sent : Handed → Type 0} (old new : Client State Exchange) (link link' : Link) → IsAsBefore old new →
      (link' ≡ link) ⊎ ((message : Handed) × moves (Hands message NoMemory) link link') → RunsOut moves Sent old new link link'
  unmade_out old new link link' same (inl e) = record { turns = []; moved = e; stands = same }
  unmade_out old new link link' same (inr h) = record { turns = Hands h.0 NoMemory ∷ []; moved = (link', (h.1, refl)); stands = (refl, same) }

  -- a packet was taken by the open attempt
  pub lost_out : {Sent : Handed → Type 0} (old new : Client State Exchange) (link link' : Link) → IsAsBefore old new → has_open_attempt old.standing.phase ≡ true →
      (packet : Packet) × moves (Gives (Some packet)) link link' → RunsOut moves Sent old new link link'
  lost_out old new link link' same listens h = record { turns = Gives (Some h.0) ∷ []; moved = (link', (h.1, refl)); stands = (refl, (listens, same)) }

  -- what is said of the message that was sent
  stands_as : {Sent Sent' : Handed → Type 0} (old new : Client State Exchange) → ((message : Handed) → Sent message → Sent' message) → (turns : List Turn) →
      StandsAfter Sent old new turns → StandsAfter Sent' old new turns
  stands_as old new says [] h = h
  stands_as old new says (Hands message sent ∷ []) h = h
  stands_as old new says (Gives packet ∷ []) h = h
  stands_as old new says (Hands message sent ∷ Gives packet ∷ []) h = (h.0, (h.1.0, says message h.1.1))
  stands_as old new says (Hands message sent ∷ Hands other later ∷ turns) h = absurd h
  stands_as old new says (Hands message sent ∷ Gives packet ∷ turn ∷ turns) h = absurd h
  stands_as old new says (Gives packet ∷ turn ∷ turns) h = absurd h

  pub out_as : {A : Type 0} {Sent Sent' : Handed → Type 0} (result : Result A RunError) (old new : Client State Exchange) (link link' : Link) → ((message : Handed) → Sent message → Sent' message) →
      OnErr result (RunsOut moves Sent old new link link') → OnNoMemory result (RunsOut moves Sent' old new link link')
  out_as (Ok a) old new link link' says h = tt
  out_as (Err run.TimedOut) old new link link' says h = tt
  out_as (Err run.OutOfMemory) old new link link' says h = record { turns = h.turns; moved = h.moved; stands = stands_as old new says h.turns h.stands }

  out_turns : (Sent : Handed → Type 0) (old new : Client State Exchange) (turns : List Turn) → StandsAfter Sent old new turns → AreOfOnePoll (has_open_attempt old.standing.phase) turns
  out_turns Sent old new [] h = tt
  out_turns Sent old new (Hands message sent ∷ []) h = tt
  out_turns Sent old new (Gives packet ∷ []) h = h.1.0
  out_turns Sent old new (Hands message sent ∷ Gives packet ∷ []) h = h.0
  out_turns Sent old new (Hands message sent ∷ Hands other later ∷ turns) h = absurd h
  out_turns Sent old new (Hands message sent ∷ Gives packet ∷ turn ∷ turns) h = absurd h
  out_turns Sent old new (Gives packet ∷ turn ∷ turns) h = absurd h

listens_by : (refuse : Bool) → has_open_attempt (phase_by refuse) ≡ not refuse
listens_by true = refl
listens_by false = refl

not_refused : (refuse : Bool) → not refuse ≡ true → refuse ≡ false
not_refused true e = absurd (cc e)
not_refused false e = refl

module _ {PublicState State Exchange Answer Lease : Type 0} (p : Protocol PublicState Packet Handed State Exchange Answer Lease) where
  -- a poll of an attempt that the link took, and then none
  unheard : (now : ℕ) (message : Handed) (first : View State Exchange) → has_come now first.deadline ≡ true → message ≡ (attempt_now p now first).value.message →
      IsWorkBy p now false None (sent_alone message) (Ok None) first (transmit p now false first)
  unheard now message first due says = record {
    answer = rw due refl;
    client = rw due refl;
    turns = rw (due, says) refl;
    took = rw due refl;
  }

  module _ {Source Link : Type 0} (gives : ℕ → Source → Source → Type 0) (moves : Turn → Link → Link → Type 0) where
    -- the link took the message, and what it gave then is lost
    pub unheard_out : (now : ℕ) (first : List ℕ → View State Exchange) (old mid new : Client State Exchange) (words words₁ : Source) (link link₁ link' : Link) →
        ((rest : List ℕ) → has_come now (first rest).deadline ≡ true) → Transmits p gives moves now first (view_of mid) words words₁ link link₁ →
        has_open_attempt mid.standing.phase ≡ true → new.state ≡ mid.state → new.standing ≡ mid.standing → new.timeout_sec ≡ mid.timeout_sec →
        (packet : Packet) × moves (Gives (Some packet)) link₁ link' →
        RunsOut moves (λ message. WorksUnheard p gives now message first (view_of new) words) old new link link'
    unheard_out now first old mid new words words₁ link link₁ link' due t listens state standing timeout h =
        let taken : t.refuse ≡ false = not_refused t.refuse (sym (ap (λ (view : View State Exchange). has_open_attempt view.phase) (t.client []) ∙ listens_by t.refuse) ∙ listens) in
        let moved : moves (Hands t.message Taken) link link₁ = subst (λ (refuse : Bool). moves (Hands t.message (sent_by refuse)) link link₁) taken t.moved in
        let same : (rest : List ℕ) → view_of new rest ≡ view_of mid rest = λ rest. rw (state, standing, timeout) refl in
        record {
          turns = Hands t.message Taken ∷ Gives (Some h.0) ∷ [];
          moved = (link₁, (moved, (link', (h.1, refl))));
          stands = (
            refl,
            (
              refl,
              record {
                taken = t.taken;
                source = words₁;
                drawn = t.drawn;
                worked = λ rest.
                    let is : view_of new rest ≡ transmit p now false (first (t.taken ++ rest)) =
                    same rest ∙ (t.client rest ∙ ap (λ (refuse : Bool). transmit p now refuse (first (t.taken ++ rest))) taken) in
                    subst (λ (view : View State Exchange). IsWorkBy p now false None (sent_alone t.message) (Ok None) (first (t.taken ++ rest)) view) (sym is)
                    (unheard now t.message (first (t.taken ++ rest)) (due (t.taken ++ rest)) (t.says rest));
              },
            ),
          );
        }

    -- the same of the whole poll
    pub polls_unheard : (now : ℕ) (message : Handed) (old new : Client State Exchange) (second : List ℕ → View State Exchange) (words words₁ : Source) → is_stopped old.standing.phase ≡ false →
        ((rest : List ℕ) → limit_is_over p now (view_of old rest) ≡ false) → ((rest : List ℕ) → has_ended p now (view_of old rest) ≡ false) →
        StepsBy gives (begin_stay p now) (view_of old) second words words₁ →
        WorksUnheard p gives now message second (view_of new) words₁ → PollsUnheard p gives now message old new words
    polls_unheard now message old new second words words₁ runs lasts stays steps w =
        let before : List ℕ → View State Exchange = λ rest. view_of old ((steps.0 ++ w.taken) ++ rest) in
        let begun : (rest : List ℕ) → second (w.taken ++ rest) ≡ begin_stay p now (before rest) = λ rest.
        steps.1.1 (w.taken ++ rest) ∙ ap (λ (ws : List ℕ). begin_stay p now (view_of old ws)) (sym (append_assoc steps.0 w.taken rest)) in
        let same : (rest : List ℕ) → poll p now false Nothing (before rest) ≡ transmit_and_receive p now false Nothing (begin_stay p now (before rest)) = λ rest.
        rw (runs, lasts ((steps.0 ++ w.taken) ++ rest), stays ((steps.0 ++ w.taken) ++ rest)) in
        let asking : (rest : List ℕ) → asks p now false (before rest) ≡ asks_in p now false (begin_stay p now (before rest)) = λ rest.
        rw (runs, lasts ((steps.0 ++ w.taken) ++ rest), stays ((steps.0 ++ w.taken) ++ rest)) in
        record {
          taken = steps.0 ++ w.taken;
          source = w.source;
          drawn = leads_both gives steps.0 w.taken words words₁ w.source steps.1.0 w.drawn;
          polled = λ rest.
              let worked : IsWorkBy p now false None (sent_alone message) (Ok None) (begin_stay p now (before rest)) (view_of new rest) =
              subst (λ (v : View State Exchange). IsWorkBy p now false None (sent_alone message) (Ok None) v (view_of new rest)) (begun rest) (w.worked rest) in
              record {
                answer = worked.answer ∙ ap (λ (once : PollEffect Packet Handed State Exchange). answer_of p once) (sym (same rest));
                client = worked.client ∙ ap (λ (once : PollEffect Packet Handed State Exchange). once.view) (sym (same rest));
                turns =
                    worked.turns ∙ (ap (λ (once : PollEffect Packet Handed State Exchange). made false once.handed ++ asked (asks_in p now false (begin_stay p now (before rest))) None) (sym (same rest))
                    ∙ ap (λ (b : Bool). made false (poll p now false Nothing (before rest)).handed ++ asked b None) (sym (asking rest)));
                took = ap (λ (once : PollEffect Packet Handed State Exchange). once.left) (same rest) ∙ worked.took;
              };
        }

  -- 2. The turns of a poll.

  begun_listens : (now : ℕ) (view : View State Exchange) → has_open_attempt (begin_stay p now view).phase ≡ has_open_attempt view.phase
  begun_listens now view = go view.phase refl
    where
      go : (phase : Phase) → view.phase ≡ phase → has_open_attempt (begin_in p phase now view).phase ≡ has_open_attempt phase
      go Unpolled e = refl
      go Pausing e = ap has_open_attempt e
      go Listening e = ap has_open_attempt e
      go Resting e = ap has_open_attempt e
      go Stopped e = ap has_open_attempt e

  module _ (now : ℕ) (refuse : Bool) (packet : Option Packet) (view : View State Exchange) where
    abbrev w : View State Exchange
    w = begin_stay p now view

    abbrev AreTurns : Option Handed → Bool → Type 0
    AreTurns handed asking = AreOfOnePoll (has_open_attempt view.phase) (made refuse handed ++ asked asking packet)

    sent_turns : (r : Bool) → refuse ≡ r → (message : Handed) → AreOfOnePoll (has_open_attempt view.phase) (made r (Some message) ++ asked (not r) packet)
    sent_turns true e message = tt
    sent_turns false e message = refl

    or_none : (b : Bool) → (b || false) ≡ b
    or_none true = refl
    or_none false = refl

    early_turns : (listens : Bool) → has_open_attempt view.phase ≡ listens → AreOfOnePoll (has_open_attempt view.phase) (asked listens packet)
    early_turns true e = e
    early_turns false e = tt

    work_turns : (due : Bool) → has_come now w.deadline ≡ due → AreTurns (transmit_and_receive p now refuse (input_of packet) w).handed (asks_in p now refuse w)
    work_turns true d =
        let message : Handed = (attempt_now p now w).value.message in
        let handed : (transmit_and_receive p now refuse (input_of packet) w).handed ≡ Some message =
        rw d (ap (λ (once : PollEffect Packet Handed State Exchange). once.handed) (taken_with p now (input_of packet) (Some message) (transmit p now refuse w))) in
        let asking : asks_in p now refuse w ≡ not refuse = rw d (or_none (not refuse)) in
        subst (λ (o : Option Handed). AreTurns o (asks_in p now refuse w)) (sym handed) (subst (λ (b : Bool). AreTurns (Some message) b) (sym asking) (sent_turns refuse refl message))
    work_turns false d =
        let handed : (transmit_and_receive p now refuse (input_of packet) w).handed ≡ None =
        rw d (ap (λ (once : PollEffect Packet Handed State Exchange). once.handed) (taken_with p now (input_of packet) None w)) in
        let asking : asks_in p now refuse w ≡ has_open_attempt view.phase = rw d (begun_listens now view) in
        subst (λ (o : Option Handed). AreTurns o (asks_in p now refuse w)) (sym handed)
        (subst (λ (b : Bool). AreTurns None b) (sym asking) (early_turns (has_open_attempt view.phase) refl))

    poll_turns : AreTurns (poll p now refuse (input_of packet) view).handed (asks p now refuse view)
    poll_turns = by_phase (is_stopped view.phase) refl
      where
        by_end : is_stopped view.phase ≡ false → limit_is_over p now view ≡ false → (c : Bool) → has_ended p now view ≡ c → AreTurns (poll p now refuse (input_of packet) view).handed (asks p now refuse view)
        by_end b f true e = rw (b, f, e) tt
        by_end b f false e = rw (b, f, e) (work_turns (has_come now w.deadline) refl)

        by_limit : is_stopped view.phase ≡ false → (c : Bool) → limit_is_over p now view ≡ c → AreTurns (poll p now refuse (input_of packet) view).handed (asks p now refuse view)
        by_limit b true f = rw (b, f) tt
        by_limit b false f = by_end b f (has_ended p now view) refl

        by_phase : (c : Bool) → is_stopped view.phase ≡ c → AreTurns (poll p now refuse (input_of packet) view).handed (asks p now refuse view)
        by_phase true b = rw b tt
        by_phase false b = by_limit b (limit_is_over p now view) refl

  -- over every link: one message and one packet at most
  pub turns_of_poll : (now : ℕ) (refuse : Bool) (packet : Option Packet) (turns : List Turn) (result : Result (Option PublicState) RunError) (old new : View State Exchange) →
      IsPollBy p now refuse packet turns result old new → AreOfOnePoll (has_open_attempt old.phase) turns
  turns_of_poll now refuse packet turns result old new is = subst (λ (done : List Turn). AreOfOnePoll (has_open_attempt old.phase) done) (sym is.turns) (poll_turns now refuse packet old)

  module _ {Source Link : Type 0} (gives : ℕ → Source → Source → Type 0) (moves : Turn → Link → Link → Type 0) where
    traced_turns : (now : ℕ) (result : Result (Option PublicState) RunError) (old new : Client State Exchange) (words words' : Source) (link link' : Link) →
        Traces p gives moves now result old new words words' link link' → TakesTurns moves (has_open_attempt old.standing.phase) link link'
    traced_turns now result old new words words' link link' t = record {
      turns = t.turns;
      moved = t.moved;
      one_poll = turns_of_poll now t.refuse t.packet t.turns result (view_of old (t.taken ++ [])) (view_of new []) (t.polled []);
    }

    pub takes_turns : (Sent : Handed → Type 0) (now : ℕ) (result : Result (Option PublicState) RunError) (old new : Client State Exchange) (words words' : Source) (link link' : Link) →
        UnlessNoMemory result (Traces p gives moves now result old new words words' link link') → OnNoMemory result (RunsOut moves Sent old new link link') →
        TakesTurns moves (has_open_attempt old.standing.phase) link link'
    takes_turns Sent now (Ok change) old new words words' link link' t out = traced_turns now (Ok change) old new words words' link link' t
    takes_turns Sent now (Err run.TimedOut) old new words words' link link' t out = traced_turns now (Err run.TimedOut) old new words words' link link' t
    takes_turns Sent now (Err run.OutOfMemory) old new words words' link link' t out =
        record { turns = out.turns; moved = out.moved; one_poll = out_turns moves Sent old new out.turns out.stands }

    -- 3. What a poll keeps.

    pub traced_keeps : (now : ℕ) (result : Result (Option PublicState) RunError) (old new : Client State Exchange) (words words' : Source) (link link' : Link) →
        UnlessNoMemory result (Traces p gives moves now result old new words words' link link') → OnErr result (new.state ≡ old.state) → (result ≡ Ok None → new.state ≡ old.state) →
        Keeps p old.state new.state
    traced_keeps now (Err error) old new words words' link link' t fails still = λ holds preserves first. rw fails first
    traced_keeps now (Ok None) old new words words' link link' t fails still = λ holds preserves first. rw (still refl) first
    traced_keeps now (Ok (Some reported)) old new words words' link link' t fails still = λ holds preserves first.
        let before : View State Exchange = view_of old (t.taken ++ []) in
        let from : IsEnded p now before (view_of new []) ⊎ IsHeard p now t.refuse t.packet before (view_of new []) = comes_from p now t.refuse t.packet t.turns reported before (view_of new []) (t.polled []) in
        by holds preserves first from
      where
        by : (holds : State → Bool) → Preserves p holds → holds old.state ≡ true → IsEnded p now (view_of old (t.taken ++ [])) (view_of new []) ⊎ IsHeard p now t.refuse t.packet (view_of old (t.taken ++ [])) (view_of new []) → holds new.state ≡ true
        by holds preserves first (inl ended) = rw ended (preserves.ended old.state _ first)
        by holds preserves first (inr h) = rw (h.next) (preserves.answered old.state h.exchange h.heard h.words h.answer now first h.read)

-- 4. A release.

module _ {Returned Link : Type 0} (moves : Turn → Link → Link → Type 0) where
  pub release_traced : (message : Option Handed) (made : Handed) (answer : Result Returned ReleaseError) (link link' : Link) → message ≡ Some made → moves (Hands made (sent_when answer)) link link' →
      TracesRelease moves message answer link link'
  release_traced message made (Ok a) link link' e h =
      record { moved = subst (λ (o : Option Handed). Leads moves link (release_turns o Taken) link') (sym e) (link', (h, refl)); unsent = tt }
  release_traced message made (Err release.Refused) link link' e h =
      record { moved = subst (λ (o : Option Handed). Leads moves link (release_turns o (sent_when {A = Returned} (Err release.Refused))) link') (sym e) (link', (h, refl)); unsent = tt }
  release_traced message made (Err release.OutOfMemory) link link' e h =
      record { moved = tt; unsent = inr (subst (λ (o : Option Handed). Leads moves link (release_turns o NoMemory) link') (sym e) (link', (h, refl))) }

  -- with no lease
  pub release_none : (message : Option Handed) (a : Returned) (link : Link) → message ≡ None → TracesRelease moves message (Ok a) link link
  release_none message a link e = record { moved = subst (λ (o : Option Handed). Leads moves link (release_turns o Taken) link) (sym e) refl; unsent = tt }

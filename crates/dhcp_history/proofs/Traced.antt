-- How the steps of a poll, each with the words that it took and the turns that the link made, make up the poll of the
-- protocol.
use Rattle.std.proofs.Common.{◌≡◌, ℕ, ◌+◌, List, [], ◌∷◌, ◌++◌, Bool, true, false, refl, ap, sym, subst, ◌∙◌, append_assoc, ◌⊎◌, inl, inr}
use Rattle.std.specs.Prelude.{Option, Some, None, not, ◌||◌, ◌&&◌, option_map, Result, Ok, Err, IfSome, IsSomeAnd}
use Rattle.dhcp_clock.specs.declared.link.Packet.{Packet}
use Rattle.dhcp_clock.specs.declared.link.Handed.{Handed}
use Rattle.dhcp_clock.specs.Link.{Shown, Turn, Hands, Gives, with_message, without_packet}
use Rattle.dhcp_clock.specs.Words.{Drawn, DrawsBy}
use Rattle.dhcp_clock.proofs.Taken.{leads_both}
use Rattle.dhcp_history.specs.declared.client.Client.{Client}
use Rattle.dhcp_history.specs.declared.client.Standing.{Standing}
use Rattle.dhcp_history.specs.declared.rules.NewAttempt.{NewAttempt}
use Rattle.dhcp_history.specs.declared.machine.RunError.{RunError}
use Rattle.dhcp_history.specs.declared.machine.RunError.TheVariants as run
use Rattle.dhcp_history.specs.Protocol.{Protocol, NextState, has_come}
use Rattle.dhcp_history.specs.Rules.{IsNext}
use Rattle.dhcp_history.specs.Script.{Input, Nothing, Arrival}
use Rattle.dhcp_history.specs.History.{after_wait_if, reading_of}
use Rattle.dhcp_history.specs.Machine.{View, Phase, Stopped, PollEffect, phase_by, is_stopped, has_open_attempt, is_pausing, limit_is_over, has_ended, begin_stay, attempt_now, enter, exchange_at, transmit, take_answer, receive, transmit_and_receive, poll}
use Rattle.dhcp_history.specs.Client.{view_of, view_with, unpolled}
use Rattle.dhcp_history.specs.Run.{input_of, sent_by, answer_of, UsesLink}
use Rattle.dhcp_history.specs.Traced.{made, asked, StepsBy, asks_in, asks, IsPollBy, IsWorkBy, Traces, Works, Transmits, Hears}
use Rattle.dhcp_history.proofs.Running.{at_told, stopped_phase, taken_with, taken_succeeds, answer_same}

-- what a link shows after an attempt, and after the packet
pub uses_due : (shown shown' shown'' : Option Shown) (listens : Bool) →
    IfSome shown (λ before. (message : Handed) × (shown' ≡ Some (with_message message (sent_by before.refuses) before))) →
    IfSome shown (λ before. listens ≡ not before.refuses) →
    IfSome shown' (λ between. (shown'' ≡ Some between) ⊎ (shown'' ≡ Some (without_packet between))) →
    (listens ≡ false → shown'' ≡ shown') →
    IfSome shown (λ before. IsSomeAnd shown'' (λ after. UsesLink false before after))
uses_due None shown' shown'' listens sent taken packet shut = tt
uses_due (Some before) shown' shown'' listens sent taken packet shut =
    go (at_told (λ (between : Shown). (shown'' ≡ Some between) ⊎ (shown'' ≡ Some (without_packet between))) shown' between sent.1 packet) before.refuses refl
  where
    between : Shown
    between = with_message sent.0 (sent_by before.refuses) before

    same : shown'' ≡ Some between → IsSomeAnd shown'' (λ after. UsesLink false before after)
    same e = rw e (record { refuses = refl; handed = inr (sent.0, refl); waiting = inl refl })

    go : (shown'' ≡ Some between) ⊎ (shown'' ≡ Some (without_packet between)) → (refuses : Bool) → before.refuses ≡ refuses → IsSomeAnd shown'' (λ after. UsesLink false before after)
    go (inl e) refuses r = same e
    go (inr e) true r = same (shut (taken ∙ ap not r) ∙ sent.1)
    go (inr e) false r =
        rw e (record {
          refuses = refl;
          handed = inr (sent.0, refl);
          waiting = inr (refl, inr (sent.0, ap (λ (b : Bool). before.handed ++ (sent.0, sent_by b) ∷ []) r));
        })

module _ {PublicState State Exchange Answer Lease : Type 0} (p : Protocol PublicState Packet Handed State Exchange Answer Lease)
    {Source Link : Type 0} (gives : ℕ → Source → Source → Type 0) (moves : Turn → Link → Link → Type 0) where
  -- 1. The attempt.

  pub transmits : (now : ℕ) (refuse : Bool) (client : Client State Exchange) (last : List ℕ → View State Exchange) (begun : Standing Exchange) (exchange : Exchange) (first : Bool) (attempt : NewAttempt Exchange Handed)
      (words words' : Source) (link link' : Link) →
      exchange ≡ after_wait_if p (has_open_attempt begun.phase && has_come now begun.deadline) begun.exchange → first ≡ is_pausing begun.phase →
      DrawsBy gives (p.attempt client.state exchange (record { is_first = first; entered = begun.entered; now = now })) words attempt words' →
      moves (Hands attempt.message (sent_by refuse)) link link' →
      ((rest : List ℕ) → last rest ≡ record (view_with client begun rest) { phase = phase_by refuse; deadline = Some (now + attempt.wait); exchange = attempt.exchange }) →
      Transmits p gives moves now (view_with client begun) last words words' link link'
  transmits now refuse client last begun exchange first attempt words words' link link' same start drawn moved is =
      let whole : (rest : List ℕ) → attempt_now p now (view_with client begun (drawn.0 ++ rest)) ≡ record { value = attempt; left = rest } = λ rest.
      ap (λ (x : Exchange). p.attempt client.state x (record { is_first = is_pausing begun.phase; entered = begun.entered; now = now }) (drawn.0 ++ rest)) (sym same)
      ∙ (ap (λ (b : Bool). p.attempt client.state exchange (record { is_first = b; entered = begun.entered; now = now }) (drawn.0 ++ rest)) (sym start) ∙ drawn.1.1 rest) in
      record {
        taken = drawn.0;
        refuse = refuse;
        message = attempt.message;
        drawn = drawn.1.0;
        moved = moved;
        client = λ rest.
            is rest ∙ ap (λ (of : Drawn (NewAttempt Exchange Handed)).
            record (view_with client begun rest) { phase = phase_by refuse; deadline = Some (now + of.value.wait); exchange = of.value.exchange; words = of.left }) (sym (whole rest));
        says = λ rest. ap (λ (of : Drawn (NewAttempt Exchange Handed)). of.value.message) (sym (whole rest));
      }

  -- 2. The packet.

  module _ (now : ℕ) (client : Client State Exchange) (listens : Bool) (e : has_open_attempt client.standing.phase ≡ listens) where
    -- a client that does not listen asks for none
    pub hears_shut : (words : Source) (link : Link) → listens ≡ false → Hears p gives moves listens now None (view_of client) (view_of client) words words link link
    hears_shut words link shut = record {
      taken = [];
      packet = None;
      drawn = refl;
      moved = rw shut refl;
      unasked = λ _. refl;
      change = λ rest. rw (e, shut);
      client = λ rest. rw (e, shut);
    }

    -- none comes
    pub hears_none : (words : Source) (link link' : Link) → listens ≡ true → moves (Gives None) link link' →
        Hears p gives moves listens now None (view_of client) (view_of client) words words link link'
    hears_none words link link' hearing moved = record {
      taken = [];
      packet = None;
      drawn = refl;
      moved = rw hearing (link', (moved, refl));
      unasked = λ _. refl;
      change = λ rest. rw (e, hearing);
      client = λ rest. rw (e, hearing);
    }

    module _ (packet : Packet) (words words' : Source) (link link' : Link) (hearing : listens ≡ true) (moved : moves (Gives (Some packet)) link link') where
      -- what the client does with what the packet says
      took : (answer : Option Answer) (taken rest : List ℕ) → p.reading client.state client.standing.exchange packet (taken ++ rest) ≡ record { value = answer; left = rest } →
          receive p now (Arrival packet) None (view_of client (taken ++ rest)) ≡ take_answer p now None (view_of client (taken ++ rest)) answer rest
      took answer taken rest read =
          let listening : has_open_attempt client.standing.phase ≡ true = e ∙ hearing in
          rw listening (ap (λ (of : Drawn (Option Answer)). take_answer p now None (view_of client (taken ++ rest)) of.value of.left) read)

      -- it answers nothing
      pub hears_nothing : DrawsBy gives (p.reading client.state client.standing.exchange packet) words None words' →
          Hears p gives moves listens now None (view_of client) (view_of client) words words' link link'
      hears_nothing drawn = record {
        taken = drawn.0;
        packet = Some packet;
        drawn = drawn.1.0;
        moved = rw hearing (link', (moved, refl));
        unasked = λ shut. absurd (cc (hearing, shut));
        change = λ rest. ap (λ (once : PollEffect Packet Handed State Exchange). option_map p.public_state once.change) (sym (took None drawn.0 rest (drawn.1.1 rest)));
        client = λ rest. ap (λ (once : PollEffect Packet Handed State Exchange). once.view) (sym (took None drawn.0 rest (drawn.1.1 rest)));
      }

      -- it answers
      pub hears_answer : (answer : Answer) (new : Client State Exchange) (exchange : Exchange) (reported : PublicState) →
          DrawsBy gives (p.reading client.state client.standing.exchange packet) words (Some answer) words' →
          IsNext (p.after_answer client.state answer now client.standing.exchange) new.state exchange → new.standing ≡ unpolled exchange → new.timeout_sec ≡ client.timeout_sec →
          reported ≡ p.public_state new.state →
          Hears p gives moves listens now (Some reported) (view_of client) (view_of new) words words' link link'
      hears_answer answer new exchange reported drawn next standing timeout says =
          let to : NextState State Exchange = p.after_answer client.state answer now client.standing.exchange in
          let is : (rest : List ℕ) → view_of new rest ≡ record (enter to (view_of client rest)) { words = rest } = λ rest. rw (standing, timeout, next.state, next.exchange) in
          record {
            taken = drawn.0;
            packet = Some packet;
            drawn = drawn.1.0;
            moved = rw hearing (link', (moved, refl));
            unasked = λ shut. absurd (cc (hearing, shut));
            change = λ rest.
                ap (λ (s : PublicState). Some s) (says ∙ ap p.public_state next.state)
                ∙ ap (λ (once : PollEffect Packet Handed State Exchange). option_map p.public_state once.change) (sym (took (Some answer) drawn.0 rest (drawn.1.1 rest)));
            client = λ rest. is rest ∙ ap (λ (once : PollEffect Packet Handed State Exchange). once.view) (sym (took (Some answer) drawn.0 rest (drawn.1.1 rest)));
          }

  -- 3. Both.

  -- what is received hands nothing itself
  none_handed : (now : ℕ) (input : Input Packet) (view : View State Exchange) → (receive p now input None view).handed ≡ None
  none_handed now input view = ap (λ (once : PollEffect Packet Handed State Exchange). once.handed) (taken_with p now input None view)

  -- the answer of what is received
  answered : (now : ℕ) (input : Input Packet) (handed : Option Handed) (view : View State Exchange) (change : Option PublicState) →
      change ≡ option_map p.public_state (receive p now input None view).change → Ok change ≡ answer_of p (receive p now input handed view)
  answered now input handed view change is =
      let quiet : PollEffect Packet Handed State Exchange = receive p now input None view in
      let same : receive p now input handed view ≡ record quiet { handed = handed } = taken_with p now input handed view in
      ap (λ (c : Option PublicState). Ok c) is
      ∙ (answer_same p quiet.change
      ∙ (ap (λ (f : Bool). answer_of p (record quiet { handed = handed; failed = f })) (sym (taken_succeeds p now input None view))
      ∙ ap (λ (once : PollEffect Packet Handed State Exchange). answer_of p once) (sym same)))

  -- nothing is left of the packet, where one that does not listen has none
  heard_left : (now : ℕ) (packet : Option Packet) (handed : Option Handed) (view : View State Exchange) (listens : Bool) → has_open_attempt view.phase ≡ listens → (listens ≡ false → packet ≡ None) →
      (receive p now (input_of packet) handed view).left ≡ Nothing
  heard_left now packet handed view true e none =
      rw e (let read = reading_of p view.state view.exchange view.words (input_of packet) in by_answer read.value read.left)
    where
      by_answer : (answer : Option Answer) (words : List ℕ) → (take_answer p now handed view answer words).left ≡ Nothing
      by_answer None words = refl
      by_answer (Some answer) words = refl
  heard_left now packet handed view false e none = rw e (ap input_of (none refl))

  -- no attempt is due
  pub works_early : (now : ℕ) (listens : Bool) (change : Option PublicState) (first last : List ℕ → View State Exchange) (words words' : Source) (link link' : Link) →
      ((rest : List ℕ) → has_come now (first rest).deadline ≡ false) → ((rest : List ℕ) → has_open_attempt (first rest).phase ≡ listens) →
      Hears p gives moves listens now change first last words words' link link' →
      Works p gives moves now (Ok change) first last words words' link link'
  works_early now listens change first last words words' link link' early hearing h =
      let same : (rest : List ℕ) → transmit_and_receive p now false (input_of h.packet) (first (h.taken ++ rest)) ≡ receive p now (input_of h.packet) None (first (h.taken ++ rest)) = λ rest. rw (early (h.taken ++ rest)) in
      let asks : (rest : List ℕ) → asks_in p now false (first (h.taken ++ rest)) ≡ listens = λ rest. rw (early (h.taken ++ rest), hearing (h.taken ++ rest)) in
      record {
        taken = h.taken;
        turns = asked listens h.packet;
        refuse = false;
        packet = h.packet;
        drawn = h.drawn;
        moved = h.moved;
        worked = λ rest.
            let view : View State Exchange = first (h.taken ++ rest) in
            record {
              answer = answered now (input_of h.packet) None view change (h.change rest) ∙ ap (λ (once : PollEffect Packet Handed State Exchange). answer_of p once) (sym (same rest));
              client = h.client rest ∙ ap (λ (once : PollEffect Packet Handed State Exchange). once.view) (sym (same rest));
              turns =
                  let none : (transmit_and_receive p now false (input_of h.packet) view).handed ≡ None =
                  ap (λ (once : PollEffect Packet Handed State Exchange). once.handed) (same rest) ∙ none_handed now (input_of h.packet) view in
                  ap (λ (b : Bool). made false None ++ asked b h.packet) (sym (asks rest)) ∙ ap (λ (o : Option Handed). made false o ++ asked (asks_in p now false view) h.packet) (sym none);
              took =
                  ap (λ (once : PollEffect Packet Handed State Exchange). once.left) (same rest)
                  ∙ heard_left now h.packet None view listens (hearing (h.taken ++ rest)) h.unasked;
            };
      }

  -- an attempt is due
  listens_by : (refuse : Bool) → has_open_attempt (phase_by refuse) ≡ not refuse
  listens_by true = refl
  listens_by false = refl

  or_false : (b : Bool) → (b || false) ≡ b
  or_false true = refl
  or_false false = refl

  pub works_due : (now : ℕ) (change : Option PublicState) (first : List ℕ → View State Exchange) (mid new : Client State Exchange) (words words₁ words' : Source) (link link₁ link' : Link) →
      ((rest : List ℕ) → has_come now (first rest).deadline ≡ true) →
      Transmits p gives moves now first (view_of mid) words words₁ link link₁ →
      Hears p gives moves (has_open_attempt mid.standing.phase) now change (view_of mid) (view_of new) words₁ words' link₁ link' →
      Works p gives moves now (Ok change) first (view_of new) words words' link link'
  works_due now change first mid new words words₁ words' link link₁ link' due t h =
      let listens : Bool = has_open_attempt mid.standing.phase in
      let as_sent : has_open_attempt mid.standing.phase ≡ not t.refuse = ap (λ (view : View State Exchange). has_open_attempt view.phase) (t.client []) ∙ listens_by t.refuse in
      let before : List ℕ → View State Exchange = λ rest. first ((t.taken ++ h.taken) ++ rest) in
      let between : (rest : List ℕ) → view_of mid (h.taken ++ rest) ≡ transmit p now t.refuse (before rest) = λ rest.
      t.client (h.taken ++ rest) ∙ ap (λ (ws : List ℕ). transmit p now t.refuse (first ws)) (sym (append_assoc t.taken h.taken rest)) in
      let says : (rest : List ℕ) → t.message ≡ (attempt_now p now (before rest)).value.message = λ rest.
      t.says (h.taken ++ rest) ∙ ap (λ (ws : List ℕ). (attempt_now p now (first ws)).value.message) (sym (append_assoc t.taken h.taken rest)) in
      let same : (rest : List ℕ) → transmit_and_receive p now t.refuse (input_of h.packet) (before rest)
      ≡ receive p now (input_of h.packet) (Some (attempt_now p now (before rest)).value.message) (transmit p now t.refuse (before rest)) = λ rest. rw (due ((t.taken ++ h.taken) ++ rest)) in
      let asks : (rest : List ℕ) → asks_in p now t.refuse (before rest) ≡ listens = λ rest.
      rw (due ((t.taken ++ h.taken) ++ rest)) (or_false (not t.refuse) ∙ sym as_sent) in
      record {
        taken = t.taken ++ h.taken;
        turns = Hands t.message (sent_by t.refuse) ∷ asked listens h.packet;
        refuse = t.refuse;
        packet = h.packet;
        drawn = leads_both gives t.taken h.taken words words₁ words' t.drawn h.drawn;
        moved = (link₁, (t.moved, h.moved));
        worked = λ rest.
            let sent : Option Handed = Some (attempt_now p now (before rest)).value.message in
            let last : View State Exchange = transmit p now t.refuse (before rest) in
            let whole : PollEffect Packet Handed State Exchange = receive p now (input_of h.packet) sent last in
            let quiet : PollEffect Packet Handed State Exchange = receive p now (input_of h.packet) None last in
            let with_sent : whole ≡ record quiet { handed = sent } = taken_with p now (input_of h.packet) sent last in
            let changes : change ≡ option_map p.public_state quiet.change =
            h.change rest ∙ ap (λ (v : View State Exchange). option_map p.public_state (receive p now (input_of h.packet) None v).change) (between rest) in
            record {
              answer = answered now (input_of h.packet) sent last change changes ∙ ap (λ (once : PollEffect Packet Handed State Exchange). answer_of p once) (sym (same rest));
              client =
                  h.client rest ∙ (ap (λ (v : View State Exchange). (receive p now (input_of h.packet) None v).view) (between rest)
                  ∙ (ap (λ (once : PollEffect Packet Handed State Exchange). once.view) (sym with_sent) ∙ ap (λ (once : PollEffect Packet Handed State Exchange). once.view) (sym (same rest))));
              turns =
                  let handed : (transmit_and_receive p now t.refuse (input_of h.packet) (before rest)).handed ≡ Some t.message =
                  ap (λ (once : PollEffect Packet Handed State Exchange). once.handed) (same rest)
                  ∙ (ap (λ (once : PollEffect Packet Handed State Exchange). once.handed) with_sent ∙ ap (λ (m : Handed). Some m) (sym (says rest))) in
                  ap (λ (b : Bool). made t.refuse (Some t.message) ++ asked b h.packet) (sym (asks rest))
                  ∙ ap (λ (o : Option Handed). made t.refuse o ++ asked (asks_in p now t.refuse (before rest)) h.packet) (sym handed);
              took =
                  ap (λ (once : PollEffect Packet Handed State Exchange). once.left) (same rest)
                  ∙ heard_left now h.packet sent last listens (listens_by t.refuse ∙ sym as_sent) h.unasked;
            };
      }

  -- 4. A poll.

  module _ (now : ℕ) (old new : Client State Exchange) (result : Result (Option PublicState) RunError) where
    -- neither words nor link are used
    traces_none : (words : Source) (link : Link) → ((rest : List ℕ) → IsPollBy p now false None [] result (view_of old rest) (view_of new rest)) →
        Traces p gives moves now result old new words words link link
    traces_none words link is = record { taken = []; turns = []; refuse = false; packet = None; drawn = refl; moved = refl; polled = is }

    pub traces_stopped : (words : Source) (link : Link) → result ≡ Err run.TimedOut → is_stopped old.standing.phase ≡ true → ((rest : List ℕ) → view_of new rest ≡ view_of old rest) →
        Traces p gives moves now result old new words words link link
    traces_stopped words link fails stopped is = traces_none words link (λ rest. record {
      answer = rw stopped fails;
      client = rw stopped (is rest ∙ ap (λ (phase : Phase). record (view_of old rest) { phase = phase }) (stopped_phase old.standing.phase stopped));
      turns = rw stopped refl;
      took = rw stopped refl;
    })

    pub traces_over : (words : Source) (link : Link) → result ≡ Err run.TimedOut → is_stopped old.standing.phase ≡ false → ((rest : List ℕ) → limit_is_over p now (view_of old rest) ≡ true) →
        ((rest : List ℕ) → view_of new rest ≡ record (view_of old rest) { phase = Stopped }) →
        Traces p gives moves now result old new words words link link
    traces_over words link fails runs over is = traces_none words link (λ rest. record {
      answer = rw (runs, over rest) fails;
      client = rw (runs, over rest) (is rest);
      turns = rw (runs, over rest) refl;
      took = rw (runs, over rest) refl;
    })

    pub traces_ended : (reported : PublicState) (words : Source) (link : Link) → result ≡ Ok (Some reported) → is_stopped old.standing.phase ≡ false →
        ((rest : List ℕ) → limit_is_over p now (view_of old rest) ≡ false) → ((rest : List ℕ) → has_ended p now (view_of old rest) ≡ true) →
        ((rest : List ℕ) → view_of new rest ≡ enter (p.after_end old.state (exchange_at p now (view_of old rest))) (view_of old rest)) →
        reported ≡ p.public_state new.state →
        Traces p gives moves now result old new words words link link
    traces_ended reported words link gave runs lasts ends is says = traces_none words link (λ rest. record {
      answer = rw (runs, lasts rest, ends rest) (gave ∙ ap (λ (s : PublicState). Ok (Some s)) (says ∙ ap (λ (v : View State Exchange). p.public_state v.state) (is rest)));
      client = rw (runs, lasts rest, ends rest) (is rest);
      turns = rw (runs, lasts rest, ends rest) refl;
      took = rw (runs, lasts rest, ends rest) refl;
    })

    pub traces_works : (second : List ℕ → View State Exchange) (words words₁ words' : Source) (link link' : Link) → is_stopped old.standing.phase ≡ false →
        ((rest : List ℕ) → limit_is_over p now (view_of old rest) ≡ false) → ((rest : List ℕ) → has_ended p now (view_of old rest) ≡ false) →
        StepsBy gives (begin_stay p now) (view_of old) second words words₁ →
        Works p gives moves now result second (view_of new) words₁ words' link link' →
        Traces p gives moves now result old new words words' link link'
    traces_works second words words₁ words' link link' runs lasts stays steps w =
        let before : List ℕ → View State Exchange = λ rest. view_of old ((steps.0 ++ w.taken) ++ rest) in
        let begun : (rest : List ℕ) → second (w.taken ++ rest) ≡ begin_stay p now (before rest) = λ rest.
        steps.1.1 (w.taken ++ rest) ∙ ap (λ (ws : List ℕ). begin_stay p now (view_of old ws)) (sym (append_assoc steps.0 w.taken rest)) in
        let same : (rest : List ℕ) → poll p now w.refuse (input_of w.packet) (before rest) ≡ transmit_and_receive p now w.refuse (input_of w.packet) (begin_stay p now (before rest)) = λ rest.
        rw (runs, lasts ((steps.0 ++ w.taken) ++ rest), stays ((steps.0 ++ w.taken) ++ rest)) in
        let asking : (rest : List ℕ) → asks p now w.refuse (before rest) ≡ asks_in p now w.refuse (begin_stay p now (before rest)) = λ rest.
        rw (runs, lasts ((steps.0 ++ w.taken) ++ rest), stays ((steps.0 ++ w.taken) ++ rest)) in
        record {
          taken = steps.0 ++ w.taken;
          turns = w.turns;
          refuse = w.refuse;
          packet = w.packet;
          drawn = leads_both gives steps.0 w.taken words words₁ words' steps.1.0 w.drawn;
          moved = w.moved;
          polled = λ rest.
              let worked : IsWorkBy p now w.refuse w.packet w.turns result (begin_stay p now (before rest)) (view_of new rest) =
              subst (λ (v : View State Exchange). IsWorkBy p now w.refuse w.packet w.turns result v (view_of new rest)) (begun rest) (w.worked rest) in
              record {
                answer = worked.answer ∙ ap (λ (once : PollEffect Packet Handed State Exchange). answer_of p once) (sym (same rest));
                client = worked.client ∙ ap (λ (once : PollEffect Packet Handed State Exchange). once.view) (sym (same rest));
                turns =
                    worked.turns ∙ (ap (λ (once : PollEffect Packet Handed State Exchange). made w.refuse once.handed ++ asked (asks_in p now w.refuse (begin_stay p now (before rest))) w.packet) (sym (same rest))
                    ∙ ap (λ (b : Bool). made w.refuse (poll p now w.refuse (input_of w.packet) (before rest)).handed ++ asked b w.packet) (sym (asking rest)));
                took = ap (λ (once : PollEffect Packet Handed State Exchange). once.left) (same rest) ∙ worked.took;
              };
        }

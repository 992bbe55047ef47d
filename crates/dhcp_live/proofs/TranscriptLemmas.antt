-- A session, event by event.
use Rattle.std.proofs.Common.{◌≡◌, ℕ, suc, true, List, [], ◌∷◌, ◌++◌, refl, sym, ap, subst, ◌∙◌, append_assoc, length, length-append}
use Rattle.std.specs.Prelude.{◌&&◌, All, map, nat_le, nat_lt}
use Rattle.std.specs.List.{list_all}
use Rattle.std.proofs.lemmas.Bool.{and_from, and_parts}
use Rattle.std.proofs.lemmas.List.{map-append}
use Rattle.std.proofs.lemmas.List.Elements.{All-cons, All-nil}
use Rattle.dhcp_clock.specs.declared.link.Handed.{Handed}
use Rattle.dhcp_clock.specs.declared.link.Packet.{Packet}
use Rattle.dhcp_history.specs.Calls.{ClientParts}
use Rattle.dhcp_history.specs.Client.{view_of}
use Rattle.dhcp_history.specs.EventLoop.{event_at, events_at}
use Rattle.dhcp_history.specs.Machine.{EventEffect, View}
use Rattle.dhcp_history.specs.Protocol.{Protocol}
use Rattle.dhcp_history.specs.declared.script.NumberedReport.{NumberedReport}
use Rattle.dhcp_draws.specs.Events.{EventsTakeAtMost, with_more}
use Rattle.dhcp_draws.specs.Tables.{most_words}
use Rattle.dhcp_output.specs.Output.{PlainOutput, PlainReport}
use Rattle.dhcp_replay.specs.Life.{numbered, numbered_event, output_of}
use Rattle.dhcp_script.specs.Event.{are_in_order, is_within_limits}
use Rattle.dhcp_script.specs.declared.event.Event.{Event}
use Rattle.dhcp_script.specs.Life.{IsEvent, events_text}
use Rattle.dhcp_script.specs.LiveLine.{live_line_text}
use Rattle.dhcp_stream.specs.HexText.{AreWords}
use Rattle.dhcp_script.specs.declared.live_line.LiveLine.TheVariants as lines
use Rattle.dhcp_tool.specs.declared.status.Status.{Status}
use Rattle.dhcp_tool.specs.declared.status.Status.TheVariants.{Done}
use Rattle.dhcp_dialogue.specs.Dialogue.{Turn, Hears, Says, status_of}
use Rattle.dhcp_dialogue.specs.declared.dialogue.Unheard.{Unheard}
use Rattle.dhcp_dialogue.specs.declared.dialogue.Unheard.TheVariants as unheard
use Rattle.dhcp_live.specs.Answer.{answer_text}
use Rattle.dhcp_live.specs.Dropped.{PlainVerdict, dropped_of}
use Rattle.dhcp_live.specs.Live.{LiveParts, can_take, is_listening_in, most_live_events, next_of, with_words}
use Rattle.dhcp_live.specs.Session.{IsAnswer, IsSession, answers, is_cut_off, refuses, adds_words, ends, ends_unsaid, is_no_line, misses, runs_out, has_no_line}
use Rattle.dhcp_live.specs.Transcript.{Added, Answered, AreEnough, Entry, HearsNoWords, Told, events_in, heard_in, outputs_in, turns_of, words_in}
use Rattle.dhcp_live.proofs.ScriptLemmas.{events_text-cons}
use Rattle.dhcp_live.proofs.WordsLemmas.{AreWords-append, event_alike}

-- a session that ends because no line is heard is not done
pub missed_undone : (why : Unheard) → status_of why ≡ Done → ⊥
missed_undone unheard.End is = cc is
missed_undone unheard.TooLong is = cc is
missed_undone unheard.Failed is = cc is
missed_undone unheard.NoMemory is = cc is

module _ {Config PublicState State Exchange Answer Lease : Type 0} (protocol : Config → Protocol PublicState Packet Handed State Exchange Answer Lease) (changed : PublicState → PlainReport) where
  -- what is reported from a client on
  abbrev pub reports : Config → View State Exchange → ℕ → List Event → List PlainOutput
  reports config view number events = map (output_of changed) (events_at (protocol config) view (numbered number events)).outputs

  -- the same of a client that was given these words, with further ones behind
  abbrev pub reports_with : List ℕ → LiveParts Config State Exchange → List Event → List PlainOutput
  reports_with more here events = reports here.parts.config (with_more more (view_of here.parts.client here.words)) (suc here.number) events

  -- the turns of a session whose client stands so
  pub record IsTold (here : LiveParts Config State Exchange) (turns : List Turn) : Type 0 where
    pub entries : List Entry
    pub turns_are : turns ≡ turns_of entries
    pub outputs_are : AreEnough (length here.words) entries → outputs_in entries ≡ reports_with (words_in entries) here (events_in entries)
    pub within : list_all is_within_limits (events_in entries) ≡ true
    pub in_order : are_in_order here.moment (events_in entries) ≡ true
    pub events_fit : All IsEvent (events_in entries)
    pub words_fit : AreWords (words_in entries)
    pub no_more : HearsNoWords turns → words_in entries ≡ []
    pub heard : HearsNoWords turns → heard_in turns ≡ events_text (events_in entries)

  -- the words of an entry without words fit
  no_words_fit : AreWords []
  no_words_fit = All-nil _

  module _ {Client : Type 0} (parts : Client → ClientParts Config State Exchange) (verdict : Client → ℕ → Packet → PlainVerdict) (takes : (config : Config) → EventsTakeAtMost (protocol config) most_words) where
    module _ (before after : LiveParts Config State Exchange) (event : Event) (text : List ℕ) (turns : List Turn) (fits : IsEvent event) (can : can_take before event ≡ true)
        (answer : IsAnswer protocol changed parts verdict event before after text) (more : IsTold after turns) where
      abbrev effect : EventEffect PublicState Handed State Exchange
      effect = event_at (protocol before.parts.config) (numbered_event (suc before.number) event) (view_of before.parts.client before.words)

      abbrev first : Told
      first = record { event = event; outputs = answer.outputs; dropped = dropped_of verdict answer.client after.number event answer.outputs; next = next_of protocol changed after; is_listening = is_listening_in protocol changed after; left = length after.words }

      abbrev words : List ℕ
      words = words_in more.entries

      abbrev events : List Event
      events = events_in more.entries

      abbrev in_all : List (NumberedReport PublicState Handed) → List PlainOutput
      in_all = map (output_of changed)

      -- what is reported later
      later : AreEnough (length after.words) more.entries → outputs_in more.entries ≡ reports before.parts.config (with_more words effect.view) (suc (suc before.number)) events
      later enough =
          more.outputs_are enough ∙ ap (λ (config : Config). reports config (with_more words (view_of after.parts.client after.words)) (suc after.number) events) answer.plays.config
          ∙ ap (λ (view : View State Exchange). reports before.parts.config (with_more words view) (suc after.number) events) answer.plays.client
          ∙ ap (λ (number : ℕ). reports before.parts.config (with_more words effect.view) (suc number) events) answer.plays.number

      -- what is reported of this event, and later
      after_event : EventEffect PublicState Handed State Exchange → List (NumberedReport PublicState Handed)
      after_event once = once.outputs ++ (events_at (protocol before.parts.config) once.view (numbered (suc (suc before.number)) events)).outputs

      now : AreEnough (length before.words) (Answered first ∷ more.entries) → answer.outputs ++ outputs_in more.entries ≡ reports_with words before (event ∷ events)
      unfolding after_event
      now enough =
          ap (λ (outs : List PlainOutput). outs ++ outputs_in more.entries) answer.plays.outputs_are
          ∙ ap (λ (outs : List PlainOutput). in_all effect.outputs ++ outs) (later enough.1)
          ∙ sym (map-append (output_of changed) effect.outputs (events_at (protocol before.parts.config) (with_more words effect.view) (numbered (suc (suc before.number)) events)).outputs)
          ∙ ap in_all (ap after_event (sym (event_alike (protocol before.parts.config) most_words (takes before.parts.config) (numbered_event (suc before.number) event) (view_of before.parts.client before.words) words enough.0)))

      limits : (nat_le before.moment event.moment ≡ true) × (is_within_limits event ≡ true)
      limits = and_parts (nat_le before.moment event.moment) (is_within_limits event) (and_parts (nat_le before.moment event.moment && is_within_limits event) (nat_lt before.number most_live_events) can).0

      pub one_more : IsTold before (Hears (live_line_text (lines.Event event)) ∷ Says text true ∷ turns)
      one_more = record {
        entries = Answered first ∷ more.entries;
        turns_are = ap (λ (said : List ℕ). Hears (live_line_text (lines.Event event)) ∷ Says said true ∷ turns) answer.text_is
            ∙ ap (λ (rest : List Turn). Hears (live_line_text (lines.Event event)) ∷ Says (answer_of first) true ∷ rest) more.turns_are;
        outputs_are = now;
        within = and_from (is_within_limits event) (list_all is_within_limits events) limits.1 more.within;
        in_order = and_from (nat_le before.moment event.moment) (are_in_order event.moment events) limits.0 (subst (λ (moment : ℕ). are_in_order moment events ≡ true) answer.plays.moment more.in_order);
        events_fit = All-cons IsEvent event events fits more.events_fit;
        words_fit = more.words_fit;
        no_more = λ wordless. more.no_more wordless.1;
        heard = λ wordless. events_text-cons event (heard_in turns) events (more.heard wordless.1);
      }
        where
          answer_of : Told → List ℕ
          answer_of told = answer_text told.outputs told.dropped told.next told.is_listening told.left

    -- further words
    words_more : (before : LiveParts Config State Exchange) (words : List ℕ) (turns : List Turn) → AreWords words → IsTold (with_words words before) turns → IsTold before (Hears (live_line_text (lines.Words words)) ∷ turns)
    words_more before words turns fit more = record {
      entries = Added words ∷ more.entries;
      turns_are = ap (λ (rest : List Turn). Hears (live_line_text (lines.Words words)) ∷ rest) more.turns_are;
      outputs_are = λ enough.
          more.outputs_are (subst (λ (left : ℕ). AreEnough left more.entries) (sym (length-append before.words words)) enough)
          ∙ ap (λ (all : List ℕ). reports before.parts.config (view_of before.parts.client all) (suc before.number) (events_in more.entries)) (append_assoc before.words words (words_in more.entries));
      within = more.within;
      in_order = more.in_order;
      events_fit = more.events_fit;
      words_fit = AreWords-append words (words_in more.entries) fit more.words_fit;
      no_more = λ wordless. absurd (wordless.0 (words, (fit, refl)));
      heard = λ wordless. absurd (wordless.0 (words, (fit, refl)));
    }

    -- the line `end`
    over : (here : LiveParts Config State Exchange) → IsTold here (turns_of [])
    over here = record {
      entries = [];
      turns_are = refl;
      outputs_are = λ enough. refl;
      within = refl;
      in_order = refl;
      events_fit = All-nil IsEvent;
      words_fit = no_words_fit;
      no_more = λ wordless. refl;
      heard = λ wordless. refl;
    }

    pub is_told : (left : ℕ) (here : LiveParts Config State Exchange) (turns : List Turn) (status : Status) → IsSession protocol changed parts verdict left here turns status → status ≡ Done → IsTold here turns
    is_told _ _ _ _ (answers left before after event text turns status is can answer more) done = one_more before after event text turns is can answer (is_told left after turns status more done)
    is_told _ _ _ _ (is_cut_off left before after event text is can answer) done = absurd (cc done)
    is_told _ _ _ _ (refuses left before event is can) done = absurd (cc done)
    is_told _ _ _ _ (adds_words left before words turns status is more) done = words_more before words turns is (is_told left (with_words words before) turns status more done)
    is_told _ _ _ _ (ends left before) done = over before
    is_told _ _ _ _ (ends_unsaid left before) done = absurd (cc done)
    is_told _ _ _ _ (is_no_line left before text none) done = absurd (cc done)
    is_told _ _ _ _ (misses left before why) done = absurd (missed_undone why done)
    is_told _ _ _ _ (runs_out left before text) done = absurd (cc done)
    is_told _ _ _ _ (has_no_line before) done = absurd (cc done)

-- What is printed of a client, event by event.
use Rattle.std.proofs.Common.{◌≡◌, ◌<◌, ◌^◌, ◌+◌, ℕ, suc, List, [], ◌∷◌, ◌++◌, Option, Some, None, refl, sym, ap, subst, ◌∙◌, append_assoc, append-nil, arith, length}
use Rattle.std.specs.Prelude.{All, IfSome, IsSomeAnd, map}
use Rattle.std.specs.List.{flat_map}
use Rattle.std.proofs.lemmas.List.{map-append}
use Rattle.std.proofs.lemmas.List.Concat.{flat_map-append}
use Rattle.std.proofs.lemmas.List.Elements.{All-tail}
use Rattle.dhcp_clock.specs.declared.link.Handed.{Handed}
use Rattle.dhcp_clock.specs.declared.link.Packet.{Packet}
use Rattle.dhcp_history.specs.Calls.{ClientParts}
use Rattle.dhcp_history.specs.Client.{view_of}
use Rattle.dhcp_history.specs.EventLoop.{HasReported, MakesUp, event_at, events_at}
use Rattle.dhcp_history.specs.Machine.{View}
use Rattle.dhcp_history.specs.Protocol.{Protocol}
use Rattle.dhcp_history.specs.declared.script.NumberedEvent.{NumberedEvent}
use Rattle.dhcp_history.specs.declared.script.NumberedReport.{NumberedReport}
use Rattle.dhcp_history.proofs.Looping.{events_begin, events_go_on}
use Rattle.dhcp_output.specs.Output.{PlainOutput, PlainReport, output_line}
use Rattle.dhcp_script.specs.declared.event.Event.{Event}
use Rattle.dhcp_replay.specs.Life.{numbered, numbered_event, output_of}
use Rattle.dhcp_replay.specs.Printed.{IsPrinted, lines_of, played_events}

-- events by their numbers, of which the first is known
numbered_first : (number : ℕ) (event : Event) (entry : NumberedEvent Packet) (events rest : List Event) → events ≡ event ∷ rest → entry ≡ numbered_event number event → numbered number events ≡ entry ∷ numbered (number + 1) rest
numbered_first number event entry events rest steps entry_is =
    let next : suc number ≡ number + 1 = omega arith in
    ap (numbered number) steps ∙ ap (λ (n : ℕ). numbered_event number event ∷ numbered n rest) next ∙ ap (λ (e : NumberedEvent Packet). e ∷ numbered (number + 1) rest) (sym entry_is)

module _ {Config PublicState State Exchange Answer Lease : Type 0} (protocol : Config → Protocol PublicState Packet Handed State Exchange Answer Lease) (changed : PublicState → PlainReport) where
  abbrev lines : List (NumberedReport PublicState Handed) → List ℕ
  lines items = lines_of changed items

  lines-append : (first more : List (NumberedReport PublicState Handed)) → lines (first ++ more) ≡ lines first ++ lines more
  lines-append first more = ap (λ (outs : List PlainOutput). flat_map output_line outs) (map-append (output_of changed) first more) ∙ flat_map-append output_line (map (output_of changed) first) (map (output_of changed) more)

  -- What was printed so far and the events that are left make up all of them.
  pub record IsPrintedSoFar (all : List Event) (rest : List (NumberedEvent Packet)) (before now : List ℕ) (old here : ClientParts Config State Exchange) (drawn left : Option (List ℕ)) : Type 0 where
    pub items : List (NumberedReport PublicState Handed)
    pub text_is : now ≡ before ++ lines_of changed items
    pub makes_up : IfSome drawn (λ words. IsSomeAnd left (λ available.
        MakesUp (events_at (protocol old.config) (view_of here.client available) rest) (played_events protocol old all (view_of old.client words)) items []))
    pub config_kept : here.config ≡ old.config
    pub moments : All (λ (event : NumberedEvent Packet). event.moment < 2 ^ 60) rest

  pub begins : (all : List Event) (before : List ℕ) (old : ClientParts Config State Exchange) (drawn : Option (List ℕ)) → All (λ (event : NumberedEvent Packet). event.moment < 2 ^ 60) (numbered 1 all) → IsPrintedSoFar all (numbered 1 all) before before old old drawn drawn
  begins all before old drawn moments = record {
    items = [];
    text_is = sym (append-nil before);
    makes_up = events_begin (protocol old.config) drawn (view_of old.client) (numbered 1 all) [];
    config_kept = refl;
    moments = moments;
  }

  module _ (all : List Event) (before now : List ℕ) (old here : ClientParts Config State Exchange) (drawn left : Option (List ℕ)) where
    module _ (event : NumberedEvent Packet) (rest : List (NumberedEvent Packet)) (so_far : IsPrintedSoFar all (event ∷ rest) before now old here drawn left) (after : List ℕ) (next : ClientParts Config State Exchange) (left' : Option (List ℕ))
        (printed : IsPrinted changed (event_at (protocol here.config) event) now after here next left left') where
      abbrev both : List (NumberedReport PublicState Handed)
      both = so_far.items ++ printed.items

      -- the event adds its outputs to those so far
      adds : (exposed : Option (List ℕ)) → IfSome exposed (λ words. HasReported (event_at (protocol old.config) event (view_of here.client words)) [] printed.items (view_of next.client) left') →
          IfSome exposed (λ words. HasReported (event_at (protocol old.config) event (view_of here.client words)) so_far.items both (view_of next.client) left')
      adds None is = tt
      adds (Some words) is = record { outputs = ap (λ (more : List (NumberedReport PublicState Handed)). so_far.items ++ more) is.outputs; client = is.client; words = is.words }

      pub goes_on : IsPrintedSoFar all rest before after old next drawn left'
      goes_on = record {
        items = both;
        text_is = printed.text_is ∙ ap (λ (text : List ℕ). text ++ lines printed.items) so_far.text_is ∙ append_assoc before (lines so_far.items) (lines printed.items) ∙ ap (λ (text : List ℕ). before ++ text) (sym (lines-append so_far.items printed.items));
        makes_up = events_go_on (protocol old.config) drawn left left' (view_of old.client) (view_of here.client) (view_of next.client) event rest (numbered 1 all) [] so_far.items both so_far.makes_up
            (adds left (subst (λ (config : Config). IfSome left (λ words. HasReported (event_at (protocol config) event (view_of here.client words)) [] printed.items (view_of next.client) left')) so_far.config_kept printed.reported));
        config_kept = printed.config_kept ∙ so_far.config_kept;
        moments = All-tail (λ (event : NumberedEvent Packet). event.moment < 2 ^ 60) event rest so_far.moments;
      }

  -- the events that are left begin with the next one
  pub next_first : (all : List Event) (number : ℕ) (event : Event) (entry : NumberedEvent Packet) (events rest : List Event) (before now : List ℕ) (old here : ClientParts Config State Exchange) (drawn left : Option (List ℕ)) →
      events ≡ event ∷ rest → entry ≡ numbered_event number event → IsPrintedSoFar all (numbered number events) before now old here drawn left → IsPrintedSoFar all (entry ∷ numbered (number + 1) rest) before now old here drawn left
  next_first all number event entry events rest before now old here drawn left steps entry_is so_far =
      subst (λ (rest : List (NumberedEvent Packet)). IsPrintedSoFar all rest before now old here drawn left) (numbered_first number event entry events rest steps entry_is) so_far

  -- where no event is left, what was printed is what all of them report
  module _ (all : List Event) (before now : List ℕ) (old here : ClientParts Config State Exchange) (drawn left : Option (List ℕ)) where
    abbrev Reported : List (NumberedReport PublicState Handed) → Option (List ℕ) → Option (List ℕ) → Type 0
    Reported items drawn' left' = IfSome drawn' (λ words. HasReported (played_events protocol old all (view_of old.client words)) [] items (view_of here.client) left')

    all_reported : (items : List (NumberedReport PublicState Handed)) (drawn' left' : Option (List ℕ)) →
        IfSome drawn' (λ words. IsSomeAnd left' (λ available. MakesUp (events_at (protocol old.config) (view_of here.client available) []) (played_events protocol old all (view_of old.client words)) items [])) →
        Reported items drawn' left'
    all_reported items None left' made = tt
    all_reported items (Some words) None made = absurd made
    all_reported items (Some words) (Some available) made =
        let whole = played_events protocol old all (view_of old.client words) in
        let words_are : available ≡ whole.view.words = ap (λ (view : View State Exchange). view.words) made.view in
        record {
          outputs = sym (append-nil items) ∙ made.outputs;
          client = ap (view_of here.client) (sym words_are) ∙ made.view;
          words = ap Some words_are;
        }

    pub ends : IsPrintedSoFar all [] before now old here drawn left → IsPrinted changed (played_events protocol old all) before now old here drawn left
    ends so_far = record {
      items = so_far.items;
      text_is = so_far.text_is;
      reported = all_reported so_far.items drawn left so_far.makes_up;
      config_kept = so_far.config_kept;
    }

  -- the same of events by their numbers, where there are none
  pub ends_with : (all events : List Event) (number : ℕ) (before now : List ℕ) (old here : ClientParts Config State Exchange) (drawn left : Option (List ℕ)) → length events ≡ 0 →
      IsPrintedSoFar all (numbered number events) before now old here drawn left → IsPrinted changed (played_events protocol old all) before now old here drawn left
  ends_with all [] number before now old here drawn left none so_far = ends all before now old here drawn left so_far
  ends_with all (event ∷ events) number before now old here drawn left none so_far = absurd (omega (arith, none))

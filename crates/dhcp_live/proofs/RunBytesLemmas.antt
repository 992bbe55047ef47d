-- What the turns of a run with the status 0 take from a reader, and add to a writer.
use Rattle.std.proofs.Common.{◌≡◌, inl, inr, ℕ, Bool, true, false, List, [], ◌∷◌, ◌++◌, refl, sym, ap, subst, ◌∙◌, append_assoc, arith}
use Rattle.std.proofs.KnownBytes.{Appends-nil, Appends-trans, Consumes-nil, Consumes-trans}
use Rattle.std.specs.Io.KnownBytes.{Appends, Consumes, prepend_known}
use Rattle.dhcp_clock.specs.Leads.{Leads}
use Rattle.dhcp_clock.specs.declared.link.Handed.{Handed}
use Rattle.dhcp_clock.specs.declared.link.Packet.{Packet}
use Rattle.dhcp_dialogue.specs.Dialogue.{Turn, Hears, Misses, Says}
use Rattle.dhcp_dialogue.specs.Standard.{HearsNothing, MovesBytes, StdDialogueView, to_hear}
use Rattle.dhcp_history.specs.Calls.{ClientParts}
use Rattle.dhcp_history.specs.Protocol.{Protocol}
use Rattle.dhcp_output.specs.Output.{PlainReport}
use Rattle.dhcp_script.specs.Script.{is_valid}
use Rattle.dhcp_script.specs.declared.script.Script.{Script}
use Rattle.dhcp_script.specs.declared.script.Script.TheVariants.{V4, V6}
use Rattle.dhcp_stream.specs.Standard.{StdSourceView}
use Rattle.dhcp_tool.specs.Status.{status_number}
use Rattle.dhcp_tool.specs.declared.status.Status.{Status}
use Rattle.dhcp_tool.specs.declared.status.Status.TheVariants as statuses
use Rattle.dhcp_live.specs.Dropped.{PlainVerdict}
use Rattle.dhcp_live.specs.Live.{LiveParts, with_words}
use Rattle.dhcp_live.specs.RunBytes.{HoldsSessionInBytes}
use Rattle.dhcp_live.specs.Session.{IsSession, answers, is_cut_off, refuses, adds_words, ends, ends_unsaid, is_no_line, misses, runs_out, has_no_line}
use Rattle.dhcp_live.specs.Tool as tool
use Rattle.dhcp_live.specs.Tool.{IsAfterHead, IsHead, IsLive, IsRunOf, IsSessionOf, RunsLive}
use Rattle.dhcp_live.specs.Transcript.{heard_in, said_in}
use Rattle.dhcp_live.proofs.TranscriptLemmas.{missed_undone}

-- each line was heard, and each text went out whole
GoesWell : List Turn → Type 0
GoesWell [] = Unit {0}
GoesWell (Hears text ∷ turns) = GoesWell turns
GoesWell (Misses why ∷ turns) = ⊥
GoesWell (Says text true ∷ turns) = GoesWell turns
GoesWell (Says text false ∷ turns) = ⊥

-- what turns take and add
record TakesAndAdds (old new : StdDialogueView) (turns : List Turn) : Type 0 where
  heard : Consumes (to_hear old) (to_hear new) (heard_in turns)
  said : Appends old.sink.contents new.sink.contents (said_in turns)

-- what is to be heard stays where nothing is heard
same_to_hear : (before after : StdDialogueView) → HearsNothing before after → to_hear after ≡ to_hear before
same_to_hear before after kept =
    ap (λ (ahead : List ℕ). prepend_known ahead after.source.remaining) kept.ahead ∙ ap (λ (source : StdSourceView). prepend_known before.ahead source.remaining) kept.source

takes_and_adds : (turns : List Turn) (old new : StdDialogueView) → GoesWell turns → Leads MovesBytes old turns new → TakesAndAdds old new turns
unfolding GoesWell
takes_and_adds [] old new well same = rw same (record { heard = Consumes-nil (to_hear old); said = Appends-nil old.sink.contents })
takes_and_adds (Hears text ∷ turns) old new well moved =
    let between = moved.0 in
    let more = takes_and_adds turns between new well moved.1.1 in
    record {
      heard = Consumes-trans (to_hear old) (to_hear between) (to_hear new) text (heard_in turns) moved.1.0.0 more.heard;
      said = rw (sym moved.1.0.1) more.said;
    }
takes_and_adds (Misses why ∷ turns) old new well moved = absurd well
takes_and_adds (Says text true ∷ turns) old new well moved =
    let between = moved.0 in
    let more = takes_and_adds turns between new well moved.1.1 in
    record {
      heard = rw (sym (same_to_hear old between moved.1.0.0)) more.heard;
      said = Appends-trans old.sink.contents between.sink.contents new.sink.contents text (said_in turns) moved.1.0.1 more.said;
    }
takes_and_adds (Says text false ∷ turns) old new well moved = absurd well

module _ {Client Config PublicState State Exchange Answer Lease : Type 0} (protocol : Config → Protocol PublicState Packet Handed State Exchange Answer Lease) (changed : PublicState → PlainReport)
    (parts : Client → ClientParts Config State Exchange) (verdict : Client → ℕ → Packet → PlainVerdict) where
  -- a session that is done goes well
  session_well : (left : ℕ) (here : LiveParts Config State Exchange) (turns : List Turn) (status : Status) → IsSession protocol changed parts verdict left here turns status → status ≡ statuses.Done → GoesWell turns
  unfolding GoesWell
  session_well _ _ _ _ (answers left before after event text turns status is can answer more) done = session_well left after turns status more done
  session_well _ _ _ _ (is_cut_off left before after event text is can answer) done = absurd (cc done)
  session_well _ _ _ _ (refuses left before event is can) done = absurd (cc done)
  session_well _ _ _ _ (adds_words left before words turns status is more) done = session_well left (with_words words before) turns status more done
  session_well _ _ _ _ (ends left before) done = tt
  session_well _ _ _ _ (ends_unsaid left before) done = absurd (cc done)
  session_well _ _ _ _ (is_no_line left before text none) done = absurd (cc done)
  session_well _ _ _ _ (misses left before why) done = absurd (missed_undone why done)
  session_well _ _ _ _ (runs_out left before text) done = absurd (cc done)
  session_well _ _ _ _ (has_no_line before) done = absurd (cc done)

session_of_well : (script : Script) (turns : List Turn) → IsSessionOf script turns statuses.Done → GoesWell turns
session_of_well (V4 script) turns session = session_well _ _ _ _ _ session.0 turns statuses.Done session.1.1 refl
session_of_well (V6 script) turns session = session_well _ _ _ _ _ session.0 turns statuses.Done session.1.1 refl

-- a run with the status 0, of whose head these bytes were heard before, and its session
record HasSession (before : List ℕ) (all : List Turn) : Type 0 where
  head : List ℕ
  script : Script
  turns : List Turn
  head_is : IsHead head script
  session : IsSessionOf script turns statuses.Done
  heard : before ++ heard_in all ≡ head ++ heard_in turns
  said : said_in all ≡ said_in turns
  well : GoesWell all

run_done : (valid : Bool) (script : Script) (turns : List Turn) → IsRunOf valid script turns statuses.Done → IsSessionOf script turns statuses.Done
run_done true script turns (inl session) = session
run_done true script turns (inr early) = absurd (cc early.1)
run_done false script turns early = absurd (cc early.1)

after_head : (head text : List ℕ) (turns : List Turn) (status : Status) → IsAfterHead (head ++ text) turns status → status ≡ statuses.Done → HasSession head (Hears text ∷ turns)
unfolding GoesWell
after_head head text _ _ (tool.has_script script turns status is run) done =
    let session = run_done (is_valid script) script turns (subst (IsRunOf (is_valid script) script turns) done run) in
    record { head = head ++ text; script = script; turns = turns; head_is = is; session = session; heard = sym (append_assoc head text (heard_in turns)); said = refl; well = session_of_well script turns session }
after_head head text _ _ (tool.is_no_head none) done = absurd (cc done)
after_head head text _ _ (tool.has_no_memory) done = absurd (cc done)

has_session : (head : List ℕ) (all : List Turn) (status : Status) → IsLive head all status → status ≡ statuses.Done → HasSession head all
unfolding GoesWell
has_session _ _ _ (tool.goes_on head text turns status short other more) done =
    let found = has_session (head ++ text) turns status more done in
    record { head = found.head; script = found.script; turns = found.turns; head_is = found.head_is; session = found.session; heard = sym (append_assoc head text (heard_in turns)) ∙ found.heard; said = found.said; well = found.well }
has_session _ _ _ (tool.has_head head text turns status short last more) done = after_head head text turns status more done
has_session _ _ _ (tool.is_too_long head long) done = absurd (cc done)
has_session _ _ _ (tool.misses head why short) done = absurd (missed_undone why done)
has_session _ _ _ (tool.runs_out head text) done = absurd (cc done)

-- the status 0 is that of what is done
is_done : (status : Status) → 0 ≡ status_number status → status ≡ statuses.Done
is_done statuses.Done same = refl
is_done statuses.WrongWords same = absurd (omega (arith, same))
is_done statuses.NoScript same = absurd (omega (arith, same))
is_done statuses.ReadFault same = absurd (omega (arith, same))
is_done statuses.WriteFault same = absurd (omega (arith, same))
is_done statuses.NoMemory same = absurd (omega (arith, same))
is_done statuses.TooLong same = absurd (omega (arith, same))
is_done statuses.Invalid same = absurd (omega (arith, same))

pub in_bytes : (old new : StdDialogueView) → RunsLive MovesBytes 0 old new → HoldsSessionInBytes old new
in_bytes old new run =
    let found = has_session [] run.turns run.status run.is (is_done run.status run.number_is) in
    let moved = takes_and_adds run.turns old new found.well run.moved in
    record {
      head = found.head;
      script = found.script;
      turns = found.turns;
      head_is = found.head_is;
      session = found.session;
      heard = subst (Consumes (to_hear old) (to_hear new)) found.heard moved.heard;
      said = subst (Appends old.sink.contents new.sink.contents) found.said moved.said;
    }

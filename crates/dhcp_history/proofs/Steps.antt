-- How the course of a stay goes on by one event.
use Rattle.std.proofs.Common.{◌≡◌, ℕ, suc, zero, List, [], ◌∷◌, ◌++◌, refl, ap, Bool, true, false, append_assoc, append-nil}
use Rattle.std.specs.Prelude.{Option, Some, None, is_some}
use Rattle.dhcp_history.specs.Protocol.{Protocol}
use Rattle.dhcp_history.specs.Script.{Input, Nothing, Arrival, Release, CleanUp, NumberedEvent}
use Rattle.dhcp_history.specs.History.{before, from, is_at_or_past, Heard, hear, LastAttempt, NoneYet, Open, Unsent, is_open, Progress, exchange_after, Course, course, with_acts, next_attempt, attempt_or_end, runs_out, attempt_at, progress_after, Setting, Act, Attempted, refused_release, refused_release_of, cuts, cuts_by, reading_of, reading_if, Unanswered, AnsweredBy, RanOut}
use Rattle.dhcp_history.specs.Script.{after_call, input_after_call}

pub before_hit : {Packet : Type 0} (test : NumberedEvent Packet → Bool) (v : NumberedEvent Packet) (vs : List (NumberedEvent Packet)) → test v ≡ true → before test (v ∷ vs) ≡ []
before_hit test v vs e = rw e

pub before_miss : {Packet : Type 0} (test : NumberedEvent Packet → Bool) (v : NumberedEvent Packet) (vs : List (NumberedEvent Packet)) → test v ≡ false → before test (v ∷ vs) ≡ v ∷ before test vs
before_miss test v vs e = rw e

pub from_hit : {Packet : Type 0} (test : NumberedEvent Packet → Bool) (v : NumberedEvent Packet) (vs : List (NumberedEvent Packet)) → test v ≡ true → from test (v ∷ vs) ≡ v ∷ vs
from_hit test v vs e = rw e

pub from_miss : {Packet : Type 0} (test : NumberedEvent Packet → Bool) (v : NumberedEvent Packet) (vs : List (NumberedEvent Packet)) → test v ≡ false → from test (v ∷ vs) ≡ from test vs
from_miss test v vs e = rw e

-- what stands before the first hit and from it on is all
pub before-from : {Packet : Type 0} (test : NumberedEvent Packet → Bool) (vs : List (NumberedEvent Packet)) → before test vs ++ from test vs ≡ vs
before-from test [] = refl
before-from test (v ∷ vs) = go (before-from test vs) (test v) refl
  where
    go : before test vs ++ from test vs ≡ vs → (b : Bool) → test v ≡ b → before test (v ∷ vs) ++ from test (v ∷ vs) ≡ v ∷ vs
    go ih true e = rw (before_hit test v vs e, from_hit test v vs e)
    go ih false e = rw (before_miss test v vs e, from_miss test v vs e) (ap (λ (rest : List (NumberedEvent _)). v ∷ rest) ih)

module _ {PublicState Packet Message State Exchange Answer Lease : Type 0} (p : Protocol PublicState Packet Message State Exchange Answer Lease) where
  -- with no event left, a stay has no more attempts and no answer
  pub none_left : (fuel : ℕ) (setting : Setting State) (progress : Progress Exchange) →
      course p fuel setting progress [] ≡ record { acts = []; finish = record { outcome = Unanswered; rest = []; exchange = progress.exchange; after_wait = exchange_after p progress; words = progress.words } }
  none_left zero setting progress = refl
  none_left (suc fuel) setting progress = refl

  -- an event with no call of its own: it cuts nothing, and no release is refused at it
  pub record IsPlain (v : NumberedEvent Packet) : Type 0 where
    pub same : after_call v ≡ v
    pub uncut : (setting : Setting State) → cuts p setting v ≡ false
    pub undenied : (setting : Setting State) (exchange : Exchange) → refused_release p setting exchange v ≡ []

  pub called_plain : (v : NumberedEvent Packet) → IsPlain (after_call v)
  called_plain v = record {
    same = same_by v.input;
    uncut = λ setting. uncut_by v.input (is_some (p.held_lease setting.state));
    undenied = λ setting exchange. undenied_by exchange (p.held_lease setting.state) v.input;
  }
    where
      same_by : (input : Input Packet) → after_call (record v { input = input_after_call input }) ≡ record v { input = input_after_call input }
      same_by Nothing = refl
      same_by (Arrival packet) = refl
      same_by Release = refl
      same_by CleanUp = refl

      uncut_by : (input : Input Packet) (holding : Bool) → cuts_by (input_after_call input) v.refuse holding ≡ false
      uncut_by Nothing holding = refl
      uncut_by (Arrival packet) holding = refl
      uncut_by Release holding = refl
      uncut_by CleanUp holding = refl

      undenied_by : (exchange : Exchange) (held : Option Lease) (input : Input Packet) → refused_release_of p held exchange (record v { input = input_after_call input }) ≡ []
      undenied_by exchange None input = refl
      undenied_by exchange (Some lease) Nothing = refl
      undenied_by exchange (Some lease) (Arrival packet) = refl
      undenied_by exchange (Some lease) Release = refl
      undenied_by exchange (Some lease) CleanUp = refl

  module _ (fuel : ℕ) (setting : Setting State) (due : Option ℕ) (exchange : Exchange) (words : List ℕ) (v : NumberedEvent Packet) (vs : List (NumberedEvent Packet)) (plain : IsPlain v) where
    abbrev progress_with : LastAttempt → Progress Exchange
    progress_with last = record { last = last; due = due; exchange = exchange; words = words }

    -- at an event at or past the due moment an attempt is made
    pub attempt_stands : (last : LastAttempt) → is_at_or_past due v ≡ true → runs_out p setting (progress_with last) ≡ false →
        course p (suc fuel) setting (progress_with last) (v ∷ vs) ≡
        with_acts (Attempted (attempt_at p setting (progress_with last) v) ∷ []) (course p fuel setting (progress_after p setting (progress_with last) v) (v ∷ vs))
    attempt_stands last e more = rw (course, before_hit (is_at_or_past due) v vs e, from_hit (is_at_or_past due) v vs e, more, plain.undenied setting exchange, plain.same)

    -- or the stay ends, where the last attempt was the last of all
    pub attempts_run_out : is_at_or_past due v ≡ true → p.is_last_attempt setting.state exchange ≡ true →
        course p (suc fuel) setting (progress_with Open) (v ∷ vs) ≡
        record { acts = []; finish = record { outcome = RanOut; rest = v ∷ vs; exchange = exchange; after_wait = p.after_wait exchange; words = words } }
    attempts_run_out e over = rw (course, before_hit (is_at_or_past due) v vs e, from_hit (is_at_or_past due) v vs e, over, plain.undenied setting exchange, plain.same)

    -- before the due moment, nothing happens where no attempt is open
    pub nothing_stands : (last : LastAttempt) → is_open last ≡ false → is_at_or_past due v ≡ false →
        course p (suc fuel) setting (progress_with last) (v ∷ vs) ≡ course p (suc fuel) setting (progress_with last) vs
    nothing_stands Open shut e = absurd (cc shut)
    nothing_stands NoneYet shut e = rw (course, before_miss (is_at_or_past due) v vs e, from_miss (is_at_or_past due) v vs e, plain.undenied setting exchange)
    nothing_stands Unsent shut e = rw (course, before_miss (is_at_or_past due) v vs e, from_miss (is_at_or_past due) v vs e, plain.undenied setting exchange)

    -- an open attempt hears the packet, which doesn't answer
    pub goes_on : is_at_or_past due v ≡ false → (reading_of p setting.state exchange words v.input).value ≡ None →
        course p (suc fuel) setting (progress_with Open) (v ∷ vs) ≡ course p (suc fuel) setting (record (progress_with Open) { words = (reading_of p setting.state exchange words v.input).left }) vs
    goes_on e none = rw (course, before_miss (is_at_or_past due) v vs e, from_miss (is_at_or_past due) v vs e, none, plain.undenied setting exchange)

    -- an open attempt hears the packet, which answers
    pub is_answered : (answer : Answer) → is_at_or_past due v ≡ false → (reading_of p setting.state exchange words v.input).value ≡ Some answer →
        course p (suc fuel) setting (progress_with Open) (v ∷ vs) ≡
        record { acts = []; finish = record { outcome = AnsweredBy answer; rest = v ∷ vs; exchange = exchange; after_wait = exchange; words = (reading_of p setting.state exchange words v.input).left } }
    is_answered answer e some = rw (course, before_miss (is_at_or_past due) v vs e, from_miss (is_at_or_past due) v vs e, some, plain.undenied setting exchange, before-from (is_at_or_past due) vs)

  -- acts that were heard first are acts of the course
  next_attempt_deeds : (goes_on : Progress Exchange → List (NumberedEvent Packet) → Course Packet Message Exchange Answer) (setting : Setting State) (progress : Progress Exchange) (acts : List (Act Message)) (answer : Option Answer) (last : Heard Packet Message Answer) (late : List (NumberedEvent Packet)) →
      next_attempt p goes_on setting progress answer (record last { acts = acts ++ last.acts }) late ≡ with_acts acts (next_attempt p goes_on setting progress answer last late)
  next_attempt_deeds goes_on setting progress acts (Some answer) last late = refl
  next_attempt_deeds goes_on setting progress acts None last [] = refl
  next_attempt_deeds goes_on setting progress acts None last (v ∷ vs) = go (runs_out p setting progress)
    where
      go : (b : Bool) → attempt_or_end p b goes_on setting progress (acts ++ last.acts) v vs ≡ with_acts acts (attempt_or_end p b goes_on setting progress last.acts v vs)
      go true = simp append_assoc
      go false = simp append_assoc

  -- a release is no packet
  reads_nothing : (listens : Bool) (setting : Setting State) (exchange : Exchange) (words : List ℕ) → reading_if p listens setting exchange words Release ≡ record { value = None; left = words }
  reads_nothing true setting exchange words = refl
  reads_nothing false setting exchange words = refl

  reads_nothing_called : (listens : Bool) (setting : Setting State) (exchange : Exchange) (words : List ℕ) → reading_if p listens setting exchange words Nothing ≡ record { value = None; left = words }
  reads_nothing_called true setting exchange words = refl
  reads_nothing_called false setting exchange words = refl

  -- an event with a release that doesn't cut: what is refused comes first, and nothing else is of it
  module _ (fuel : ℕ) (setting : Setting State) (progress : Progress Exchange) (number moment : ℕ) (refuse : Bool) (vs : List (NumberedEvent Packet)) where
    abbrev release : NumberedEvent Packet
    release = record { number = number; moment = moment; refuse = refuse; input = Release }

    abbrev without : NumberedEvent Packet
    without = record { number = number; moment = moment; refuse = refuse; input = Nothing }

    no_denial : refused_release p setting progress.exchange without ≡ []
    no_denial = (called_plain release).undenied setting progress.exchange

    pub denied_first : course p (suc fuel) setting progress (release ∷ vs) ≡ with_acts (refused_release p setting progress.exchange release) (course p (suc fuel) setting progress (without ∷ vs))
    denied_first = go (is_at_or_past progress.due release) refl
      where
        due : NumberedEvent Packet → Bool
        due = is_at_or_past progress.due

        by_end : (b : Bool) → attempt_or_end p b (course p fuel setting) setting progress [] release vs ≡
            with_acts (refused_release p setting progress.exchange release) (attempt_or_end p b (course p fuel setting) setting progress [] without vs)
        by_end true = rw no_denial (simp append-nil)
        by_end false = rw no_denial (simp append_assoc)

        go : (b : Bool) → is_at_or_past progress.due release ≡ b → course p (suc fuel) setting progress (release ∷ vs) ≡ with_acts (refused_release p setting progress.exchange release) (course p (suc fuel) setting progress (without ∷ vs))
        go true e =
            rw (
              course,
              before_hit (is_at_or_past progress.due) release vs e,
              from_hit (is_at_or_past progress.due) release vs e,
              before_hit (is_at_or_past progress.due) without vs e,
              from_hit (is_at_or_past progress.due) without vs e,
            )
            (by_end (runs_out p setting progress))
        go false e =
            rw (
              course,
              before_miss (is_at_or_past progress.due) release vs e,
              from_miss (is_at_or_past progress.due) release vs e,
              before_miss (is_at_or_past progress.due) without vs e,
              from_miss (is_at_or_past progress.due) without vs e,
              reads_nothing (is_open progress.last) setting progress.exchange progress.words,
              reads_nothing_called (is_open progress.last) setting progress.exchange progress.words,
              no_denial,
            )
            (next_attempt_deeds (course p fuel setting) setting
            (record progress { words = (hear p setting progress.exchange (is_open progress.last) progress.words (before (is_at_or_past progress.due) vs)).words }) (refused_release p setting progress.exchange release) (hear p setting progress.exchange (is_open progress.last) progress.words (before (is_at_or_past progress.due) vs)).answer
            (hear p setting progress.exchange (is_open progress.last) progress.words (before (is_at_or_past progress.due) vs)) (from (is_at_or_past progress.due) vs))

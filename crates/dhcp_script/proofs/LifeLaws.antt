-- The lines of words, start and events are read in one way alone.
use Rattle.std.proofs.Common.{◌≡◌, ◌≢◌, ℕ, zero, suc, ◌<◌, ◌≤◌, Bool, true, false, cond, List, [], ◌∷◌, ◌++◌, length, Some, None, option_map, refl, sym, ap, ◌∙◌, append_assoc, append-nil, length-append, arith, codes}
use Rattle.std.specs.Prelude.{All}
use Rattle.std.specs.Fmt.{decimal}
use Rattle.std.specs.Int.{w32}
use Rattle.std.specs.List.{flat_map}
use Rattle.std.specs.Str.{bytes_eq}
use Rattle.std.proofs.lemmas.Slice.Eq.{bytes_eq-Decides}
use Rattle.std.proofs.lemmas.List.Elements.{All-head, All-tail, All-cons, All-nil}
use Rattle.hex.specs.Hex.{IsBytes}
use Rattle.dhcp_wire.specs.Field.{Read, ◌>>=◌}
use Rattle.dhcp_stream.specs.HexText.{AreWords, hex_text, words_text}
use Rattle.dhcp_stream.specs.Line.{line}
use Rattle.dhcp_stream.specs.TextReader.{after_tag, field_at, hex_in, in_field, made_of, number_in, tag_at, words_in}
use Rattle.dhcp_stream.proofs.CodecLaws.{HasNo-test, IsCodec, IsCodec-after_tag, IsCodec-both, IsCodec-in_field, IsCodec-made_of, bind_some, field_at-sound, map_some, IsCodec-as, moved, same_read, tag_at-sound}
use Rattle.dhcp_stream.proofs.ValueLemmas.{IsValue-hex, IsValue-number, IsValue-words}
use Rattle.dhcp_script.specs.declared.event.Event.{Event}
use Rattle.dhcp_script.specs.declared.event.EventWhat.{EventWhat}
use Rattle.dhcp_script.specs.declared.event.EventWhat.TheVariants.{Nothing, Frame, Payload, Release, CleanUp}
use Rattle.dhcp_script.specs.declared.life.Life.{Life}
use Rattle.dhcp_script.specs.Event.{packet_of}
use Rattle.dhcp_script.specs.FieldReader.{if_tag}
use Rattle.dhcp_script.specs.Life.{IsEvent, IsLife, event_line, event_text, events_text, life_text, what_text}
use Rattle.dhcp_script.specs.LifeReader.{call_in, event_at, event_of, events_at, events_within, life_at, life_of, what_at}
use Rattle.dhcp_script.proofs.FieldLemmas.{IsValue-flag}
use Rattle.dhcp_script.proofs.Clear.{HasNo-decimal, HasNo-flag, HasNo-hex_text, HasNo-numbers_text}

-- bytes in hex, up to the end of the line
pub hex_line : IsCodec (λ bytes. hex_text bytes ++ 10 ∷ []) IsBytes (in_field hex_in 10)
hex_line = IsCodec-in_field IsValue-hex 10 (λ bytes fits. HasNo-hex_text 10 bytes fits (omega arith))

-- the word that is read is the one that is printed
call_in-sound : (field : List ℕ) (what : EventWhat) → call_in field ≡ Some what → (what_text what ≡ field) × (packet_of what ≡ [])
call_in-sound field what h = by_tests what (bytes_eq field (codes "none")) (bytes_eq field (codes "release")) (bytes_eq field (codes "cleanup")) refl refl refl h
  where
    is : (word : List ℕ) → bytes_eq field word ≡ true → word ≡ field
    is word e = sym ((bytes_eq-Decides field word).0 e)

    by_tests : (what : EventWhat) (a b c : Bool) → bytes_eq field (codes "none") ≡ a → bytes_eq field (codes "release") ≡ b → bytes_eq field (codes "cleanup") ≡ c
        → cond a (Some Nothing) (cond b (Some Release) (cond c (Some CleanUp) None)) ≡ Some what → (what_text what ≡ field) × (packet_of what ≡ [])
    by_tests Nothing true b c ea eb ec h = (is (codes "none") ea, refl)
    by_tests Release true b c ea eb ec h = cc h
    by_tests CleanUp true b c ea eb ec h = cc h
    by_tests (Frame bytes) true b c ea eb ec h = cc h
    by_tests (Payload bytes) true b c ea eb ec h = cc h
    by_tests Release false true c ea eb ec h = (is (codes "release") eb, refl)
    by_tests Nothing false true c ea eb ec h = cc h
    by_tests CleanUp false true c ea eb ec h = cc h
    by_tests (Frame bytes) false true c ea eb ec h = cc h
    by_tests (Payload bytes) false true c ea eb ec h = cc h
    by_tests CleanUp false false true ea eb ec h = (is (codes "cleanup") ec, refl)
    by_tests Nothing false false true ea eb ec h = cc h
    by_tests Release false false true ea eb ec h = cc h
    by_tests (Frame bytes) false false true ea eb ec h = cc h
    by_tests (Payload bytes) false false true ea eb ec h = cc h
    by_tests what false false false ea eb ec h = cc h

-- what happens, up to the end of the line
abbrev what_line : EventWhat → List ℕ
what_line what = what_text what ++ 10 ∷ []

what_complete : (what : EventWhat) (rest : List ℕ) → IsBytes (packet_of what) → what_at (what_line what ++ rest) ≡ Some (what, rest)
unfolding what_at tag_at field_at
what_complete Nothing rest fits = refl
what_complete Release rest fits = refl
what_complete CleanUp rest fits = refl
what_complete (Frame bytes) rest fits = rw (hex_line.complete bytes rest fits) refl
what_complete (Payload bytes) rest fits = rw (hex_line.complete bytes rest fits) refl

-- a packet that was read after its tag
packet_sound : (tag : List ℕ) (make : List ℕ → EventWhat) → ((bytes : List ℕ) → what_line (make bytes) ≡ tag ++ (hex_text bytes ++ 10 ∷ [])) → ((bytes : List ℕ) → packet_of (make bytes) ≡ bytes)
    → (text left : List ℕ) → tag_at tag text ≡ Some (tt, left) → (what : EventWhat) (rest : List ℕ) → made_of make (in_field hex_in 10) left ≡ Some (what, rest)
    → (text ≡ what_line what ++ rest) × IsBytes (packet_of what)
packet_sound tag make spelled holds text left is what rest h =
    let step = map_some (λ (read : List ℕ × List ℕ). (make read.0, read.1)) (in_field hex_in 10 left) (what, rest) h in
    let inner = hex_line.sound left step.0.0 step.0.1 step.1 in
    let made : make step.0.0 ≡ what = ap (λ (p : EventWhat × List ℕ). p.0) step.2 in
    let more : step.0.1 ≡ rest = ap (λ (p : EventWhat × List ℕ). p.1) step.2 in
    moved (λ what rest. (text ≡ what_line what ++ rest) × IsBytes (packet_of what)) (make step.0.0) what step.0.1 rest made more (
      tag_at-sound tag text left is ∙ ap (λ xs. tag ++ xs) inner.0 ∙ sym (append_assoc tag (hex_text step.0.0 ++ 10 ∷ []) step.0.1) ∙ ap (λ xs. xs ++ step.0.1) (sym (spelled step.0.0)),
      λ i. rw (holds step.0.0) (inner.1 i),
    )

what_sound : (text : List ℕ) (what : EventWhat) (rest : List ℕ) → what_at text ≡ Some (what, rest) → (text ≡ what_line what ++ rest) × IsBytes (packet_of what)
unfolding what_at
what_sound text what rest h = by_tags (tag_at (codes "frame ") text) (tag_at (codes "payload ") text) refl refl h
  where
    by_tags : (frame payload : Read (Unit {0})) → tag_at (codes "frame ") text ≡ frame → tag_at (codes "payload ") text ≡ payload
        → if_tag frame (made_of Frame (in_field hex_in 10)) (if_tag payload (made_of Payload (in_field hex_in 10)) (in_field call_in 10 text)) ≡ Some (what, rest)
        → (text ≡ what_line what ++ rest) × IsBytes (packet_of what)
    by_tags (Some found) payload is other h =
        packet_sound (codes "frame ") Frame (λ bytes. append_assoc (codes "frame ") (hex_text bytes) (10 ∷ [])) (λ bytes. refl) text found.1 is what rest h
    by_tags None (Some found) other is h =
        packet_sound (codes "payload ") Payload (λ bytes. append_assoc (codes "payload ") (hex_text bytes) (10 ∷ [])) (λ bytes. refl) text found.1 is what rest h
    by_tags None None other another h =
        let cut = bind_some (field_at 10 text) (λ field. call_in field.0 >>= λ x. Some (x, field.1)) (what, rest) h in
        let step = bind_some (call_in cut.0.0) (λ x. Some (x, cut.0.1)) (what, rest) cut.2 in
        let parts = same_read step.0 what cut.0.1 rest step.2 in
        let split = field_at-sound 10 text cut.0.0 cut.0.1 cut.1 in
        let spelled = call_in-sound cut.0.0 step.0 step.1 in
        moved (λ what rest. (text ≡ what_line what ++ rest) × IsBytes (packet_of what)) step.0 what cut.0.1 rest parts.0 parts.1
        (split.0 ∙ ap (λ field. field ++ 10 ∷ cut.0.1) (sym spelled.0) ∙ sym (append_assoc (what_text step.0) (10 ∷ []) cut.0.1), λ i. rw spelled.1 (omega arith))

IsCodec-what : IsCodec what_line (λ what. IsBytes (packet_of what)) what_at
IsCodec-what = record { sound = what_sound; complete = what_complete }

-- ---- an event

-- its parts
parts_of : Event → ℕ × (Bool × EventWhat)
parts_of event = (event.moment, (event.refuse, event.what))

-- the line of an event, after `at `
pub IsCodec-event : IsCodec (λ event. event_text event ++ 10 ∷ []) IsEvent event_at
unfolding event_at parts_of
IsCodec-event =
    let other : codes "ok" ≢ codes "refuse" = λ e. let same = ap length e in omega arith in
    let moment = IsCodec-in_field (IsValue-number 18446744073709551615 (omega arith)) 32 (λ n fits. HasNo-decimal 32 n (omega arith) (omega arith)) in
    let refuse = IsCodec-in_field (IsValue-flag (codes "refuse") (codes "ok") other) 32 (λ flag fits. HasNo-flag 32 (codes "refuse") (codes "ok") (HasNo-test 32 (codes "refuse") refl) (HasNo-test 32 (codes "ok") refl) flag) in
    IsCodec-as (IsCodec-made_of (IsCodec-both moment (IsCodec-both refuse IsCodec-what)) event_of parts_of (λ x. refl) (λ event. refl))
    (λ event. simp append_assoc)
    (λ event fits. record { moment = omega (arith, fits.0); packet = fits.1.1 })
    (λ event fits. (omega (arith, fits.moment), (tt, fits.packet)))

-- ---- events

-- the text of events begins with the line of the first
events_text-cons : (event : Event) (events : List Event) (rest : List ℕ)
    → events_text (event ∷ events) ++ rest ≡ codes "at " ++ ((event_text event ++ 10 ∷ []) ++ (events_text events ++ rest))
events_text-cons event events rest =
    ap (λ xs. xs ++ rest) (append_assoc (event_line event) (flat_map event_line events) (line (codes "end")))
    ∙ append_assoc (event_line event) (events_text events) rest

-- what follows an event
next_events : ℕ → Event × List ℕ → Read (List Event)
next_events most first = events_within most first.1 >>= λ events. Some (first.0 ∷ events.0, events.1)

-- a line of an event, and what follows it
events_line : (most : ℕ) (text : List ℕ) → events_within (suc most) (codes "at " ++ text) ≡ (event_at text >>= next_events most)
unfolding events_within tag_at next_events
events_line most text = refl

-- events read back, where there are fewer than the most
events_complete : (most : ℕ) (events : List Event) (rest : List ℕ) → All IsEvent events → length events < most
    → events_within most (events_text events ++ rest) ≡ Some (events, rest)
unfolding events_within tag_at next_events
events_complete zero events rest fit enough = absurd (omega arith)
events_complete (suc most) [] rest fit enough = refl
events_complete (suc most) (event ∷ events) rest fit enough =
    let left = (event_text event ++ 10 ∷ []) ++ (events_text events ++ rest) in
    let one = IsCodec-event.complete event (events_text events ++ rest) (All-head IsEvent event events fit) in
    let ih = events_complete most events rest (All-tail IsEvent event events fit) (omega arith) in
    ap (events_within (suc most)) (events_text-cons event events rest)
    ∙ events_line most left
    ∙ ap (λ (read : Read Event). read >>= next_events most) one
    ∙ ap (λ (read : Read (List Event)). read >>= λ events. Some (event ∷ events.0, events.1)) ih

-- events that were read are printed as the text
events_sound : (most : ℕ) (text : List ℕ) (events : List Event) (rest : List ℕ) → events_within most text ≡ Some (events, rest)
    → (text ≡ events_text events ++ rest) × All IsEvent events
unfolding events_within
events_sound zero text events rest h = cc h
events_sound (suc most) text events rest h = by_tag (λ text events rest h. events_sound most text events rest h) (tag_at (codes "at ") text) refl h
  where
    by_tag : ((text : List ℕ) (events : List Event) (rest : List ℕ) → events_within most text ≡ Some (events, rest) → (text ≡ events_text events ++ rest) × All IsEvent events)
        → (tag : Read (Unit {0})) → tag_at (codes "at ") text ≡ tag
        → if_tag tag (λ text. event_at text >>= λ first. events_within most first.1 >>= λ events. Some (first.0 ∷ events.0, events.1)) (made_of (λ ended. []) (tag_at (codes "end\n")) text) ≡ Some (events, rest)
        → (text ≡ events_text events ++ rest) × All IsEvent events
    by_tag ih (Some found) is h =
        let first = bind_some (event_at found.1) (λ first. events_within most first.1 >>= λ events. Some (first.0 ∷ events.0, events.1)) (events, rest) h in
        let more = bind_some (events_within most first.0.1) (λ events. Some (first.0.0 ∷ events.0, events.1)) (events, rest) first.2 in
        let parts = same_read (first.0.0 ∷ more.0.0) events more.0.1 rest more.2 in
        let one = IsCodec-event.sound found.1 first.0.0 first.0.1 first.1 in
        let others = ih first.0.1 more.0.0 more.0.1 more.1 in
        moved (λ (events : List Event) rest. (text ≡ events_text events ++ rest) × All IsEvent events) (first.0.0 ∷ more.0.0) events more.0.1 rest parts.0 parts.1 (
          tag_at-sound (codes "at ") text found.1 is ∙ ap (λ xs. codes "at " ++ xs) (one.0 ∙ ap (λ xs. (event_text first.0.0 ++ 10 ∷ []) ++ xs) others.0)
              ∙ sym (events_text-cons first.0.0 more.0.0 more.0.1),
          All-cons IsEvent first.0.0 more.0.0 one.1 others.1,
        )
    by_tag ih None is h =
        let step = map_some (λ (read : (Unit {0}) × List ℕ). ([], read.1)) (tag_at (codes "end\n") text) (events, rest) h in
        let none : [] ≡ events = ap (λ (p : List Event × List ℕ). p.0) step.2 in
        let more : step.0.1 ≡ rest = ap (λ (p : List Event × List ℕ). p.1) step.2 in
        moved (λ (events : List Event) rest. (text ≡ events_text events ++ rest) × All IsEvent events) [] events step.0.1 rest none more
        (tag_at-sound (codes "end\n") text step.0.1 step.1, All-nil IsEvent)

-- a text of events has more bytes than events
events_text-long : (events : List Event) (rest : List ℕ) → length events < suc (length (events_text events ++ rest))
events_text-long [] rest = omega arith
events_text-long (event ∷ events) rest =
    let ih = events_text-long events rest in
    let long = ap length (events_text-cons event events rest) in
    let inner = length-append (event_text event ++ 10 ∷ []) (events_text events ++ rest) in
    omega arith

-- events, and the last line
pub IsCodec-events : IsCodec events_text (All IsEvent) events_at
IsCodec-events = record {
  sound = λ text events rest h. events_sound (suc (length text)) text events rest h;
  complete = λ events rest fit. events_complete (suc (length (events_text events ++ rest))) events rest fit (events_text-long events rest);
}

-- ---- the life

life_parts : Life → List ℕ × (ℕ × List Event)
life_parts life = (life.words, (life.start, life.events))

pub words_line : IsCodec (λ words. codes "words " ++ (words_text words ++ 10 ∷ [])) AreWords (after_tag (codes "words ") (in_field words_in 10))
words_line = IsCodec-after_tag (codes "words ") (IsCodec-in_field IsValue-words 10 (λ words fits. HasNo-numbers_text w32 10 words (omega arith)))

start_line : IsCodec (λ start. codes "start " ++ (decimal start ++ 10 ∷ [])) (λ n. n ≤ 18446744073709551615) (after_tag (codes "start ") (in_field (number_in 18446744073709551615) 10))
start_line = IsCodec-after_tag (codes "start ") (IsCodec-in_field (IsValue-number 18446744073709551615 (omega arith)) 10 (λ n small. HasNo-decimal 10 n (omega arith) (omega arith)))

-- the lines from `words` on
pub IsCodec-life : IsCodec (λ (life : Life). life_text life.words life.start life.events) (λ life. IsLife life.words life.start life.events) life_at
unfolding life_at life_parts
IsCodec-life =
    IsCodec-as (IsCodec-made_of (IsCodec-both words_line (IsCodec-both start_line IsCodec-events)) life_of life_parts (λ x. refl) (λ y. refl))
    (λ life. sym (append_assoc (codes "words " ++ (words_text life.words ++ 10 ∷ [])) (codes "start " ++ (decimal life.start ++ 10 ∷ [])) (events_text life.events)))
    (λ life fits. record { words_fit = fits.0; start_fits = (let small = fits.1.0 in omega arith); events_fit = fits.1.1 })
    (λ life fits. (fits.words_fit, ((let small = fits.start_fits in omega arith), fits.events_fit)))

-- ---- the loop that reads them

-- events before those that are read
abbrev pub after_events : List Event → Read (List Event) → Read (List Event)
after_events events read = option_map (λ (read : List Event × List ℕ). (events ++ read.0, read.1)) read

-- what the loop keeps
pub record IsSoFar (whole : Read (List Event)) (events : List Event) (left : List ℕ) : Type 0 where
  pub most : ℕ
  pub enough : length left < most
  pub is : after_events events (events_within most left) ≡ whole

-- at the start
pub so_far-none : (text : List ℕ) → IsSoFar (events_at text) [] text
so_far-none text = record { most = suc (length text); enough = omega arith; is = none (events_at text) }
  where
    none : (read : Read (List Event)) → after_events [] read ≡ read
    none None = refl
    none (Some read) = refl

-- what is left, where some is
within : (most : ℕ) (left : List ℕ) → length left < most → (fewer : ℕ) × (most ≡ suc fewer)
within zero left enough = absurd (omega arith)
within (suc fewer) left enough = (fewer, refl)

-- an event takes bytes
pub event-shorter : (left mid new : List ℕ) (event : Event) → tag_at (codes "at ") left ≡ Some (tt, mid) → event_at mid ≡ Some (event, new) → length new < length left
event-shorter left mid new event tag read =
    let cut = ap length (tag_at-sound (codes "at ") left mid tag) in
    let one = ap length (IsCodec-event.sound mid event new read).0 in
    let long = length-append (event_text event ++ 10 ∷ []) new in
    omega arith

-- a line of an event, whatever the most is
step : (most : ℕ) (left mid : List ℕ) → tag_at (codes "at ") left ≡ Some (tt, mid) → events_within (suc most) left ≡ (event_at mid >>= next_events most)
unfolding events_within next_events
step most left mid tag = rw tag refl

-- an event more
pub so_far-more : (whole : Read (List Event)) (events : List Event) (left mid new : List ℕ) (event : Event) → IsSoFar whole events left
    → tag_at (codes "at ") left ≡ Some (tt, mid) → event_at mid ≡ Some (event, new) → IsSoFar whole (events ++ event ∷ []) new
unfolding next_events
so_far-more whole events left mid new event h tag read =
    let some = within h.most left h.enough in
    let shorter = event-shorter left mid new event tag read in
    let now : events_within h.most left ≡ (events_within some.0 new >>= λ later. Some (event ∷ later.0, later.1)) =
    ap (λ most. events_within most left) some.1 ∙ step some.0 left mid tag ∙ ap (λ (read : Read Event). read >>= next_events some.0) read in
    record {
      most = some.0;
      enough = (let is = some.1 in let enough = h.enough in omega arith);
      is = joined (events_within some.0 new) ∙ ap (after_events events) (sym now) ∙ h.is;
    }
  where
    joined : (later : Read (List Event)) → after_events (events ++ event ∷ []) later ≡ after_events events (later >>= λ later. Some (event ∷ later.0, later.1))
    joined None = refl
    joined (Some later) = ap (λ (all : List Event). Some (all, later.1)) (append_assoc events (event ∷ []) later.0)

-- a line of an event that does not read
pub so_far-refused : (whole : Read (List Event)) (events : List Event) (left mid : List ℕ) → IsSoFar whole events left
    → tag_at (codes "at ") left ≡ Some (tt, mid) → event_at mid ≡ None → whole ≡ None
unfolding next_events
so_far-refused whole events left mid h tag read =
    let some = within h.most left h.enough in
    sym h.is ∙ ap (after_events events)
    (ap (λ most. events_within most left) some.1 ∙ step some.0 left mid tag ∙ ap (λ (read : Read Event). read >>= next_events some.0) read)

-- no line of an event
last_step : (most : ℕ) (left : List ℕ) (end : Read (Unit {0})) → tag_at (codes "at ") left ≡ None → tag_at (codes "end\n") left ≡ end
    → events_within (suc most) left ≡ option_map (λ (read : (Unit {0}) × List ℕ). ([], read.1)) end
unfolding events_within
last_step most left end tag is = rw (tag, is) refl

-- the last line
pub so_far-all : (whole : Read (List Event)) (events : List Event) (left new : List ℕ) → IsSoFar whole events left
    → tag_at (codes "at ") left ≡ None → tag_at (codes "end\n") left ≡ Some (tt, new) → whole ≡ Some (events, new)
so_far-all whole events left new h tag end =
    let some = within h.most left h.enough in
    sym h.is ∙ ap (after_events events) (ap (λ most. events_within most left) some.1 ∙ last_step some.0 left (Some (tt, new)) tag end)
    ∙ ap (λ (all : List Event). Some (all, new)) (append-nil events)

-- another line
pub so_far-open : (whole : Read (List Event)) (events : List Event) (left : List ℕ) → IsSoFar whole events left
    → tag_at (codes "at ") left ≡ None → tag_at (codes "end\n") left ≡ None → whole ≡ None
so_far-open whole events left h tag end =
    let some = within h.most left h.enough in
    sym h.is ∙ ap (after_events events) (ap (λ most. events_within most left) some.1 ∙ last_step some.0 left None tag end)

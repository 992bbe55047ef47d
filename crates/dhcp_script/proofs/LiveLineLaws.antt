-- A line that a program is told is read in one way alone.
use Rattle.std.proofs.Common.{◌≡◌, ℕ, List, ◌++◌, Some, None, refl, ap, ◌∙◌}
use Rattle.std.specs.Prelude.{codes}
use Rattle.dhcp_wire.specs.Field.{Read}
use Rattle.dhcp_stream.specs.TextReader.{in_field, made_of, tag_at, words_in}
use Rattle.dhcp_stream.proofs.CodecLaws.{IsCodec, IsValue, map_some, moved, tag_at-sound}
use Rattle.dhcp_stream.proofs.PartialCodecs.{IsValue-whole, none-found, one-found}
use Rattle.dhcp_script.specs.declared.event.Event.{Event as ScriptEvent}
use Rattle.dhcp_script.specs.declared.live_line.LiveLine.{LiveLine}
use Rattle.dhcp_script.specs.declared.live_line.LiveLine.TheVariants.{Event, Words, End}
use Rattle.dhcp_script.specs.FieldReader.{if_tag}
use Rattle.dhcp_script.specs.LifeReader.{event_at}
use Rattle.dhcp_script.specs.LiveLine.{IsLiveLine, live_line_text}
use Rattle.dhcp_script.specs.LiveLineReader.{live_line_at, live_line_in}
use Rattle.dhcp_script.proofs.LifeLaws.{IsCodec-event, words_line}

complete : (said : LiveLine) (rest : List ℕ) → IsLiveLine said → live_line_at (live_line_text said ++ rest) ≡ Some (said, rest)
unfolding live_line_at tag_at
complete (Event event) rest fits =
    let is = IsCodec-event.complete event rest fits in
    rw is refl
complete (Words words) rest fits = rw (words_line.complete words rest fits) refl
complete End rest fits = refl

sound : (text : List ℕ) (said : LiveLine) (rest : List ℕ) → live_line_at text ≡ Some (said, rest) → (text ≡ live_line_text said ++ rest) × IsLiveLine said
unfolding live_line_at
sound text said rest h = by_tags (tag_at (codes "at ") text) (tag_at (codes "words ") text) refl refl h
  where
    Is : LiveLine → List ℕ → Type 0
    Is said rest = (text ≡ live_line_text said ++ rest) × IsLiveLine said

    by_tags : (at words : Read (Unit {0})) → tag_at (codes "at ") text ≡ at → tag_at (codes "words ") text ≡ words →
        if_tag at (made_of Event event_at) (if_tag words (made_of Words (in_field words_in 10)) (made_of (λ ended. End) (tag_at (codes "end\n")) text)) ≡ Some (said, rest) → Is said rest
    by_tags (Some found) words is other h =
        let step = map_some (λ (read : ScriptEvent × List ℕ). (Event read.0, read.1)) (event_at found.1) (said, rest) h in
        let made : Event step.0.0 ≡ said = ap (λ (p : LiveLine × List ℕ). p.0) step.2 in
        let more : step.0.1 ≡ rest = ap (λ (p : LiveLine × List ℕ). p.1) step.2 in
        let inner = IsCodec-event.sound found.1 step.0.0 step.0.1 step.1 in
        moved Is (Event step.0.0) said step.0.1 rest made more (
          tag_at-sound (codes "at ") text found.1 is ∙ ap (λ xs. codes "at " ++ xs) inner.0,
          inner.1,
        )
    by_tags None (Some found) other is h =
        let step = map_some (λ (read : List ℕ × List ℕ). (Words read.0, read.1)) (in_field words_in 10 found.1) (said, rest) h in
        let made : Words step.0.0 ≡ said = ap (λ (p : LiveLine × List ℕ). p.0) step.2 in
        let more : step.0.1 ≡ rest = ap (λ (p : LiveLine × List ℕ). p.1) step.2 in
        let inner = words_line.sound text step.0.0 step.0.1 (rw is step.1) in
        moved Is (Words step.0.0) said step.0.1 rest made more (inner.0, inner.1)
    by_tags None None other another h =
        let step = map_some (λ (read : Unit {0} × List ℕ). (End, read.1)) (tag_at (codes "end\n") text) (said, rest) h in
        let made : End ≡ said = ap (λ (p : LiveLine × List ℕ). p.0) step.2 in
        let more : step.0.1 ≡ rest = ap (λ (p : LiveLine × List ℕ). p.1) step.2 in
        moved Is End said step.0.1 rest made more (tag_at-sound (codes "end\n") text step.0.1 step.1, tt)

IsCodec-live_line : IsCodec live_line_text IsLiveLine live_line_at
IsCodec-live_line = record { sound = sound; complete = complete }

-- the whole text
IsValue-live_line : IsValue live_line_text IsLiveLine live_line_in
unfolding live_line_in
IsValue-live_line = IsValue-whole IsCodec-live_line

pub line-found : (text : List ℕ) (said : LiveLine) → live_line_in text ≡ Some said → (live_line_text said ≡ text) × IsLiveLine said
line-found text said h = IsValue-live_line.sound text said h

pub line-none : (text : List ℕ) → live_line_in text ≡ None → (said : LiveLine) → IsLiveLine said → live_line_text said ≡ text → ⊥
line-none = none-found IsValue-live_line

pub line-one : (text : List ℕ) (found said : LiveLine) → live_line_in text ≡ Some found → IsLiveLine said → live_line_text said ≡ text → Some found ≡ Some said
line-one = one-found IsValue-live_line

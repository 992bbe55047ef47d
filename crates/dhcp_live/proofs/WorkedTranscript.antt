-- A session with one line of further words, worked out, so that a wrong rule in the definitions does not check.
use Rattle.std.proofs.Common.{◌≡◌, ℕ, false, List, [], ◌∷◌, ◌++◌, None, refl, ap, inl, inr, arith}
use Rattle.std.specs.Prelude.{codes}
use Rattle.hex.specs.Hex.{encode_lower}
use Rattle.dhcp_clock.specs.Words.{Drawn, drawn_word}
use Rattle.dhcp_draws.specs.Draws.{followed_by}
use Rattle.dhcp_script.specs.declared.event.Event.{Event}
use Rattle.dhcp_script.specs.declared.event.EventWhat.TheVariants.{Nothing}
use Rattle.dhcp_script.specs.declared.script.Script.TheVariants.{V4}
use Rattle.dhcp_script.specs.declared.script4.Script4.{Script4}
use Rattle.dhcp_stream.specs.Line.{line}
use Rattle.dhcp_live.specs.Transcript.{Added, Answered, AreEnough, Entry, IsEnough, Told, script_of, words_line}

-- nothing comes at this moment
abbrev quiet : ℕ → Event
quiet moment = record { moment = moment; refuse = false; what = Nothing }

-- and nothing is reported, with so many words left
abbrev told : ℕ → ℕ → Told
told moment left = record { event = quiet moment; outputs = []; dropped = None; next = None; is_listening = false; left = left }

-- two events, and between them three words
abbrev entries : List Entry
entries = Answered (told 10 8) ∷ Added (1 ∷ 2 ∷ 31 ∷ []) ∷ Answered (told 20 9) ∷ []

-- what is heard of the words: four bytes each
line_is : words_line (1 ∷ 2 ∷ 31 ∷ []) ≡ line (codes "words " ++ encode_lower (0 ∷ 0 ∷ 0 ∷ 1 ∷ 0 ∷ 0 ∷ 0 ∷ 2 ∷ 0 ∷ 0 ∷ 0 ∷ 31 ∷ []))
line_is = refl

-- the script has them behind its own
script_is : (script : Script4) → script_of entries (V4 script) ≡ V4 (record script { words = script.words ++ 1 ∷ 2 ∷ 31 ∷ []; events = quiet 10 ∷ quiet 20 ∷ [] })
script_is script = refl

-- eight words before the first event are enough; before the second, after which none are added, any number is
are_enough : AreEnough 8 entries
are_enough = (inr (omega arith), (inl refl, tt))

-- seven are not
seven_are_few : AreEnough 7 entries → ⊥
seven_are_few enough = go enough.0
  where
    go : IsEnough 7 (Added (1 ∷ 2 ∷ 31 ∷ []) ∷ Answered (told 20 9) ∷ []) → ⊥
    go (inl none) = cc none
    go (inr few) = omega arith

-- where no word is left, a further one would have been drawn
looks_further : drawn_word ([] ++ 31 ∷ []) ≡ followed_by (31 ∷ []) (drawn_word []) → ⊥
looks_further same = cc (ap (λ (drawn : Drawn ℕ). drawn.value) same)

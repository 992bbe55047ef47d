-- What is drawn, and what events do, with further words behind enough ones.
use Rattle.std.proofs.Common.{◌≡◌, ◌⊎◌, inl, inr, ◌≤◌, ◌<◌, ◌*◌, ℕ, List, [], ◌∷◌, ◌++◌, length, sym, ap, subst, ◌∙◌, append-nil}
use Rattle.std.specs.Prelude.{◌^◌}
use Rattle.std.specs.Int.{byte_len, w32}
use Rattle.std.proofs.lemmas.List.Elements.{All-append}
use Rattle.dhcp_clock.specs.Words.{Drawn}
use Rattle.dhcp_clock.specs.declared.link.Handed.{Handed}
use Rattle.dhcp_clock.specs.declared.link.Packet.{Packet}
use Rattle.dhcp_draws.specs.Draws.{DrawsAtMost, followed_by}
use Rattle.dhcp_draws.specs.Events.{EventsTakeAtMost, effect_with_more, with_more}
use Rattle.dhcp_history.specs.EventLoop.{event_at}
use Rattle.dhcp_history.specs.Machine.{EventEffect, View}
use Rattle.dhcp_history.specs.Protocol.{Protocol}
use Rattle.dhcp_history.specs.declared.script.NumberedEvent.{NumberedEvent}
use Rattle.dhcp_stream.specs.HexText.{AreWords}
use Rattle.dhcp_live.specs.Transcript.{Added, Answered, AreEnough, Entry, words_in}

-- a client with no further words
with_more-nil : {State Exchange : Type 0} (view : View State Exchange) → with_more [] view ≡ view
with_more-nil {State} {Exchange} view = ap (λ (words : List ℕ). record view { words = words }) (append-nil view.words)

-- an event, where none follow or enough are left
pub event_alike : {PublicState State Exchange Answer Lease : Type 0} (p : Protocol PublicState Packet Handed State Exchange Answer Lease) (most : ℕ) → EventsTakeAtMost p most →
    (event : NumberedEvent Packet) (view : View State Exchange) (more : List ℕ) → (more ≡ []) ⊎ (most ≤ length view.words) → event_at p event (with_more more view) ≡ effect_with_more more (event_at p event view)
event_alike {PublicState} {State} {Exchange} p most takes event view more (inl none) =
    let effect : EventEffect PublicState Handed State Exchange = event_at p event view in
    subst (λ (words : List ℕ). event_at p event (with_more words view) ≡ effect_with_more words effect) (sym none)
    (ap (event_at p event) (with_more-nil view) ∙ sym (ap (λ (after : View State Exchange). record effect { view = after }) (with_more-nil effect.view)))
event_alike p most takes event view more (inr enough) = (takes event view).alike more enough

-- a drawing, where none follow or enough are left
pub draws_alike : {X : Type 0} (draws : List ℕ → Drawn X) (most : ℕ) → DrawsAtMost most draws → (words more : List ℕ) → (more ≡ []) ⊎ (most ≤ length words) → draws (words ++ more) ≡ followed_by more (draws words)
draws_alike {X} draws most within words more (inl none) =
    subst (λ (further : List ℕ). draws (words ++ further) ≡ followed_by further (draws words)) (sym none)
    (ap draws (append-nil words) ∙ sym (ap (λ (left : List ℕ). record { value = (draws words).value; left = left }) (append-nil (draws words).left)))
draws_alike draws most within words more (inr enough) = within.alike words more enough

-- where none are added any more, there are enough
pub enough_where_none : (left : ℕ) (entries : List Entry) → words_in entries ≡ [] → AreEnough left entries
enough_where_none left [] none = tt
enough_where_none left (Answered told ∷ more) none = (inl none, enough_where_none told.left more none)
enough_where_none left (Added words ∷ more) none = enough_where_none _ more (none_after words (words_in more) none)
  where
    none_after : (some later : List ℕ) → some ++ later ≡ [] → later ≡ []
    none_after [] later is = is
    none_after (word ∷ some) later is = absurd (cc is)

-- words that fit, and further ones
pub AreWords-append : (first second : List ℕ) → AreWords first → AreWords second → AreWords (first ++ second)
AreWords-append first second fit fit' = All-append (λ (word : ℕ). word < 2 ^ (8 * byte_len w32)) first second fit fit'

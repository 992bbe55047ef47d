-- What a dialogue hears, and drops, is the front of the bytes that were to be heard.
use Rattle.std.proofs.Common.{◌≡◌, ◌≢◌, ℕ, ◌+◌, ◌<◌, ◌≤◌, List, [], ◌∷◌, ◌++◌, length, length-append, take, Bool, true, false, Option, Some, None, refl, subst, sym, ap, ◌∙◌, append_assoc, arith}
use Rattle.std.proofs.KnownBytes.{Consumes-kept, Consumes-trans}
use Rattle.std.proofs.lemmas.Bool.{ne_eqb}
use Rattle.std.proofs.lemmas.List.{take-append-le}
use Rattle.std.proofs.lemmas.List.Elements.{All-head, All-tail, All-take}
use Rattle.std.specs.Io.KnownBytes.{Consumes, Keeps, prepend_known}
use Rattle.std.specs.Prelude.{IfErr, Result, Ok, Err}
use Rattle.dhcp_stream.specs.Line.{line}
use Rattle.dhcp_stream.specs.Standard.{StdSourceView}
use Rattle.dhcp_stream.specs.TextReader.{field_at}
use Rattle.dhcp_stream.proofs.CodecLaws.{HasNo, field_at-sound}
use Rattle.dhcp_dialogue.specs.Dialogue.{IsLine, hearing, most_line_bytes}
use Rattle.dhcp_dialogue.specs.Standard.{IsWhy, MovesBytes, MovesLine, StdDialogueView, piece_bytes, to_hear}
use Rattle.dhcp_dialogue.specs.declared.dialogue.Unheard.{Unheard}
use Rattle.dhcp_dialogue.specs.declared.dialogue.Unheard.TheVariants.{TooLong}

-- a text without a line feed has no field before one
no_field : (text : List ℕ) → HasNo 10 text → field_at 10 text ≡ None
unfolding field_at
no_field [] clear = refl
no_field (byte ∷ text) clear =
    let other : ℕ → Type 0 = λ byte. byte ≢ 10 in
    rw (ne_eqb byte 10 (All-head other byte text clear), no_field text (All-tail other byte text clear)) refl

-- nor have its first bytes
pub no_line-clear : (text : List ℕ) → HasNo 10 text → field_at 10 (take most_line_bytes text) ≡ None
no_line-clear text clear = no_field (take most_line_bytes text) (All-take (λ byte. byte ≢ 10) most_line_bytes text clear)

-- nor those of a line that is too long
no_line-long : (text : List ℕ) → IsLine text → most_line_bytes < length text → field_at 10 (take most_line_bytes text) ≡ None
no_line-long text is long =
    let parts = field_at-sound 10 text is.0 [] is.1 in
    let many = ap (λ (bytes : List ℕ). length bytes) parts.0 ∙ length-append is.0 (10 ∷ []) in
    let front : take most_line_bytes text ≡ take most_line_bytes is.0 =
    ap (take most_line_bytes) parts.0 ∙ take-append-le most_line_bytes is.0 (10 ∷ []) (omega (arith, many, long)) in
    ap (field_at 10) front ∙ no_line-clear is.0 parts.1

-- the bytes that are moved to a line, of those that were read, are no longer to be heard
moved_piece : (whole : Bool) (ahead ahead' text text' : List ℕ) (remaining : Option (List ℕ)) → MovesLine whole ahead ahead' text text'
    → (piece : List ℕ) × ((text' ≡ text ++ piece) × Consumes (prepend_known ahead remaining) (prepend_known ahead' remaining) piece)
moved_piece true ahead ahead' text text' None moves = (line moves.0, (moves.1.1, tt))
moved_piece true ahead ahead' text text' (Some rest) moves =
    let parts = field_at-sound 10 ahead moves.0 ahead' moves.1.0 in
    let joined = ap (λ (bytes : List ℕ). bytes ++ rest) parts.0 ∙ append_assoc moves.0 (10 ∷ ahead') rest ∙ sym (append_assoc moves.0 (10 ∷ []) (ahead' ++ rest)) in
    (line moves.0, (moves.1.1, joined))
moved_piece false ahead ahead' text text' None moves = (ahead, (moves.1.0, tt))
moved_piece false ahead ahead' text text' (Some rest) moves =
    (ahead, (moves.1.0, ap (λ (bytes : List ℕ). ahead ++ (bytes ++ rest)) (sym moves.1.1)))

-- a line grows by no more than was read
pub grows-within : (whole : Bool) (ahead ahead' text text' : List ℕ) → MovesLine whole ahead ahead' text text' → length text' ≤ length text + length ahead
grows-within true ahead ahead' text text' moves =
    let parts = field_at-sound 10 ahead moves.0 ahead' moves.1.0 in
    let read = ap (λ (bytes : List ℕ). length bytes) parts.0 ∙ length-append moves.0 (10 ∷ ahead') in
    let one = length-append moves.0 (10 ∷ []) in
    let grown = ap (λ (bytes : List ℕ). length bytes) moves.1.1 ∙ length-append text (line moves.0) in
    omega (arith, read, one, grown)
grows-within false ahead ahead' text text' moves =
    let grown = ap (λ (bytes : List ℕ). length bytes) moves.1.0 ∙ length-append text ahead in
    omega (arith, grown)

-- one piece more
pub Consumes-piece : (whole : Bool) (first before read after : StdDialogueView) (text text' : List ℕ) → Consumes (to_hear first) (to_hear before) text
    → Keeps (to_hear before) (to_hear read) → MovesLine whole read.ahead after.ahead text text' → after.source ≡ read.source
    → Consumes (to_hear first) (to_hear after) text'
Consumes-piece whole first before read after text text' gone kept moves same =
    let next = moved_piece whole read.ahead after.ahead text text' read.source.remaining moves in
    let left : to_hear after ≡ prepend_known after.ahead read.source.remaining =
    ap (λ (source : StdSourceView). prepend_known after.ahead source.remaining) same in
    let all = Consumes-trans (to_hear first) (to_hear read) (prepend_known after.ahead read.source.remaining) text next.0
    (Consumes-kept (to_hear first) (to_hear before) (to_hear read) text gone kept) next.1.1 in
    subst (λ (heard : List ℕ). Consumes (to_hear first) (to_hear after) heard) (sym next.1.0)
    (subst (λ (rest : Option (List ℕ)). Consumes (to_hear first) rest (text ++ next.0)) (sym left) all)

-- bytes without a line feed are gone
pub misses : (result : Result (Unit {0}) Unheard) (why : Unheard) (before after : StdDialogueView) (text gone : List ℕ) → result ≡ Err why → HasNo 10 gone
    → Consumes (to_hear before) (to_hear after) gone → IsWhy why gone (to_hear after) → after.sink ≡ before.sink
    → MovesBytes (hearing result text) before after
misses result why before after text gone is clear moved why_is sink =
    rw is (record { gone = gone; moved = moved; no_line = no_line-clear gone clear; why_is = why_is }, sink)

-- a line is heard, or is too long
pub hears_line : (result : Result (Unit {0}) Unheard) (before after : StdDialogueView) (text : List ℕ) → IsLine text
    → IfErr result (λ why. (why ≡ TooLong) × (most_line_bytes < length text)) → length text ≤ most_line_bytes + piece_bytes → Consumes (to_hear before) (to_hear after) text → after.sink ≡ before.sink
    → MovesBytes (hearing result text) before after
hears_line (Ok heard) before after text is long within moved sink = (moved, sink)
hears_line (Err why) before after text is long within moved sink =
    (record { gone = text; moved = moved; no_line = no_line-long text is long.1; why_is = rw long.0 (long.1, within) }, sink)

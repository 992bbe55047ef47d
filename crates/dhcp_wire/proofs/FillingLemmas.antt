-- Options that fill a list: the one at the front, and those of what follows.
use Rattle.std.proofs.Common.{◌≡◌, ℕ, ◌+◌, Bool, true, false, cond, eqb, List, [], ◌∷◌, ◌++◌, length, drop, length-append, Some, None, refl, sym, ap, ◌∙◌, arith}
use Rattle.std.specs.List.{flat_map}
use Rattle.std.proofs.Math.Seq.{drop-append-add}
use Rattle.std.proofs.lemmas.Bool.{ne_eqb}
use Rattle.std.proofs.lemmas.List.Concat.{flat_map-cons}
use Rattle.dhcp_wire.specs.declared.raw_option.OptionFormat.{OptionFormat}
use Rattle.dhcp_wire.specs.Field.{◌>>=◌}
use Rattle.dhcp_wire.specs.RawOption.{RawOptionParts, after_options, ends_list, filling_options, raw_option_at, raw_options, raw_options_within, with_later, written_raw_option}
use Rattle.dhcp_wire.proofs.RawOptionLemmas.{Begins-raw_option_at, raw_options-raw_option_at}

-- no bytes are filled by no options
pub filling_options-nil : (format : OptionFormat) → filling_options format [] ≡ Some []
unfolding filling_options raw_options_within
filling_options-nil format = refl

filled : (option : RawOptionParts) (options : List RawOptionParts) (whole : Bool) → cond whole (Some (option ∷ options)) None ≡ (cond whole (Some options) None >>= λ more. Some (option ∷ more))
filled option options true = refl
filled option options false = refl

-- an option that is read, and those that fill the rest
pub filling_options-read : (format : OptionFormat) (bytes later : List ℕ) (option : RawOptionParts) → ends_list format option.code ≡ false → raw_option_at format bytes ≡ Some (option, later) → filling_options format bytes ≡ (filling_options format later >>= λ more. Some (option ∷ more))
unfolding filling_options
filling_options-read format bytes later option goes_on is =
    let written = written_raw_option format in
    let rest : List ℕ = flat_map written (raw_options format later) in
    let begins = Begins-raw_option_at format bytes later option is in
    let options : raw_options format bytes ≡ option ∷ raw_options format later =
    raw_options-raw_option_at format bytes ∙ ap (with_later format (raw_options format)) is
    ∙ ap (λ ends. option ∷ raw_options format (cond ends [] later)) goes_on in
    let long : length (written option ++ rest) ≡ length begins.front + length rest =
    length-append (written option) rest ∙ ap (λ n. n + length rest) (sym begins.long) in
    let remains : after_options format bytes ≡ after_options format later =
    ap (λ options. drop (length (flat_map written options)) bytes) options
    ∙ ap (λ all. drop (length all) bytes) (flat_map-cons written option (raw_options format later))
    ∙ ap (λ n. drop n bytes) long
    ∙ ap (λ whole. drop (length begins.front + length rest) whole) begins.split
    ∙ drop-append-add begins.front later (length rest) in
    ap (λ rest. cond (eqb (length rest) 0) (Some (raw_options format bytes)) None) remains
    ∙ ap (λ options. cond (eqb (length (after_options format later)) 0) (Some options) None) options
    ∙ filled option (raw_options format later) (eqb (length (after_options format later)) 0)

-- bytes that begin with no option are not filled
pub filling_options-refused : (format : OptionFormat) (bytes : List ℕ) → (bytes ≡ [] → ⊥) → raw_option_at format bytes ≡ None → filling_options format bytes ≡ None
unfolding filling_options
filling_options-refused format [] some is = absurd (some refl)
filling_options-refused format (byte ∷ bytes) some is =
    let none : raw_options format (byte ∷ bytes) ≡ [] =
    raw_options-raw_option_at format (byte ∷ bytes) ∙ ap (with_later format (raw_options format)) is in
    let left : List RawOptionParts → List ℕ = λ options. drop (length (flat_map (written_raw_option format) options)) (byte ∷ bytes) in
    ap (λ options. cond (eqb (length (left options)) 0) (Some options) None) none
    ∙ ap (λ empty. cond empty (Some []) None) (ne_eqb (length (byte ∷ bytes)) 0 (λ zero. omega (arith, zero)))

-- Lines of one kind, and what follows the last of them, are read in one way alone.
use Rattle.std.proofs.Common.{◌≡◌, ℕ, zero, suc, ◌<◌, ◌≤◌, List, [], ◌∷◌, ◌++◌, length, Some, None, option_map, refl, sym, ap, ◌∙◌, append_assoc, append-nil, length-append, arith}
use Rattle.std.specs.Prelude.{All}
use Rattle.std.specs.List.{flat_map}
use Rattle.std.proofs.lemmas.List.Elements.{All-head, All-tail, All-cons, All-nil}
use Rattle.dhcp_wire.specs.Field.{Read, ◌>>=◌}
use Rattle.dhcp_stream.specs.TextReader.{made_of, tag_at}
use Rattle.dhcp_stream.proofs.CodecLaws.{IsCodec, bind_some, map_some, moved, same_read, tag_at-complete, tag_at-sound}
use Rattle.dhcp_script.specs.FieldReader.{if_tag}
use Rattle.dhcp4_net_play.specs.Lines.{lines_at, lines_within}

-- what follows a line
abbrev pub next_lines : {A : Type 0} → List ℕ → (List ℕ → Read A) → List ℕ → ℕ → A × List ℕ → Read (List A)
next_lines tag line_at end most first = lines_within tag line_at end most first.1 >>= λ lines. Some (first.0 ∷ lines.0, lines.1)

-- fewer lines than none
no_step : {A : Type 0} (tag : List ℕ) (line_at : List ℕ → Read A) (end text : List ℕ) → lines_within tag line_at end zero text ≡ None
unfolding lines_within
no_step tag line_at end text = refl

-- what the first word and the second lead to
lines_step : {A : Type 0} (tag : List ℕ) (line_at : List ℕ → Read A) (end : List ℕ) (most : ℕ) (text : List ℕ) → lines_within tag line_at end (suc most) text
    ≡ if_tag (tag_at tag text) (λ text. line_at text >>= next_lines tag line_at end most) (made_of (λ ended. []) (tag_at end) text)
unfolding lines_within
lines_step tag line_at end most text = refl

-- a line, after the first word
line_step : {A : Type 0} (tag : List ℕ) (line_at : List ℕ → Read A) (end : List ℕ) (most : ℕ) (text left : List ℕ) → tag_at tag text ≡ Some (tt, left)
    → lines_within tag line_at end (suc most) text ≡ (line_at left >>= next_lines tag line_at end most)
line_step tag line_at end most text left is =
    lines_step tag line_at end most text
    ∙ ap (λ (read : Read (Unit {0})). if_tag read (λ text. line_at text >>= next_lines tag line_at end most) (made_of (λ ended. []) (tag_at end) text)) is

-- no line
end_step : {A : Type 0} (tag : List ℕ) (line_at : List ℕ → Read A) (end : List ℕ) (most : ℕ) (text : List ℕ) → tag_at tag text ≡ None
    → lines_within tag line_at end (suc most) text ≡ made_of (λ ended. []) (tag_at end) text
end_step tag line_at end most text is =
    lines_step tag line_at end most text
    ∙ ap (λ (read : Read (Unit {0})). if_tag read (λ text. line_at text >>= next_lines tag line_at end most) (made_of (λ ended. []) (tag_at end) text)) is

-- the text of lines and of what follows them
abbrev pub lines_text : {A : Type 0} → List ℕ → (A → List ℕ) → List ℕ → List A → List ℕ
lines_text tag print end lines = flat_map (λ line. tag ++ print line) lines ++ end

-- it begins with the first line
lines_text-cons : {A : Type 0} (tag : List ℕ) (print : A → List ℕ) (end : List ℕ) (line : A) (lines : List A) (rest : List ℕ)
    → lines_text tag print end (line ∷ lines) ++ rest ≡ tag ++ (print line ++ (lines_text tag print end lines ++ rest))
lines_text-cons tag print end line lines rest =
    ap (λ xs. xs ++ rest) (append_assoc (tag ++ print line) (flat_map (λ line. tag ++ print line) lines) end)
    ∙ append_assoc (tag ++ print line) (lines_text tag print end lines) rest
    ∙ append_assoc tag (print line) (lines_text tag print end lines ++ rest)

-- a text of lines has more bytes than lines
lines_text-long : {A : Type 0} (tag : List ℕ) (print : A → List ℕ) (end : List ℕ) → 0 < length tag → (lines : List A) (rest : List ℕ)
    → length lines < suc (length (lines_text tag print end lines ++ rest))
lines_text-long tag print end some [] rest = omega arith
lines_text-long tag print end some (line ∷ lines) rest =
    let ih = lines_text-long tag print end some lines rest in
    let long = ap length (lines_text-cons tag print end line lines rest) in
    let first = length-append tag (print line ++ (lines_text tag print end lines ++ rest)) in
    let second = length-append (print line) (lines_text tag print end lines ++ rest) in
    omega arith

module _ {A : Type 0} (tag end : List ℕ) (print : A → List ℕ) (Fits : A → Type 0) (line_at : List ℕ → Read A) (some : 0 < length tag)
    (apart : (rest : List ℕ) → tag_at tag (end ++ rest) ≡ None) (is : IsCodec print Fits line_at) where
  -- lines read back, where there are fewer than the most
  lines_complete : (most : ℕ) (lines : List A) (rest : List ℕ) → All Fits lines → length lines < most
      → lines_within tag line_at end most (lines_text tag print end lines ++ rest) ≡ Some (lines, rest)
  lines_complete zero lines rest fit enough = absurd (omega arith)
  lines_complete (suc most) [] rest fit enough =
      end_step tag line_at end most (end ++ rest) (apart rest)
      ∙ ap (λ (read : Read (Unit {0})). option_map (λ (read : (Unit {0}) × List ℕ). ([], read.1)) read) (tag_at-complete end rest)
  lines_complete (suc most) (line ∷ lines) rest fit enough =
      let left = print line ++ (lines_text tag print end lines ++ rest) in
      let one = is.complete line (lines_text tag print end lines ++ rest) (All-head Fits line lines fit) in
      let ih = lines_complete most lines rest (All-tail Fits line lines fit) (omega arith) in
      ap (lines_within tag line_at end (suc most)) (lines_text-cons tag print end line lines rest)
      ∙ line_step tag line_at end most (tag ++ left) left (tag_at-complete tag left)
      ∙ ap (λ (read : Read A). read >>= next_lines tag line_at end most) one
      ∙ ap (λ (read : Read (List A)). read >>= λ lines. Some (line ∷ lines.0, lines.1)) ih

  -- lines that were read are printed as the text
  lines_sound : (most : ℕ) (text : List ℕ) (lines : List A) (rest : List ℕ) → lines_within tag line_at end most text ≡ Some (lines, rest)
      → (text ≡ lines_text tag print end lines ++ rest) × All Fits lines
  lines_sound zero text lines rest h = cc (sym (no_step tag line_at end text) ∙ h)
  lines_sound (suc most) text lines rest h = by_tag (λ text lines rest h. lines_sound most text lines rest h) (tag_at tag text) refl
    where
      by_tag : ((text : List ℕ) (lines : List A) (rest : List ℕ) → lines_within tag line_at end most text ≡ Some (lines, rest) → (text ≡ lines_text tag print end lines ++ rest) × All Fits lines)
          → (cut : Read (Unit {0})) → tag_at tag text ≡ cut → (text ≡ lines_text tag print end lines ++ rest) × All Fits lines
      by_tag ih (Some found) cut =
          let read = sym (line_step tag line_at end most text found.1 cut) ∙ h in
          let first = bind_some (line_at found.1) (next_lines tag line_at end most) (lines, rest) read in
          let more = bind_some (lines_within tag line_at end most first.0.1) (λ lines. Some (first.0.0 ∷ lines.0, lines.1)) (lines, rest) first.2 in
          let parts = same_read (first.0.0 ∷ more.0.0) lines more.0.1 rest more.2 in
          let one = is.sound found.1 first.0.0 first.0.1 first.1 in
          let others = ih first.0.1 more.0.0 more.0.1 more.1 in
          moved (λ (lines : List A) rest. (text ≡ lines_text tag print end lines ++ rest) × All Fits lines) (first.0.0 ∷ more.0.0) lines more.0.1 rest parts.0 parts.1 (
            tag_at-sound tag text found.1 cut ∙ ap (λ xs. tag ++ xs) (one.0 ∙ ap (λ xs. print first.0.0 ++ xs) others.0)
                ∙ sym (lines_text-cons tag print end first.0.0 more.0.0 more.0.1),
            All-cons Fits first.0.0 more.0.0 one.1 others.1,
          )
      by_tag ih None cut =
          let read = sym (end_step tag line_at end most text cut) ∙ h in
          let step = map_some (λ (read : (Unit {0}) × List ℕ). ([], read.1)) (tag_at end text) (lines, rest) read in
          let none : [] ≡ lines = ap (λ (p : List A × List ℕ). p.0) step.2 in
          let more : step.0.1 ≡ rest = ap (λ (p : List A × List ℕ). p.1) step.2 in
          moved (λ (lines : List A) rest. (text ≡ lines_text tag print end lines ++ rest) × All Fits lines) [] lines step.0.1 rest none more
          (tag_at-sound end text step.0.1 step.1, All-nil Fits)

  pub IsCodec-lines : IsCodec (lines_text tag print end) (All Fits) (lines_at tag line_at end)
  IsCodec-lines = record {
    sound = λ text lines rest h. lines_sound (suc (length text)) text lines rest h;
    complete = λ lines rest fit. lines_complete (suc (length (lines_text tag print end lines ++ rest))) lines rest fit (lines_text-long tag print end some lines rest);
  }

-- ---- the loop that reads them

-- lines before those that are read
abbrev pub after_lines : {A : Type 0} → List A → Read (List A) → Read (List A)
after_lines {A} lines read = option_map (λ (read : List A × List ℕ). (lines ++ read.0, read.1)) read

-- what the loop keeps
pub record IsSoFar {A : Type 0} (tag end : List ℕ) (line_at : List ℕ → Read A) (whole : Read (List A)) (lines : List A) (left : List ℕ) : Type 0 where
  pub most : ℕ
  pub enough : length left < most
  pub is : after_lines lines (lines_within tag line_at end most left) ≡ whole

module _ {A : Type 0} (tag end : List ℕ) (line_at : List ℕ → Read A) where
  -- at the start
  pub so_far-none : (text : List ℕ) → IsSoFar tag end line_at (lines_at tag line_at end text) [] text
  so_far-none text = record { most = suc (length text); enough = omega arith; is = none (lines_at tag line_at end text) }
    where
      none : (read : Read (List A)) → after_lines [] read ≡ read
      none None = refl
      none (Some read) = refl

  -- what is left, where some is
  within : (most : ℕ) (left : List ℕ) → length left < most → (fewer : ℕ) × (most ≡ suc fewer)
  within zero left enough = absurd (omega arith)
  within (suc fewer) left enough = (fewer, refl)

  -- what follows a line is shorter
  pub line-shorter : 0 < length tag → (left mid new : List ℕ) → tag_at tag left ≡ Some (tt, mid) → length new ≤ length mid → length new < length left
  line-shorter some left mid new cut shorter =
      let is = ap length (tag_at-sound tag left mid cut) in
      let long = length-append tag mid in
      omega arith

  -- a line more
  pub so_far-more : 0 < length tag → (whole : Read (List A)) (lines : List A) (left mid new : List ℕ) (line : A) → IsSoFar tag end line_at whole lines left
      → tag_at tag left ≡ Some (tt, mid) → line_at mid ≡ Some (line, new) → length new ≤ length mid → IsSoFar tag end line_at whole (lines ++ line ∷ []) new
  so_far-more some whole lines left mid new line h cut read shorter =
      let fewer = within h.most left h.enough in
      let less = line-shorter some left mid new cut shorter in
      let now : lines_within tag line_at end h.most left ≡ (lines_within tag line_at end fewer.0 new >>= λ later. Some (line ∷ later.0, later.1)) =
      ap (λ most. lines_within tag line_at end most left) fewer.1 ∙ line_step tag line_at end fewer.0 left mid cut ∙ ap (λ (read : Read A). read >>= next_lines tag line_at end fewer.0) read in
      record {
        most = fewer.0;
        enough = (let is = fewer.1 in let enough = h.enough in omega arith);
        is = joined (lines_within tag line_at end fewer.0 new) ∙ ap (after_lines lines) (sym now) ∙ h.is;
      }
    where
      joined : (later : Read (List A)) → after_lines (lines ++ line ∷ []) later ≡ after_lines lines (later >>= λ later. Some (line ∷ later.0, later.1))
      joined None = refl
      joined (Some later) = ap (λ (all : List A). Some (all, later.1)) (append_assoc lines (line ∷ []) later.0)

  -- a line that does not read
  pub so_far-refused : (whole : Read (List A)) (lines : List A) (left mid : List ℕ) → IsSoFar tag end line_at whole lines left
      → tag_at tag left ≡ Some (tt, mid) → line_at mid ≡ None → whole ≡ None
  so_far-refused whole lines left mid h cut read =
      let fewer = within h.most left h.enough in
      sym h.is ∙ ap (after_lines lines)
      (ap (λ most. lines_within tag line_at end most left) fewer.1 ∙ line_step tag line_at end fewer.0 left mid cut ∙ ap (λ (read : Read A). read >>= next_lines tag line_at end fewer.0) read)

  -- what follows the last line
  pub so_far-all : (whole : Read (List A)) (lines : List A) (left new : List ℕ) → IsSoFar tag end line_at whole lines left
      → tag_at tag left ≡ None → tag_at end left ≡ Some (tt, new) → whole ≡ Some (lines, new)
  so_far-all whole lines left new h cut last =
      let fewer = within h.most left h.enough in
      sym h.is ∙ ap (after_lines lines) (ap (λ most. lines_within tag line_at end most left) fewer.1 ∙ end_step tag line_at end fewer.0 left cut
      ∙ ap (λ (read : Read (Unit {0})). option_map (λ (read : (Unit {0}) × List ℕ). ([], read.1)) read) last)
      ∙ ap (λ (all : List A). Some (all, new)) (append-nil lines)

  -- what does not follow
  pub so_far-open : (whole : Read (List A)) (lines : List A) (left : List ℕ) → IsSoFar tag end line_at whole lines left
      → tag_at tag left ≡ None → tag_at end left ≡ None → whole ≡ None
  so_far-open whole lines left h cut last =
      let fewer = within h.most left h.enough in
      sym h.is ∙ ap (after_lines lines) (ap (λ most. lines_within tag line_at end most left) fewer.1 ∙ end_step tag line_at end fewer.0 left cut
      ∙ ap (λ (read : Read (Unit {0})). option_map (λ (read : (Unit {0}) × List ℕ). ([], read.1)) read) last)

-- What each exit status says of a run.
use Rattle.std.specs.Prelude.{◌≡◌, ◌⊎◌, ℕ, ◌≤◌, ◌<◌, true, false, List, length, Option, Some, IfSome}
use Rattle.std.specs.Io.KnownBytes.{Appends}
use Rattle.dhcp_wire.specs.Fault.{Rose}
use Rattle.dhcp_stream.specs.Whole.{HasGone, HasReadTooMany, TakesFront, most_bytes}
use Rattle.dhcp_tool.specs.Input.{HasRead}
use Rattle.dhcp_tool.specs.Job.{Job, Reads, Prints}
use Rattle.dhcp_tool.specs.Texts.{Texts, IsNoText, IsJudged, IsAnsweredBy, AreKept, HasInvalid}

-- How the writing of a text ends, by the bytes that the sink took before and after, where they are
-- known, and the counts of its faults.
pub record Writes (text : List ℕ) (status : ℕ) (taken taken_after : Option (List ℕ))
    (faults faults_after : ℕ) : Type 0 where
  pub whole : status ≡ 0 → Appends taken taken_after text
  pub front : status ≡ 4 → TakesFront taken taken_after text
  pub either : (status ≡ 0) ⊎ ((status ≡ 4) × Rose faults faults_after)

-- what moved in a run: the bytes left in the source and those that the sink took, where they are
-- known, and the counts of faults of both, before and after
pub record Moved : Type 0 where
  pub left : Option (List ℕ)
  pub left_after : Option (List ℕ)
  pub faults : ℕ
  pub faults_after : ℕ
  pub taken : Option (List ℕ)
  pub taken_after : Option (List ℕ)
  pub sink_faults : ℕ
  pub sink_faults_after : ℕ

-- What each status says where these texts are read.
pub record EndsReading {S : Type 0} (texts : Texts S) (status : ℕ) (moved : Moved) : Type 0 where
  -- the text of a valid script, if it is not too long, is answered, unless out of memory or the
  -- source or the sink fails
  pub complete : (script : S) → texts.IsOne script
      → texts.is_valid script ≡ true
      → moved.left ≡ Some (texts.text script)
      → length (texts.text script) ≤ most_bytes
      → ¬ (Rose moved.faults moved.faults_after)
      → ¬ (Rose moved.sink_faults moved.sink_faults_after)
      → (status ≡ 5)
      ⊎ ((status ≡ 0) × Appends moved.taken moved.taken_after (texts.printed script))
  pub done : status ≡ 0 → HasRead moved.left moved.left_after
      (IsAnsweredBy texts (Appends moved.taken moved.taken_after))
  pub promises : status ≡ 0 → IfSome moved.left (AreKept texts)
  pub no_script : status ≡ 2 → HasRead moved.left moved.left_after (IsNoText texts)
  pub read_fault : status ≡ 3 →
      Rose moved.faults moved.faults_after × HasGone most_bytes moved.left moved.left_after
  pub write_fault : status ≡ 4 → Rose moved.sink_faults moved.sink_faults_after
  pub front_written : status ≡ 4 → HasRead moved.left moved.left_after
      (IsAnsweredBy texts (TakesFront moved.taken moved.taken_after))
  pub too_long : status ≡ 6 → HasReadTooMany moved.left moved.left_after
  pub invalid : status ≡ 7 →
      HasRead moved.left moved.left_after (IsJudged texts false) × HasInvalid texts
  -- the text of no script, of a script that is not valid, and a text that is too long are refused
  -- as such, unless out of memory or the source fails
  pub refuses : ¬ (Rose moved.faults moved.faults_after)
      → IfSome moved.left (λ bytes. length bytes ≤ most_bytes
      → IsNoText texts bytes → (status ≡ 5) ⊎ (status ≡ 2))
  pub refuses_invalid : ¬ (Rose moved.faults moved.faults_after)
      → IfSome moved.left (λ bytes. length bytes ≤ most_bytes
      → IsJudged texts false bytes → (status ≡ 5) ⊎ (status ≡ 7))
  pub refuses_long : ¬ (Rose moved.faults moved.faults_after)
      → IfSome moved.left (λ bytes. most_bytes < length bytes → (status ≡ 5) ⊎ (status ≡ 6))

-- What each status says where this text is printed and nothing is read.
pub record EndsPrinting (text : List ℕ) (status : ℕ) (moved : Moved) : Type 0 where
  pub complete : ¬ (Rose moved.sink_faults moved.sink_faults_after)
      → (status ≡ 5) ⊎ (status ≡ 0)
  pub done : status ≡ 0 → Appends moved.taken moved.taken_after text
  pub write_fault : status ≡ 4 → Rose moved.sink_faults moved.sink_faults_after
  pub front_written : status ≡ 4 → TakesFront moved.taken moved.taken_after text
  pub no_other : (status ≡ 0) ⊎ (status ≡ 4) ⊎ (status ≡ 5)

-- what each status says of what was asked for
abbrev pub EndsJob : {S : Type 0} → Job S → ℕ → Moved → Type 0
EndsJob (Reads texts) status moved = EndsReading texts status moved
EndsJob (Prints text) status moved = EndsPrinting text status moved

-- A source and a sink in memory, which fail at chosen calls.
use Rattle.std.specs.Prelude.{ℕ, ◌+◌, ◌-◌, ◌^◌, ◌==◌, Bool, ◌&&◌, ◌||◌, List, ◌++◌, length, take, drop, min, nat_lt, if◌then◌else◌}
use Rattle.std.specs.List.{list_any}
use Rattle.dhcp_stream.specs.declared.stream.ReadOutcome.{ReadOutcome}
use Rattle.dhcp_stream.specs.declared.stream.ReadOutcome.TheVariants as reads
use Rattle.dhcp_stream.specs.declared.stream.WriteOutcome.{WriteOutcome}
use Rattle.dhcp_stream.specs.declared.stream.WriteOutcome.TheVariants as writes
use Rattle.dhcp_stream.specs.Stream.{one_fault_more}

-- the number of the next call, the first being 1; from 4294967295 on each call has that number
abbrev pub next_call : ℕ → ℕ
next_call calls = min (calls + 1) (2 ^ 32 - 1)

-- whether a call with this number is among those that fail
abbrev pub is_listed : List ℕ → ℕ → Bool
is_listed fails call = list_any (λ number. number == call) fails

-- a source: the bytes that are left, the calls that fail, the number of calls so far, and that of
-- faults
pub record MemSourceView : Type 0 where
  pub left : List ℕ
  pub fails : List ℕ
  pub calls : ℕ
  pub faults : ℕ

-- a sink: the bytes taken, the room for more, the calls that fail, the number of calls so far, and
-- that of faults
pub record MemSinkView : Type 0 where
  pub taken : List ℕ
  pub room : ℕ
  pub fails : List ℕ
  pub calls : ℕ
  pub faults : ℕ

-- whether the next read fails
abbrev pub read_fails : MemSourceView → Bool
read_fails source = is_listed source.fails (next_call source.calls)

-- what a read into a slice of n bytes answers: as many bytes as fit
abbrev pub read_answer : MemSourceView → ℕ → ReadOutcome
read_answer source n =
    if read_fails source then reads.Failed else reads.Read (min n (length source.left))

-- the source after it
abbrev pub after_read : MemSourceView → ℕ → MemSourceView
after_read source n =
    if read_fails source
    then record source { calls = next_call source.calls; faults = one_fault_more source.faults }
    else record source { calls = next_call source.calls; left = drop n source.left }

-- whether a write of this piece fails: where its call is listed, or no room is left for it
abbrev pub write_fails : MemSinkView → List ℕ → Bool
write_fails sink piece =
    is_listed sink.fails (next_call sink.calls) || (sink.room == 0 && nat_lt 0 (length piece))

-- what a write of this piece answers: as many of its bytes as fit
abbrev pub write_answer : MemSinkView → List ℕ → WriteOutcome
write_answer sink piece =
    if write_fails sink piece then writes.Failed else writes.Wrote (min (length piece) sink.room)

-- the sink after it
abbrev pub after_write : MemSinkView → List ℕ → MemSinkView
after_write sink piece =
    if write_fails sink piece
    then record sink { calls = next_call sink.calls; faults = one_fault_more sink.faults }
    else record sink {
      calls = next_call sink.calls;
      taken = sink.taken ++ take sink.room piece;
      room = sink.room - length piece;
    }

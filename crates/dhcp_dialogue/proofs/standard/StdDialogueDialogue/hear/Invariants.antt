-- What was heard of the line so far has no line feed, and is the front of what was to be heard.
use Rattle.std.proofs.Common.{◌≡◌, ◌+◌, ◌-◌, ◌≤◌, length}
use Rattle.std.specs.Io.KnownBytes.{Consumes}
use Rattle.dhcp_stream.proofs.CodecLaws.{HasNo}
use Rattle.dhcp_dialogue.specs.Dialogue.{most_line_bytes}
use Rattle.dhcp_dialogue.specs.Standard.{piece_bytes, to_hear}
use Rattle.dhcp_dialogue.proofs.standard.StdDialogueDialogue.hear.Given as goal

abbrev pub invariant-pieces : goal.invariant-pieces
invariant-pieces g l = record {
  clear : HasNo 10 l.line.items;
  moved : Consumes (to_hear l.fn.self) (to_hear l.self) l.line.items;
  within : length l.line.items ≤ most_line_bytes + piece_bytes;
  later : l.fn.self.source.faults ≤ l.self.source.faults;
  sink : l.self.sink ≡ l.fn.self.sink;
}

abbrev pub decreases-pieces : goal.decreases-pieces
decreases-pieces g l = most_line_bytes + 1 - length l.line.items

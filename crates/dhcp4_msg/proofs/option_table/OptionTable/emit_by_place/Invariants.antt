-- What was written so far, and how many options are left, End among them where it is kept.
use Rattle.std.proofs.Common.{◌≡◌, ◌≤◌, ◌+◌, ◌++◌, length, take, filter_map, is_some}
use Rattle.std.specs.List.{count_by, flat_map}
use Rattle.dhcp4_msg.specs.Options.{kept_in}
use Rattle.dhcp4_msg.specs.Value.{written_option}
use Rattle.dhcp4_msg.proofs.option_table.OptionTable.emit_by_place.Given as goal

abbrev pub invariant-loop-place : goal.invariant-loop-place
invariant-loop-place l = record {
  written : l.buf ≡ l.initial.buf ++ flat_map written_option (filter_map (kept_in l.self-inside.kept.items) (take l.place-index l.self-inside.places));
  left : l.left + count_by is_some (take l.place-index l.self-inside.places) ≡ length l.self-inside.kept.items;
  enough : l.last ≤ l.left;
}

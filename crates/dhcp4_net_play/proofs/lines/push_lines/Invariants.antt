use Rattle.std.proofs.Common.{◌≡◌, ◌++◌, take}
use Rattle.std.specs.Prelude.{string_bytes}
use Rattle.std.specs.List.{flat_map}
use Rattle.dhcp4_net_play.proofs.lines.push_lines.Given as goal

abbrev pub invariant-loop-line : goal.invariant-loop-line
invariant-loop-line g l = string_bytes l.text ≡ string_bytes l.initial.text ++ flat_map (λ line. l.tag ++ g.T.Line.line_text line) (take l.line-index l.lines)

use Rattle.std.proofs.Common.{length}
use Rattle.dhcp4_net_play.specs.Lines.{lines_at}
use Rattle.dhcp4_net_play.proofs.LineLaws.{IsSoFar}
use Rattle.dhcp4_net_play.proofs.lines.read_lines.Given as goal

abbrev pub invariant-lines : goal.invariant-lines
invariant-lines g l = IsSoFar l.tag l.end g.T.Line.line_at (lines_at l.tag g.T.Line.line_at l.end l.initial.text) l.lines.items l.text

abbrev pub decreases-lines : goal.decreases-lines
decreases-lines g l = length l.text

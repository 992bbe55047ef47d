-- What was written so far.
use Rattle.std.proofs.Common.{◌≡◌, ◌++◌, length, take}
use Rattle.std.specs.List.{flat_map}
use Rattle.dhcp6_opt.specs.DomainName.{between_dots, written_label}
use Rattle.dhcp6_opt.proofs.domain_name.emit_labels.Given as goal

abbrev pub invariant-loop-label : goal.invariant-loop-label
invariant-loop-label l = l.buf ≡ l.initial.buf ++ flat_map written_label (take (length l.yielded) (between_dots l.text))

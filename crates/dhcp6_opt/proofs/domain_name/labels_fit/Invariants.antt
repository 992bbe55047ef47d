-- The labels so far have lengths of labels.
use Rattle.std.proofs.Common.{◌≡◌, true, length, take}
use Rattle.std.specs.List.{list_all}
use Rattle.dhcp6_opt.specs.DomainName.{between_dots, has_label_length}
use Rattle.dhcp6_opt.proofs.domain_name.labels_fit.Given as goal

abbrev pub invariant-loop-label : goal.invariant-loop-label
invariant-loop-label l = list_all has_label_length (take (length l.yielded) (between_dots l.text)) ≡ true

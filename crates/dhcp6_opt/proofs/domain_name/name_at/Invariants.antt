-- The text so far, with the labels of the rest, is the name.
use Rattle.std.proofs.Common.{◌≡◌, length, string_bytes}
use Rattle.dhcp6_opt.specs.DomainName.{name_at}
use Rattle.dhcp6_opt.proofs.NameLemmas.{named_after}
use Rattle.dhcp6_opt.proofs.domain_name.name_at.Given as goal

abbrev pub invariant-loop-length : goal.invariant-loop-length
invariant-loop-length l = named_after (string_bytes l.text) l.rest ≡ name_at l.fn.bytes

abbrev pub decreases-loop-length : goal.decreases-loop-length
decreases-loop-length l = length l.rest

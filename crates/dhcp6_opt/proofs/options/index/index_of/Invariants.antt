-- There is an entry for each option so far.
use Rattle.std.proofs.Common.{◌≡◌, take}
use Rattle.dhcp6_opt.proofs.IndexBuildLemmas.{entries_from}
use Rattle.dhcp6_opt.proofs.options.index.index_of.Given as goal

abbrev pub invariant-loop-option : goal.invariant-loop-option
invariant-loop-option l = l.entries.items ≡ entries_from 0 (take l.option-index l.kept)

-- The options that read, by their numbers.
use Rattle.std.proofs.Common.{ap}
use Rattle.dhcp6_opt.specs.Options.{lists_of, read_options}
use Rattle.dhcp6_opt.proofs.options.DhcpV6Options.parse.Goals as goal

pub returns : goal.returns
unfolding read_options
returns c = ap lists_of c.in_ok-kept.ensures.value

-- What a configuration ends as where it was lent to a setter that may refuse.
use Rattle.std.specs.Prelude.{Result}
use Rattle.std.specs.Borrow.{Fml, MutBor}
use Rattle.dhcp_wire.specs.Setter as Setter
use Rattle.dhcp_wire.specs.Error.{ErrorParts}
use Rattle.dhcp6_msg.specs.Config.{Config}
use Rattle.dhcp6_msg.specs.contracts.config.DhcpV6Config.{the_row}

abbrev pub UnchangedIfRefused : MutBor Config → Result (MutBor Config) ErrorParts → Fml
UnchangedIfRefused = Setter.UnchangedIfRefused the_row

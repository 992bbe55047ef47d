-- A configuration that is reported was read from a packet that the poll was given.
use Rattle.std.proofs.Common.{sym}
use Rattle.dhcp6_info.proofs.Given.{info_is_given}
use Rattle.dhcp6_info.proofs.laws.configurations_are_given.Goals as goal

pub returns : goal.returns
returns c = rw (← c.client.view_is) (λ now refuse packet turns info old new is reports.
    info_is_given c.client.inside.rules.config now refuse packet info old new (c.changes_are_heard.ensures now refuse packet turns _ old new is) (sym reports))

-- The configuration is the same, and the script says nothing else of the forms.
use Rattle.std.proofs.Common.{ap}
use Rattle.std.specs.Prelude.{option_map}
use Rattle.dhcp4_lease.specs.Config.{Config}
use Rattle.dhcp_script.specs.Lease4.{lease_with}
use Rattle.dhcp_replay.specs.Replayed4.{outputs4}
use Rattle.dhcp_replay.proofs.laws.version_2_is_played_with_the_forms_of_mozim.Goals as goal

pub returns : goal.returns
returns c = λ script none.
    ap (λ (config : Config). outputs4 config (option_map lease_with script.lease) script.words script.events)
    (c.version_2_has_the_forms_of_mozim.ensures.client script none)

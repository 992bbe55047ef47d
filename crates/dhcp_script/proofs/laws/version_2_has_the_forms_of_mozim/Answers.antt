-- By the definitions of the texts and of the configuration.
use Rattle.dhcp_script.proofs.Version3Laws.{differ_in_forms, same_config}
use Rattle.dhcp_script.proofs.laws.version_2_has_the_forms_of_mozim.Goals as goal

pub returns-clause-client : goal.returns-clause-client
returns-clause-client c = same_config

pub returns-clause-texts : goal.returns-clause-texts
returns-clause-texts c = differ_in_forms

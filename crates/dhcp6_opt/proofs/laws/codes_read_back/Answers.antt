use Rattle.dhcp6_opt.proofs.CodeLemmas.{number_of-code_of, status_number-status_of}
use Rattle.dhcp6_opt.proofs.laws.codes_read_back.Goals as goal

pub returns-clause-options : goal.returns-clause-options
returns-clause-options c = number_of-code_of

pub returns-clause-statuses : goal.returns-clause-statuses
returns-clause-statuses c = status_number-status_of

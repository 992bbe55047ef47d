-- The ledger is the one that the blank opens.
use Rattle.dhcp6_opt_tests.proofs.options.the_first_of_a_code_is_found.Given as goal

abbrev pub ghosts-found : goal.ghosts-found
ghosts-found g a = record { name = a.blank.name; parts = a.blank.parts }

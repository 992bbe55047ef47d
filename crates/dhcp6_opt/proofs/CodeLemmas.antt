-- Codes of options and their numbers.
use Rattle.std.proofs.Common.{◌≡◌, ℕ, true, refl, sym, ap, ◌∙◌}
use Rattle.std.proofs.lemmas.Bool.{false≢true}
use Rattle.dhcp_wire.proofs.CodeLemmas as coded
use Rattle.dhcp6_opt.specs.declared.option_code.DhcpV6OptionCode.{DhcpV6OptionCode}
use Rattle.dhcp6_opt.specs.declared.option_code.DhcpV6OptionCode.TheVariants as codes
use Rattle.dhcp6_opt.specs.declared.option_code.DhcpV6OptionCode.TheVariants.{Other}
use Rattle.dhcp6_opt.specs.declared.status.DhcpV6OptionStatusCode.TheVariants as statuses
use Rattle.dhcp6_opt.specs.OptionCode.{code_of, number_of, named_codes}
use Rattle.dhcp6_opt.specs.Status.{status_of, status_number, named_statuses}
use Rattle.dhcp6_opt.specs.Value.{is_nameless}

-- the number of the code of a number is that number
pub number_of-code_of : (number : ℕ) → number_of (code_of number) ≡ number
unfolding code_of number_of
number_of-code_of number = coded.number_of-code_of number_of named_codes number (Other number) refl

-- a number whose code has no name is not the number of a name
pub nameless : (number : ℕ) (code : DhcpV6OptionCode) → code_of number ≡ code → is_nameless code ≡ true → code_of number ≡ codes.Other number
unfolding number_of
nameless number (codes.Other other) own is = own ∙ ap codes.Other (sym (ap number_of own) ∙ number_of-code_of number)
nameless number _ own is = absurd (false≢true is)

-- the same of status codes
pub status_number-status_of : (number : ℕ) → status_number (status_of number) ≡ number
unfolding status_of status_number
status_number-status_of number = coded.number_of-code_of status_number named_statuses number (statuses.Other number) refl

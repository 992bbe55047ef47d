-- Codes of options and their numbers.
use Rattle.std.proofs.Common.{◌≡◌, ℕ, true, refl, sym, ap, ◌∙◌}
use Rattle.std.proofs.lemmas.Bool.{false≢true}
use Rattle.dhcp_wire.proofs.CodeLemmas as coded
use Rattle.dhcp4_msg.specs.declared.option_code.DhcpV4OptionCode.{DhcpV4OptionCode}
use Rattle.dhcp4_msg.specs.declared.option_code.DhcpV4OptionCode.TheVariants as codes
use Rattle.dhcp4_msg.specs.declared.option_code.DhcpV4OptionCode.TheVariants.{Other}
use Rattle.dhcp4_msg.specs.OptionCode.{code_of, number_of, named_codes}
use Rattle.dhcp4_msg.specs.Value.{is_nameless}

-- the number of the code of a number is that number
pub number_of-code_of : (number : ℕ) → number_of (code_of number) ≡ number
unfolding code_of number_of
number_of-code_of number = coded.number_of-code_of number_of named_codes number (Other number) refl

-- a number without a name has its own code
pub nameless : (number : ℕ) (code : DhcpV4OptionCode) → code_of number ≡ code → is_nameless code ≡ true → code_of number ≡ codes.Other number
unfolding number_of
nameless number (codes.Other other) own is = own ∙ ap codes.Other (sym (ap number_of own) ∙ number_of-code_of number)
nameless number _ own is = absurd (false≢true is)

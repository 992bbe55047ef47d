-- Codes of which none is above the next do not fall.
use Rattle.std.proofs.Common.{◌≡◌, ℕ, ◌≤◌, Bool, true, false, IsTrue, List, arith, tests, rules}
use Rattle.std.specs.List.{IsAllAdjacentAnswer}
use Rattle.std.specs.List.Sorted.{IsNonDecreasingBy}
use Rattle.std.specs.Ordering.{as_partial_cmp, nat_cmp, partial_le}
use Rattle.std.proofs.lemmas.Bool.{false≢true}
use Rattle.std.proofs.lemmas.List.Sorted.{answers_always, IsNonDecreasingBy-from_all_adjacent}
use Rattle.dhcp6_opt.specs.declared.option.DhcpV6Option.{DhcpV6Option}
use Rattle.dhcp6_opt.specs.Value.{option_number}
use Rattle.dhcp6_opt.proofs.options.are_in_code_order.Goals as goal

-- a number that is not above another
not_above : (m n : ℕ) → true ≡ partial_le (as_partial_cmp nat_cmp) m n → m ≤ n
not_above m n is = grind (arith, tests)

-- numbers of which none is above the next
in_order : (options : List DhcpV6Option) (result : Bool) → IsAllAdjacentAnswer (λ x y b. b ≡ partial_le (as_partial_cmp nat_cmp) (option_number x) (option_number y)) options result → IsTrue result → IsNonDecreasingBy option_number options
in_order options true all is =
    IsNonDecreasingBy-from_all_adjacent option_number options (λ k d inside. not_above _ _ (all k d inside))
in_order options false all is = absurd (false≢true is)

pub returns : goal.returns
returns c = in_order _ _ (c.is_sorted_by_key.ensures.cases option_number (answers_always _ _ _ (λ f a r g h. search rules)))

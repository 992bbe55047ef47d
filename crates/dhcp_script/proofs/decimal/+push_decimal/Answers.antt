-- All digits but the last two, and these.
use Rattle.std.proofs.Common.{◌≡◌, ◌++◌, ◌/◌, ◌%◌, ◌≤◌, ◌<◌, ◌^◌, ◌∙◌, ℕ, ap, append_assoc, arith, subst, sym}
use Rattle.std.specs.Prelude.{OnOk, string_bytes}
use Rattle.std.specs.Fmt.{decimal}
use Rattle.std.proofs.lemmas.Fmt.{decimal_digit, decimal_step}
use Rattle.dhcp_script.proofs.PrintLemmas.{pushed2}
use Rattle.dhcp_script.proofs.decimal.+push_decimal.Goals as goal

-- all digits but the last, and the last one
last_digit : (number : ℕ) → 10 ≤ number → number < 2 ^ 32 → decimal number ≡ decimal (number / 10) ++ decimal (number % 10)
last_digit number two fits =
    decimal_step number two (omega (arith, fits)) ∙ ap (λ digits. decimal (number / 10) ++ digits) (sym (decimal_digit (number % 10) (omega arith)))

-- all digits but the last two, and these
last_two : (number : ℕ) → 100 ≤ number → number < 2 ^ 32 → decimal number ≡ decimal (number / 100) ++ (decimal (number % 100 / 10) ++ decimal (number % 100 % 10))
last_two number three fits =
    let front : number / 10 / 10 ≡ number / 100 = omega arith in
    let first : number / 10 % 10 ≡ number % 100 / 10 = omega arith in
    let second : number % 10 ≡ number % 100 % 10 = omega arith in
    last_digit number (omega (arith, three)) fits
    ∙ ap (λ digits. digits ++ decimal (number % 10)) (last_digit (number / 10) (omega (arith, three)) (omega (arith, fits)))
    ∙ append_assoc (decimal (number / 10 / 10)) (decimal (number / 10 % 10)) (decimal (number % 10))
    ∙ ap (λ n. decimal n ++ (decimal (number / 10 % 10) ++ decimal (number % 10))) front
    ∙ ap (λ n. decimal (number / 100) ++ (decimal n ++ decimal (number % 10))) first
    ∙ ap (λ n. decimal (number / 100) ++ (decimal (number % 100 / 10) ++ decimal n)) second

pub returns-then-number-lt100 : goal.returns-then-number-lt100
returns-then-number-lt100 t c =
    subst (λ digits. OnOk c.push_two.result (string_bytes c.push_two.new.text ≡ string_bytes c.args.text.now ++ digits)) (sym (last_digit c.args.number (omega arith) (omega (arith, c.ranges.number.fits)))) c.push_two.ensures

pub returns : goal.returns
returns t c =
    pushed2 c.push_two-2.result _ _ _ _ _ _ c.push_two-2.ensures c.in_ok-push_decimal.ensures (last_two c.args.number (omega arith) (omega (arith, c.ranges.number.fits)))

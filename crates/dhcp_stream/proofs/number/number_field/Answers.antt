use Rattle.std.proofs.Common.{◌<◌, ◌^◌, sym, ◌∙◌, arith}
use Rattle.std.specs.Fmt.{decimal}
use Rattle.std.proofs.lemmas.Bool.{false≢true}
use Rattle.std.proofs.lemmas.Fmt.{IsAscii-decimal}
use Rattle.std.proofs.lemmas.Str.{IsUtf8-from_ascii}
use Rattle.dhcp_stream.proofs.NumberLemmas.{BeginsPlainly-decimal, decimal-is, decimal-parsed, decimal-unparsed}
use Rattle.dhcp_stream.proofs.number.number_field.Goals as goal

pub returns-then-not-begins_plainly : goal.returns-then-not-begins_plainly
returns-then-not-begins_plainly c = λ n small same.
    let plain = rw same at (BeginsPlainly-decimal n (omega (arith, c.ranges.max.fits))) in
    false≢true (sym c.if-not-begins_plainly.true ∙ c.begins_plainly.ensures.1 (plain.no_plus, plain.no_zero))

pub returns-in_default : goal.returns-in_default
returns-in_default c = λ n small same.
    let fits : n < 2 ^ 64 = omega (arith, c.ranges.max.fits) in
    c.in_default.ensures.cases.0 (rw (← same) (IsUtf8-from_ascii (decimal n) (IsAscii-decimal n fits)))

pub returns-in_default-parse : goal.returns-in_default-parse
returns-in_default-parse c = λ n small same.
    let fits : n < 2 ^ 64 = omega (arith, c.ranges.max.fits) in
    decimal-unparsed _ _ _ n c.parse.ensures.value.0 c.in_default-parse.is fits (same ∙ sym c.in-Ok.ensures.cases.0)

pub returns-then-number-max : goal.returns-then-number-max
returns-then-number-max c =
    let plain = c.begins_plainly.ensures.0 c.if-not-begins_plainly.false in
    let parses = rw c.in-Ok.ensures.cases.0 at c.parse.ensures.value.0 in
    (decimal-parsed c.args.field.now _ _ (record { no_plus = plain.0; no_zero = plain.1 }) parses c.in-Ok-parse.is, c.if-number-max.true)

pub returns-else-number-max : goal.returns-else-number-max
returns-else-number-max c = λ n small same.
    let fits : n < 2 ^ 64 = omega (arith, c.ranges.max.fits) in
    let other = decimal-is _ _ _ n c.parse.ensures.value.0 c.in-Ok-parse.is fits (same ∙ sym c.in-Ok.ensures.cases.0) in
    omega arith

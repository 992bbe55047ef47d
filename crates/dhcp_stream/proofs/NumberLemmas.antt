-- Decimal numbers and addresses are read in one way alone.
use Rattle.std.proofs.Common.{◌≡◌, ◌≢◌, ℕ, zero, suc, ◌<◌, ◌^◌, List, [], ◌∷◌, length, get_or, Result, Ok, Err, refl, sym, ap, ◌∙◌, inl, inr, arith}
use Rattle.std.specs.Fmt.{decimal}
use Rattle.std.specs.Net.Addr.{IsIpv4Addr, ipv4_octets}
use Rattle.std.specs.Net.Grammar.{IsDotted, IsIpv4Text, Parses}
use Rattle.std.specs.Net.Text.{ipv4_text}
use Rattle.std.specs.Result.{result_ok}
use Rattle.std.specs.declared.net.Ipv4Addr.{Ipv4Addr}
use Rattle.std.specs.Str.Parse.{AllDigits, digits_value, ParsesUnsigned}
use Rattle.std.proofs.lemmas.Bool.{cases_lt}
use Rattle.std.proofs.lemmas.Fmt.{decimal_digit, decimal-digits_value, first_decimal, parse-decimal}
use Rattle.dhcp_stream.specs.Number.{address_text}
use Rattle.dhcp_stream.specs.Reading.{IsReading}
use Rattle.std.proofs.lemmas.Str.Parse.{IsNumeralModel, numerals_by_value, parse_plain, tells_digits}

-- digits and their value, in std's words
own : IsNumeralModel (AllDigits 10) (digits_value 10)
own = numerals_by_value (AllDigits 10) tells_digits

-- a field begins with neither a plus sign nor a zero before other digits
pub record BeginsPlainly (field : List ℕ) : Type 0 where
  pub no_plus : get_or field 0 0 ≢ 43
  pub no_zero : get_or field 0 0 ≡ 48 → length field ≡ 1

-- a printed number begins so
pub BeginsPlainly-decimal : (n : ℕ) → n < 2 ^ 64 → BeginsPlainly (decimal n)
BeginsPlainly-decimal n fits = elim (cases_lt 0 n) [
  | inl some ↦
      let first = first_decimal n some fits in
      record { no_plus = λ e. omega arith; no_zero = λ e. absurd (omega arith) }
  | inr none ↦
      let zero : n ≡ 0 = omega arith in
      rw (zero, decimal_digit 0 (omega arith)) (record { no_plus = λ e. omega arith; no_zero = λ e. refl })
]

-- a field that parses is the text of its number
pub decimal-parsed : {E : Type 0} (field : List ℕ) (read : Result ℕ E) (number : ℕ)
    → BeginsPlainly field → ParsesUnsigned 64 10 field read → read ≡ Ok number → decimal number ≡ field
decimal-parsed field read number plain parses is =
    let given = parse_plain own 64 field read parses plain.no_plus in
    let ok = rw is at given in
    rw ok.1 (decimal-digits_value own field ok.0.0 ok.0.1 plain.no_zero ok.0.2)

-- a field that does not parse is the text of no number
pub decimal-unparsed : {E : Type 0} (field : List ℕ) (read : Result ℕ E) (e : E) (n : ℕ)
    → ParsesUnsigned 64 10 field read → read ≡ Err e → n < 2 ^ 64 → decimal n ≡ field → ⊥
decimal-unparsed field read e n parses is fits same =
    let found : read ≡ Ok n = parse-decimal 64 n field read fits fits (sym same) parses in
    cc (sym is ∙ found)

-- a field that is the text of a number parses to it
pub decimal-is : {E : Type 0} (field : List ℕ) (read : Result ℕ E) (number n : ℕ)
    → ParsesUnsigned 64 10 field read → read ≡ Ok number → n < 2 ^ 64 → decimal n ≡ field → number ≡ n
decimal-is field read number n parses is fits same =
    let found : read ≡ Ok n = parse-decimal 64 n field read fits fits (sym same) parses in
    cc

-- an address's text has its four octets
IsDotted-octets : (octets : List ℕ) → length octets ≡ 4 → ((k : ℕ) → get_or octets k 0 < 2 ^ 8) → IsDotted (ipv4_text octets) octets
IsDotted-octets [] long fit = absurd (omega arith)
IsDotted-octets (a ∷ []) long fit = absurd (omega arith)
IsDotted-octets (a ∷ b ∷ []) long fit = absurd (omega arith)
IsDotted-octets (a ∷ b ∷ c ∷ []) long fit = absurd (omega arith)
IsDotted-octets (a ∷ b ∷ c ∷ d ∷ []) long fit =
    record { a = a; b = b; c = c; d = d; fit = (fit 0, fit 1, fit 2, fit 3); value = refl; spelled = refl }
IsDotted-octets (a ∷ b ∷ c ∷ d ∷ e ∷ rest) long fit = absurd (omega arith)

-- four octets are octets
fitting : (a b c d k : ℕ) → a < 256 → b < 256 → c < 256 → d < 256 → get_or (a ∷ b ∷ c ∷ d ∷ []) k 0 < 2 ^ 8
fitting a b c d zero fa fb fc fd = fa
fitting a b c d (suc zero) fa fb fc fd = fb
fitting a b c d (suc (suc zero)) fa fb fc fd = fc
fitting a b c d (suc (suc (suc zero))) fa fb fc fd = fd
fitting a b c d (suc (suc (suc (suc k)))) fa fb fc fd = omega arith

-- what parsing a field gives is its reading as an address
pub IsReading-address : {E : Type 0} (field : List ℕ) (read : Result Ipv4Addr E) → Parses IsIpv4Text field read
    → IsReading address_text IsIpv4Addr (result_ok read) field
IsReading-address field (Ok address) dotted =
    (ap ipv4_text dotted.value ∙ sym dotted.spelled, (ap length dotted.value, λ k. rw dotted.value (fitting _ _ _ _ k dotted.fit.0 dotted.fit.1 dotted.fit.2 dotted.fit.3)))
IsReading-address field (Err e) none = λ address fits same.
    none address (rw same at (IsDotted-octets (ipv4_octets address) fits.0 fits.1))

-- Which bytes the fields of a line do not hold.
use Rattle.std.proofs.Common.{◌≡◌, ◌≢◌, ℕ, ◌<◌, ◌≤◌, ◌^◌, Bool, true, false, List, [], ◌∷◌, ◌++◌, map, Option, Some, None, slice_index, sym, ap, ◌∙◌, arith, codes}
use Rattle.std.specs.Prelude.{All, IfSome}
use Rattle.std.specs.Fmt.{decimal}
use Rattle.std.specs.Int.{Width}
use Rattle.std.specs.List.{join_with_byte}
use Rattle.std.specs.Net.Addr.{IsIpv4Addr, ipv4_octets}
use Rattle.std.specs.declared.net.Ipv4Addr.{Ipv4Addr}
use Rattle.std.proofs.lemmas.Bool.{false≢true}
use Rattle.std.proofs.lemmas.Bool.Decides.{nat_tests}
use Rattle.std.proofs.lemmas.List.Elements.{All-append, All-cons, All-head, All-nil, All-tail, All-weaker}
use Rattle.hex.specs.Hex.{IsBytes, encode_lower}
use Rattle.dhcp_stream.specs.HexText.{hex_text, is_lower_digit, number_bytes, numbers_text}
use Rattle.dhcp_stream.specs.Number.{address_text}
use Rattle.dhcp_stream.proofs.CodecLaws.{HasNo}
use Rattle.dhcp_stream.proofs.HexNumberLemmas.{IsBytes-number_bytes}
use Rattle.dhcp_stream.proofs.HexTextLemmas.{AllPass-encode_lower}
use Rattle.dhcp_stream.proofs.ValueLemmas.{All-decimal}
use Rattle.dhcp4_msg.specs.declared.route.DhcpV4ClasslessRoute.{DhcpV4ClasslessRoute}
use Rattle.dhcp_script.specs.Field.{flag_text, list_text, or_word}
use Rattle.dhcp_script.specs.Lease4.{IsRoute, route_text}

-- a decimal number holds digits alone
pub HasNo-decimal : (end n : ℕ) → n < 2 ^ 64 → end < 48 → HasNo end (decimal n)
HasNo-decimal end n fits below =
    let digit : ℕ → Type 0 = λ byte. (48 ≤ byte) × (byte ≤ 57) in
    let other : ℕ → Type 0 = λ byte. byte ≢ end in
    All-weaker digit other (λ byte range e. omega arith) (decimal n) (All-decimal n fits)

-- a lower-case digit is at least 48
lower_digit : (end byte : ℕ) → end < 48 → is_lower_digit byte ≡ true → byte ≢ end
lower_digit end byte below passes e = grind (arith, nat_tests)

-- so are the digits of bytes
pub HasNo-encode_lower : (end : ℕ) (bytes : List ℕ) → IsBytes bytes → end < 48 → HasNo end (encode_lower bytes)
HasNo-encode_lower end bytes fits below =
    let passes : ℕ → Type 0 = λ byte. is_lower_digit byte ≡ true in
    let other : ℕ → Type 0 = λ byte. byte ≢ end in
    All-weaker passes other (λ byte pass. lower_digit end byte below pass) (encode_lower bytes) (AllPass-encode_lower bytes fits)

-- bytes in hex, or `-`
pub HasNo-hex_text : (end : ℕ) (bytes : List ℕ) → IsBytes bytes → end < 45 → HasNo end (hex_text bytes)
HasNo-hex_text end [] fits below =
    let other : ℕ → Type 0 = λ byte. byte ≢ end in
    All-cons other 45 [] (λ e. omega arith) (All-nil other)
HasNo-hex_text end (byte ∷ bytes) fits below = HasNo-encode_lower end (byte ∷ bytes) fits (omega arith)

-- numbers of a width in hex, or `-`
pub HasNo-numbers_text : (width : Width) (end : ℕ) (numbers : List ℕ) → end < 45 → HasNo end (numbers_text width numbers)
HasNo-numbers_text width end numbers below = HasNo-hex_text end (number_bytes width numbers) (IsBytes-number_bytes width numbers) below

-- one word or another
pub HasNo-flag : (end : ℕ) (set unset : List ℕ) → HasNo end set → HasNo end unset → (flag : Bool) → HasNo end (flag_text set unset flag)
HasNo-flag end set unset whole whole' true = whole
HasNo-flag end set unset whole whole' false = whole'

-- ---- the same of any byte that they do not hold

-- a decimal number
pub HasNo-number : (end n : ℕ) → n < 2 ^ 64 → (48 ≤ end → end ≤ 57 → ⊥) → HasNo end (decimal n)
HasNo-number end n fits other =
    let digit : ℕ → Type 0 = λ byte. (48 ≤ byte) × (byte ≤ 57) in
    let differs : ℕ → Type 0 = λ byte. byte ≢ end in
    All-weaker digit differs (λ byte range e. other (rw (← e) range.0) (rw (← e) range.1)) (decimal n) (All-decimal n fits)

-- an address: digits and dots
pub HasNo-address : (end : ℕ) (address : Ipv4Addr) → IsIpv4Addr address → end ≢ 46 → (48 ≤ end → end ≤ 57 → ⊥) → HasNo end (address_text address)
HasNo-address end address fits dot other =
    let differs : ℕ → Type 0 = λ byte. byte ≢ end in
    let octets = ipv4_octets address in
    let number : (k : ℕ) → HasNo end (decimal (slice_index octets k)) = λ k. HasNo-number end (slice_index octets k) (let small = fits.1 k in omega arith) other in
    let dots : HasNo end (codes ".") = All-cons differs 46 [] (λ e. dot (sym e)) (All-nil differs) in
    All-append differs (decimal (slice_index octets 0) ++ codes "." ++ decimal (slice_index octets 1) ++ codes "." ++ decimal (slice_index octets 2) ++ codes ".") (decimal (slice_index octets 3))
    (All-append differs (decimal (slice_index octets 0) ++ codes "." ++ decimal (slice_index octets 1) ++ codes "." ++ decimal (slice_index octets 2)) (codes ".")
    (All-append differs (decimal (slice_index octets 0) ++ codes "." ++ decimal (slice_index octets 1) ++ codes ".") (decimal (slice_index octets 2))
    (All-append differs (decimal (slice_index octets 0) ++ codes "." ++ decimal (slice_index octets 1)) (codes ".")
    (All-append differs (decimal (slice_index octets 0) ++ codes ".") (decimal (slice_index octets 1))
    (All-append differs (decimal (slice_index octets 0)) (codes ".") (number 0) dots) (number 1)) dots) (number 2)) dots) (number 3)

-- bytes in hex, or `-`
pub HasNo-hex : (end : ℕ) (bytes : List ℕ) → IsBytes bytes → end ≢ 45 → is_lower_digit end ≡ false → HasNo end (hex_text bytes)
HasNo-hex end [] fits dash other =
    let differs : ℕ → Type 0 = λ byte. byte ≢ end in
    All-cons differs 45 [] (λ e. dash (sym e)) (All-nil differs)
HasNo-hex end (byte ∷ bytes) fits dash other =
    let passes : ℕ → Type 0 = λ byte. is_lower_digit byte ≡ true in
    let differs : ℕ → Type 0 = λ byte. byte ≢ end in
    All-weaker passes differs (λ byte pass e. false≢true (sym other ∙ ap is_lower_digit (sym e) ∙ pass)) (encode_lower (byte ∷ bytes)) (AllPass-encode_lower (byte ∷ bytes) fits)

-- a list, of items that do not hold it
pub HasNo-list : {A : Type 0} (print : A → List ℕ) (Fits : A → Type 0) (end : ℕ) → ((x : A) → Fits x → HasNo end (print x)) → end ≢ 44 → end ≢ 45
    → (xs : List A) → All Fits xs → HasNo end (list_text print xs)
HasNo-list {A} print Fits end whole comma dash [] fit =
    let differs : ℕ → Type 0 = λ byte. byte ≢ end in
    All-cons differs 45 [] (λ e. dash (sym e)) (All-nil differs)
HasNo-list {A} print Fits end whole comma dash (x ∷ xs) fit = joined x xs fit
  where
    differs : ℕ → Type 0
    differs byte = byte ≢ end

    joined : (x : A) (xs : List A) → All Fits (x ∷ xs) → All (λ byte. byte ≢ end) (join_with_byte 44 (print x ∷ map print xs))
    joined x [] fit = whole x (All-head Fits x [] fit)
    joined x (y ∷ ys) fit =
        All-append (λ byte. byte ≢ end) (print x) (44 ∷ join_with_byte 44 (print y ∷ map print ys)) (whole x (All-head Fits x (y ∷ ys) fit))
        (All-cons (λ byte. byte ≢ end) 44 (join_with_byte 44 (print y ∷ map print ys)) (λ e. comma (sym e)) (joined y ys (All-tail Fits x (y ∷ ys) fit)))

-- a route: digits, dots and slashes
pub HasNo-route : (end : ℕ) (route : DhcpV4ClasslessRoute) → IsRoute route → end ≢ 46 → end ≢ 47 → (48 ≤ end → end ≤ 57 → ⊥) → HasNo end (route_text route)
HasNo-route end route fits dot slash other =
    let differs : ℕ → Type 0 = λ byte. byte ≢ end in
    let slashes : HasNo end (codes "/") = All-cons differs 47 [] (λ e. slash (sym e)) (All-nil differs) in
    let width = route.prefix_length in
    let small : width < 2 ^ 64 = (let short = fits.prefix_length in omega arith) in
    All-append differs (address_text route.destination ++ codes "/" ++ decimal width ++ codes "/") (address_text route.router)
    (All-append differs (address_text route.destination ++ codes "/" ++ decimal width) (codes "/")
    (All-append differs (address_text route.destination ++ codes "/") (decimal width)
    (All-append differs (address_text route.destination) (codes "/") (HasNo-address end route.destination fits.destination dot other) slashes)
    (HasNo-number end width small other)) slashes) (HasNo-address end route.router fits.router dot other)

-- a value, or a word where there is none
pub HasNo-or_word : {A : Type 0} (print : A → List ℕ) (Fits : A → Type 0) (end : ℕ) (word : List ℕ) → HasNo end word → ((x : A) → Fits x → HasNo end (print x))
    → (o : Option A) → IfSome o Fits → HasNo end (or_word word print o)
HasNo-or_word print Fits end word whole clear None fits = whole
HasNo-or_word print Fits end word whole clear (Some x) fits = clear x fits

-- a text that does not hold the first byte of a word is not that word
pub other_word : (end : ℕ) (rest text : List ℕ) → HasNo end text → text ≢ end ∷ rest
other_word end rest [] whole e = cc e
other_word end rest (byte ∷ text) whole e =
    let first : byte ≡ end = cc e in
    All-head (λ byte. byte ≢ end) byte text whole first

-- Options that were read: each has the code that its value was read for, and fits.
use Rattle.std.proofs.Common.{◌≡◌, ℕ, ◌+◌, ◌≤◌, true, IsTrue, List, [], ◌∷◌, length, map, take, Option, Some, None, Ok, ok_or, option_map, refl, sym, ap, subst, ◌∙◌, arith, min, length-append, lit≤}
use Rattle.std.proofs.lemmas.List.{length-take, length-map}
use Rattle.std.specs.Borrow.{Bor}
use Rattle.std.specs.Prelude.{IfSome}
use Rattle.std.specs.declared.net.Ipv4Addr.{Ipv4Addr}
use Rattle.std.proofs.lemmas.Bool.{and_from, and_parts, le-leb}
use Rattle.std.proofs.lemmas.Option.{same_Some, none-some}
use Rattle.dhcp_wire.specs.Field.{address_at}
use Rattle.dhcp_wire.specs.Value.{address_in, addresses_in}
use Rattle.dhcp4_msg.specs.declared.option_code.DhcpV4OptionCode.{DhcpV4OptionCode}
use Rattle.dhcp4_msg.specs.declared.option_code.DhcpV4OptionCode.TheVariants as codes
use Rattle.dhcp4_msg.specs.declared.option.DhcpV4Option.{DhcpV4Option}
use Rattle.dhcp4_msg.specs.declared.option.DhcpV4Option.TheVariants.{Pad, SubnetMask, Router, DomainNameServer, HostName, DomainName, InterfaceMtu, BroadcastAddress, NtpServers, RequestedIpAddress, IpAddressLeaseTime, MessageType, ServerIdentifier, ParameterRequestList, Message, RenewalTime, RebindingTime, ClientIdentifier, ClasslessStaticRoute, End, Unknown}
use Rattle.dhcp4_msg.specs.OptionCode.{code_of, number_of}
use Rattle.dhcp4_msg.specs.Value.{value_of, written_value, written_addresses, written_text, option_code, option_number, fits, has_own_code, is_nameless, IsOfCode, IsKeptAs}
use Rattle.dhcp_wire.proofs.FieldLemmas.{mapped, address_at-split}
use Rattle.dhcp4_msg.proofs.RouteLemmas.{written_routes-routes_within}
use Rattle.dhcp4_msg.proofs.CodeLemmas.{number_of-code_of, nameless}

-- what holds of each option that is made of a value holds of the option that is made of the value read
pub made : {A : Type 0} (make : A → DhcpV4Option) (P : DhcpV4Option → Type 0) (read : Option A) (option : DhcpV4Option) → ((x : A) → read ≡ Some x → P (make x)) → option_map make read ≡ Some option → P option
made make P None option holds is = absurd (none-some _ is)
made make P (Some x) option holds is = subst P (same_Some _ _ is) (holds x refl)

-- an option of one code, made of the value read
coded : {A : Type 0} (code : DhcpV4OptionCode) (make : A → DhcpV4Option) (read : Option A) (option : DhcpV4Option) → ((x : A) → option_code (make x) ≡ code) → option_map make read ≡ Some option → option_code option ≡ code
coded code make read option has is = made make (λ option. option_code option ≡ code) read option (λ x _. has x) is

-- an option that was read for the code of a number has that code
pub option_code-value_of : (number : ℕ) (code : DhcpV4OptionCode) (value : List ℕ) (option : DhcpV4Option) → code_of number ≡ code → value_of code value ≡ Some option → option_code option ≡ code
unfolding value_of option_code number_of
option_code-value_of number codes.Pad value option own is = ap option_code (sym (same_Some _ _ is))
option_code-value_of number codes.SubnetMask value option own is = coded codes.SubnetMask SubnetMask _ option (λ x. refl) is
option_code-value_of number codes.Router value option own is = coded codes.Router Router (Some (addresses_in value)) option (λ x. refl) is
option_code-value_of number codes.DomainNameServer value option own is = coded codes.DomainNameServer DomainNameServer (Some (addresses_in value)) option (λ x. refl) is
option_code-value_of number codes.HostName value option own is = coded codes.HostName HostName _ option (λ x. refl) is
option_code-value_of number codes.DomainName value option own is = coded codes.DomainName DomainName _ option (λ x. refl) is
option_code-value_of number codes.InterfaceMtu value option own is = coded codes.InterfaceMtu InterfaceMtu _ option (λ x. refl) is
option_code-value_of number codes.BroadcastAddress value option own is = coded codes.BroadcastAddress BroadcastAddress _ option (λ x. refl) is
option_code-value_of number codes.NtpServers value option own is = coded codes.NtpServers NtpServers (Some (addresses_in value)) option (λ x. refl) is
option_code-value_of number codes.RequestedIpAddress value option own is = coded codes.RequestedIpAddress RequestedIpAddress _ option (λ x. refl) is
option_code-value_of number codes.IpAddressLeaseTime value option own is = coded codes.IpAddressLeaseTime IpAddressLeaseTime _ option (λ x. refl) is
option_code-value_of number codes.MessageType value option own is = coded codes.MessageType MessageType _ option (λ x. refl) is
option_code-value_of number codes.ServerIdentifier value option own is = coded codes.ServerIdentifier ServerIdentifier _ option (λ x. refl) is
option_code-value_of number codes.ParameterRequestList value option own is = coded codes.ParameterRequestList ParameterRequestList (Some (map code_of value)) option (λ x. refl) is
option_code-value_of number codes.Message value option own is = coded codes.Message Message _ option (λ x. refl) is
option_code-value_of number codes.RenewalTime value option own is = coded codes.RenewalTime RenewalTime _ option (λ x. refl) is
option_code-value_of number codes.RebindingTime value option own is = coded codes.RebindingTime RebindingTime _ option (λ x. refl) is
option_code-value_of number codes.ClientIdentifier value option own is = coded codes.ClientIdentifier ClientIdentifier (Some value) option (λ x. refl) is
option_code-value_of number codes.ClasslessStaticRoute value option own is = coded codes.ClasslessStaticRoute ClasslessStaticRoute _ option (λ x. refl) is
option_code-value_of number codes.End value option own is = ap option_code (sym (same_Some _ _ is))
option_code-value_of number (codes.Other other) value option own is =
    let same : other ≡ number = sym (ap number_of own) ∙ number_of-code_of number in
    ap option_code (sym (same_Some _ _ is)) ∙ ap code_of same ∙ own

-- an option that was read for a number has that number
pub option_number_value_of : (number : ℕ) (value : List ℕ) (option : DhcpV4Option) → value_of (code_of number) value ≡ Some option → option_number option ≡ number
option_number_value_of number value option is = ap number_of (option_code-value_of number _ value option refl is) ∙ number_of-code_of number

-- the kinds of values that were read, as they are written

-- addresses take no more bytes than they were read from
length-written_addresses : (value : List ℕ) → length (written_addresses (addresses_in value)) ≤ length value
length-written_addresses (a ∷ b ∷ c ∷ d ∷ value) = let later = length-written_addresses value in omega arith
length-written_addresses [] = omega arith
length-written_addresses (a ∷ []) = omega arith
length-written_addresses (a ∷ b ∷ []) = omega arith
length-written_addresses (a ∷ b ∷ c ∷ []) = omega arith

-- an address has four octets
length-address_in : (value : List ℕ) (address : Ipv4Addr) → address_in value ≡ Some address → length address.octets ≡ 4
length-address_in value address is =
    let found = mapped (λ read. read.0) (address_at value) address is in
    ap (λ octets. length octets) (ap (λ read. read.octets) (sym found.2)) ∙ (address_at-split value found.0.1 found.0.0 found.1).1

-- a text and its zero byte are 255 bytes at most
length-written_text : (text : List ℕ) → length (written_text text) ≤ 255
length-written_text text = omega (arith, min, length-append (take 254 text) (0 ∷ []), length-take 254 text)

-- an option of one kind, whose value is short where it was read
short : {A : Type 0} (make : A → DhcpV4Option) (read : Option A) (option : DhcpV4Option) → ((x : A) → read ≡ Some x → (length (written_value (make x)) ≤ 255) × (has_own_code (make x) ≡ true)) → option_map make read ≡ Some option → IsTrue (fits option)
unfolding fits
short make read option holds is =
    made make (λ option. IsTrue (fits option)) read option
    (λ x found. let parts = holds x found in and_from _ _ (le-leb _ _ parts.0) parts.1) is

-- an option that was read for a number from a value of at most 255 bytes fits
pub fits-value_of : (number : ℕ) (code : DhcpV4OptionCode) (value : List ℕ) (option : DhcpV4Option) → code_of number ≡ code → length value ≤ 255 → value_of code value ≡ Some option → IsTrue (fits option)
unfolding value_of written_value number_of
fits-value_of number codes.Pad value option own few is = short (λ x. x) (Some Pad) option (λ x found. subst (λ option. (length (written_value option) ≤ 255) × (has_own_code option ≡ true)) (same_Some _ _ found) (lit≤ tt, refl)) is
fits-value_of number codes.SubnetMask value option own few is = short SubnetMask _ option (λ x found. (omega (arith, length-address_in value x found), refl)) is
fits-value_of number codes.Router value option own few is = short Router (Some (addresses_in value)) option (λ x found. (subst (λ addresses. length (written_addresses addresses) ≤ 255) (same_Some _ _ found) (omega (arith, length-written_addresses value)), refl)) is
fits-value_of number codes.DomainNameServer value option own few is = short DomainNameServer (Some (addresses_in value)) option (λ x found. (subst (λ addresses. length (written_addresses addresses) ≤ 255) (same_Some _ _ found) (omega (arith, length-written_addresses value)), refl)) is
fits-value_of number codes.HostName value option own few is = short HostName _ option (λ x found. (length-written_text x, refl)) is
fits-value_of number codes.DomainName value option own few is = short DomainName _ option (λ x found. (length-written_text x, refl)) is
fits-value_of number codes.InterfaceMtu value option own few is = short InterfaceMtu _ option (λ x found. (lit≤ tt, refl)) is
fits-value_of number codes.BroadcastAddress value option own few is = short BroadcastAddress _ option (λ x found. (omega (arith, length-address_in value x found), refl)) is
fits-value_of number codes.NtpServers value option own few is = short NtpServers (Some (addresses_in value)) option (λ x found. (subst (λ addresses. length (written_addresses addresses) ≤ 255) (same_Some _ _ found) (omega (arith, length-written_addresses value)), refl)) is
fits-value_of number codes.RequestedIpAddress value option own few is = short RequestedIpAddress _ option (λ x found. (omega (arith, length-address_in value x found), refl)) is
fits-value_of number codes.IpAddressLeaseTime value option own few is = short IpAddressLeaseTime _ option (λ x found. (lit≤ tt, refl)) is
fits-value_of number codes.MessageType value option own few is = short MessageType _ option (λ x found. (lit≤ tt, refl)) is
fits-value_of number codes.ServerIdentifier value option own few is = short ServerIdentifier _ option (λ x found. (omega (arith, length-address_in value x found), refl)) is
fits-value_of number codes.ParameterRequestList value option own few is = short ParameterRequestList (Some (map code_of value)) option (λ x found. (subst (λ codes. length (map number_of codes) ≤ 255) (same_Some _ _ found) (omega (arith, length-map (map code_of value) number_of, length-map value code_of)), refl)) is
fits-value_of number codes.Message value option own few is = short Message _ option (λ x found. (length-written_text x, refl)) is
fits-value_of number codes.RenewalTime value option own few is = short RenewalTime _ option (λ x found. (lit≤ tt, refl)) is
fits-value_of number codes.RebindingTime value option own few is = short RebindingTime _ option (λ x found. (lit≤ tt, refl)) is
fits-value_of number codes.ClientIdentifier value option own few is = short ClientIdentifier (Some value) option (λ x found. (subst (λ bytes. length bytes ≤ 255) (same_Some _ _ found) few, refl)) is
fits-value_of number codes.ClasslessStaticRoute value option own few is = short ClasslessStaticRoute _ option (λ x found. (subst (λ bytes. length bytes ≤ 255) (sym (written_routes-routes_within _ value x found)) few, refl)) is
fits-value_of number codes.End value option own few is = short (λ x. x) (Some End) option (λ x found. subst (λ option. (length (written_value option) ≤ 255) × (has_own_code option ≡ true)) (same_Some _ _ found) (lit≤ tt, refl)) is
fits-value_of number (codes.Other other) value option own few is =
    let same : other ≡ number = sym (ap number_of own) ∙ number_of-code_of number in
    let nameless = ap (λ n. is_nameless (code_of n)) same ∙ ap is_nameless own in
    short (λ raw. Unknown (record { code = other; raw = raw })) (Some value) option
    (λ raw found. (subst (λ bytes. length bytes ≤ 255) (same_Some _ _ found) few, nameless)) is

-- what is taken from a reading as a value was read
pub some_from_ok : {A E : Type 0} (read : Option A) (e : E) (x : A) → ok_or read e ≡ Ok x → read ≡ Some x
some_from_ok None e x is = cc
some_from_ok (Some y) e x is = cc

-- how many bytes a text and its zero byte have
pub text_len : (text : List ℕ) → length (written_text text) ≡ min (length text) 254 + 1
text_len text = omega (arith, min, length-append (take 254 text) (0 ∷ []), length-take 254 text)

-- ---- an option that fits, by its code

-- the code of an option is the code of its number
code_of-option_number : (option : DhcpV4Option) → code_of (option_number option) ≡ option_code option
unfolding option_code number_of code_of
code_of-option_number (Unknown option) = ap code_of (number_of-code_of option.code)
code_of-option_number option = refl

-- an option that fits is of its own code
of_own_code : (option : DhcpV4Option) → IsTrue (fits option) → IsOfCode (option_code option) option
unfolding option_code fits
of_own_code Pad fit = refl
of_own_code End fit = refl
of_own_code (SubnetMask x) fit = (x, refl)
of_own_code (Router x) fit = (x, refl)
of_own_code (DomainNameServer x) fit = (x, refl)
of_own_code (HostName x) fit = (x, refl)
of_own_code (DomainName x) fit = (x, refl)
of_own_code (InterfaceMtu x) fit = (x, refl)
of_own_code (BroadcastAddress x) fit = (x, refl)
of_own_code (NtpServers x) fit = (x, refl)
of_own_code (RequestedIpAddress x) fit = (x, refl)
of_own_code (IpAddressLeaseTime x) fit = (x, refl)
of_own_code (MessageType x) fit = (x, refl)
of_own_code (ServerIdentifier x) fit = (x, refl)
of_own_code (ParameterRequestList x) fit = (x, refl)
of_own_code (Message x) fit = (x, refl)
of_own_code (RenewalTime x) fit = (x, refl)
of_own_code (RebindingTime x) fit = (x, refl)
of_own_code (ClientIdentifier x) fit = (x, refl)
of_own_code (ClasslessStaticRoute x) fit = (x, refl)
of_own_code (Unknown x) fit =
    subst (λ code. IsOfCode code (Unknown x)) (sym (nameless x.code _ refl (and_parts _ _ fit).1)) (number_of-code_of x.code)

-- an option that fits is of each code that has its number
of_code : (code : DhcpV4OptionCode) (option : DhcpV4Option) → option_number option ≡ number_of code → IsTrue (fits option) → IsOfCode code option
unfolding number_of code_of
of_code (codes.Other number) option own fit = own
of_code code option own fit =
    subst (λ code. IsOfCode code option) (sym (code_of-option_number option) ∙ ap code_of own) (of_own_code option fit)

-- an option that fits is kept under each code that has its number
pub kept_as : (code : DhcpV4OptionCode) (option : DhcpV4Option) → option_number option ≡ number_of code → IsTrue (fits option) → IsKeptAs code option
kept_as code option own fit = record { own = own; fit = fit; kind = of_code code option own fit }

-- the same of what a search finds under that number
pub kept_found : (code : DhcpV4OptionCode) (number : ℕ) (found : Option (Bor DhcpV4Option)) → number ≡ number_of code → IfSome found (λ option. option_number option.now ≡ number) → IfSome found (λ option. IsTrue (fits option.now)) → IfSome found (λ option. IsKeptAs code option.now)
kept_found code number None same own fit = tt
kept_found code number (Some option) same own fit = kept_as code option.now (own ∙ same) fit

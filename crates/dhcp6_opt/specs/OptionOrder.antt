-- The order of options: by code number, then by variant and fields.
use Rattle.std.proofs.Common.{refl, sym, ap, ◌∙◌}
use Rattle.std.proofs.lemmas.Bool.{and_parts, eqb-true, false≢true}
use Rattle.std.specs.Prelude.{◌≡◌, Bool, true, false}
use Rattle.std.specs.Borrow.{Bor}
use Rattle.std.specs.Cmp.{nat_cmp_total, tied_itself}
use Rattle.std.specs.Ordering.{eq_by_cmp, is_eq, nat_cmp, on, ordering_then, then_cmp}
use Rattle.std.specs.declared.cmp.Ordering.{Ordering}
use Rattle.std.specs.declared.cmp.Ordering.TheVariants.{Less, Equal, Greater}
use Rattle.dhcp6_opt.specs.contracts.option.DhcpV6OptionPartialEq.TheImpl as options
use Rattle.dhcp6_opt.specs.contracts.option.order.FieldsOrd.TheImpl as orders
use Rattle.dhcp6_opt.specs.contracts.option.order.FieldsOrd.TheImpl.Laws as laws
use Rattle.dhcp6_opt.specs.contracts.option.order.FieldsPartialEq.TheImpl as equals
use Rattle.dhcp6_opt.specs.declared.option.DhcpV6Option.{DhcpV6Option}
use Rattle.dhcp6_opt.specs.declared.option.DhcpV6Option.TheVariants.{ClientId, ServerId, IANA, IATA, IAPD, OptionRequestOption, IAAddr, IAPrefix, Preference, ElapsedTime, ServerUnicast, StatusCode, RapidCommit, DnsServers, DomainList, NtpServer, Unknown}
use Rattle.dhcp6_opt.specs.declared.option.order.Fields.{Fields}
use Rattle.dhcp6_opt.specs.declared.option.order.Fields.TheVariants as fields
use Rattle.dhcp6_opt.specs.OptionCode.{number_of, code_of}
use Rattle.dhcp6_opt.specs.Value.{option_code, option_number}

-- a reference to a value; references are compared by what they refer to
abbrev reference : {X : Type 0} → X → Bor X
reference x = record { ref_ptr = (0, 0); now = x }

-- the variant and the fields of an option, which are ordered by variant as declared, and then by
-- the fields as declared
unfoldable pub fields_of : DhcpV6Option → Fields
fields_of (ClientId duid) = fields.ClientId (reference duid)
fields_of (ServerId duid) = fields.ServerId (reference duid)
fields_of (IANA ia) = fields.IANA (reference ia)
fields_of (IATA ia) = fields.IATA (reference ia)
fields_of (IAPD ia) = fields.IAPD (reference ia)
fields_of (OptionRequestOption requested) = fields.OptionRequestOption (reference requested)
fields_of (IAAddr address) = fields.IAAddr (reference address)
fields_of (IAPrefix prefix) = fields.IAPrefix (reference prefix)
fields_of (Preference number) = fields.Preference number
fields_of (ElapsedTime hundredths) = fields.ElapsedTime hundredths
fields_of (ServerUnicast address) = fields.ServerUnicast address
fields_of (StatusCode status) = fields.StatusCode (reference status)
fields_of RapidCommit = fields.RapidCommit
fields_of (DnsServers addresses) = fields.DnsServers (reference addresses)
fields_of (DomainList names) = fields.DomainList (reference names)
fields_of (NtpServer servers) = fields.NtpServer (reference servers)
fields_of (Unknown option) = fields.Unknown (reference option)

-- ---- the order agrees with the equality

-- options are equal if and only if their variants and fields are
same_fields : (x y : DhcpV6Option)
    → options.ghosts.eq x y ≡ equals.ghosts.eq (fields_of x) (fields_of y)
unfolding fields_of
same_fields (ClientId x) (ClientId y) = refl
same_fields (ServerId x) (ServerId y) = refl
same_fields (IANA x) (IANA y) = refl
same_fields (IATA x) (IATA y) = refl
same_fields (IAPD x) (IAPD y) = refl
same_fields (OptionRequestOption x) (OptionRequestOption y) = refl
same_fields (IAAddr x) (IAAddr y) = refl
same_fields (IAPrefix x) (IAPrefix y) = refl
same_fields (Preference x) (Preference y) = refl
same_fields (ElapsedTime x) (ElapsedTime y) = refl
same_fields (ServerUnicast x) (ServerUnicast y) = refl
same_fields (StatusCode x) (StatusCode y) = refl
same_fields (DnsServers x) (DnsServers y) = refl
same_fields (DomainList x) (DomainList y) = refl
same_fields (NtpServer x) (NtpServer y) = refl
same_fields (Unknown x) (Unknown y) = refl
same_fields RapidCommit RapidCommit = refl
same_fields x y = refl

-- equal options have one number
pub same_number : (x y : DhcpV6Option)
    → options.ghosts.eq x y ≡ true → option_number x ≡ option_number y
unfolding option_code
same_number (ClientId x) (ClientId y) is = refl
same_number (ServerId x) (ServerId y) is = refl
same_number (IANA x) (IANA y) is = refl
same_number (IATA x) (IATA y) is = refl
same_number (IAPD x) (IAPD y) is = refl
same_number (OptionRequestOption x) (OptionRequestOption y) is = refl
same_number (IAAddr x) (IAAddr y) is = refl
same_number (IAPrefix x) (IAPrefix y) is = refl
same_number (Preference x) (Preference y) is = refl
same_number (ElapsedTime x) (ElapsedTime y) is = refl
same_number (ServerUnicast x) (ServerUnicast y) is = refl
same_number (StatusCode x) (StatusCode y) is = refl
same_number (DnsServers x) (DnsServers y) is = refl
same_number (DomainList x) (DomainList y) is = refl
same_number (NtpServer x) (NtpServer y) is = refl
same_number RapidCommit RapidCommit is = refl
same_number (Unknown x) (Unknown y) is =
    ap (λ n. number_of (code_of n)) (eqb-true x.code y.code (and_parts _ _ is).0)
same_number x y is = absurd (false≢true is)

not_tied : (number fields : Ordering)
    → is_eq fields ≡ false → is_eq (ordering_then number fields) ≡ false
not_tied Less fields apart = refl
not_tied Equal fields apart = apart
not_tied Greater fields apart = refl

-- options are equal if and only if the order does not tell them apart
pub same_ties : (x y : DhcpV6Option)
    → options.ghosts.eq x y
    ≡ eq_by_cmp (then_cmp (on option_number nat_cmp) (on fields_of orders.ghosts.cmp)) x y
same_ties x y = by_answer (options.ghosts.eq x y) refl
  where
    fields : Ordering
    fields = orders.ghosts.cmp (fields_of x) (fields_of y)

    tied : options.ghosts.eq x y ≡ is_eq fields
    tied = same_fields x y ∙ laws.matches_eq-law (fields_of x) (fields_of y)

    by_answer : (equal : Bool)
        → options.ghosts.eq x y ≡ equal
        → options.ghosts.eq x y
        ≡ is_eq (ordering_then (nat_cmp (option_number x) (option_number y)) fields)
    by_answer true is =
        let number = option_number x in
        tied ∙ ap (λ order. is_eq (ordering_then order fields))
        (sym (ap (nat_cmp number) (sym (same_number x y is)) ∙ tied_itself nat_cmp_total number))
    by_answer false is =
        let order = nat_cmp (option_number x) (option_number y) in
        is ∙ sym (not_tied order fields (sym tied ∙ is))

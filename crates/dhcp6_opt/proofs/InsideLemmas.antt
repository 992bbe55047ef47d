-- What stands inside some bytes, one option after the other.
use Rattle.std.proofs.Common.{◌≡◌, ℕ, List, [], ◌∷◌, length, Option, Some, None, refl, sym, ap, ◌∙◌, arith}
use Rattle.dhcp_wire.specs.Field.{◌>>=◌}
use Rattle.dhcp_wire.specs.RawOption.{RawOptionParts, filling_options, raw_option_at}
use Rattle.dhcp_wire.specs.declared.raw_option.OptionFormat.TheVariants.{DhcpV6}
use Rattle.dhcp_wire.proofs.FillingLemmas.{filling_options-nil, filling_options-read, filling_options-refused}
use Rattle.dhcp6_opt.specs.AddressKind.{AddressKind}
use Rattle.dhcp6_opt.specs.declared.ia.inside.InsideIa.{InsideIa}
use Rattle.dhcp6_opt.specs.Ia.{with_inner, with_inners}

module _ {X : Type 0} (kind : AddressKind X) where
  -- what stands inside with the options that fill some bytes
  abbrev pub inside_after : InsideIa X → List ℕ → Option (InsideIa X)
  inside_after inside bytes = filling_options DhcpV6 bytes >>= with_inners kind inside

  -- with one option that reads, it is what the rest adds
  pub inside_more : (inside next : InsideIa X) (bytes later : List ℕ) (raw : RawOptionParts) (all : Option (InsideIa X)) → inside_after inside bytes ≡ all → raw_option_at DhcpV6 bytes ≡ Some (raw, later) → with_inner kind inside raw ≡ Some next → inside_after next later ≡ all
  inside_more inside next bytes later raw all so_far is reads =
      sym (joined (filling_options DhcpV6 later)) ∙ ap (λ options. options >>= with_inners kind inside) (sym (filling_options-read DhcpV6 bytes later raw refl is)) ∙ so_far
    where
      joined : (later : Option (List RawOptionParts)) → ((later >>= λ more. Some (raw ∷ more)) >>= with_inners kind inside) ≡ (later >>= with_inners kind next)
      joined None = refl
      joined (Some more) = ap (λ read. read >>= λ next. with_inners kind next more) reads

  -- with one that may not stand there, or does not read, there is nothing
  pub inside_refused : (inside : InsideIa X) (bytes later : List ℕ) (raw : RawOptionParts) (all : Option (InsideIa X)) → inside_after inside bytes ≡ all → raw_option_at DhcpV6 bytes ≡ Some (raw, later) → with_inner kind inside raw ≡ None → all ≡ None
  inside_refused inside bytes later raw all so_far is refused =
      sym so_far ∙ ap (λ options. options >>= with_inners kind inside) (filling_options-read DhcpV6 bytes later raw refl is) ∙ joined (filling_options DhcpV6 later)
    where
      joined : (later : Option (List RawOptionParts)) → ((later >>= λ more. Some (raw ∷ more)) >>= with_inners kind inside) ≡ None
      joined None = refl
      joined (Some more) = ap (λ read. read >>= λ next. with_inners kind next more) refused

  -- nor where no whole option is at the front of bytes that are left
  pub inside_truncated : (inside : InsideIa X) (bytes : List ℕ) (all : Option (InsideIa X)) → inside_after inside bytes ≡ all → (length bytes ≡ 0 → ⊥) → raw_option_at DhcpV6 bytes ≡ None → all ≡ None
  inside_truncated inside bytes all so_far some is =
      sym so_far ∙ ap (λ options. options >>= with_inners kind inside) (filling_options-refused DhcpV6 bytes (λ none. some (ap length none)) is)

  -- at the end it is what it is
  pub inside_end : (inside : InsideIa X) (bytes : List ℕ) (all : Option (InsideIa X)) → inside_after inside bytes ≡ all → length bytes ≡ 0 → all ≡ Some inside
  inside_end inside [] all so_far is = sym so_far ∙ ap (λ options. options >>= with_inners kind inside) (filling_options-nil DhcpV6)
  inside_end inside (byte ∷ bytes) all so_far is = absurd (omega (arith, is))

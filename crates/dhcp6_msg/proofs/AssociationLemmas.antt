-- The identity associations that a client sends can be written.
use Rattle.std.proofs.Common.{◌≡◌, ℕ, ◌≤◌, length, length-append, IsTrue, Some, None, refl, arith}
use Rattle.std.specs.Net.Addr.{ipv6_octets}
use Rattle.std.specs.declared.net.Ipv6Addr.{Ipv6Addr}
use Rattle.std.proofs.lemmas.Bool.{le-leb}
use Rattle.dhcp6_opt.specs.declared.ia.DhcpV6OptionIaNa.{DhcpV6OptionIaNa}
use Rattle.dhcp6_opt.specs.declared.ia.DhcpV6OptionIaTa.{DhcpV6OptionIaTa}
use Rattle.dhcp6_opt.specs.declared.ia.pd.DhcpV6OptionIaPd.{DhcpV6OptionIaPd}
use Rattle.dhcp6_opt.specs.declared.ia.address.DhcpV6OptionIaAddr.{DhcpV6OptionIaAddr}
use Rattle.dhcp6_opt.specs.declared.ia.prefix.DhcpV6OptionIaPrefix.{DhcpV6OptionIaPrefix}
use Rattle.dhcp6_opt.specs.declared.option.DhcpV6Option.TheVariants.{IANA, IATA, IAPD}
use Rattle.dhcp6_opt.specs.Ia.{plain_address, plain_prefix, unspecified, written_ia_address, written_ia_prefix, written_ia_na, written_ia_ta, written_ia_pd}
use Rattle.dhcp6_opt.specs.Value.{fits, written_value}
use Rattle.dhcp6_opt.proofs.WrittenLemmas.{length-as_option}

-- options whose values are short
na_short : (ia : DhcpV6OptionIaNa) → length (written_ia_na ia) ≤ 65535 → IsTrue (fits (IANA ia))
unfolding fits written_value
na_short ia short = rw (le-leb _ _ short) refl

ta_short : (ia : DhcpV6OptionIaTa) → length (written_ia_ta ia) ≤ 65535 → IsTrue (fits (IATA ia))
unfolding fits written_value
ta_short ia short = rw (le-leb _ _ short) refl

pd_short : (ia : DhcpV6OptionIaPd) → length (written_ia_pd ia) ≤ 65535 → IsTrue (fits (IAPD ia))
unfolding fits written_value
pd_short ia short = rw (le-leb _ _ short) refl

-- how long addresses and prefixes without a status are
pub length_of_address : (address : Ipv6Addr) (preferred valid : ℕ) → length (ipv6_octets address) ≡ 16 →
    length (written_ia_address (plain_address address preferred valid)) ≡ 24
unfolding written_ia_address
length_of_address address preferred valid whole = simp length-append (omega (arith, whole))

pub length_of_prefix : (prefix : Ipv6Addr) (prefix_len preferred valid : ℕ) → length (ipv6_octets prefix) ≡ 16 →
    length (written_ia_prefix (plain_prefix prefix prefix_len preferred valid)) ≡ 25
unfolding written_ia_prefix
length_of_prefix prefix prefix_len preferred valid whole = simp length-append (omega (arith, whole))

-- associations with an address or a prefix, and no status
pub na_fits : (iaid t1 t2 : ℕ) (address : DhcpV6OptionIaAddr) → length (written_ia_address address) ≡ 24 →
    IsTrue (fits (IANA record { iaid = iaid; t1_sec = t1; t2_sec = t2; address = Some address; status = None }))
unfolding written_ia_na
na_fits iaid t1 t2 address len = na_short _ (simp length-append (omega (arith, length-as_option 5 (written_ia_address address), len)))

pub ta_fits : (iaid : ℕ) (address : DhcpV6OptionIaAddr) → length (written_ia_address address) ≡ 24 →
    IsTrue (fits (IATA record { iaid = iaid; address = Some address; status = None }))
unfolding written_ia_ta
ta_fits iaid address len = ta_short _ (simp length-append (omega (arith, length-as_option 5 (written_ia_address address), len)))

pub pd_fits : (iaid t1 t2 : ℕ) (prefix : DhcpV6OptionIaPrefix) → length (written_ia_prefix prefix) ≡ 25 →
    IsTrue (fits (IAPD record { iaid = iaid; t1_sec = t1; t2_sec = t2; prefix = Some prefix; status = None }))
unfolding written_ia_pd
pd_fits iaid t1 t2 prefix len = pd_short _ (simp length-append (omega (arith, length-as_option 26 (written_ia_prefix prefix), len)))

-- associations with nothing inside
pub na_empty_fits : (iaid : ℕ) → IsTrue (fits (IANA record { iaid = iaid; t1_sec = 0; t2_sec = 0; address = None; status = None }))
unfolding written_ia_na
na_empty_fits iaid = na_short _ (simp length-append (omega arith))

pub ta_empty_fits : (iaid : ℕ) → IsTrue (fits (IATA record { iaid = iaid; address = None; status = None }))
unfolding written_ia_ta
ta_empty_fits iaid = ta_short _ (simp length-append (omega arith))

-- the hint of the length of a prefix
pub hint_fits : (iaid prefix_len : ℕ) → IsTrue (fits (IAPD record { iaid = iaid; t1_sec = 0; t2_sec = 0; prefix = Some (plain_prefix unspecified prefix_len 0 0); status = None }))
hint_fits iaid prefix_len = pd_fits iaid 0 0 _ (length_of_prefix unspecified prefix_len 0 0 refl)

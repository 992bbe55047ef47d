-- IPv6 addresses are one to one with their octets.
use Rattle.std.proofs.Common.{◌≡◌, ℕ, zero, suc, ◌+◌, ◌*◌, ◌/◌, ◌%◌, ◌<◌, ◌^◌, List, [], ◌∷◌, length, slice_index, refl, ap, ◌∙◌, arith}
use Rattle.std.specs.Net.Addr.{IsIpv6Addr, ipv6_octets, ipv6_segments, octets_of, segments_of}
use Rattle.std.specs.declared.net.Ipv6Addr.{Ipv6Addr}
use Rattle.hex.specs.Hex.{IsBytes, encode_lower}
use Rattle.dhcp_wire.proofs.FieldLaws.{length-octets_of}
use Rattle.dhcp_stream.specs.HexText.{AreOctets, address6_text}

-- two octets for each segment give them back
octets_of-segments_of : (n : ℕ) (octets : List ℕ) → length octets ≡ 2 * n → IsBytes octets → octets_of (segments_of octets) ≡ octets
octets_of-segments_of zero [] long fit = refl
octets_of-segments_of zero (a ∷ octets) long fit = absurd (omega arith)
octets_of-segments_of (suc n) [] long fit = absurd (omega arith)
octets_of-segments_of (suc n) (a ∷ []) long fit = absurd (omega arith)
octets_of-segments_of (suc n) (a ∷ b ∷ octets) long fit =
    let first : a < 256 = fit 0 in
    let second : b < 256 = fit 1 in
    let high : (a * 256 + b) / 256 ≡ a = omega arith in
    let low : (a * 256 + b) % 256 ≡ b = omega arith in
    rw (high, low, octets_of-segments_of n octets (omega arith) (λ i. fit (suc (suc i)))) refl

-- and two octets for each segment are those that it has
pub segments_of-octets_of : (segments : List ℕ) → ((k : ℕ) → slice_index segments k < 2 ^ 16) → segments_of (octets_of segments) ≡ segments
segments_of-octets_of [] small = refl
segments_of-octets_of (segment ∷ segments) small =
    let whole : segment / 256 * 256 + segment % 256 ≡ segment = omega arith in
    rw (whole, segments_of-octets_of segments (λ k. small (suc k))) refl

-- half as many segments as octets
length-segments_of : (n : ℕ) (octets : List ℕ) → length octets ≡ 2 * n → length (segments_of octets) ≡ n
length-segments_of zero [] long = refl
length-segments_of zero (a ∷ octets) long = absurd (omega arith)
length-segments_of (suc n) [] long = absurd (omega arith)
length-segments_of (suc n) (a ∷ []) long = absurd (omega arith)
length-segments_of (suc n) (a ∷ b ∷ octets) long = ap suc (length-segments_of n octets (omega arith))

-- two octets make a number of 16 bits
pub segments-small : (octets : List ℕ) → IsBytes octets → (k : ℕ) → slice_index (segments_of octets) k < 2 ^ 16
segments-small [] fit k = omega arith
segments-small (a ∷ []) fit k = omega arith
segments-small (a ∷ b ∷ octets) fit zero =
    let first : a < 256 = fit 0 in
    let second : b < 256 = fit 1 in
    omega arith
segments-small (a ∷ b ∷ octets) fit (suc k) = segments-small octets (λ i. fit (suc (suc i))) k

-- the octets of segments are bytes
IsBytes-octets_of : (segments : List ℕ) → ((k : ℕ) → slice_index segments k < 2 ^ 16) → IsBytes (octets_of segments)
IsBytes-octets_of [] small i = omega arith
IsBytes-octets_of (segment ∷ segments) small zero = let first : segment < 2 ^ 16 = small 0 in omega arith
IsBytes-octets_of (segment ∷ segments) small (suc zero) = omega arith
IsBytes-octets_of (segment ∷ segments) small (suc (suc i)) = IsBytes-octets_of segments (λ k. small (suc k)) i

-- an address has sixteen octets
pub AreOctets-ipv6 : (address : Ipv6Addr) → IsIpv6Addr address → AreOctets 16 (ipv6_octets address)
AreOctets-ipv6 address is =
    (length-octets_of (ipv6_segments address) ∙ ap (λ n. 2 * n) is.0, IsBytes-octets_of (ipv6_segments address) is.1)

-- an address of sixteen octets
IsIpv6Addr-octets : (address : Ipv6Addr) (octets : List ℕ) → AreOctets 16 octets → ipv6_segments address ≡ segments_of octets → IsIpv6Addr address
IsIpv6Addr-octets address octets are is =
    (ap (λ (segments : List ℕ). length segments) is ∙ length-segments_of 8 octets are.0, λ k. rw is (segments-small octets are.1 k))

-- it has their text
pub address6-read : (field octets : List ℕ) (address : Ipv6Addr) → (encode_lower octets ≡ field) × AreOctets 16 octets → ipv6_segments address ≡ segments_of octets
    → (address6_text address ≡ field) × IsIpv6Addr address
address6-read field octets address read is = (
  ap encode_lower (ap octets_of is ∙ octets_of-segments_of 8 octets read.1.0 read.1.1) ∙ read.0,
  IsIpv6Addr-octets address octets read.1 is,
)

-- a text that sixteen octets do not have
pub address6-none : (field : List ℕ) → ((octets : List ℕ) → AreOctets 16 octets → encode_lower octets ≡ field → ⊥)
    → (address : Ipv6Addr) → IsIpv6Addr address → address6_text address ≡ field → ⊥
address6-none field none address is e = none (ipv6_octets address) (AreOctets-ipv6 address is) e

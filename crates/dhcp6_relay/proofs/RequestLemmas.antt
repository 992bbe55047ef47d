-- Words that ask for nothing, and words that ask for one thing.
use Rattle.std.proofs.Common.{◌≡◌, ◌≢◌, ℕ, List, [], ◌∷◌, length, refl, sym, ap, ◌∙◌, arith}
use Rattle.std.specs.Prelude.{codes}
use Rattle.std.specs.Net.Addr.{IsIpv6Addr, ipv6_octets, ipv6_segments, segments_of}
use Rattle.std.specs.declared.net.Ipv6Addr.{Ipv6Addr}
use Rattle.hex.specs.Hex.{IsBytes}
use Rattle.dhcp_stream.specs.HexText.{address6_text, hex_text}
use Rattle.dhcp_stream.proofs.HexTextLemmas.{encode_lower-unique, hex_text-unique}
use Rattle.dhcp_stream.proofs.Ipv6Lemmas.{AreOctets-ipv6, segments_of-octets_of}
use Rattle.dhcp6_relay.specs.Request.{AsksFor, AsksForNothing}
use Rattle.dhcp6_relay.specs.declared.request.Request.{Request}
use Rattle.dhcp6_relay.specs.declared.request.Request.TheVariants.{Wrap, Reply, Unwrap}

-- lists of so many words are not the same
other_length : (a b : List (List ℕ)) → length a ≢ length b → a ≢ b
other_length a b other same = other (ap length same)

one_word : (a b : List ℕ) → a ∷ [] ≡ b ∷ [] → a ≡ b
one_word a b same = cc

-- two words, one by one
pub record SameTwo (a b c d : List ℕ) : Type 0 where
  pub first : a ≡ c
  pub second : b ≡ d

two_words : (a b c d : List ℕ) → a ∷ b ∷ [] ≡ c ∷ d ∷ [] → SameTwo a b c d
two_words a b c d same = record { first = cc; second = cc }

-- four words, one by one
pub record SameFour (a b c d e f g h : List ℕ) : Type 0 where
  pub first : a ≡ e
  pub second : b ≡ f
  pub third : c ≡ g
  pub fourth : d ≡ h

four_words : (a b c d e f g h : List ℕ) → a ∷ b ∷ c ∷ d ∷ [] ≡ e ∷ f ∷ g ∷ h ∷ [] → SameFour a b c d e f g h
four_words a b c d e f g h same = record { first = cc; second = cc; third = cc; fourth = cc }

-- a single word that is another
pub other_word : (word : List ℕ) → word ≢ codes "unwrap" → AsksForNothing (word ∷ [])
other_word word other (Wrap link peer interface) asks = other_length _ _ (λ e. omega (arith, e)) asks.0
other_word word other (Reply answer) asks = other_length _ _ (λ e. omega (arith, e)) asks.0
other_word word other Unwrap asks = other (one_word word (codes "unwrap") asks.0)

-- two words of which the first is another
pub other_reply : (word answer : List ℕ) → word ≢ codes "reply" → AsksForNothing (word ∷ answer ∷ [])
other_reply word answer other (Wrap link peer interface) asks = other_length _ _ (λ e. omega (arith, e)) asks.0
other_reply word answer other (Reply bytes) asks = other (two_words word answer (codes "reply") (hex_text bytes) asks.0).first
other_reply word answer other Unwrap asks = other_length _ _ (λ e. omega (arith, e)) asks.0

-- or the second is no bytes
pub no_answer : (word answer : List ℕ) → ((bytes : List ℕ) → IsBytes bytes → hex_text bytes ≡ answer → ⊥) → AsksForNothing (word ∷ answer ∷ [])
no_answer word answer none (Wrap link peer interface) asks = other_length _ _ (λ e. omega (arith, e)) asks.0
no_answer word answer none (Reply bytes) asks = none bytes asks.1 (sym (two_words word answer (codes "reply") (hex_text bytes) asks.0).second)
no_answer word answer none Unwrap asks = other_length _ _ (λ e. omega (arith, e)) asks.0

-- four words of which the first is another
pub other_wrap : (word link peer interface : List ℕ) → word ≢ codes "wrap" → AsksForNothing (word ∷ link ∷ peer ∷ interface ∷ [])
other_wrap word link peer interface other (Wrap l p i) asks =
    other (four_words word link peer interface (codes "wrap") (address6_text l) (address6_text p) (hex_text i) asks.0).first
other_wrap word link peer interface other (Reply bytes) asks = other_length _ _ (λ e. omega (arith, e)) asks.0
other_wrap word link peer interface other Unwrap asks = other_length _ _ (λ e. omega (arith, e)) asks.0

-- or the second is no address
pub no_link : (word link peer interface : List ℕ) → ((address : Ipv6Addr) → IsIpv6Addr address → address6_text address ≡ link → ⊥) → AsksForNothing (word ∷ link ∷ peer ∷ interface ∷ [])
no_link word link peer interface none (Wrap l p i) asks =
    none l asks.1.0 (sym (four_words word link peer interface (codes "wrap") (address6_text l) (address6_text p) (hex_text i) asks.0).second)
no_link word link peer interface none (Reply bytes) asks = other_length _ _ (λ e. omega (arith, e)) asks.0
no_link word link peer interface none Unwrap asks = other_length _ _ (λ e. omega (arith, e)) asks.0

-- or the third
pub no_peer : (word link peer interface : List ℕ) → ((address : Ipv6Addr) → IsIpv6Addr address → address6_text address ≡ peer → ⊥) → AsksForNothing (word ∷ link ∷ peer ∷ interface ∷ [])
no_peer word link peer interface none (Wrap l p i) asks =
    none p asks.1.1 (sym (four_words word link peer interface (codes "wrap") (address6_text l) (address6_text p) (hex_text i) asks.0).third)
no_peer word link peer interface none (Reply bytes) asks = other_length _ _ (λ e. omega (arith, e)) asks.0
no_peer word link peer interface none Unwrap asks = other_length _ _ (λ e. omega (arith, e)) asks.0

-- or the fourth is no bytes
pub no_interface : (word link peer interface : List ℕ) → ((bytes : List ℕ) → IsBytes bytes → hex_text bytes ≡ interface → ⊥) → AsksForNothing (word ∷ link ∷ peer ∷ interface ∷ [])
no_interface word link peer interface none (Wrap l p i) asks =
    none i asks.1.2 (sym (four_words word link peer interface (codes "wrap") (address6_text l) (address6_text p) (hex_text i) asks.0).fourth)
no_interface word link peer interface none (Reply bytes) asks = other_length _ _ (λ e. omega (arith, e)) asks.0
no_interface word link peer interface none Unwrap asks = other_length _ _ (λ e. omega (arith, e)) asks.0

pub ruleset not_one = (other_word)

pub ruleset not_two = (other_reply, no_answer)

pub ruleset not_four = (other_wrap, no_link, no_peer, no_interface)

-- two addresses with one text are one
same_address : (a b : Ipv6Addr) → IsIpv6Addr a → IsIpv6Addr b → address6_text a ≡ address6_text b → a ≡ b
same_address a b is one same =
    let octets = encode_lower-unique (ipv6_octets a) (ipv6_octets b) (AreOctets-ipv6 a is).1 (AreOctets-ipv6 b one).1 same in
    let segments : ipv6_segments a ≡ ipv6_segments b =
    sym (segments_of-octets_of (ipv6_segments a) is.1) ∙ ap segments_of octets ∙ segments_of-octets_of (ipv6_segments b) one.1 in
    ap (λ segments. record { segments = segments }) segments

-- words ask for one thing
pub one_request : (words : List (List ℕ)) (a b : Request) → AsksFor words a → AsksFor words b → a ≡ b
one_request words (Wrap l p i) (Wrap m q j) x y =
    let same = four_words (codes "wrap") (address6_text l) (address6_text p) (hex_text i) (codes "wrap") (address6_text m) (address6_text q) (hex_text j) (sym x.0 ∙ y.0) in
    let link = same_address l m x.1.0 y.1.0 same.second in
    let peer = same_address p q x.1.1 y.1.1 same.third in
    let interface = hex_text-unique i j x.1.2 y.1.2 same.fourth in
    ap (λ link. Wrap link p i) link ∙ ap (λ peer. Wrap m peer i) peer ∙ ap (λ interface. Wrap m q interface) interface
one_request words (Wrap l p i) (Reply answer) x y = absurd (other_length _ _ (λ e. omega (arith, e)) (sym x.0 ∙ y.0))
one_request words (Wrap l p i) Unwrap x y = absurd (other_length _ _ (λ e. omega (arith, e)) (sym x.0 ∙ y.0))
one_request words (Reply answer) (Wrap m q j) x y = absurd (other_length _ _ (λ e. omega (arith, e)) (sym x.0 ∙ y.0))
one_request words (Reply answer) (Reply other) x y =
    let same = two_words (codes "reply") (hex_text answer) (codes "reply") (hex_text other) (sym x.0 ∙ y.0) in
    ap (λ answer. Reply answer) (hex_text-unique answer other x.1 y.1 same.second)
one_request words (Reply answer) Unwrap x y = absurd (other_length _ _ (λ e. omega (arith, e)) (sym x.0 ∙ y.0))
one_request words Unwrap (Wrap m q j) x y = absurd (other_length _ _ (λ e. omega (arith, e)) (sym x.0 ∙ y.0))
one_request words Unwrap (Reply other) x y = absurd (other_length _ _ (λ e. omega (arith, e)) (sym x.0 ∙ y.0))
one_request words Unwrap Unwrap x y = refl

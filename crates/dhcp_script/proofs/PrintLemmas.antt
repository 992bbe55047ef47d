-- How what is printed piece by piece makes up a field.
use Rattle.std.proofs.Common.{◌≡◌, ℕ, ◌<◌, List, [], ◌∷◌, ◌++◌, length, Result, Ok, Err, refl, sym, ap, ◌∙◌, append_assoc, append-nil, length-append, arith, codes}
use Rattle.std.specs.Prelude.{OnOk}
use Rattle.std.specs.Fmt.{decimal}
use Rattle.std.specs.List.{flat_map}
use Rattle.hex.specs.Hex.{encode_lower}
use Rattle.dhcp_stream.specs.HexText.{address6_text, hex_text, numbers_text}
use Rattle.std.specs.Int.{w16}
use Rattle.dhcp_stream.specs.Line.{line}
use Rattle.dhcp_stream.specs.Number.{address_text}
use Rattle.dhcp_stream.proofs.HexTextLemmas.{encode_lower-append, encode_lower-nil}
use Rattle.dhcp_script.specs.declared.lease4.Lease4.{Lease4}
use Rattle.dhcp_script.specs.declared.lease6.Lease6.{Lease6}
use Rattle.dhcp_script.specs.declared.script4.Script4.{Script4}
use Rattle.dhcp_script.specs.declared.script6.Script6.{Script6}
use Rattle.dhcp_script.specs.Codes.{listed_text}
use Rattle.dhcp_script.specs.Field.{list_text, unless_none}
use Rattle.dhcp_script.specs.Lease4.{addresses_text, lease_text, route_text}
use Rattle.dhcp_script.specs.Life.{life_text}
use Rattle.dhcp_script.specs.declared.version.Version.TheVariants.{Later}
use Rattle.dhcp_script.specs.Script4.{first_lines, script4_text}
use Rattle.dhcp_script.specs.Lease6 as lease6
use Rattle.dhcp_script.specs.Script6 as script6

-- the text of bytes, where there are some, is their digits
pub hex_text-digits : (bytes : List ℕ) → (bytes ≡ [] → ⊥) → hex_text bytes ≡ encode_lower bytes
hex_text-digits [] some = absurd (some refl)
hex_text-digits (byte ∷ bytes) some = refl

-- a list, item by item
pub list_text-items : {A : Type 0} (print : A → List ℕ) (first : A) (rest : List A) → list_text print (first ∷ rest) ≡ print first ++ flat_map (λ item. 44 ∷ print item) rest
list_text-items print first [] = sym (append-nil (print first))
list_text-items print first (second ∷ rest) = ap (λ text. print first ++ 44 ∷ text) (list_text-items print second rest)

-- numbers, number by number
module _ {A : Type 0} (bytes : A → List ℕ) where
  digits_each : (numbers : List A) → encode_lower (flat_map bytes numbers) ≡ flat_map (λ number. encode_lower (bytes number)) numbers
  digits_each [] = encode_lower-nil
  digits_each (number ∷ numbers) = encode_lower-append (bytes number) (flat_map bytes numbers) ∙ ap (λ text. encode_lower (bytes number) ++ text) (digits_each numbers)

  -- where each has some bytes
  some_bytes : ((number : A) → 0 < length (bytes number)) → (numbers : List A) → (numbers ≡ [] → ⊥) → flat_map bytes numbers ≡ [] → ⊥
  some_bytes has [] some e = some refl
  some_bytes has (number ∷ numbers) some e =
      let none = ap length e in
      let sum = length-append (bytes number) (flat_map bytes numbers) in
      let one = has number in
      omega arith

  pub numbers-digits : ((number : A) → 0 < length (bytes number)) → (numbers : List A) → (numbers ≡ [] → ⊥)
      → hex_text (flat_map bytes numbers) ≡ flat_map (λ number. encode_lower (bytes number)) numbers
  numbers-digits has numbers some = hex_text-digits (flat_map bytes numbers) (some_bytes has numbers some) ∙ digits_each numbers

-- ---- pieces that are put at the end of a text

-- two pieces
pub pushed2 : {X E : Type 0} (done : Result X E) (new mid old a b whole : List ℕ) → OnOk done (new ≡ mid ++ b) → mid ≡ old ++ a → whole ≡ a ++ b
    → OnOk done (new ≡ old ++ whole)
pushed2 (Err e) new mid old a b whole last first is = tt
pushed2 (Ok x) new mid old a b whole last first is = last ∙ ap (λ text. text ++ b) first ∙ append_assoc old a b ∙ ap (λ text. old ++ text) (sym is)

-- three pieces
pub pushed3 : {X E : Type 0} (done : Result X E) (new m2 m1 old a b c whole : List ℕ) → OnOk done (new ≡ m2 ++ c) → m2 ≡ m1 ++ b → m1 ≡ old ++ a
    → whole ≡ a ++ b ++ c → OnOk done (new ≡ old ++ whole)
pushed3 done new m2 m1 old a b c whole last second first is =
    let two : m2 ≡ old ++ (a ++ b) = second ∙ ap (λ text. text ++ b) first ∙ append_assoc old a b in
    pushed2 done new m2 old (a ++ b) c whole last two is

-- four pieces
pub pushed4 : {X E : Type 0} (done : Result X E) (new m3 m2 m1 old a b c d whole : List ℕ) → OnOk done (new ≡ m3 ++ d) → m3 ≡ m2 ++ c → m2 ≡ m1 ++ b → m1 ≡ old ++ a
    → whole ≡ a ++ b ++ c ++ d → OnOk done (new ≡ old ++ whole)
pushed4 done new m3 m2 m1 old a b c d whole last third second first is =
    let two : m2 ≡ old ++ (a ++ b) = second ∙ ap (λ text. text ++ b) first ∙ append_assoc old a b in
    let three : m3 ≡ old ++ ((a ++ b) ++ c) = third ∙ ap (λ text. text ++ c) two ∙ append_assoc old (a ++ b) c in
    pushed2 done new m3 old ((a ++ b) ++ c) d whole last three is

-- five pieces
pub pushed5 : {X E : Type 0} (done : Result X E) (new m4 m3 m2 m1 old a b c d e whole : List ℕ) → OnOk done (new ≡ m4 ++ e) → m4 ≡ m3 ++ d → m3 ≡ m2 ++ c → m2 ≡ m1 ++ b → m1 ≡ old ++ a
    → whole ≡ a ++ b ++ c ++ d ++ e → OnOk done (new ≡ old ++ whole)
pushed5 done new m4 m3 m2 m1 old a b c d e whole last fourth third second first is =
    let two : m2 ≡ old ++ (a ++ b) = second ∙ ap (λ text. text ++ b) first ∙ append_assoc old a b in
    let three : m3 ≡ old ++ ((a ++ b) ++ c) = third ∙ ap (λ text. text ++ c) two ∙ append_assoc old (a ++ b) c in
    let four : m4 ≡ old ++ (((a ++ b) ++ c) ++ d) = fourth ∙ ap (λ text. text ++ d) three ∙ append_assoc old ((a ++ b) ++ c) d in
    pushed2 done new m4 old (((a ++ b) ++ c) ++ d) e whole last four is

-- three fields with a space between two, and one after them
three_more : List ℕ → List ℕ → List ℕ → List ℕ
three_more a b c = a ++ 32 ∷ (b ++ 32 ∷ (c ++ 32 ∷ []))

-- fifteen fields, three at a time
fifteen : (a b c d e f g h i j k l m n o : List ℕ)
    → a ++ 32 ∷ (b ++ 32 ∷ (c ++ 32 ∷ (d ++ 32 ∷ (e ++ 32 ∷ (f ++ 32 ∷ (g ++ 32 ∷ (h ++ 32 ∷ (i ++ 32 ∷ (j ++ 32 ∷ (k ++ 32 ∷ (l ++ 32 ∷ (m ++ 32 ∷ (n ++ 32 ∷ o)))))))))))))
    ≡ three_more a b c ++ three_more d e f ++ three_more g h i ++ three_more j k l ++ (m ++ 32 ∷ (n ++ 32 ∷ o))
unfolding three_more
fifteen a b c d e f g h i j k l m n o = simp append_assoc

-- the fields of a lease, three at a time
pub lease_text-threes : (lease : Lease4) → lease_text lease
    ≡ (address_text lease.yiaddr ++ 32 ∷ (address_text lease.siaddr ++ 32 ∷ (address_text lease.srv_id ++ 32 ∷ [])))
    ++ (decimal lease.t1_sec ++ 32 ∷ (decimal lease.t2_sec ++ 32 ∷ (decimal lease.lease_time_sec ++ 32 ∷ [])))
    ++ (address_text lease.subnet_mask ++ 32 ∷ (unless_none address_text lease.broadcast_addr ++ 32 ∷ (unless_none decimal lease.mtu ++ 32 ∷ [])))
    ++ (unless_none addresses_text lease.dns_srvs ++ 32 ∷ (unless_none addresses_text lease.gateways ++ 32 ∷ (unless_none addresses_text lease.ntp_srvs ++ 32 ∷ [])))
    ++ (unless_none hex_text lease.host_name ++ 32 ∷ (unless_none hex_text lease.domain_name ++ 32 ∷ unless_none (list_text route_text) lease.classless_routes))
unfolding lease_text three_more
lease_text-threes lease =
    fifteen (address_text lease.yiaddr) (address_text lease.siaddr) (address_text lease.srv_id) (decimal lease.t1_sec) (decimal lease.t2_sec) (decimal lease.lease_time_sec)
    (address_text lease.subnet_mask) (unless_none address_text lease.broadcast_addr) (unless_none decimal lease.mtu)
    (unless_none addresses_text lease.dns_srvs) (unless_none addresses_text lease.gateways) (unless_none addresses_text lease.ntp_srvs)
    (unless_none hex_text lease.host_name) (unless_none hex_text lease.domain_name) (unless_none (list_text route_text) lease.classless_routes)

-- twelve fields, by the pieces that are put
twelve : (a b c d e f g h i j k l : List ℕ)
    → a ++ 32 ∷ (b ++ 32 ∷ (c ++ 32 ∷ (d ++ 32 ∷ (e ++ 32 ∷ (f ++ 32 ∷ (g ++ 32 ∷ (h ++ 32 ∷ (i ++ 32 ∷ (j ++ 32 ∷ (k ++ 32 ∷ l))))))))))
    ≡ three_more a b c ++ (d ++ 32 ∷ (e ++ 32 ∷ [])) ++ three_more f g h ++ (i ++ 32 ∷ (j ++ 32 ∷ (k ++ 32 ∷ []))) ++ l
unfolding three_more
twelve a b c d e f g h i j k l = simp append_assoc

-- the fields of a lease of an IPv6 script, by the pieces that are put
pub lease6_text-pieces : (lease : Lease6) → lease6.lease_text lease
    ≡ (lease6.ia_type_text lease.ia_type ++ 32 ∷ (decimal lease.iaid ++ 32 ∷ (address6_text lease.address ++ 32 ∷ [])))
    ++ (decimal lease.prefix_len ++ 32 ∷ (hex_text lease.srv_duid ++ 32 ∷ []))
    ++ (decimal lease.t1_sec ++ 32 ∷ (decimal lease.t2_sec ++ 32 ∷ (decimal lease.preferred_time_sec ++ 32 ∷ [])))
    ++ (decimal lease.valid_time_sec ++ 32 ∷ (decimal lease.xid ++ 32 ∷ (hex_text lease.cli_duid ++ 32 ∷ [])))
    ++ address6_text lease.srv_ip
unfolding lease6.lease_text three_more
lease6_text-pieces lease =
    twelve (lease6.ia_type_text lease.ia_type) (decimal lease.iaid) (address6_text lease.address) (decimal lease.prefix_len) (hex_text lease.srv_duid)
    (decimal lease.t1_sec) (decimal lease.t2_sec) (decimal lease.preferred_time_sec) (decimal lease.valid_time_sec)
    (decimal lease.xid) (hex_text lease.cli_duid) (address6_text lease.srv_ip)

-- the text of a script, by its lines
pub script4_text-lines : (script : Script4) → script4_text Later script
    ≡ first_lines Later script ++ line (codes "codes " ++ listed_text hex_text script.codes) ++ line (codes "lease " ++ unless_none lease_text script.lease)
    ++ life_text script.words script.start script.events
unfolding script4_text
script4_text-lines script = refl

pub script6_text-lines : (script : Script6) → script6.script6_text Later script
    ≡ script6.first_lines Later script ++ line (codes "codes " ++ listed_text (numbers_text w16) script.codes) ++ line (codes "lease " ++ unless_none lease6.lease_text script.lease)
    ++ life_text script.words script.start script.events
unfolding script6.script6_text
script6_text-lines script = refl

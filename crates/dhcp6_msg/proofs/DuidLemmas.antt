-- An identifier that is made can be sent: it has 2 to 65,535 bytes.
use Rattle.std.proofs.Common.{◌≡◌, ℕ, ◌||◌, Bool, false, List, [], ◌∷◌, ◌++◌, length, IfOk, IsTrue, Option, Some, None, Result, Ok, Err, refl, sym, ap, ◌∙◌}
use Rattle.dhcp_wire.specs.Error.{ErrorParts}
use Rattle.dhcp_wire.specs.Outcome.{Makes}
use Rattle.dhcp_clock.specs.Words.{Drawn, Draws}
use Rattle.dhcp6_opt.specs.declared.duid.DhcpV6Duid.{DhcpV6Duid}
use Rattle.dhcp6_opt.specs.declared.duid.DhcpV6Duid.TheVariants.{LinkLayerAddressPlusTime, EnterpriseNumber, LinkLayerAddress, UUID, Raw}
use Rattle.dhcp6_opt.specs.Duid.{drawn_duid, written_duid}
use Rattle.dhcp6_msg.specs.Config.{ethernet_duid}
use Rattle.dhcp6_msg.specs.Lease.{is_duid, is_no_duid}

-- that of a MAC address has ten bytes
pub is_duid-ethernet_duid : (mac : List ℕ) → length mac ≡ 6 → IsTrue (is_duid (ethernet_duid mac))
unfolding written_duid
is_duid-ethernet_duid mac six = rw six refl

-- that of four words has sixteen
is_duid-drawn_duid : (words : List ℕ) → IsTrue (is_duid (drawn_duid words).value)
unfolding written_duid
is_duid-drawn_duid words = refl

-- an identifier that is made as the definition says
pub made_is_duid : (result : Result DhcpV6Duid ErrorParts) (duid : DhcpV6Duid) → IsTrue (is_duid duid) → Makes (λ made. made) result duid → IfOk result (λ made. IsTrue (is_duid made))
made_is_duid (Ok made) duid is same = ap is_duid same ∙ is
made_is_duid (Err e) duid is same = tt

-- one that is drawn
pub drawn_is_duid : (before after : Option (List ℕ)) (result : Result DhcpV6Duid ErrorParts) → Draws before after drawn_duid (λ duid. Makes (λ made. made) result duid) → IfOk result (λ made. IsTrue (is_duid made))
drawn_is_duid None after result drawn =
    let taken : List ℕ = drawn.1.0 in
    let is : IsTrue (is_duid drawn.1.1.0) =
    ap (λ (drawn : Drawn DhcpV6Duid). is_duid drawn.value) (sym (drawn.1.1.1.0 [])) ∙ is_duid-drawn_duid (taken ++ []) in
    made_is_duid result drawn.1.1.0 is drawn.1.1.1.1
drawn_is_duid (Some words) after result drawn = made_is_duid result (drawn_duid words).value (is_duid-drawn_duid words) drawn.1

-- one that is there
is_no_duid-some : (duid : DhcpV6Duid) → (duid ≡ Raw [] → ⊥) → is_no_duid duid ≡ false
is_no_duid-some (Raw []) some = absurd (some refl)
is_no_duid-some (Raw (byte ∷ bytes)) some = refl
is_no_duid-some (LinkLayerAddressPlusTime duid) some = refl
is_no_duid-some (EnterpriseNumber duid) some = refl
is_no_duid-some (LinkLayerAddress duid) some = refl
is_no_duid-some (UUID duid) some = refl

-- one that is there, and can be sent if it is
pub kept_is_duid : (kept duid : DhcpV6Duid) → kept ≡ duid → (kept ≡ Raw [] → ⊥) → IsTrue (is_no_duid duid || is_duid duid) → IsTrue (is_duid duid)
kept_is_duid kept duid same some is =
    let there : is_no_duid duid ≡ false = is_no_duid-some duid (λ none. some (same ∙ none)) in
    sym (ap (λ (b : Bool). b || is_duid duid) there) ∙ is

-- The identifier of a client: the one that is there, or one that is made.
use Rattle.std.proofs.Common.{◌≡◌, ℕ, false, IsTrue, List, [], ◌∷◌, Option, Some, None, Result, Ok, refl, sym, subst, ◌∙◌}
use Rattle.dhcp_wire.specs.Error.{ErrorParts}
use Rattle.dhcp_wire.specs.Outcome.{Makes}
use Rattle.dhcp_clock.specs.Words.{Drawn, Draws, undrawn}
use Rattle.dhcp_clock.proofs.Draws.{draws_nothing, draws_same}
use Rattle.dhcp_clock.proofs.Taken.{taken_nothing, taken_same}
use Rattle.dhcp6_opt.specs.declared.duid.DhcpV6Duid.{DhcpV6Duid}
use Rattle.dhcp6_opt.specs.declared.duid.DhcpV6Duid.TheVariants.{LinkLayerAddressPlusTime, EnterpriseNumber, LinkLayerAddress, UUID, Raw}
use Rattle.dhcp6_opt.specs.DrawnDuid.{DrawsDuid}
use Rattle.dhcp6_msg.specs.Config.{Config, SetsDuid, client_duid, duid_or_made, made_duid}

-- what follows from what is said of a drawn value is said of it too
pub draws_map : {X : Type 0} (before after : Option (List ℕ)) (draws : List ℕ → Drawn X) (Says Then : X → Type 0) → ((value : X) → Says value → Then value) →
    Draws before after draws Says → Draws before after draws Then
draws_map None after draws Says Then next drawn = (drawn.0, (drawn.1.0, (drawn.1.1.0, (drawn.1.1.1.0, next drawn.1.1.0 drawn.1.1.1.1))))
draws_map (Some words) after draws Says Then next drawn = (drawn.0, next (draws words).value drawn.1)

-- an identifier without bytes is replaced
empty_is_made : (duid : DhcpV6Duid) (mac : Option (List ℕ)) → duid ≡ Raw [] → (words : List ℕ) → duid_or_made duid mac words ≡ made_duid mac words
empty_is_made duid mac is words = rw is refl

-- any other stays
other_stays : (duid : DhcpV6Duid) (mac : Option (List ℕ)) → (duid ≡ Raw [] → ⊥) → (words : List ℕ) → duid_or_made duid mac words ≡ undrawn duid words
other_stays (Raw []) mac some words = absurd (some refl)
other_stays (Raw (byte ∷ bytes)) mac some words = refl
other_stays (LinkLayerAddressPlusTime duid) mac some words = refl
other_stays (EnterpriseNumber duid) mac some words = refl
other_stays (LinkLayerAddress duid) mac some words = refl
other_stays (UUID duid) mac some words = refl

-- a configuration whose identifier has bytes stays as it is
pub kept_duid : (told : Option (List ℕ)) (config : Config) (duid : DhcpV6Duid) → duid ≡ config.duid → (duid ≡ Raw [] → ⊥) →
    (let done : Result (Unit {0}) ErrorParts = Ok tt in Draws told told (client_duid config) (λ duid. SetsDuid done config config duid))
kept_duid told config duid same some =
    let done : Result (Unit {0}) ErrorParts = Ok tt in
    let says : DhcpV6Duid → Type 0 = λ duid. SetsDuid done config config duid in
    draws_same told told (undrawn config.duid) (client_duid config) says
    (other_stays config.duid config.src_mac (λ none. some (same ∙ none)))
    (draws_nothing told config.duid says refl)

-- one without bytes is replaced by one that is made
pub made_for_empty : {X : Type 0} (before after : Option (List ℕ)) (result : Result X ErrorParts) (old new : Config) (duid : DhcpV6Duid) →
    duid ≡ old.duid → duid ≡ Raw [] →
    Draws before after (made_duid old.src_mac) (λ duid. SetsDuid result old new duid) → Draws before after (client_duid old) (λ duid. SetsDuid result old new duid)
made_for_empty before after result old new duid same none drawn =
    draws_same before after (made_duid old.src_mac) (client_duid old) (λ duid. SetsDuid result old new duid)
    (empty_is_made old.duid old.src_mac (sym same ∙ none)) drawn

pub false_is_not : IsTrue false → ⊥
false_is_not is = cc

-- an identifier that was made of this address, and is set
pub made_is_set : {X : Type 0} (before after : Option (List ℕ)) (made : Result DhcpV6Duid ErrorParts) (result : Result X ErrorParts) (mac : Option (List ℕ)) (old new : Config) →
    mac ≡ old.src_mac → ((duid : DhcpV6Duid) → Makes (λ made. made) made duid → SetsDuid result old new duid) →
    Draws before after (made_duid mac) (λ duid. Makes (λ made. made) made duid) →
    Draws before after (made_duid old.src_mac) (λ duid. SetsDuid result old new duid)
made_is_set before after made result mac old new same set drawn =
    let says : DhcpV6Duid → Type 0 = λ duid. Makes (λ made. made) made duid in
    draws_map before after (made_duid old.src_mac) says (λ duid. SetsDuid result old new duid) set
    (subst (λ mac. Draws before after (made_duid mac) says) same drawn)

-- the same from any source
module _ {Source : Type 0} (gives : ℕ → Source → Source → Type 0) where
  -- what follows from what is said of an identifier is said of it too
  takes_map : (old new : Source) (draws : List ℕ → Drawn DhcpV6Duid) (Says Then : DhcpV6Duid → Type 0) → ((duid : DhcpV6Duid) → Says duid → Then duid) →
      DrawsDuid gives draws old new Says → DrawsDuid gives draws old new Then
  takes_map old new draws Says Then next drawn = (drawn.0, (drawn.1.0, next drawn.0 drawn.1.1))

  -- by an equal definition
  takes_same : (old new : Source) (one other : List ℕ → Drawn DhcpV6Duid) (Says : DhcpV6Duid → Type 0) → ((words : List ℕ) → other words ≡ one words) →
      DrawsDuid gives one old new Says → DrawsDuid gives other old new Says
  takes_same old new one other Says same drawn = (drawn.0, (taken_same gives old new one other drawn.0 same drawn.1.0, drawn.1.1))

  pub kept_taken : (source : Source) (config : Config) (duid : DhcpV6Duid) → duid ≡ config.duid → (duid ≡ Raw [] → ⊥) →
      (let done : Result (Unit {0}) ErrorParts = Ok tt in DrawsDuid gives (client_duid config) source source (λ duid. SetsDuid done config config duid))
  kept_taken source config duid same some =
      let done : Result (Unit {0}) ErrorParts = Ok tt in
      let says : DhcpV6Duid → Type 0 = λ duid. SetsDuid done config config duid in
      takes_same source source (undrawn config.duid) (client_duid config) says
      (other_stays config.duid config.src_mac (λ none. some (same ∙ none)))
      (config.duid, (taken_nothing gives source config.duid, refl))

  pub made_taken : {X : Type 0} (old_words new_words : Source) (result : Result X ErrorParts) (old new : Config) (duid : DhcpV6Duid) →
      duid ≡ old.duid → duid ≡ Raw [] →
      DrawsDuid gives (made_duid old.src_mac) old_words new_words (λ duid. SetsDuid result old new duid) →
      DrawsDuid gives (client_duid old) old_words new_words (λ duid. SetsDuid result old new duid)
  made_taken old_words new_words result old new duid same none drawn =
      takes_same old_words new_words (made_duid old.src_mac) (client_duid old) (λ duid. SetsDuid result old new duid)
      (empty_is_made old.duid old.src_mac (sym same ∙ none)) drawn

  pub made_is_taken : {X : Type 0} (old_words new_words : Source) (made : Result DhcpV6Duid ErrorParts) (result : Result X ErrorParts) (mac : Option (List ℕ)) (old new : Config) →
      mac ≡ old.src_mac → ((duid : DhcpV6Duid) → Makes (λ made. made) made duid → SetsDuid result old new duid) →
      DrawsDuid gives (made_duid mac) old_words new_words (λ duid. Makes (λ made. made) made duid) →
      DrawsDuid gives (made_duid old.src_mac) old_words new_words (λ duid. SetsDuid result old new duid)
  made_is_taken old_words new_words made result mac old new same set drawn =
      let says : DhcpV6Duid → Type 0 = λ duid. Makes (λ made. made) made duid in
      takes_map old_words new_words (made_duid old.src_mac) says (λ duid. SetsDuid result old new duid) set
      (subst (λ mac. DrawsDuid gives (made_duid mac) old_words new_words says) same drawn)

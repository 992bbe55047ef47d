-- What a client asks for: in which order, and as it is printed.
use Rattle.std.specs.Prelude.{ℕ, List, [], ◌∷◌, ◌++◌, codes, decimal}
use Rattle.dhcp6_msg.specs.declared.mode.DhcpV6IaType.{DhcpV6IaType}
use Rattle.dhcp6_msg.specs.declared.mode.DhcpV6IaType.TheVariants as associations
use Rattle.dhcp6_msg.specs.declared.mode.DhcpV6Mode.{DhcpV6Mode}
use Rattle.dhcp6_msg.specs.declared.mode.DhcpV6Mode.TheVariants.{NonTemporaryAddresses, TemporaryAddresses, PrefixDelegation}

-- the types of associations, by rising order
abbrev pub all_associations : List DhcpV6IaType
all_associations =
    associations.NonTemporaryAddresses ∷ associations.TemporaryAddresses
    ∷ associations.PrefixDelegation ∷ []

-- a mode of each variant, by rising order
abbrev pub modes_with : ℕ → List DhcpV6Mode
modes_with length = NonTemporaryAddresses ∷ TemporaryAddresses ∷ PrefixDelegation length ∷ []

-- the name of a mode, with the length of a prefix in bits
unfoldable pub mode_name : DhcpV6Mode → List ℕ
mode_name NonTemporaryAddresses = codes "Non-temporary Addresses(IA_NA)"
mode_name TemporaryAddresses = codes "Temporary Addresses(IA_TA)"
mode_name (PrefixDelegation length) = codes "Prefix Delegation(IA_PD)-" ++ decimal length

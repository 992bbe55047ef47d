-- The types of messages, RFC 2132 section 9.6.
use Rattle.std.specs.Prelude.{ℕ, ◌==◌, List, [], ◌∷◌, find, Option, codes}
use Rattle.dhcp4_msg.specs.declared.message_type.DhcpV4MessageType.{DhcpV4MessageType}
use Rattle.dhcp4_msg.specs.declared.message_type.DhcpV4MessageType.TheVariants.{Discovery, Offer, Request, Decline, Ack, Nack, Release, Inform}

-- the number of a type
unfoldable pub type_number : DhcpV4MessageType → ℕ
type_number Discovery = 1
type_number Offer = 2
type_number Request = 3
type_number Decline = 4
type_number Ack = 5
type_number Nack = 6
type_number Release = 7
type_number Inform = 8

-- all types, by rising number
abbrev pub all_types : List DhcpV4MessageType
all_types = Discovery ∷ Offer ∷ Request ∷ Decline ∷ Ack ∷ Nack ∷ Release ∷ Inform ∷ []

-- the type that has this number, if any
unfoldable pub type_of : ℕ → Option DhcpV4MessageType
type_of number = find (λ kind. type_number kind == number) all_types

-- the name of a type, as it is printed
unfoldable pub type_name : DhcpV4MessageType → List ℕ
type_name Discovery = codes "DISCOVERY"
type_name Offer = codes "OFFER"
type_name Request = codes "REQUEST"
type_name Decline = codes "DECLINE"
type_name Ack = codes "ACK"
type_name Nack = codes "NACK"
type_name Release = codes "RELEASE"
type_name Inform = codes "INFORM"

-- The types of messages, RFC 8415 section 7.3.
use Rattle.std.specs.Prelude.{ℕ, ◌==◌, List, [], ◌∷◌, find, Option, codes}
use Rattle.dhcp6_msg.specs.declared.message_type.DhcpV6MessageType.{DhcpV6MessageType}
use Rattle.dhcp6_msg.specs.declared.message_type.DhcpV6MessageType.TheVariants.{Solicit, Advertise, Request, Confirm, Renew, Rebind, Reply, Release, Decline, Reconfigure, InformationRequest, RelayForward, RelayReply}

-- the number of a type
unfoldable pub type_number : DhcpV6MessageType → ℕ
type_number Solicit = 1
type_number Advertise = 2
type_number Request = 3
type_number Confirm = 4
type_number Renew = 5
type_number Rebind = 6
type_number Reply = 7
type_number Release = 8
type_number Decline = 9
type_number Reconfigure = 10
type_number InformationRequest = 11
type_number RelayForward = 12
type_number RelayReply = 13

-- all types, by rising number
abbrev pub all_types : List DhcpV6MessageType
all_types =
    Solicit ∷ Advertise ∷ Request ∷ Confirm ∷ Renew ∷ Rebind ∷ Reply ∷ Release ∷ Decline
    ∷ Reconfigure ∷ InformationRequest ∷ RelayForward ∷ RelayReply ∷ []

-- the type that has this number, if any
unfoldable pub type_of : ℕ → Option DhcpV6MessageType
type_of number = find (λ kind. type_number kind == number) all_types

-- the name of a type, as it is printed
unfoldable pub type_name : DhcpV6MessageType → List ℕ
type_name Solicit = codes "\"Solicit\""
type_name Advertise = codes "\"Advertise\""
type_name Request = codes "\"Request\""
type_name Confirm = codes "\"Confirm\""
type_name Renew = codes "\"Renew\""
type_name Rebind = codes "\"Rebind\""
type_name Reply = codes "\"Reply\""
type_name Release = codes "\"Release\""
type_name Decline = codes "\"Decline\""
type_name Reconfigure = codes "\"Reconfigure\""
type_name InformationRequest = codes "\"Information-request\""
type_name RelayForward = codes "\"Relay-forward\""
type_name RelayReply = codes "\"Relay-reply\""

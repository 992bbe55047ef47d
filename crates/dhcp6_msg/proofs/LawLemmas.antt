-- A message reads back as it is written.
use Rattle.std.proofs.Common.{◌≡◌, ℕ, ◌<◌, ◌^◌, ◌%◌, ◌++◌, length, Some, refl, arith}
use Rattle.dhcp_wire.proofs.FieldLaws.{bytes_at-append}
use Rattle.dhcp_wire.proofs.FieldLemmas.{number_at-cons}
use Rattle.dhcp6_opt.specs.Options.{read_options, written_options}
use Rattle.dhcp6_msg.specs.declared.message.DhcpV6Message.{DhcpV6Message}
use Rattle.dhcp6_msg.specs.declared.message_type.DhcpV6MessageType.{DhcpV6MessageType}
use Rattle.dhcp6_msg.specs.declared.message_type.DhcpV6MessageType.TheVariants.{Solicit, Advertise, Request, Confirm, Renew, Rebind, Reply, Release, Decline, Reconfigure, InformationRequest, RelayForward, RelayReply}
use Rattle.dhcp6_msg.specs.Message.{id_bytes, id_number, read_message, written_message}
use Rattle.dhcp6_msg.specs.MessageType.{type_number, type_of}

-- the type that has the number of a type
type_of-type_number : (kind : DhcpV6MessageType) → type_of (type_number kind) ≡ Some kind
unfolding type_of type_number
type_of-type_number Solicit = refl
type_of-type_number Advertise = refl
type_of-type_number Request = refl
type_of-type_number Confirm = refl
type_of-type_number Renew = refl
type_of-type_number Rebind = refl
type_of-type_number Reply = refl
type_of-type_number Release = refl
type_of-type_number Decline = refl
type_of-type_number Reconfigure = refl
type_of-type_number InformationRequest = refl
type_of-type_number RelayForward = refl
type_of-type_number RelayReply = refl

-- a message reads back, with the options that its options are written as
pub message_back : (message : DhcpV6Message) → length message.xid ≡ 3 →
    read_message (written_message message) ≡ Some (record message { options = read_options (written_options message.options) })
unfolding read_message written_message
message_back message whole =
    let options = written_options message.options in
    rw (
      number_at-cons (type_number message.msg_type) (message.xid ++ options),
      type_of-type_number message.msg_type,
      bytes_at-append 3 message.xid options whole,
    ) refl

-- the lower 24 bits of a number read back
pub id_back : (number : ℕ) → number < 2 ^ 32 → id_number (id_bytes number) ≡ number % 2 ^ 24
unfolding id_number id_bytes
id_back number small = grind arith

-- the id of a number has three bytes
pub length-id_bytes : (number : ℕ) → length (id_bytes number) ≡ 3
unfolding id_bytes
length-id_bytes number = refl

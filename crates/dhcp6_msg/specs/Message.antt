-- A DHCPv6 message, RFC 8415 section 8: a type of one byte, a transaction id of three, and options.
use Rattle.std.specs.Prelude.{ℕ, ◌/◌, List, [], ◌∷◌, ◌++◌, drop, min, Option, Some, None, option_map, Result, Ok, Err, ok_or, ◌≡◌}
use Rattle.std.specs.Int.{w8, w32, from_be_bytes, to_be_bytes}
use Rattle.std.specs.FinMap as map
use Rattle.dhcp_wire.specs.declared.error.ErrorKind.{ErrorKind}
use Rattle.dhcp_wire.specs.declared.error.ErrorKind.TheVariants.{InvalidDhcpMessage, NotSupported}
use Rattle.dhcp_wire.specs.Error.{ErrorParts, no_memory}
use Rattle.dhcp_wire.specs.Field.{◌>>=◌, bytes_at, number_at}
use Rattle.dhcp6_opt.specs.declared.duid.DhcpV6Duid.{DhcpV6Duid}
use Rattle.dhcp6_opt.specs.declared.option.DhcpV6Option.{DhcpV6Option}
use Rattle.dhcp6_opt.specs.declared.option.DhcpV6Option.TheVariants.{ClientId, ElapsedTime}
use Rattle.dhcp6_opt.specs.Options.{OptionLists, read_options, with_options, written_options}
use Rattle.dhcp6_msg.specs.declared.message.DhcpV6Message.{DhcpV6Message}
use Rattle.dhcp6_msg.specs.declared.message_type.DhcpV6MessageType.{DhcpV6MessageType}
use Rattle.dhcp6_msg.specs.MessageType.{type_number, type_of}

-- A message reads where its type has a name and its id is whole.
unfoldable pub read_message : List ℕ → Option DhcpV6Message
read_message payload = do
  number ← number_at w8 payload
  msg_type ← type_of number.0
  xid ← bytes_at 3 number.1
  Some (record { msg_type = msg_type; xid = xid.0; options = read_options xid.1 })

-- the kind of a refusal where this is the type: a type without a name is not supported
abbrev pub refusal_by_type : Option (Option DhcpV6MessageType) → ErrorKind
refusal_by_type (Some None) = NotSupported
refusal_by_type _ = InvalidDhcpMessage

-- the kind of the refusal of some bytes that do not read
unfoldable pub refusal_of : List ℕ → ErrorKind
refusal_of payload =
    refusal_by_type (option_map (λ number. type_of number.0) (number_at w8 payload))

-- a message, or the kind of its refusal
abbrev pub parsed_message : List ℕ → Result DhcpV6Message ErrorKind
parsed_message payload = ok_or (read_message payload) (refusal_of payload)

-- the bytes of a message
unfoldable pub written_message : DhcpV6Message → List ℕ
written_message message =
    (type_number message.msg_type ∷ []) ++ (message.xid ++ written_options message.options)

-- the number of a transaction id of three bytes
unfoldable pub id_number : List ℕ → ℕ
id_number xid = from_be_bytes w32 (0 ∷ xid)

-- the transaction id of a number: its lower 24 bits
unfoldable pub id_bytes : ℕ → List ℕ
id_bytes number = drop 1 (to_be_bytes w32 number)

-- a time in milliseconds as option 8 has it: in hundredths of a second, 65,535 for a longer one
-- (section 21.9)
abbrev pub elapsed_hundredths : ℕ → ℕ
elapsed_hundredths elapsed_ms = min (elapsed_ms / 10) 65535

-- the options of every message that a client sends: who it is, and since when it tries
abbrev pub client_options : DhcpV6Duid → ℕ → List DhcpV6Option
client_options duid elapsed_ms =
    ClientId duid ∷ ElapsedTime (elapsed_hundredths elapsed_ms) ∷ []

-- a message of this type with these options, added one after the other
abbrev pub message_with : DhcpV6MessageType → ℕ → List DhcpV6Option → DhcpV6Message
message_with msg_type id options = record {
  msg_type = msg_type;
  xid = id_bytes id;
  options = with_options map.empty options;
}

-- a message with some options more
abbrev pub with_more : DhcpV6Message → List DhcpV6Option → DhcpV6Message
with_more message options =
    record message { options = with_options message.options options }

-- Some options are added at once, or out of memory, and nothing has changed.
abbrev pub Adds : {X : Type 0}
    → Result X ErrorParts → OptionLists → OptionLists → List DhcpV6Option → Type 0
Adds (Ok _) old new list = new ≡ with_options old list
Adds (Err e) old new list = (e ≡ no_memory) × (new ≡ old)

-- A message reads back: with its type, its id, and the options that its options are written as.
abbrev pub ReadsBack : DhcpV6Message → Type 0
ReadsBack message =
    read_message (written_message message)
    ≡ Some (record message { options = read_options (written_options message.options) })

-- The report on a capture file: a line for each record that carries a DHCP message, in their order,
-- and a last line.
use Rattle.std.specs.Prelude.{ℕ, ◌+◌, ◌-◌, ◌==◌, List, [], ◌∷◌, ◌++◌, length, replicate, codes, Option, Some, None, option_map, if◌then◌else◌}
use Rattle.std.specs.Fmt.{decimal}
use Rattle.std.specs.Int.{w32, to_be_bytes}
use Rattle.hex.specs.Hex.{encode_lower}
use Rattle.dhcp_stream.specs.HexText.{address6_text}
use Rattle.dhcp_stream.specs.Line.{line, spaced}
use Rattle.dhcp_stream.specs.Number.{address_text}
use Rattle.dhcp4_msg.specs.MessageType as v4
use Rattle.dhcp4_msg.specs.declared.message_type.DhcpV4MessageType.{DhcpV4MessageType}
use Rattle.dhcp6_msg.specs.Message.{id_bytes}
use Rattle.dhcp6_msg.specs.MessageType as v6
use Rattle.dhcp_inspect.specs.Capture.{CaptureParts, read_capture}
use Rattle.dhcp_inspect.specs.Message.{message_of}
use Rattle.dhcp_inspect.specs.Record.{RecordParts}
use Rattle.dhcp_inspect.specs.declared.header.TimeUnit.{TimeUnit}
use Rattle.dhcp_inspect.specs.declared.header.TimeUnit.TheVariants.{Microseconds, Nanoseconds}
use Rattle.dhcp_inspect.specs.declared.message.Message.{Message}
use Rattle.dhcp_inspect.specs.declared.message.Message.TheVariants.{V4, V6}
use Rattle.dhcp_inspect.specs.declared.message.Message4.{Message4}
use Rattle.dhcp_inspect.specs.declared.message.Message6.{Message6}

-- a decimal number with at least so many digits, filled with zeros
abbrev pub zero_filled : ℕ → ℕ → List ℕ
zero_filled width number = replicate (width - length (decimal number)) 48 ++ decimal number

-- how many digits a fraction of a second has at least
abbrev pub fraction_digits : TimeUnit → ℕ
fraction_digits Microseconds = 6
fraction_digits Nanoseconds = 9

-- the moment of a record: seconds, a dot and the fraction
abbrev pub moment_text : TimeUnit → RecordParts → List ℕ
moment_text unit packet =
    decimal packet.seconds ++ 46 ∷ zero_filled (fraction_digits unit) packet.fraction

-- the type of a DHCPv4 message, or `-` where it has none
abbrev pub type4_text : Option DhcpV4MessageType → List ℕ
type4_text None = codes "-"
type4_text (Some kind) = v4.type_name kind

-- the transaction id of a DHCPv6 message in hex, `-` where it has none
abbrev pub id6_text : Option ℕ → List ℕ
id6_text None = codes "-"
id6_text (Some id) = encode_lower (id_bytes id)

-- the type of a DHCPv4 message, its transaction id, and the address that the server gives
unfoldable pub content4_text : Message4 → List ℕ
content4_text message = spaced (
    type4_text message.message_type
    ∷ encode_lower (to_be_bytes w32 message.xid)
    ∷ address_text message.yiaddr
    ∷ [])

-- what a line says of a DHCPv4 message
abbrev pub message4_text : Message4 → List ℕ
message4_text message = spaced (
    codes "v4"
    ∷ address_text message.source
    ∷ address_text message.destination
    ∷ content4_text message
    ∷ [])

-- what a line says of a DHCPv6 message
abbrev pub message6_text : Message6 → List ℕ
message6_text message = spaced (
    codes "v6"
    ∷ address6_text message.source
    ∷ address6_text message.destination
    ∷ decimal (v6.type_number message.message_type)
    ∷ id6_text message.xid
    ∷ [])

-- what a line says of a message
abbrev pub message_text : Message → List ℕ
message_text (V4 message) = message4_text message
message_text (V6 message) = message6_text message

-- the line of a record with this number, if it carries a message
abbrev pub line_of : TimeUnit → ℕ → RecordParts → Option Message → List ℕ
line_of unit number packet None = []
line_of unit number packet (Some message) =
    line (spaced (decimal number ∷ moment_text unit packet ∷ message_text message ∷ []))

-- the same, by the message that the record carries
unfoldable pub record_text : TimeUnit → ℕ → RecordParts → List ℕ
record_text unit number packet = line_of unit number packet (message_of packet)

-- the lines of records, of which the first has this number
unfoldable pub records_text : TimeUnit → ℕ → List RecordParts → List ℕ
records_text unit number [] = []
records_text unit number (packet ∷ packets) =
    record_text unit number packet ++ records_text unit (number + 1) packets

-- the last line: `ok`, or how many bytes remain of a file that ends within a record
abbrev pub last_line : ℕ → List ℕ
last_line remainder =
    line (if remainder == 0 then codes "ok" else spaced (codes "cut" ∷ decimal remainder ∷ []))

-- the report on a capture: the records count from 1, those without a line too
unfoldable pub capture_text : CaptureParts → List ℕ
capture_text capture =
    records_text capture.unit 1 capture.records ++ last_line capture.remainder

-- the report on a file, if it is a capture
abbrev pub report_on : List ℕ → Option (List ℕ)
report_on file = option_map capture_text (read_capture file)

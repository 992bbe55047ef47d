-- What a packet answers to an open attempt, RFC 8415 sections 16.10 and 18.2.10.4: it is a payload;
-- it is a Reply; it has the transaction id of the attempt; and it gives a configuration.
use Rattle.std.specs.Prelude.{ℕ, List, Option, Some, None, if◌then◌else◌}
use Rattle.dhcp_wire.specs.Field.{◌>>=◌}
use Rattle.dhcp_clock.specs.declared.link.Packet.{Packet}
use Rattle.dhcp6_msg.specs.Exchange.{concerning, payload_in}
use Rattle.dhcp6_msg.specs.declared.message.DhcpV6Message.{DhcpV6Message}
use Rattle.dhcp6_msg.specs.declared.message_type.DhcpV6MessageType.TheVariants.{Reply}
use Rattle.dhcp6_msg.specs.Message.{read_message}
use Rattle.dhcp6_info.specs.declared.info.DhcpV6Info.{DhcpV6Info}
use Rattle.dhcp6_info.specs.Info.{info_with, is_given, refresh_time}

-- the message of a payload, if it is a Reply with this transaction id
abbrev pub reply_in : ℕ → List ℕ → Option DhcpV6Message
reply_in xid payload = read_message payload >>= concerning Reply xid

-- the configuration that this message of a payload gives, if it gives one
abbrev pub given_by : List ℕ → DhcpV6Message → Option DhcpV6Info
given_by payload message =
    if is_given message.options then Some (info_with message.options (refresh_time payload))
    else None

-- the configuration that a payload gives to the attempt with this transaction id
abbrev pub read_info : ℕ → List ℕ → Option DhcpV6Info
read_info xid payload = reply_in xid payload >>= given_by payload

-- the same of a packet, and the Reply that it has to be for that
abbrev pub info_in : ℕ → Packet → Option DhcpV6Info
info_in xid packet = payload_in packet >>= read_info xid

abbrev pub reply_for : ℕ → Packet → Option DhcpV6Message
reply_for xid packet = payload_in packet >>= reply_in xid

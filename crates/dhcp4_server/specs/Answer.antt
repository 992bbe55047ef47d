-- What a server answers to a packet, by the Acks that it has sent, and its Acks then: RFC 2131
-- section 4.3.
use Rattle.std.specs.Prelude.{ℕ, List, Option, Some, None, option_map}
use Rattle.dhcp_clock.specs.declared.link.Packet.{Packet}
use Rattle.dhcp_clock.specs.declared.link.PacketKind.{PacketKind}
use Rattle.dhcp4_msg.specs.declared.message.DhcpV4Message.{DhcpV4Message}
use Rattle.dhcp4_server.specs.Ack.{Ack}
use Rattle.dhcp4_server.specs.Config.{kept_ms, pool_of}
use Rattle.dhcp4_server.specs.Decision.{acks_after, decide}
use Rattle.dhcp4_server.specs.Reply.{packet_of, reply_by}
use Rattle.dhcp4_server.specs.Request.{message_to_server, query_of}
use Rattle.dhcp4_server.specs.declared.config.ServerConfig.{ServerConfig}
use Rattle.dhcp4_server.specs.declared.decision.Decision.{Decision}
use Rattle.dhcp4_server.specs.declared.decision.Query.{Query}

-- an answer: the packet of the reply, or none where the server is silent, and the Acks sent so far,
-- the newest first
pub record Answer : Type 0 where
  pub reply : Option Packet
  pub acks : List Ack

abbrev pub silent : List Ack → Answer
silent acks = record { reply = None; acks = acks }

-- the answer to a message that is carried so, by what was decided
abbrev pub answer_decided : ServerConfig → List Ack → ℕ → PacketKind → DhcpV4Message → Decision →
    Answer
answer_decided config acks now kind message decision = record {
  reply = option_map (packet_of config kind) (reply_by config message decision);
  acks = acks_after acks message.xid now decision;
}

-- the answer to what a message asks for
abbrev pub answer_query : ServerConfig → List Ack → ℕ → PacketKind → DhcpV4Message →
    Option Query → Answer
answer_query config acks now kind message None = silent acks
answer_query config acks now kind message (Some query) =
    answer_decided config acks now kind message
    (decide (kept_ms config) (pool_of config) acks message.xid now query)

-- the answer to a message, if there is one
abbrev pub answer_message : ServerConfig → List Ack → ℕ → PacketKind → Option DhcpV4Message →
    Answer
answer_message config acks now kind None = silent acks
answer_message config acks now kind (Some message) =
    answer_query config acks now kind message (query_of config message)

-- the answer to a packet at a moment
abbrev pub answer_to : ServerConfig → List Ack → ℕ → Packet → Answer
answer_to config acks now packet =
    answer_message config acks now packet.kind (message_to_server packet)

-- What a packet is to a client as it stands.
use Rattle.std.specs.Prelude.{Bool, true, false}
use Rattle.dhcp_verdict.specs.declared.packet_verdict.PacketVerdict.{PacketVerdict}
use Rattle.dhcp_verdict.specs.declared.packet_verdict.PacketVerdict.TheVariants.{Answer, NoOpenAttempt, OtherCarrier, NoFrame, NoMessage, OtherTransactionId, OtherType, OtherServer, NoLease}

-- whether it is the awaited answer
abbrev pub is_answer : {MessageType : Type 0} → PacketVerdict MessageType → Bool
is_answer Answer = true
is_answer NoOpenAttempt = false
is_answer OtherCarrier = false
is_answer NoFrame = false
is_answer NoMessage = false
is_answer OtherTransactionId = false
is_answer (OtherType kind) = false
is_answer OtherServer = false
is_answer (NoLease kind) = false

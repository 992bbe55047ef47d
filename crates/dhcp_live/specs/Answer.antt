-- The text of what a client says to an event.
use Rattle.std.specs.Prelude.{ℕ, Bool, true, false, List, [], ◌∷◌, ◌++◌, Option, Some, None, codes}
use Rattle.std.specs.Fmt.{decimal}
use Rattle.std.specs.List.{flat_map}
use Rattle.dhcp_stream.specs.Line.{line, spaced}
use Rattle.dhcp_output.specs.Output.{PlainOutput, output_line}
use Rattle.dhcp_verdict.specs.declared.packet_verdict.PacketVerdict.TheVariants as verdicts
use Rattle.dhcp_wire.specs.Error.{name_of}
use Rattle.dhcp_live.specs.Dropped.{PlainVerdict}
use Rattle.dhcp_live.specs.declared.dropped.Dropped.{Dropped}

-- the moment of the next event that is needed, in milliseconds, if one ever is
abbrev pub moment_text : Option ℕ → List ℕ
moment_text (Some moment) = decimal moment
moment_text None = codes "never"

-- whether a packet that comes is read
abbrev pub listening_text : Bool → List ℕ
listening_text true = codes "listening"
listening_text false = codes "deaf"

-- the line for the carrier: the next moment, whether a packet is read, and how many words are left
abbrev pub next_line : Option ℕ → Bool → ℕ → List ℕ
next_line next listening left =
    line (spaced (codes "next" ∷ moment_text next ∷ listening_text listening
    ∷ decimal left ∷ []))

-- the line of a packet that was no answer, by the number of its event and the reason
abbrev pub reason_line : ℕ → List ℕ → List ℕ
reason_line number reason =
    codes "dropped " ++ decimal number ++ codes " " ++ reason ++ 10 ∷ []

-- the type of a message, or that it has none
abbrev pub type_text : Option ℕ → List ℕ
type_text (Some kind) = decimal kind
type_text None = codes "none"

-- the line of what a packet is; an answer has none
abbrev pub dropped_line : ℕ → PlainVerdict → List ℕ
dropped_line number verdicts.Answer = []
dropped_line number verdicts.NoOpenAttempt = reason_line number (codes "no-open-attempt")
dropped_line number verdicts.OtherCarrier = reason_line number (codes "other-carrier")
dropped_line number verdicts.NoFrame = reason_line number (codes "no-frame")
dropped_line number verdicts.NoMessage = reason_line number (codes "no-message")
dropped_line number verdicts.OtherTransactionId =
    reason_line number (codes "other-transaction-id")
dropped_line number (verdicts.OtherType kind) =
    reason_line number (codes "other-type " ++ type_text kind)
dropped_line number verdicts.OtherServer = reason_line number (codes "other-server")
dropped_line number (verdicts.NoLease kind) =
    reason_line number (codes "no-lease " ++ name_of kind)

-- the same of a packet, if there is one
abbrev pub dropped_text : Option Dropped → List ℕ
dropped_text (Some dropped) = dropped_line dropped.number dropped.verdict
dropped_text None = []

-- a line for each output, that of a packet that is no answer, and the line for the carrier
unfoldable pub answer_text : List PlainOutput → Option Dropped → Option ℕ → Bool → ℕ → List ℕ
answer_text outputs dropped next listening left =
    flat_map output_line outputs ++ dropped_text dropped ++ next_line next listening left

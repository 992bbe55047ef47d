-- What the program answers: one line of hex for one line of hex.
use Rattle.std.specs.Prelude.{◌≡◌, ℕ, true, false, List, [], Result, Ok, Err, is_ok}
use Rattle.std.specs.Result.{result_unwrap_or}
use Rattle.hex.specs.Hex.{IsBytes}
use Rattle.dhcp_stream.specs.HexText.{hex_text}
use Rattle.dhcp_stream.specs.Line.{line}
use Rattle.dhcp_tool.specs.Texts.{Texts}
use Rattle.dhcp_tool.specs.declared.status.Status.{Status}
use Rattle.dhcp_tool.specs.declared.status.Status.TheVariants.{Done, WrongWords, NoScript, ReadFault, WriteFault, NoMemory, TooLong, Invalid}
use Rattle.dhcp6_relay.specs.Outcome.{◌>>=◌}
use Rattle.dhcp6_relay.specs.Relay.{parsed_relay}
use Rattle.dhcp6_relay.specs.Reply.{reply_of}
use Rattle.dhcp6_relay.specs.Request.{interface_of}
use Rattle.dhcp6_relay.specs.Wrap.{wrapped_message}
use Rattle.dhcp6_relay.specs.declared.error.RelayError.{RelayError}
use Rattle.dhcp6_relay.specs.declared.error.RelayError.TheVariants.{OutOfMemory}
use Rattle.dhcp6_relay.specs.declared.request.Request.{Request}
use Rattle.dhcp6_relay.specs.declared.request.Request.TheVariants.{Wrap, Reply, Unwrap}

-- the message inside a relay message
unfoldable pub inner_of : List ℕ → Result (List ℕ) RelayError
inner_of message = do
  relay ← parsed_relay message
  Ok relay.inner

-- what a request makes of a message, or why it is refused
unfoldable pub result_for : Request → List ℕ → Result (List ℕ) RelayError
result_for (Wrap link peer interface) message =
    wrapped_message message
    (record { link = link; peer = peer; interface = interface_of interface })
result_for (Reply answer) message = reply_of message answer
result_for Unwrap message = inner_of message

-- bytes as a line of hex, `-` for none
abbrev pub hex_line : List ℕ → List ℕ
hex_line bytes = line (hex_text bytes)

-- messages as lines of hex: those are valid of which the request makes something
abbrev pub messages : Request → Texts (List ℕ)
messages request = record {
  text = hex_line;
  IsOne = IsBytes;
  is_valid = λ message. is_ok (result_for request message);
  printed = λ message. hex_line (result_unwrap_or (result_for request message) []);
  IsKept = λ message. Unit {0};
}

-- what the program makes of a message: the text to print, or the status
abbrev pub AnswersMessage : Request → Result (List ℕ) Status → List ℕ → Type 0
AnswersMessage request (Ok text) message =
    (is_ok (result_for request message) ≡ true)
    × (text ≡ hex_line (result_unwrap_or (result_for request message) []))
AnswersMessage request (Err Invalid) message = is_ok (result_for request message) ≡ false
AnswersMessage request (Err NoMemory) message = Unit {0}
AnswersMessage request (Err Done) message = ⊥
AnswersMessage request (Err WrongWords) message = ⊥
AnswersMessage request (Err NoScript) message = ⊥
AnswersMessage request (Err ReadFault) message = ⊥
AnswersMessage request (Err WriteFault) message = ⊥
AnswersMessage request (Err TooLong) message = ⊥

-- the status where a message is refused, or out of memory
abbrev pub status_of : RelayError → Status
status_of OutOfMemory = NoMemory
status_of _ = Invalid

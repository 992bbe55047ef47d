-- What the words of the command line ask for.
use Rattle.std.specs.Prelude.{◌≡◌, ℕ, List, [], ◌∷◌, codes, Option, Some, None, Result, Ok, Err}
use Rattle.std.specs.Net.Addr.{IsIpv6Addr}
use Rattle.hex.specs.Hex.{IsBytes}
use Rattle.dhcp_wire.specs.Error.{ErrorParts, no_memory}
use Rattle.dhcp_stream.specs.HexText.{address6_text, hex_text}
use Rattle.dhcp6_relay.specs.declared.request.Request.{Request}
use Rattle.dhcp6_relay.specs.declared.request.Request.TheVariants.{Wrap, Reply, Unwrap}

-- the words of a request: addresses have 32 hex digits, other bytes are in hex, `-` for none
abbrev pub words_of : Request → List (List ℕ)
words_of (Wrap link peer interface) =
    codes "wrap" ∷ address6_text link ∷ address6_text peer ∷ hex_text interface ∷ []
words_of (Reply answer) = codes "reply" ∷ hex_text answer ∷ []
words_of Unwrap = codes "unwrap" ∷ []

-- the addresses of a request are whole, and its bytes are bytes
abbrev pub IsRequest : Request → Type 0
IsRequest (Wrap link peer interface) = IsIpv6Addr link × IsIpv6Addr peer × IsBytes interface
IsRequest (Reply answer) = IsBytes answer
IsRequest Unwrap = Unit {0}

-- the words ask for this
abbrev pub AsksFor : List (List ℕ) → Request → Type 0
AsksFor words request = (words ≡ words_of request) × IsRequest request

-- the words ask for nothing that there is
abbrev pub AsksForNothing : List (List ℕ) → Type 0
AsksForNothing words = (request : Request) → ¬ (AsksFor words request)

-- what the words ask for; none if they ask for nothing that there is
abbrev pub IsRequestIn : Option Request → List (List ℕ) → Type 0
IsRequestIn (Some request) words = AsksFor words request
IsRequestIn None words = AsksForNothing words

-- the same, or out of memory
abbrev pub GivesRequest : Result (Option Request) ErrorParts → List (List ℕ) → Type 0
GivesRequest (Ok request) words = IsRequestIn request words
GivesRequest (Err e) words = e ≡ no_memory

-- the interface id that these bytes give: none if there are no bytes
abbrev pub interface_of : List ℕ → Option (List ℕ)
interface_of [] = None
interface_of (byte ∷ bytes) = Some (byte ∷ bytes)

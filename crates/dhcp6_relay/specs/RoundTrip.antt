-- The way of a message through relay agents to a server, and of its answer back.
use Rattle.std.specs.Prelude.{◌≡◌, ℕ, ◌≤◌, List, [], ◌∷◌, All, length, false, if◌then◌else◌, Result, Ok}
use Rattle.std.specs.Net.Addr.{IsIpv6Addr}
use Rattle.dhcp6_relay.specs.Hop.{Hop, layer_at}
use Rattle.dhcp6_relay.specs.Layer.{is_forward}
use Rattle.dhcp6_relay.specs.Outcome.{◌>>=◌}
use Rattle.dhcp6_relay.specs.Relay.{parsed_relay, relay_with}
use Rattle.dhcp6_relay.specs.Reply.{reply_of, most_layers}
use Rattle.dhcp6_relay.specs.Wrap.{next_hop_count, wrapped_message}
use Rattle.dhcp6_relay.specs.declared.error.RelayError.{RelayError}

-- a relay agent has two whole addresses
pub record HasAddresses (hop : Hop) : Type 0 where
  pub link : IsIpv6Addr hop.link
  pub peer : IsIpv6Addr hop.peer

-- from one to nine relay agents
pub record IsWay (hops : List Hop) : Type 0 where
  pub some : 1 ≤ length hops
  pub few : length hops ≤ most_layers
  pub addresses : All HasAddresses hops

-- what relay agents make of a message in turn; the last of them is the first of the list
unfoldable pub relayed_message : List Hop → List ℕ → Result (List ℕ) RelayError
relayed_message [] message = Ok message
relayed_message (hop ∷ hops) message = do
  bytes ← relayed_message hops message
  wrapped_message bytes hop

-- The way back of an answer, from the last relay agent, the first of the list, to the first: each
-- finds in the Relay-reply what it wrote itself, its hop count, its addresses and its interface id,
-- and inside what it sends on, which at the end is the answer.
abbrev pub BringsBack : List Hop → List ℕ → List ℕ → Type 0
BringsBack [] reply answer = reply ≡ answer
BringsBack (hop ∷ hops) reply answer =
    (inner : List ℕ)
    × ((parsed_relay reply ≡ Ok (relay_with false (layer_at (length hops) hop) inner))
    × BringsBack hops inner answer)

-- what an answer to a message is on the way there: the answer itself to the message of a client,
-- and the Relay-reply to a Relay-forward
abbrev pub answer_to : List ℕ → List ℕ → Result (List ℕ) RelayError
answer_to bytes answer = if is_forward bytes then reply_of bytes answer else Ok answer

-- What a relay agent finds in the reply to a message that it relayed: its hop count, its addresses
-- and its interface id, and inside an answer to the message.
pub record FindsItsLayer (bytes : List ℕ) (hop : Hop) (answer reply : List ℕ) : Type 0 where
  pub hops : ℕ
  pub inner : List ℕ
  pub counted : next_hop_count bytes ≡ Ok hops
  pub sent_on : answer_to bytes answer ≡ Ok inner
  pub found : parsed_relay reply ≡ Ok (relay_with false (layer_at hops hop) inner)

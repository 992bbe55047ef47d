-- Relay agents.
use Rattle.std.specs.Prelude.{ℕ, List, Result, Ok, option_copied}
use Rattle.dhcp6_relay.specs.Hop.{Hop}
use Rattle.dhcp6_relay.specs.Outcome.{◌>>=◌}
use Rattle.dhcp6_relay.specs.Reply.{reply_of}
use Rattle.dhcp6_relay.specs.Wrap.{wrapped_message}
use Rattle.dhcp6_relay.specs.declared.error.RelayError.{RelayError}
use Rattle.uses.specs.declared.relay.RelayAgent.{RelayAgent}

-- what a relay agent writes of a message that it receives
abbrev pub hop_of : RelayAgent → Hop
hop_of agent = record {
  link = agent.link;
  peer = agent.peer;
  interface = option_copied agent.interface;
}

-- The answer to a message that two relay agents relay: it comes back as it was, unless one of them
-- refuses the message, or there is no Relay-reply to what the second sends.
abbrev pub answer_through : Hop → Hop → List ℕ → List ℕ → Result (List ℕ) RelayError
answer_through first second message answer = do
  once ← wrapped_message message first
  twice ← wrapped_message once second
  reply ← reply_of twice answer
  Ok answer

-- How much a client sends in a stay, by its history, RFC 8415 sections 7.6 and 15.
use Rattle.std.specs.Prelude.{ℕ}
use Rattle.dhcp_clock.specs.declared.link.Handed.{Handed}
use Rattle.dhcp_history.specs.Bounds.{TakesAtMost}
use Rattle.dhcp_history.specs.History.{Stay}
use Rattle.dhcp6_client.specs.declared.client_state.ClientState.{ClientState}
use Rattle.dhcp6_client.specs.declared.client_state.ClientState.TheVariants.{Solicit, Request, Done, Temporary, Renew, Rebind}

-- an offer is requested eleven times at most
abbrev pub HasElevenRequests : Stay ClientState Handed → Type 0
HasElevenRequests = TakesAtMost 11 Request

-- how far apart the messages of a state are at least, in milliseconds
abbrev pub distance : ClientState → ℕ
distance Solicit = 900
distance (Request offer) = 900
distance (Done bound) = 9000
distance (Temporary bound) = 9000
distance (Renew bound) = 9000
distance (Rebind bound) = 9000

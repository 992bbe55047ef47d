-- How much a client sends in a stay, by its history, RFC 8415 sections 7.6 and 15.
use Rattle.std.specs.Prelude.{ℕ}
use Rattle.dhcp6_info.specs.declared.client_state.ClientState.{ClientState}
use Rattle.dhcp6_info.specs.declared.client_state.ClientState.TheVariants.{Inform, Done}

-- how far apart the messages of a state are at least, in milliseconds; a client that is done sends
-- none
abbrev pub distance : ClientState → ℕ
distance Inform = 900
distance (Done bound) = 900

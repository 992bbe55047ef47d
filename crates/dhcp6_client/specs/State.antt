-- The states of a client, RFC 8415 section 18.2, as they are printed.
use Rattle.std.specs.Prelude.{ℕ, List, ◌++◌, codes, Bool, true, false}
use Rattle.std.specs.Net.Addr.{ipv6_segments}
use Rattle.std.specs.Net.Text.{ipv6_text}
use Rattle.dhcp6_client.specs.declared.state.DhcpV6State.{DhcpV6State}
use Rattle.dhcp6_client.specs.declared.state.DhcpV6State.TheVariants.{Done, Solicit, Request, Renew, Rebind}
use Rattle.dhcp6_client.specs.declared.state.PlainState.{PlainState}
use Rattle.dhcp6_client.specs.declared.state.PlainState.TheVariants as plain

-- what a state holds, wherever its lease is kept
abbrev pub plain_state : DhcpV6State → PlainState
plain_state (Done lease) = plain.Done lease.value
plain_state Solicit = plain.Solicit
plain_state Request = plain.Request
plain_state Renew = plain.Renew
plain_state Rebind = plain.Rebind

-- a state as it is printed: a lease with its address
unfoldable pub state_text : DhcpV6State → List ℕ
state_text (Done lease) =
    codes "done(" ++ ipv6_text (ipv6_segments lease.value.address) ++ codes ")"
state_text Solicit = codes "solicit"
state_text Request = codes "request"
state_text Renew = codes "renew"
state_text Rebind = codes "rebind"

-- whether a client in this state is done: it has a lease that it need not renew yet
abbrev pub is_done : DhcpV6State → Bool
is_done (Done lease) = true
is_done Solicit = false
is_done Request = false
is_done Renew = false
is_done Rebind = false

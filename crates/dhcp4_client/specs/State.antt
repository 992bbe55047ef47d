-- The states of a client, RFC 2131 section 4.4, as they are printed.
use Rattle.std.specs.Prelude.{ℕ, List, ◌++◌, codes, Bool, true, false}
use Rattle.std.specs.Net.Addr.{ipv4_octets}
use Rattle.std.specs.Net.Text.{ipv4_text}
use Rattle.dhcp4_client.specs.declared.state.DhcpV4State.{DhcpV4State}
use Rattle.dhcp4_client.specs.declared.state.DhcpV4State.TheVariants.{Done, InitReboot, Selecting, Renewing, Rebinding}
use Rattle.dhcp4_client.specs.declared.state.PlainState.{PlainState}
use Rattle.dhcp4_client.specs.declared.state.PlainState.TheVariants as plain

-- what a state holds, wherever its lease is kept
abbrev pub plain_state : DhcpV4State → PlainState
plain_state (Done lease) = plain.Done lease.value
plain_state InitReboot = plain.InitReboot
plain_state Selecting = plain.Selecting
plain_state Renewing = plain.Renewing
plain_state Rebinding = plain.Rebinding

-- a state as it is printed: a lease with its address
unfoldable pub state_text : DhcpV4State → List ℕ
state_text (Done lease) = codes "done(" ++ ipv4_text (ipv4_octets lease.value.yiaddr) ++ codes ")"
state_text InitReboot = codes "init_reboot"
state_text Selecting = codes "selecting"
state_text Renewing = codes "renewing"
state_text Rebinding = codes "rebinding"

-- whether a client in this state is done: it has a lease that it need not renew yet
abbrev pub is_done : DhcpV4State → Bool
is_done (Done lease) = true
is_done InitReboot = false
is_done Selecting = false
is_done Renewing = false
is_done Rebinding = false

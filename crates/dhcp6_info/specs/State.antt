-- The states of a client for configuration alone, as they are printed.
use Rattle.std.specs.Prelude.{ℕ, List, codes, Bool, true, false}
use Rattle.dhcp6_info.specs.declared.state.DhcpV6InfoState.{DhcpV6InfoState}
use Rattle.dhcp6_info.specs.declared.state.DhcpV6InfoState.TheVariants.{Done, Inform}
use Rattle.dhcp6_info.specs.declared.state.PlainInfoState.{PlainInfoState}
use Rattle.dhcp6_info.specs.declared.state.PlainInfoState.TheVariants as plain

-- what a state holds, wherever its configuration is kept
abbrev pub plain_state : DhcpV6InfoState → PlainInfoState
plain_state (Done info) = plain.Done info.value
plain_state Inform = plain.Inform

-- a state as it is printed
unfoldable pub state_text : DhcpV6InfoState → List ℕ
state_text (Done info) = codes "done"
state_text Inform = codes "inform"

-- whether a client in this state is done: it has a configuration that is not to be refreshed yet
abbrev pub is_done : DhcpV6InfoState → Bool
is_done (Done info) = true
is_done Inform = false

-- The lease that a client holds: the order of its times, and the moment from which they count.
use Rattle.std.specs.Prelude.{◌≡◌, ◌⊎◌, ℕ, Bool, true, false, Option, Some, None, Result, Ok}
use Rattle.dhcp_history.specs.declared.client.Client.{Client}
use Rattle.dhcp_history.specs.declared.machine.RunError.{RunError}
use Rattle.dhcp_history.specs.BoundLease.{Bound}
use Rattle.dhcp_history.specs.Protocol.{has_come}
use Rattle.dhcp4_lease.specs.Lease.{Lease, are_times_in_order}
use Rattle.dhcp4_client.specs.declared.client_state.ClientState.{ClientState}
use Rattle.dhcp4_client.specs.declared.client_state.ClientState.TheVariants.{InitReboot, Selecting, Rebooting, Done, Renewing, Rebinding}
use Rattle.dhcp4_client.specs.declared.client_state.Exchange.{Exchange}
use Rattle.dhcp4_client.specs.declared.state.PlainState.{PlainState}
use Rattle.dhcp4_client.specs.declared.state.PlainState.TheVariants as plain
use Rattle.dhcp4_client.specs.Rules.{lease_end}

-- whether T1, T2 and the end of the lease of a state are in order, if it has a lease
abbrev pub has_times_in_order : ClientState → Bool
has_times_in_order InitReboot = true
has_times_in_order (Selecting offer) = are_times_in_order offer
has_times_in_order (Rebooting held) = are_times_in_order held
has_times_in_order (Done bound) = are_times_in_order bound.lease
has_times_in_order (Renewing bound) = are_times_in_order bound.lease
has_times_in_order (Rebinding bound) = are_times_in_order bound.lease

-- the lease that is held, with the moment from which its times count; in REBOOTING they do not
-- count yet
abbrev pub bound_lease : ClientState → Option (Bound Lease)
bound_lease InitReboot = None
bound_lease (Selecting offer) = None
bound_lease (Rebooting held) = None
bound_lease (Done bound) = Some bound
bound_lease (Renewing bound) = Some bound
bound_lease (Rebinding bound) = Some bound

-- What a poll at a moment, with this answer, leaves of the lease that is held.
pub record KeepsLease (now : ℕ) (answer : Result (Option PlainState) RunError)
    (old new : Client ClientState Exchange) : Type 0 where
  -- a lease that is reported counts from this moment
  pub granted : (lease : Lease) → answer ≡ Ok (Some (plain.Done lease)) →
      new.state ≡ Done (record { lease = lease; since = now })
  -- the lease that is held was held before, from the same moment on, or it is reported
  pub held : (bound : Bound Lease) → bound_lease new.state ≡ Some bound →
      (bound_lease old.state ≡ Some bound) ⊎
      ((bound.since ≡ now) × (answer ≡ Ok (Some (plain.Done bound.lease))))
  -- without a change it has not ended
  pub lasts : answer ≡ Ok None → has_come now (lease_end new.state) ≡ false

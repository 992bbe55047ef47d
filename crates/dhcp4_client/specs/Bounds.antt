-- How much a client sends in a stay, by its history, RFC 2131 sections 3.2, 4.1 and 4.4.5.
use Rattle.std.specs.Prelude.{◌≡◌, ℕ, ◌-◌, ◌*◌, ◌^◌, ◌<◌, ◌≤◌}
use Rattle.dhcp_clock.specs.declared.link.Handed.{Handed}
use Rattle.dhcp_history.specs.BoundLease.{Bound}
use Rattle.dhcp_history.specs.Bounds.{TakesAtMost, attempts_of, taken_count}
use Rattle.dhcp_history.specs.History.{Stay}
use Rattle.dhcp4_lease.specs.Lease.{Lease}
use Rattle.dhcp4_client.specs.declared.client_state.ClientState.{ClientState}
use Rattle.dhcp4_client.specs.declared.client_state.ClientState.TheVariants.{InitReboot, Selecting, Rebooting, Done, Renewing, Rebinding}

-- so many messages in so many seconds: from the second on, each further one asks for twice the time
abbrev pub HalvesIn : ℕ → ℕ → Type 0
HalvesIn count seconds = 2 ≤ count → 60 * 2 ^ (count - 2) < seconds

-- the messages of a stay that the link took get rarer by half, in RENEWING from T1 to T2, and in
-- REBINDING from T2 to the end of the lease
pub record GetsRarer (stay : Stay ClientState Handed) : Type 0 where
  pub renewing : (bound : Bound Lease) → stay.setting.state ≡ Renewing bound →
      HalvesIn (taken_count (attempts_of stay.acts)) (bound.lease.t2_sec - bound.lease.t1_sec)
  pub rebinding : (bound : Bound Lease) → stay.setting.state ≡ Rebinding bound →
      HalvesIn (taken_count (attempts_of stay.acts))
      (bound.lease.lease_time_sec - bound.lease.t2_sec)

-- a lease that was held before is requested four times at most
abbrev pub HasFourRequests : Stay ClientState Handed → Type 0
HasFourRequests = TakesAtMost 4 Rebooting

-- so is an offer, where a client gives it up
abbrev pub HasFourRequestsOfAnOffer : Stay ClientState Handed → Type 0
HasFourRequestsOfAnOffer = TakesAtMost 4 Selecting

-- how far apart the messages of a state are at least, in milliseconds
abbrev pub distance : ClientState → ℕ
distance InitReboot = 3000
distance (Selecting offer) = 3000
distance (Rebooting held) = 3000
distance (Done bound) = 60000
distance (Renewing bound) = 60000
distance (Rebinding bound) = 60000

-- The traffic of a client's history: its waits, by the laws of histories.
use Rattle.std.proofs.Common.{subst, sym, ◌≡◌, ℕ, ◌+◌, ◌-◌, ◌*◌, ◌^◌, ◌≤◌, ◌<◌, List, refl, Bool, true, arith}
use Rattle.std.specs.Prelude.{Option, All, nat_le}
use Rattle.std.specs.List.{Contains}
use Rattle.std.proofs.lemmas.Bool.{leb-true, le-leb}
use Rattle.std.proofs.lemmas.List.Elements.{All-contains, All-contains_itself, All-weaker}
use Rattle.dhcp_clock.specs.declared.link.Handed.{Handed}
use Rattle.dhcp_clock.specs.declared.link.Packet.{Packet}
use Rattle.dhcp_history.specs.Script.{Script}
use Rattle.dhcp_history.specs.History.{Stay, history}
use Rattle.dhcp_history.specs.Bounds as generic
use Rattle.dhcp_history.specs.BoundLease.{after}
use Rattle.dhcp_history.specs.Bounds.{HoldsAtEntries, EndsAfter, HasAtMost, IsSparse, attempts_of, taken_count, IsKept, Distant, IsTakenDistant, KeepsDistance}
use Rattle.dhcp_history.proofs.Traffic.{keeps_distance}
use Rattle.dhcp4_lease.specs.Config.{Config}
use Rattle.dhcp4_lease.specs.declared.message_forms.DhcpV4MessageForms.{DhcpV4MessageForms}
use Rattle.dhcp4_lease.specs.declared.message_forms.DhcpV4MessageForms.TheVariants.{Rfc2131}
use Rattle.dhcp4_lease.specs.Lease.{Lease}
use Rattle.dhcp4_client.specs.declared.client_state.ClientState.{ClientState}
use Rattle.dhcp4_client.specs.declared.client_state.ClientState.TheVariants.{InitReboot, Selecting, Rebooting, Done, Renewing, Rebinding}
use Rattle.dhcp4_client.specs.declared.client_state.Exchange.{Exchange}
use Rattle.dhcp4_client.specs.Bounds.{HalvesIn, GetsRarer, distance}
use Rattle.dhcp4_client.specs.Client.{first_state}
use Rattle.dhcp4_client.specs.Rules.{is_last_request, protocol}
use Rattle.dhcp4_client.proofs.Lawful.{discovery_wait_long}

-- a lease is renewed from T1 on, and rebound from T2 on
abbrev is_due : ClientState → ℕ → Bool
is_due InitReboot now = true
is_due (Selecting offer) now = true
is_due (Rebooting held) now = true
is_due (Done bound) now = true
is_due (Renewing bound) now = nat_le (after bound bound.lease.t1_sec) now
is_due (Rebinding bound) now = nat_le (after bound bound.lease.t2_sec) now

due_at_entries : (config : Config) → HoldsAtEntries (protocol config) is_due
due_at_entries config = record {
  cut = λ exchange now. refl;
  answer = λ state answer now exchange. grind arith;
  end = λ state exchange after now h. grind arith;
}

seconds : (count since first last entered : ℕ) → generic.Halves count (since + 1000 * last - entered) → since + 1000 * first ≤ entered → HalvesIn count (last - first)
seconds count since first last entered h due two = go (2 ^ (count - 2)) (h two)
  where
    go : (power : ℕ) → 60000 * power < since + 1000 * last - entered → 60 * power < last - first
    go power e = omega (arith, e, due)

rarer_by : (config : Config) (stay : Stay ClientState Handed) → is_due stay.setting.state stay.setting.entered ≡ true → IsSparse (protocol config) stay → GetsRarer stay
rarer_by config stay due sparse = record {
  renewing = λ bound e.
      seconds (taken_count (attempts_of stay.acts)) bound.since bound.lease.t1_sec bound.lease.t2_sec stay.setting.entered
      (sparse (after bound bound.lease.t2_sec) (rw e (record { ends = refl; waits = λ exchange start words. refl })))
      (leb-true (after bound bound.lease.t1_sec) stay.setting.entered (subst (λ (state : ClientState). is_due state stay.setting.entered ≡ true) e due));
  rebinding = λ bound e.
      seconds (taken_count (attempts_of stay.acts)) bound.since bound.lease.t2_sec bound.lease.lease_time_sec stay.setting.entered
      (sparse (after bound bound.lease.lease_time_sec) (rw e (record { ends = refl; waits = λ exchange start words. refl })))
      (leb-true (after bound bound.lease.t2_sec) stay.setting.entered (subst (λ (state : ClientState). is_due state stay.setting.entered ≡ true) e due));
}

first_due : (lease : Option Lease) (now : ℕ) → is_due (first_state lease) now ≡ true
first_due lease now = grind arith

pub rarer_history : (config : Config) →
    ((holds : ClientState → ℕ → Bool) → HoldsAtEntries (protocol config) holds → (script : Script Packet ClientState Exchange) → ((now : ℕ) → holds script.state now ≡ true) →
    All (λ stay. holds stay.setting.state stay.setting.entered ≡ true) (history (protocol config) script)) →
    ((script : Script Packet ClientState Exchange) → All (IsSparse (protocol config)) (history (protocol config) script)) →
    (lease : Option Lease) (script : Script Packet ClientState Exchange) → script.state ≡ first_state lease → All GetsRarer (history (protocol config) script)
rarer_history config entries halves lease script begins =
    let stays : List (Stay ClientState Handed) = history (protocol config) script in
    let begun : (now : ℕ) → is_due script.state now ≡ true = λ now. rw begins (first_due lease now) in
    All-weaker (Contains stays) GetsRarer
    (λ stay at. rarer_by config stay
    (All-contains (λ (stay : Stay ClientState Handed). is_due stay.setting.state stay.setting.entered ≡ true) stays stay (entries is_due (due_at_entries config) script begun) at)
    (All-contains (IsSparse (protocol config)) stays stay (halves script) at))
    stays (All-contains_itself stays)

-- a lease that was held before is requested four times
pub four : (config : Config) (held : Lease) → EndsAfter (protocol config) (Rebooting held) 4
four config held = record {
  some = omega arith;
  count = λ exchange. exchange.retry_count;
  last = λ exchange h. le-leb 3 exchange.retry_count (omega (arith, h));
  rises = λ exchange h. omega (arith, h);
  keeps = λ exchange start words. omega arith;
}

-- so is an offer, by the forms of RFC 2131
pub four_of_an_offer : (config : Config) → config.message_forms ≡ Rfc2131 → (offer : Lease) → EndsAfter (protocol config) (Selecting offer) 4
four_of_an_offer config forms offer = record {
  some = omega arith;
  count = λ exchange. exchange.retry_count;
  last = λ exchange h.
      let fourth : is_last_request Rfc2131 exchange ≡ true = le-leb 3 exchange.retry_count (omega (arith, h)) in
      subst (λ (chosen : DhcpV4MessageForms). is_last_request chosen exchange ≡ true) (sym forms) fourth;
  rises = λ exchange h. omega (arith, h);
  keeps = λ exchange start words. omega arith;
}

-- each exchange will do
always : Exchange → Bool
always exchange = true

kept : (config : Config) → IsKept (protocol config) always
unfolding always
kept config = record { after_wait = λ exchange h. refl; cleaned = λ exchange. refl; answered = λ state answer now exchange. refl; ended = λ state exchange. refl }

-- each wait is as long as its state has it at least, or lasts to the end of the state
distant : (config : Config) (state : ClientState) → Distant (protocol config) always state (distance state)
unfolding always
distant config state = record { far = λ exchange start words g h. grind (arith, discovery_wait_long) }

pub far_history : (config : Config) →
    ((good : Exchange → Bool) → IsKept (protocol config) good → (script : Script Packet ClientState Exchange) → good script.exchange ≡ true →
    All (IsTakenDistant (protocol config) good) (history (protocol config) script)) →
    (script : Script Packet ClientState Exchange) → All (KeepsDistance distance) (history (protocol config) script)
unfolding always
far_history config law script =
    keeps_distance (protocol config) (λ least. always) distance (distant config) (history (protocol config) script)
    (λ least. law always (kept config) script refl)

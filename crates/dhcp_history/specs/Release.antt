-- What a release does, and what it leaves.
use Rattle.std.specs.Prelude.{◌≡◌, Bool, true, false, Option, Some, None, option_map, Result, Ok, Err}
use Rattle.dhcp_clock.specs.declared.link.Packet.{Packet}
use Rattle.dhcp_clock.specs.declared.link.Handed.{Handed}
use Rattle.dhcp_clock.specs.Link.{Shown}
use Rattle.dhcp_history.specs.declared.release.ReleaseError.{ReleaseError}
use Rattle.dhcp_history.specs.declared.release.ReleaseError.TheVariants as release
use Rattle.dhcp_history.specs.Protocol.{Protocol}
use Rattle.dhcp_history.specs.Machine.{View, clean_up}
use Rattle.dhcp_history.specs.Run.{handed_by}

-- a fact for each answer but out of memory
abbrev pub UnlessOutOfMemory : {A : Type 0} → Result A ReleaseError → Type 0 → Type 0
UnlessOutOfMemory (Ok a) P = P
UnlessOutOfMemory (Err release.Refused) P = P
UnlessOutOfMemory (Err release.OutOfMemory) P = Unit {0}

-- a fact for out of memory alone
abbrev pub OnOutOfMemory : {A : Type 0} → Result A ReleaseError → Type 0 → Type 0
OnOutOfMemory (Ok a) P = Unit {0}
OnOutOfMemory (Err release.Refused) P = Unit {0}
OnOutOfMemory (Err release.OutOfMemory) P = P

-- what a release does: the client after it, the message that it hands to the link, and its answer
pub record ReleaseEffect (State Exchange : Type 0) : Type 0 where
  pub view : View State Exchange
  pub handed : Option Handed
  pub answer : Result Bool ReleaseError

module _ {PublicState State Exchange Answer Lease : Type 0}
    (p : Protocol PublicState Packet Handed State Exchange Answer Lease) where
  -- the message that releases the lease that is held, if one is
  abbrev pub held_message : State → Exchange → Option Handed
  held_message state exchange =
      option_map (λ lease. p.release_message lease exchange) (p.held_lease state)

  -- no lease is held; the link refuses the message; or it takes it, and a clean-up follows
  abbrev pub release_by : Option Lease → Bool → View State Exchange → ReleaseEffect State Exchange
  release_by None refuse view = record { view = view; handed = None; answer = Ok false }
  release_by (Some lease) true view = record {
    view = view;
    handed = Some (p.release_message lease view.exchange);
    answer = Err release.Refused;
  }
  release_by (Some lease) false view = record {
    view = clean_up p view;
    handed = Some (p.release_message lease view.exchange);
    answer = Ok true;
  }

  -- the release of the lease that is held
  abbrev pub release_held : Bool → View State Exchange → ReleaseEffect State Exchange
  release_held refuse view = release_by (p.held_lease view.state) refuse view

-- what a release leaves: its answer, the client and the link
pub record HasReleased {State Exchange : Type 0} (once : ReleaseEffect State Exchange)
    (result : Result Bool ReleaseError) (new : View State Exchange) (before : Shown)
    (after : Option Shown) : Type 0 where
  pub answer : result ≡ once.answer
  pub client : new ≡ once.view
  pub link : after ≡
      Some (record before { handed = handed_by before.refuses once.handed before.handed })

-- What a release of a client leaves, and its errors, RFC 8415 section 18.2.7. It is sent once, and
-- no answer is awaited, where the RFC has it sent again until a Reply comes, four times at most.
use Rattle.std.specs.Prelude.{◌≡◌, ◌⊎◌, ℕ, true, false, Option, Result, Err, IfErr}
use Rattle.dhcp_wire.specs.Error.{ErrorParts, error_of, fixed_text, no_memory}
use Rattle.dhcp_wire.specs.declared.error.ErrorKind.TheVariants as kinds
use Rattle.dhcp_wire.specs.declared.error.FixedText.TheVariants as texts
use Rattle.dhcp_clock.specs.declared.link.Handed.{Handed}
use Rattle.dhcp_clock.specs.Link.{Shown}
use Rattle.dhcp_history.specs.Calls.{HandsRelease}
use Rattle.dhcp_history.specs.Errors.{send_refused}
use Rattle.dhcp6_msg.specs.Lease.{Lease, is_duid}
use Rattle.dhcp6_client.specs.Client.{ClientParts}
use Rattle.dhcp6_client.specs.Message.{release_message}
use Rattle.dhcp6_client.specs.Rules.{protocol}

-- the error of a lease that a client may not hold or release
abbrev pub lease_refused : ErrorParts
lease_refused = error_of kinds.InvalidArgument (fixed_text texts.Lease)

-- the release of a lease by a client
abbrev pub release_by : ClientParts → Lease → Handed
release_by parts lease = release_message parts.client.standing.exchange.xid parts.config lease

-- What the release of a lease promises. A lease without an identifier of its server is refused.
pub record IsReleaseOf {Returned : Type 0} (lease : Lease) (now : ℕ)
    (result : Result Returned ErrorParts) (old new : ClientParts) (before after : Option Shown)
    (faults_before faults_after : ℕ) : Type 0 where
  pub release : HandsRelease (protocol old.config) (release_by old lease) now result
      old.client new.client before after faults_before faults_after
  pub open release use *
  pub config : new.config ≡ old.config
  pub limits : is_duid lease.srv_duid ≡ false → (result ≡ Err lease_refused) × (new ≡ old)
      × (faults_after ≡ faults_before)
  pub errors : is_duid lease.srv_duid ≡ true → IfErr result
      (λ error. (error ≡ send_refused) ⊎ (error ≡ no_memory))

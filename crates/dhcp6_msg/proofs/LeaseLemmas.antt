-- What every lease that is read has.
use Rattle.std.proofs.Common.{◌≡◌, ℕ, ◌≤◌, true, false, not, length, IsTrue, IfOk, IfSome, Option, Some, None, unwrap_or, Result, Ok, Err, cond, refl, sym, ap, subst, ◌∙◌, lit≤}
use Rattle.std.proofs.lemmas.Bool.{and_parts}
use Rattle.dhcp_wire.specs.declared.error.ErrorKind.{ErrorKind}
use Rattle.dhcp_wire.specs.declared.error.ErrorKind.TheVariants.{InvalidDhcpMessage, NoLease}
use Rattle.dhcp_wire.specs.Error.{ErrorParts}
use Rattle.dhcp_wire.specs.Outcome.{Answers, Gives}
use Rattle.dhcp6_opt.specs.declared.duid.DhcpV6Duid.{DhcpV6Duid}
use Rattle.dhcp6_opt.specs.Duid.{no_duid, written_duid}
use Rattle.dhcp6_opt.specs.Options.{OptionLists}
use Rattle.dhcp6_opt.specs.Said.{said_by, status_said}
use Rattle.dhcp6_opt.specs.Status.{is_no_failure}
use Rattle.dhcp6_msg.specs.declared.message.DhcpV6Message.{DhcpV6Message}
use Rattle.dhcp6_msg.specs.Lease.{Lease, are_times_in_order, granted_lease, is_grant, lease_of, lease_with, read_lease, terms_of}
use Rattle.dhcp6_msg.specs.Message.{id_number}

-- an identifier that is short, or else the one without bytes, is short
pub kept_is_short : (said : Option DhcpV6Duid) → IfSome said (λ duid. length (written_duid duid) ≤ 65535) → length (written_duid (unwrap_or said no_duid)) ≤ 65535
unfolding written_duid
kept_is_short None short = lit≤ tt
kept_is_short (Some duid) short = short

-- a lease that is granted is a grant
pub granted-grant : (lease granted : Lease) → granted_lease lease ≡ Ok granted → IsTrue (is_grant granted)
granted-grant lease granted is =
    elim (is_grant lease) as (λ b. is_grant lease ≡ b → (let result : Result Lease ErrorKind = cond b (Ok lease) (Err InvalidDhcpMessage) in result) ≡ Ok granted → IsTrue (is_grant granted)) [
      | true ↦ λ grants is. subst (λ lease. IsTrue (is_grant lease)) (ok-same _ _ is) grants
      | false ↦ λ _ is. absurd (err-ok _ _ is)
    ] refl is
  where
    ok-same : (a b : Lease) → (let one : Result Lease ErrorKind = Ok a in one) ≡ Ok b → a ≡ b
    ok-same a b is = cc

    err-ok : (kind : ErrorKind) (b : Lease) → (let one : Result Lease ErrorKind = Err kind in one) ≡ Ok b → ⊥
    err-ok kind b is = cc

-- a grant has its times in order
pub grant-in_order : (lease : Lease) → IsTrue (is_grant lease) → IsTrue (are_times_in_order lease)
grant-in_order lease grants = (and_parts _ _ (and_parts _ _ grants).0).0

pub granted_in_order : (result : Result Lease ErrorParts) (lease : Lease) → Answers (λ lease. lease) result (granted_lease lease) → IfOk result (λ lease. IsTrue (are_times_in_order lease))
granted_in_order (Ok granted) lease is = grant-in_order granted (granted-grant lease granted is)
granted_in_order (Err e) lease is = tt

-- a message whose status says that something failed
pub failed_is_refused : (message : DhcpV6Message) → IsTrue (not (is_no_failure (said_by status_said message.options 13))) → read_lease message ≡ Err NoLease
unfolding read_lease
failed_is_refused message failed =
    elim (is_no_failure (said_by status_said message.options 13)) as (λ b. IsTrue (not b) → (let result : Result Lease ErrorKind = cond b (granted_lease (lease_of message)) (Err NoLease) in result) ≡ Err NoLease) [
      | true ↦ λ failed. cc
      | false ↦ λ _. refl
    ] failed

-- any other message
pub other_is_read : (message : DhcpV6Message) → not (is_no_failure (said_by status_said message.options 13)) ≡ false → read_lease message ≡ granted_lease (lease_of message)
unfolding read_lease
other_is_read message succeeded =
    elim (is_no_failure (said_by status_said message.options 13)) as (λ b. not b ≡ false → (let result : Result Lease ErrorKind = cond b (granted_lease (lease_of message)) (Err NoLease) in result) ≡ granted_lease (lease_of message)) [
      | true ↦ λ _. refl
      | false ↦ λ succeeded. cc
    ] succeeded

-- the lease of its id and its options, or the refusal of them
pub read_from : (result : Result Lease ErrorParts) (message : DhcpV6Message) (xid : ℕ) (options : OptionLists) →
    xid ≡ id_number message.xid → options ≡ message.options →
    not (is_no_failure (said_by status_said message.options 13)) ≡ false →
    Gives (λ lease. lease) result (granted_lease (lease_with xid options (terms_of options))) →
    Gives (λ lease. lease) result (read_lease message)
read_from result message xid options is_xid same succeeded given =
    let read : granted_lease (lease_with xid options (terms_of options)) ≡ read_lease message =
    ap (λ id. granted_lease (lease_with id options (terms_of options))) is_xid
    ∙ ap (λ kept. granted_lease (lease_with (id_number message.xid) kept (terms_of kept))) same
    ∙ sym (other_is_read message succeeded) in
    subst (λ expected. Gives (λ lease. lease) result expected) read given

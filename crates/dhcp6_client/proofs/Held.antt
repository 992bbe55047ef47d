-- The lease that is held: its times are in order, and count from the poll that reports it.
use Rattle.std.proofs.Common.{◌≡◌, ℕ, ◌+◌, ◌*◌, List, [], ◌++◌, Bool, true, false, refl, ap, sym, subst, ◌∙◌, ◌⊎◌, inl, inr, arith}
use Rattle.std.specs.Prelude.{Option, Some, None, nat_le, not, ◌&&◌, Result, Ok, Err, OnErr, IfOk, IfSome}
use Rattle.std.proofs.lemmas.Bool.{and_parts, lt-leb, leb-false, leb-true}
use Rattle.dhcp_clock.specs.declared.link.Packet.{Packet}
use Rattle.dhcp_clock.specs.Link.{Turn}
use Rattle.dhcp_history.specs.declared.client.Client.{Client}
use Rattle.dhcp_history.specs.declared.machine.RunError.{RunError}
use Rattle.dhcp_history.specs.BoundLease.{Bound}
use Rattle.dhcp_history.specs.Client.{view_of}
use Rattle.dhcp_history.specs.HeardBy.{IsHeard, IsEnded}
use Rattle.dhcp_history.specs.Kept.{Preserves}
use Rattle.dhcp_history.specs.Machine.{View}
use Rattle.dhcp_history.specs.Protocol.{has_come}
use Rattle.dhcp_history.specs.Run.{UnlessNoMemory}
use Rattle.dhcp_history.specs.Traced.{Traces}
use Rattle.dhcp_history.proofs.Heard.{comes_from}
use Rattle.dhcp6_msg.specs.Config.{Config}
use Rattle.dhcp6_msg.specs.Lease.{Lease, are_times_in_order, granted_lease, is_duid, is_grant, is_no_duid, is_typed, is_unspecified, is_within_limits, lease_of, read_lease}
use Rattle.dhcp6_msg.specs.declared.message.DhcpV6Message.{DhcpV6Message}
use Rattle.dhcp6_msg.specs.declared.mode.DhcpV6Mode.{DhcpV6Mode}
use Rattle.dhcp6_msg.specs.declared.mode.DhcpV6Mode.TheVariants.{NonTemporaryAddresses, TemporaryAddresses, PrefixDelegation}
use Rattle.dhcp6_opt.specs.Said.{said_by, status_said}
use Rattle.dhcp6_opt.specs.Status.{is_no_failure}
use Rattle.dhcp6_client.specs.declared.client_state.ClientState.{ClientState}
use Rattle.dhcp6_client.specs.declared.client_state.ClientState.TheVariants.{Solicit, Request, Done, Temporary, Renew, Rebind}
use Rattle.dhcp6_client.specs.declared.client_state.Exchange.{Exchange}
use Rattle.dhcp6_client.specs.declared.state.PlainState.{PlainState}
use Rattle.dhcp6_client.specs.declared.state.PlainState.TheVariants as plain
use Rattle.dhcp6_client.specs.Answer.{answer_of, awaited_type, lease_if_read, message_for}
use Rattle.dhcp6_client.specs.Client.{can_begin, first_state}
use Rattle.dhcp6_client.specs.Held.{KeepsLease, bound_lease, has_times_in_order}
use Rattle.dhcp6_client.specs.Rules.{protocol, public_state, after_answer, after_end, bound_state, ending_moment, held_lease, lease_end}
use Rattle.dhcp6_client.proofs.Granted.{bound_reports, ended_has_none, same_in_option, same_lease}
use Rattle.dhcp6_client.proofs.Limits.{begins_held}

-- 1. The times of a lease are in order.

-- a lease that is read of a message grants something
read_ordered : (message : DhcpV6Message) (lease : Lease) → lease_if_read (read_lease message) ≡ Some lease → are_times_in_order lease ≡ true
unfolding read_lease
read_ordered message lease e = by_status (is_no_failure (said_by status_said message.options 13)) refl
  where
    granted : (given : Lease) (b : Bool) → is_grant given ≡ b → lease_if_read (granted_lease given) ≡ Some lease → are_times_in_order lease ≡ true
    granted given true is h =
        let same : given ≡ lease = same_in_option given lease (rw is at h) in
        let parts : Bool = are_times_in_order given && not (is_no_duid given.srv_duid) in
        let ordered : are_times_in_order given ≡ true =
        (and_parts (are_times_in_order given) (not (is_no_duid given.srv_duid)) (and_parts parts (not (is_unspecified given.address)) is).0).0 in
        subst (λ (l : Lease). are_times_in_order l ≡ true) same ordered
    granted given false is h = absurd (cc (rw is at h))

    by_status : (b : Bool) → is_no_failure (said_by status_said message.options 13) ≡ b → are_times_in_order lease ≡ true
    by_status true is = granted (lease_of message) (is_grant (lease_of message)) refl (rw is at e)
    by_status false is = absurd (cc (rw is at e))

answer_ordered : (message : Option DhcpV6Message) (lease : Lease) → answer_of message ≡ Some lease → are_times_in_order lease ≡ true
answer_ordered None lease e = absurd (cc e)
answer_ordered (Some message) lease e = read_ordered message lease e

-- a client that has a lease has it with its times
bound_ordered : (mode : DhcpV6Mode) (bound : Bound Lease) → are_times_in_order bound.lease ≡ true → has_times_in_order (bound_state mode bound) ≡ true
bound_ordered NonTemporaryAddresses bound h = h
bound_ordered TemporaryAddresses bound h = h
bound_ordered (PrefixDelegation length) bound h = h

-- so the times of each lease that a client has are in order, if those of the first one are
pub order_preserved : (config : Config) → Preserves (protocol config) has_times_in_order
order_preserved config = record { ended = ended; answered = answered; cleaned = λ exchange. refl }
  where
    ended : (state : ClientState) (exchange : Exchange) → has_times_in_order state ≡ true → has_times_in_order (after_end state exchange).state ≡ true
    ended Solicit exchange h = refl
    ended (Request offer) exchange h = refl
    ended (Done bound) exchange h = h
    ended (Temporary bound) exchange h = refl
    ended (Renew bound) exchange h = h
    ended (Rebind bound) exchange h = refl

    by_state : (state : ClientState) (lease : Lease) (now : ℕ) (exchange : Exchange) → are_times_in_order lease ≡ true → has_times_in_order (after_answer config state lease now exchange).state ≡ true
    by_state Solicit lease now exchange h = h
    by_state (Request offer) lease now exchange h = bound_ordered config.mode (record { lease = lease; since = now }) h
    by_state (Done bound) lease now exchange h = bound_ordered config.mode (record { lease = lease; since = now }) h
    by_state (Temporary bound) lease now exchange h = bound_ordered config.mode (record { lease = lease; since = now }) h
    by_state (Renew bound) lease now exchange h = bound_ordered config.mode (record { lease = lease; since = now }) h
    by_state (Rebind bound) lease now exchange h = bound_ordered config.mode (record { lease = lease; since = now }) h

    answered : (state : ClientState) (exchange : Exchange) (packet : Packet) (words : List ℕ) (lease : Lease) (now : ℕ) → has_times_in_order state ≡ true →
        ((protocol config).reading state exchange packet words).value ≡ Some lease → has_times_in_order (after_answer config state lease now exchange).state ≡ true
    answered state exchange packet words lease now h read = by_state state lease now exchange (answer_ordered (message_for (awaited_type state) exchange.xid packet) lease read)

-- those of a lease within its limits are
pub limits_ordered : (lease : Lease) → is_within_limits lease ≡ true → are_times_in_order lease ≡ true
unfolding is_within_limits
limits_ordered lease h =
    let one : Bool = are_times_in_order lease && not (is_unspecified lease.address) in
    let two : Bool = one && is_typed lease.ia_type in
    (and_parts (are_times_in_order lease) (not (is_unspecified lease.address)) (and_parts one (is_typed lease.ia_type) (and_parts two (is_duid lease.srv_duid) h).0).0).0

-- those of the lease with which it begins are
first_with : (mode : DhcpV6Mode) (lease : Lease) (now : ℕ) → are_times_in_order lease ≡ true → has_times_in_order (first_state mode (Some lease) now) ≡ true
first_with NonTemporaryAddresses lease now h = h
first_with TemporaryAddresses lease now h = refl
first_with (PrefixDelegation length) lease now h = h

pub first_ordered : (config : Config) (lease : Option Lease) (now : ℕ) → can_begin config lease ≡ true → has_times_in_order (first_state config.mode lease now) ≡ true
first_ordered config None now begins = refl
first_ordered config (Some lease) now begins = first_with config.mode lease now (limits_ordered lease (begins_held config (Some lease) begins))

-- those of a lease that a client is given are
pub given_ordered : (mode : DhcpV6Mode) (bound : Bound Lease) (lease : Lease) (now : ℕ) → bound ≡ record { lease = lease; since = now } → is_within_limits lease ≡ true →
    has_times_in_order (bound_state mode bound) ≡ true
given_ordered mode bound lease now is h =
    bound_ordered mode bound (ap (λ (b : Bound Lease). are_times_in_order b.lease) is ∙ limits_ordered lease h)

-- those of the lease that is held are
pub held_ordered : (state : ClientState) (lease : Lease) → has_times_in_order state ≡ true → held_lease state ≡ Some lease → are_times_in_order lease ≡ true
held_ordered state lease ordered holds = by_state state ordered holds
  where
    same : (one : Lease) → are_times_in_order one ≡ true → Some one ≡ Some lease → are_times_in_order lease ≡ true
    same one h e = subst (λ (l : Lease). are_times_in_order l ≡ true) (same_in_option one lease e) h

    by_state : (state : ClientState) → has_times_in_order state ≡ true → held_lease state ≡ Some lease → are_times_in_order lease ≡ true
    by_state Solicit h e = absurd (cc e)
    by_state (Request offer) h e = absurd (cc e)
    by_state (Done bound) h e = same bound.lease h e
    by_state (Temporary bound) h e = same bound.lease h e
    by_state (Renew bound) h e = same bound.lease h e
    by_state (Rebind bound) h e = same bound.lease h e

-- 2. The moment from which they count.

some_bound : (one other : Bound Lease) → Some one ≡ Some other → one ≡ other
some_bound one other e = ap (λ (o : Option (Bound Lease)). from o) e
  where
    from : Option (Bound Lease) → Bound Lease
    from None = one
    from (Some found) = found

-- after the end of a state the lease that is held was held before
ended_held : (state : ClientState) (exchange : Exchange) (bound : Bound Lease) → bound_lease (after_end state exchange).state ≡ Some bound → bound_lease state ≡ Some bound
ended_held Solicit exchange bound e = absurd (cc e)
ended_held (Request offer) exchange bound e = absurd (cc e)
ended_held (Done held) exchange bound e = e
ended_held (Temporary held) exchange bound e = absurd (cc e)
ended_held (Renew held) exchange bound e = e
ended_held (Rebind held) exchange bound e = absurd (cc e)

bound_held : (mode : DhcpV6Mode) (bound : Bound Lease) → bound_lease (bound_state mode bound) ≡ Some bound
bound_held NonTemporaryAddresses bound = refl
bound_held TemporaryAddresses bound = refl
bound_held (PrefixDelegation length) bound = refl

record IsGrantedNow (now : ℕ) (bound : Bound Lease) (state : ClientState) : Type 0 where
  since : bound.since ≡ now
  says : public_state state ≡ plain.Done bound.lease

-- after an answer the one that is held is granted now, and reported
module _ (config : Config) (now : ℕ) (exchange : Exchange) where
  abbrev from_now : Lease → Bound Lease
  from_now lease = record { lease = lease; since = now }

  granted_now : (given : Lease) (bound : Bound Lease) → bound_lease (bound_state config.mode (from_now given)) ≡ Some bound → IsGrantedNow now bound (bound_state config.mode (from_now given))
  granted_now given bound e =
      let same : from_now given ≡ bound = some_bound (from_now given) bound (sym (bound_held config.mode (from_now given)) ∙ e) in
      record {
        since = sym (ap (λ (b : Bound Lease). b.since) same);
        says = bound_reports config.mode (from_now given) ∙ ap (λ (b : Bound Lease). plain.Done b.lease) same;
      }

  answered_held : (state : ClientState) (given : Lease) (bound : Bound Lease) → bound_lease (after_answer config state given now exchange).state ≡ Some bound →
      IsGrantedNow now bound (after_answer config state given now exchange).state
  answered_held Solicit given bound e = absurd (cc e)
  answered_held (Request offer) given bound e = granted_now given bound e
  answered_held (Done held) given bound e = granted_now given bound e
  answered_held (Temporary held) given bound e = granted_now given bound e
  answered_held (Renew held) given bound e = granted_now given bound e
  answered_held (Rebind held) given bound e = granted_now given bound e

  now_bound : (given lease : Lease) → public_state (bound_state config.mode (from_now given)) ≡ plain.Done lease → bound_state config.mode (from_now given) ≡ bound_state config.mode (from_now lease)
  now_bound given lease e =
      ap (λ (l : Lease). bound_state config.mode (from_now l)) (same_lease given lease (sym (bound_reports config.mode (from_now given)) ∙ e))

  answered_bound : (state : ClientState) (given lease : Lease) → public_state (after_answer config state given now exchange).state ≡ plain.Done lease →
      (after_answer config state given now exchange).state ≡ bound_state config.mode (from_now lease)
  answered_bound Solicit given lease e = absurd (cc e)
  answered_bound (Request offer) given lease e = now_bound given lease e
  answered_bound (Done held) given lease e = now_bound given lease e
  answered_bound (Temporary held) given lease e = now_bound given lease e
  answered_bound (Renew held) given lease e = now_bound given lease e
  answered_bound (Rebind held) given lease e = now_bound given lease e

-- a state that has not ended has a lease that has not ended, if its times are in order
end_later : (now since first last : ℕ) → nat_le first last ≡ true → has_come now (Some (since + 1000 * first)) ≡ false → has_come now (Some (since + 1000 * last)) ≡ false
end_later now since first last ordered h = lt-leb (since + 1000 * last) now (omega (arith, leb-true first last ordered, leb-false (since + 1000 * first) now h))

record InOrder (lease : Lease) : Type 0 where
  first : nat_le lease.t1_sec lease.t2_sec ≡ true
  second : nat_le lease.t2_sec lease.valid_time_sec ≡ true

in_order : (lease : Lease) → are_times_in_order lease ≡ true → InOrder lease
in_order lease h =
    let one : Bool = nat_le lease.t1_sec lease.t2_sec in
    let two : Bool = nat_le lease.t2_sec lease.valid_time_sec in
    let both = and_parts one two (and_parts (one && two) (nat_le lease.preferred_time_sec lease.valid_time_sec) h).0 in
    record { first = both.0; second = both.1 }

lease_lasts : (now : ℕ) (state : ClientState) → has_times_in_order state ≡ true → has_come now (ending_moment state) ≡ false → has_come now (lease_end state) ≡ false
lease_lasts now Solicit ordered h = refl
lease_lasts now (Request offer) ordered h = refl
lease_lasts now (Done bound) ordered h =
    let order : InOrder bound.lease = in_order bound.lease ordered in
    end_later now bound.since bound.lease.t2_sec bound.lease.valid_time_sec order.second (end_later now bound.since bound.lease.t1_sec bound.lease.t2_sec order.first h)
lease_lasts now (Temporary bound) ordered h = h
lease_lasts now (Renew bound) ordered h = end_later now bound.since bound.lease.t2_sec bound.lease.valid_time_sec (in_order bound.lease ordered).second h
lease_lasts now (Rebind bound) ordered h = h

abbrev answered_with : PlainState → Result (Option PlainState) RunError
answered_with state = Ok (Some state)

said : (reported : PlainState) (lease : Lease) → answered_with reported ≡ answered_with (plain.Done lease) → reported ≡ plain.Done lease
said reported lease is = cc is

-- over every link: what a poll leaves of the lease that is held
pub keeps_lease : {Source Link : Type 0} (gives : ℕ → Source → Source → Type 0) (moves : Turn → Link → Link → Type 0) (config : Config) (now : ℕ) (answer : Result (Option PlainState) RunError)
    (old new : Client ClientState Exchange) (words words' : Source) (link link' : Link) →
    UnlessNoMemory answer (Traces (protocol config) gives moves now answer old new words words' link link') → OnErr answer (new.state ≡ old.state) → (answer ≡ Ok None → new.state ≡ old.state) →
    IfOk answer (λ change. IfSome change (λ reported. reported ≡ public_state new.state)) → (answer ≡ Ok None → has_come now (ending_moment new.state) ≡ false) → has_times_in_order new.state ≡ true →
    KeepsLease config.mode now answer old new
keeps_lease gives moves config now (Err error) old new words words' link link' t fails still says lasts ordered = record {
  granted = λ lease is. absurd (cc is);
  held = λ bound holds. inl (sym (ap bound_lease fails) ∙ holds);
  lasts = λ is. absurd (cc is);
}
keeps_lease gives moves config now (Ok None) old new words words' link link' t fails still says lasts ordered = record {
  granted = λ lease is. absurd (cc is);
  held = λ bound holds. inl (sym (ap bound_lease (still refl)) ∙ holds);
  lasts = λ is. lease_lasts now new.state ordered (lasts is);
}
keeps_lease gives moves config now (Ok (Some reported)) old new words words' link link' t fails still says lasts ordered =
    let before : View ClientState Exchange = view_of old (t.taken ++ []) in
    by before refl (comes_from (protocol config) now t.refuse t.packet t.turns reported before (view_of new []) (t.polled []))
  where
    by : (before : View ClientState Exchange) → before.state ≡ old.state → IsEnded (protocol config) now before (view_of new []) ⊎ IsHeard (protocol config) now t.refuse t.packet before (view_of new []) →
        KeepsLease config.mode now (Ok (Some reported)) old new
    by before same (inl ended) = record {
      granted = λ lease is. absurd (ended_has_none before.state _ lease (sym (ap public_state ended) ∙ (sym says ∙ said reported lease is)));
      held = λ bound holds. inl (sym (ap bound_lease same) ∙ ended_held before.state _ bound (sym (ap bound_lease ended) ∙ holds));
      lasts = λ is. absurd (cc is);
    }
    by before same (inr h) = record {
      granted = λ lease is.
          h.next ∙ answered_bound config now h.exchange before.state h.answer lease (sym (ap public_state h.next) ∙ (sym says ∙ said reported lease is));
      held = λ bound holds.
          let is : IsGrantedNow now bound (after_answer config before.state h.answer now h.exchange).state = answered_held config now h.exchange before.state h.answer bound (sym (ap bound_lease h.next) ∙ holds) in
          inr (is.since, ap (λ (s : PlainState). Ok (Some s)) (says ∙ (ap public_state h.next ∙ is.says)));
      lasts = λ is. absurd (cc is);
    }

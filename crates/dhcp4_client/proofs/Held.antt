-- The lease that is held: its times are in order, and count from the poll that reports it.
use Rattle.std.proofs.Common.{◌≡◌, ℕ, ◌+◌, ◌*◌, List, [], ◌++◌, Bool, true, false, refl, ap, sym, subst, ◌∙◌, ◌⊎◌, inl, inr, arith}
use Rattle.std.specs.Prelude.{Option, Some, None, nat_le, ◌&&◌, option_map, Result, Ok, Err, OnErr, IfOk, IfSome, if◌then◌else◌}
use Rattle.std.proofs.lemmas.Bool.{lt-leb, leb-false, leb-true}
use Rattle.dhcp_clock.specs.declared.link.Packet.{Packet}
use Rattle.dhcp_clock.specs.Link.{Turn}
use Rattle.dhcp4_msg.specs.declared.message.DhcpV4Message.{DhcpV4Message}
use Rattle.dhcp4_msg.specs.Options.{OptionMap, said_by}
use Rattle.dhcp4_msg.specs.Value.{seconds_said}
use Rattle.dhcp4_lease.specs.Config.{Config}
use Rattle.dhcp4_lease.specs.declared.message_forms.DhcpV4MessageForms.{DhcpV4MessageForms}
use Rattle.dhcp4_lease.specs.declared.lease.times.LeaseTimes.{LeaseTimes}
use Rattle.dhcp4_lease.specs.Lease.{Lease, are_in_order, are_times_in_order, lease_of, ordered_times, read_times, times_of}
use Rattle.dhcp_history.specs.declared.client.Client.{Client}
use Rattle.dhcp_history.specs.declared.machine.RunError.{RunError}
use Rattle.dhcp_history.specs.BoundLease.{Bound}
use Rattle.dhcp_history.specs.Client.{view_of}
use Rattle.dhcp_history.specs.HeardBy.{IsHeard, IsEnded}
use Rattle.dhcp_history.specs.Kept.{Preserves}
use Rattle.dhcp_history.specs.Machine.{View}
use Rattle.dhcp_history.specs.Protocol.{has_come}
use Rattle.dhcp_history.specs.Run.{UnlessNoMemory}
use Rattle.dhcp_history.specs.Traced.{Traces}
use Rattle.dhcp_history.proofs.Heard.{comes_from}
use Rattle.dhcp4_client.specs.declared.answer.Answer.{Answer}
use Rattle.dhcp4_client.specs.declared.answer.Answer.TheVariants.{Granted, Refused}
use Rattle.dhcp4_client.specs.declared.answer.Awaited.{Awaited}
use Rattle.dhcp4_client.specs.declared.client_state.ClientState.{ClientState}
use Rattle.dhcp4_client.specs.declared.client_state.ClientState.TheVariants.{InitReboot, Selecting, Rebooting, Done, Renewing, Rebinding}
use Rattle.dhcp4_client.specs.declared.client_state.Exchange.{Exchange}
use Rattle.dhcp4_client.specs.declared.state.PlainState.{PlainState}
use Rattle.dhcp4_client.specs.declared.state.PlainState.TheVariants as plain
use Rattle.dhcp4_client.specs.Answer.{awaited, is_of_type, reading_of}
use Rattle.dhcp4_client.specs.Client.{can_begin, first_state}
use Rattle.dhcp4_client.specs.Held.{KeepsLease, bound_lease, has_times_in_order}
use Rattle.dhcp4_client.specs.Rules.{protocol, public_state, after_answer, after_end, ending_moment, held_lease, lease_end, message_in}

-- 1. The times of a lease are in order.

lease_in : Option Answer → Lease → Lease
lease_in None other = other
lease_in (Some (Granted lease)) other = lease
lease_in (Some Refused) other = other

-- the times of a message are in order
times_ordered : (times : Option LeaseTimes) (message : DhcpV4Message) (lease : Lease) → ((given : LeaseTimes) → times ≡ Some given → are_in_order given ≡ true) →
    option_map Granted (option_map (lease_of message) times) ≡ Some (Granted lease) → are_times_in_order lease ≡ true
unfolding lease_in
times_ordered None message lease ordered e = absurd (cc e)
times_ordered (Some times) message lease ordered e =
    let same : lease_of message times ≡ lease = ap (λ (o : Option Answer). lease_in o lease) e in
    subst (λ (l : Lease). are_times_in_order l ≡ true) same (ordered times refl)

some_times : (times other : LeaseTimes) → Some times ≡ Some other → times ≡ other
some_times times other e = ap (λ (o : Option LeaseTimes). from o) e
  where
    from : Option LeaseTimes → LeaseTimes
    from None = times
    from (Some found) = found

read_ordered : (options : OptionMap) (words : List ℕ) (given : LeaseTimes) → (read_times options words).value ≡ Some given → are_in_order given ≡ true
unfolding read_times
read_ordered options words given e = by_time (said_by seconds_said options 51) e
  where
    by_order : (times : LeaseTimes) (b : Bool) → are_in_order times ≡ b → (if b then Some times else None) ≡ Some given → are_in_order given ≡ true
    by_order times true o e = subst (λ (t : LeaseTimes). are_in_order t ≡ true) (some_times times given e) o
    by_order times false o e = absurd (cc e)

    by_time : (said : Option ℕ) → (ordered_times options words said).value ≡ Some given → are_in_order given ≡ true
    by_time None e = absurd (cc e)
    by_time (Some time) e = let times : LeaseTimes = (times_of options time words).value in by_order times (are_in_order times) refl e

-- a lease that a packet grants has its times in order
granted_ordered : (expected : Option Awaited) (message : Option DhcpV4Message) (words : List ℕ) (lease : Lease) → (reading_of expected message words).value ≡ Some (Granted lease) → are_times_in_order lease ≡ true
granted_ordered None message words lease e = absurd (cc e)
granted_ordered (Some awaits) None words lease e = absurd (cc e)
granted_ordered (Some awaits) (Some message) words lease e = go (is_of_type awaits.grant message) refl
  where
    go : (b : Bool) → is_of_type awaits.grant message ≡ b → are_times_in_order lease ≡ true
    go true b = times_ordered (read_times message.options words).value message lease (read_ordered message.options words) (rw b at e)
    go false b = absurd (cc (rw b at e))

-- so the times of each lease that a client has are in order, if those of the first one are
pub order_preserved : (config : Config) → Preserves (protocol config) has_times_in_order
order_preserved config = record { ended = ended; answered = answered; cleaned = λ exchange. refl }
  where
    ended : (state : ClientState) (exchange : Exchange) → has_times_in_order state ≡ true → has_times_in_order (after_end state exchange).state ≡ true
    ended InitReboot exchange h = refl
    ended (Selecting offer) exchange h = refl
    ended (Rebooting held) exchange h = refl
    ended (Done bound) exchange h = h
    ended (Renewing bound) exchange h = h
    ended (Rebinding bound) exchange h = refl

    by_state : (state : ClientState) (lease : Lease) (now : ℕ) (exchange : Exchange) → are_times_in_order lease ≡ true → has_times_in_order (after_answer config.message_forms state (Granted lease) now exchange).state ≡ true
    by_state InitReboot lease now exchange h = h
    by_state (Selecting offer) lease now exchange h = h
    by_state (Rebooting held) lease now exchange h = h
    by_state (Done bound) lease now exchange h = h
    by_state (Renewing bound) lease now exchange h = h
    by_state (Rebinding bound) lease now exchange h = h

    answered : (state : ClientState) (exchange : Exchange) (packet : Packet) (words : List ℕ) (answer : Answer) (now : ℕ) → has_times_in_order state ≡ true →
        ((protocol config).reading state exchange packet words).value ≡ Some answer → has_times_in_order (after_answer config.message_forms state answer now exchange).state ≡ true
    answered state exchange packet words Refused now h read = refl
    answered state exchange packet words (Granted lease) now h read =
        by_state state lease now exchange (granted_ordered (awaited config.message_forms state) (message_in config.message_forms state exchange packet) words lease read)

-- those of the lease with which it begins are
pub first_ordered : (config : Config) (lease : Option Lease) → can_begin config lease ≡ true → has_times_in_order (first_state lease) ≡ true
first_ordered config None begins = refl
first_ordered config (Some lease) begins = grind arith

-- those of the lease that is held are
pub held_ordered : (state : ClientState) (lease : Lease) → has_times_in_order state ≡ true → held_lease state ≡ Some lease → are_times_in_order lease ≡ true
held_ordered state lease ordered holds = by_state state ordered holds
  where
    some_lease : (one : Lease) → Some one ≡ Some lease → one ≡ lease
    some_lease one e = ap (λ (o : Option Lease). from o one) e
      where
        from : Option Lease → Lease → Lease
        from None other = other
        from (Some found) other = found

    same : (one : Lease) → are_times_in_order one ≡ true → Some one ≡ Some lease → are_times_in_order lease ≡ true
    same one h e = subst (λ (l : Lease). are_times_in_order l ≡ true) (some_lease one e) h

    by_state : (state : ClientState) → has_times_in_order state ≡ true → held_lease state ≡ Some lease → are_times_in_order lease ≡ true
    by_state InitReboot h e = absurd (cc e)
    by_state (Selecting offer) h e = absurd (cc e)
    by_state (Rebooting held) h e = same held h e
    by_state (Done bound) h e = same bound.lease h e
    by_state (Renewing bound) h e = same bound.lease h e
    by_state (Rebinding bound) h e = same bound.lease h e

-- 2. The moment from which they count.

some_bound : (one other : Bound Lease) → Some one ≡ Some other → one ≡ other
some_bound one other e = ap (λ (o : Option (Bound Lease)). from o) e
  where
    from : Option (Bound Lease) → Bound Lease
    from None = one
    from (Some found) = found

lease_reported : PlainState → Lease → Lease
lease_reported (plain.Done lease) other = lease
lease_reported plain.InitReboot other = other
lease_reported plain.Selecting other = other
lease_reported plain.Renewing other = other
lease_reported plain.Rebinding other = other

done_lease : (one other : Lease) → plain.Done one ≡ plain.Done other → one ≡ other
unfolding lease_reported
done_lease one other e = ap (λ (state : PlainState). lease_reported state one) e

-- after the end of a state: no lease is reported, and the one that is held was held before
ended_unreported : (state : ClientState) (exchange : Exchange) (lease : Lease) → public_state (after_end state exchange).state ≡ plain.Done lease → ⊥
ended_unreported InitReboot exchange lease e = absurd (cc e)
ended_unreported (Selecting offer) exchange lease e = absurd (cc e)
ended_unreported (Rebooting held) exchange lease e = absurd (cc e)
ended_unreported (Done bound) exchange lease e = absurd (cc e)
ended_unreported (Renewing bound) exchange lease e = absurd (cc e)
ended_unreported (Rebinding bound) exchange lease e = absurd (cc e)

ended_held : (state : ClientState) (exchange : Exchange) (bound : Bound Lease) → bound_lease (after_end state exchange).state ≡ Some bound → bound_lease state ≡ Some bound
ended_held InitReboot exchange bound e = absurd (cc e)
ended_held (Selecting offer) exchange bound e = absurd (cc e)
ended_held (Rebooting held) exchange bound e = absurd (cc e)
ended_held (Done held) exchange bound e = e
ended_held (Renewing held) exchange bound e = e
ended_held (Rebinding held) exchange bound e = absurd (cc e)

-- after an answer: the lease that is held is granted now, and so is the one that is reported
abbrev bound_now : ℕ → Lease → ClientState
bound_now now lease = Done (record { lease = lease; since = now })

record IsGrantedNow (now : ℕ) (bound : Bound Lease) (state : ClientState) : Type 0 where
  since : bound.since ≡ now
  reports : public_state state ≡ plain.Done bound.lease

granted_now : (now : ℕ) (given : Lease) (bound : Bound Lease) → Some (record { lease = given; since = now }) ≡ Some bound → IsGrantedNow now bound (bound_now now given)
granted_now now given bound e =
    let same : record { lease = given; since = now } ≡ bound = some_bound (record { lease = given; since = now }) bound e in
    record { since = sym (ap (λ (b : Bound Lease). b.since) same); reports = ap (λ (b : Bound Lease). plain.Done b.lease) same }

answered_held : (forms : DhcpV4MessageForms) (state : ClientState) (answer : Answer) (now : ℕ) (exchange : Exchange) (bound : Bound Lease) → bound_lease (after_answer forms state answer now exchange).state ≡ Some bound →
    IsGrantedNow now bound (after_answer forms state answer now exchange).state
answered_held forms state Refused now exchange bound e = absurd (cc e)
answered_held forms InitReboot (Granted offer) now exchange bound e = absurd (cc e)
answered_held forms (Selecting offer) (Granted given) now exchange bound e = granted_now now given bound e
answered_held forms (Rebooting held) (Granted given) now exchange bound e = granted_now now given bound e
answered_held forms (Done held) (Granted given) now exchange bound e = granted_now now given bound e
answered_held forms (Renewing held) (Granted given) now exchange bound e = granted_now now given bound e
answered_held forms (Rebinding held) (Granted given) now exchange bound e = granted_now now given bound e

now_bound : (now : ℕ) (given lease : Lease) → plain.Done given ≡ plain.Done lease → bound_now now given ≡ bound_now now lease
now_bound now given lease e = ap (bound_now now) (done_lease given lease e)

answered_bound : (forms : DhcpV4MessageForms) (state : ClientState) (answer : Answer) (now : ℕ) (exchange : Exchange) (lease : Lease) → public_state (after_answer forms state answer now exchange).state ≡ plain.Done lease →
    (after_answer forms state answer now exchange).state ≡ bound_now now lease
answered_bound forms state Refused now exchange lease e = absurd (cc e)
answered_bound forms InitReboot (Granted offer) now exchange lease e = absurd (cc e)
answered_bound forms (Selecting offer) (Granted given) now exchange lease e = now_bound now given lease e
answered_bound forms (Rebooting held) (Granted given) now exchange lease e = now_bound now given lease e
answered_bound forms (Done held) (Granted given) now exchange lease e = now_bound now given lease e
answered_bound forms (Renewing held) (Granted given) now exchange lease e = now_bound now given lease e
answered_bound forms (Rebinding held) (Granted given) now exchange lease e = now_bound now given lease e

-- a state that has not ended has a lease that has not ended, if its times are in order
end_later : (now since first last : ℕ) → nat_le first last ≡ true → has_come now (Some (since + 1000 * first)) ≡ false → has_come now (Some (since + 1000 * last)) ≡ false
end_later now since first last ordered h = lt-leb (since + 1000 * last) now (omega (arith, leb-true first last ordered, leb-false (since + 1000 * first) now h))

both_true : (a b : Bool) → (a && b) ≡ true → (a ≡ true) × (b ≡ true)
both_true true true e = (refl, refl)
both_true true false e = absurd (cc e)
both_true false b e = absurd (cc e)

lease_lasts : (now : ℕ) (state : ClientState) → has_times_in_order state ≡ true → has_come now (ending_moment state) ≡ false → has_come now (lease_end state) ≡ false
lease_lasts now InitReboot ordered h = refl
lease_lasts now (Selecting offer) ordered h = refl
lease_lasts now (Rebooting held) ordered h = refl
lease_lasts now (Done bound) ordered h =
    let both = both_true (nat_le bound.lease.t1_sec bound.lease.t2_sec) (nat_le bound.lease.t2_sec bound.lease.lease_time_sec) ordered in
    end_later now bound.since bound.lease.t2_sec bound.lease.lease_time_sec both.1 (end_later now bound.since bound.lease.t1_sec bound.lease.t2_sec both.0 h)
lease_lasts now (Renewing bound) ordered h =
    let both = both_true (nat_le bound.lease.t1_sec bound.lease.t2_sec) (nat_le bound.lease.t2_sec bound.lease.lease_time_sec) ordered in
    end_later now bound.since bound.lease.t2_sec bound.lease.lease_time_sec both.1 h
lease_lasts now (Rebinding bound) ordered h = h

same_state : (answer : Result (Option PlainState) RunError) (one other : PlainState) → answer ≡ Ok (Some one) → answer ≡ Ok (Some other) → one ≡ other
same_state answer one other first second = cc

-- over every link: what a poll leaves of the lease that is held
pub keeps_lease : {Source Link : Type 0} (gives : ℕ → Source → Source → Type 0) (moves : Turn → Link → Link → Type 0) (config : Config) (now : ℕ) (answer : Result (Option PlainState) RunError)
    (old new : Client ClientState Exchange) (words words' : Source) (link link' : Link) →
    UnlessNoMemory answer (Traces (protocol config) gives moves now answer old new words words' link link') → OnErr answer (new.state ≡ old.state) → (answer ≡ Ok None → new.state ≡ old.state) →
    IfOk answer (λ change. IfSome change (λ reported. reported ≡ public_state new.state)) → (answer ≡ Ok None → has_come now (ending_moment new.state) ≡ false) → has_times_in_order new.state ≡ true →
    KeepsLease now answer old new
keeps_lease gives moves config now (Err error) old new words words' link link' t fails still says lasts ordered = record {
  granted = λ lease is. absurd (cc is);
  held = λ bound holds. inl (sym (ap bound_lease fails) ∙ holds);
  lasts = λ is. absurd (cc is);
}
keeps_lease gives moves config now (Ok None) old new words words' link link' t fails still says lasts ordered = record {
  granted = λ lease is. absurd (cc is);
  held = λ bound holds. inl (sym (ap bound_lease (still refl)) ∙ holds);
  lasts = λ is. lease_lasts now new.state ordered (lasts is);
}
keeps_lease gives moves config now (Ok (Some reported)) old new words words' link link' t fails still says lasts ordered =
    let before : View ClientState Exchange = view_of old (t.taken ++ []) in
    by before refl (comes_from (protocol config) now t.refuse t.packet t.turns reported before (view_of new []) (t.polled []))
  where
    by : (before : View ClientState Exchange) → before.state ≡ old.state → IsEnded (protocol config) now before (view_of new []) ⊎ IsHeard (protocol config) now t.refuse t.packet before (view_of new []) →
        KeepsLease now (Ok (Some reported)) old new
    by before same (inl ended) = record {
      granted = λ lease is. absurd (ended_unreported before.state _ lease (sym (ap public_state ended) ∙ (sym says ∙ same_state (Ok (Some reported)) reported (plain.Done lease) refl is)));
      held = λ bound holds. inl (sym (ap bound_lease same) ∙ ended_held before.state _ bound (sym (ap bound_lease ended) ∙ holds));
      lasts = λ is. absurd (cc is);
    }
    by before same (inr h) = record {
      granted = λ lease is.
          h.next ∙ answered_bound config.message_forms before.state h.answer now h.exchange lease (sym (ap public_state h.next) ∙ (sym says ∙ same_state (Ok (Some reported)) reported (plain.Done lease) refl is));
      held = λ bound holds.
          let is : IsGrantedNow now bound (after_answer config.message_forms before.state h.answer now h.exchange).state = answered_held config.message_forms before.state h.answer now h.exchange bound (sym (ap bound_lease h.next) ∙ holds) in
          inr (is.since, ap (λ (s : PlainState). Ok (Some s)) (says ∙ (ap public_state h.next ∙ is.reports)));
      lasts = λ is. absurd (cc is);
    }

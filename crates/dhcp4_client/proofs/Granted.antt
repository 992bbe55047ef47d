-- A lease that a poll reports was read from a packet that the poll was given.
use Rattle.std.proofs.Common.{◌≡◌, ℕ, List, Bool, true, false, refl, ap, sym, subst, ◌∙◌, ◌⊎◌, inl, inr}
use Rattle.std.specs.Prelude.{Option, Some, None, option_map}
use Rattle.dhcp_clock.specs.declared.link.Packet.{Packet}
use Rattle.dhcp4_msg.specs.declared.message.DhcpV4Message.{DhcpV4Message}
use Rattle.dhcp4_lease.specs.Config.{Config}
use Rattle.dhcp4_lease.specs.declared.message_forms.DhcpV4MessageForms.{DhcpV4MessageForms}
use Rattle.dhcp4_lease.specs.declared.lease.times.LeaseTimes.{LeaseTimes}
use Rattle.dhcp4_lease.specs.Lease.{Lease, lease_of, read_times, HasFieldsOf}
use Rattle.dhcp_history.specs.Machine.{View, begin_stay, is_wait_over, attempt_now}
use Rattle.dhcp_history.specs.History.{after_wait_if}
use Rattle.dhcp_history.specs.HeardBy.{IsHeard, IsEnded}
use Rattle.dhcp_history.proofs.Heard.{begun_exchange}
use Rattle.dhcp4_client.specs.declared.answer.Answer.{Answer}
use Rattle.dhcp4_client.specs.declared.answer.Answer.TheVariants.{Granted, Refused}
use Rattle.dhcp4_client.specs.declared.answer.Awaited.{Awaited}
use Rattle.dhcp4_client.specs.declared.client_state.ClientState.{ClientState}
use Rattle.dhcp4_client.specs.declared.client_state.ClientState.TheVariants.{InitReboot, Selecting, Rebooting, Done, Renewing, Rebinding}
use Rattle.dhcp4_client.specs.declared.client_state.Exchange.{Exchange}
use Rattle.dhcp4_client.specs.declared.state.PlainState.{PlainState}
use Rattle.dhcp4_client.specs.declared.state.PlainState.TheVariants as plain
use Rattle.dhcp4_client.specs.Answer.{awaited, is_of_type, message_for, reading_of}
use Rattle.dhcp4_client.specs.Rules.{protocol, public_state, after_answer, after_end, held_lease}
use Rattle.dhcp4_client.specs.Granted.{IsGranted}

lease_in : PlainState → Lease → Lease
lease_in (plain.Done lease) other = lease
lease_in plain.InitReboot other = other
lease_in plain.Selecting other = other
lease_in plain.Renewing other = other
lease_in plain.Rebinding other = other

lease_answered : Answer → Lease → Lease
lease_answered (Granted lease) other = lease
lease_answered Refused other = other

-- no state that ends leads to one that is reported with a lease
ended_has_none : (state : ClientState) (exchange : Exchange) (lease : Lease) → public_state (after_end state exchange).state ≡ plain.Done lease → ⊥
ended_has_none InitReboot exchange lease e = absurd (cc e)
ended_has_none (Selecting offer) exchange lease e = absurd (cc e)
ended_has_none (Rebooting held) exchange lease e = absurd (cc e)
ended_has_none (Done bound) exchange lease e = absurd (cc e)
ended_has_none (Renewing bound) exchange lease e = absurd (cc e)
ended_has_none (Rebinding bound) exchange lease e = absurd (cc e)

same_lease : (one other : Lease) → plain.Done one ≡ plain.Done other → Granted one ≡ Granted other
unfolding lease_in
same_lease one other e = ap (λ (state : PlainState). Granted (lease_in state one)) e

-- an answer after which a lease is reported grants that lease
granted_by : (forms : DhcpV4MessageForms) (state : ClientState) (answer : Answer) (now : ℕ) (exchange : Exchange) (lease : Lease) → public_state (after_answer forms state answer now exchange).state ≡ plain.Done lease → answer ≡ Granted lease
granted_by forms state Refused now exchange lease e = absurd (cc e)
granted_by forms InitReboot (Granted offer) now exchange lease e = absurd (cc e)
granted_by forms (Selecting offer) (Granted given) now exchange lease e = same_lease given lease e
granted_by forms (Rebooting held) (Granted given) now exchange lease e = same_lease given lease e
granted_by forms (Done bound) (Granted given) now exchange lease e = same_lease given lease e
granted_by forms (Renewing bound) (Granted given) now exchange lease e = same_lease given lease e
granted_by forms (Rebinding bound) (Granted given) now exchange lease e = same_lease given lease e

-- the lease that a message grants has its fields
has_fields : (message : DhcpV4Message) (lease : Lease) (times : Option LeaseTimes) → option_map Granted (option_map (lease_of message) times) ≡ Some (Granted lease) → HasFieldsOf message lease
unfolding lease_answered
has_fields message lease None e = absurd (cc e)
has_fields message lease (Some times) e =
    let same : lease_of message times ≡ lease = ap (λ (o : Option Answer). lease_answered (unwrapped o) lease) e in
    subst (λ (l : Lease). HasFieldsOf message l) same refl
  where
    unwrapped : Option Answer → Answer
    unwrapped None = Refused
    unwrapped (Some answer) = answer

record Reads (expected : Option Awaited) (message : Option DhcpV4Message) (lease : Lease) : Type 0 where
  of : DhcpV4Message
  awaits : Awaited
  is_expected : expected ≡ Some awaits
  is_message : message ≡ Some of
  grants : is_of_type awaits.grant of ≡ true
  fields : HasFieldsOf of lease

read_granted : (expected : Option Awaited) (message : Option DhcpV4Message) (words : List ℕ) (lease : Lease) → (reading_of expected message words).value ≡ Some (Granted lease) → Reads expected message lease
read_granted None message words lease e = absurd (cc e)
read_granted (Some awaits) None words lease e = absurd (cc e)
read_granted (Some awaits) (Some message) words lease e = go (is_of_type awaits.grant message) refl
  where
    go : (b : Bool) → is_of_type awaits.grant message ≡ b → Reads (Some awaits) (Some message) lease
    go true b = record {
      of = message;
      awaits = awaits;
      is_expected = refl;
      is_message = refl;
      grants = b;
      fields = has_fields message lease (read_times message.options words).value (rw b at e);
    }
    go false b = absurd (cc (rw b at e))

-- the transaction id of an attempt is the client's
module _ (config : Config) (now : ℕ) (view : View ClientState Exchange) where
  waited : (over : Bool) (exchange : Exchange) → (after_wait_if (protocol config) over exchange).xid ≡ exchange.xid
  waited true exchange = refl
  waited false exchange = refl

  same_xid : (attempt_now (protocol config) now (begin_stay (protocol config) now view)).value.exchange.xid ≡ view.exchange.xid
  same_xid =
      let w : View ClientState Exchange = begin_stay (protocol config) now view in
      waited (is_wait_over (protocol config) now w) w.exchange ∙ ap (λ (exchange : Exchange). exchange.xid) (begun_exchange (protocol config) now view)

-- over every link: a lease that is reported was read from a packet that this poll was given
pub lease_is_granted : (config : Config) (now : ℕ) (refuse : Bool) (packet : Option Packet) (lease : Lease) (old new : View ClientState Exchange) →
    IsEnded (protocol config) now old new ⊎ IsHeard (protocol config) now refuse packet old new → public_state new.state ≡ plain.Done lease → IsGranted config now refuse packet lease old
lease_is_granted config now refuse packet lease old new (inl ended) reports = absurd (ended_has_none old.state _ lease (sym (ap public_state ended) ∙ reports))
lease_is_granted config now refuse packet lease old new (inr h) reports =
    let grants : h.answer ≡ Granted lease = granted_by config.message_forms old.state h.answer now h.exchange lease (sym (ap public_state h.next) ∙ reports) in
    let xid : h.exchange.xid ≡ old.exchange.xid = same h.exchange h.open_attempt in
    let read : (reading_of (awaited config.message_forms old.state) (message_for (awaited config.message_forms old.state) old.exchange.xid h.heard) h.words).value ≡ Some (Granted lease) =
    ap (λ (id : ℕ). (reading_of (awaited config.message_forms old.state) (message_for (awaited config.message_forms old.state) id h.heard) h.words).value) (sym xid) ∙ (h.read ∙ ap (λ (a : Answer). Some a) grants) in
    let of : Reads (awaited config.message_forms old.state) (message_for (awaited config.message_forms old.state) old.exchange.xid h.heard) lease = read_granted _ _ h.words lease read in
    record {
      heard = h.heard;
      message = of.of;
      expected = of.awaits;
      asked = h.asked;
      given = h.given;
      awaits = of.is_expected;
      carried = ap (λ (expected : Option Awaited). message_for expected old.exchange.xid h.heard) (sym of.is_expected) ∙ of.is_message;
      grants = of.grants;
      fields = of.fields;
    }
  where
    same : (exchange : Exchange) → (exchange ≡ old.exchange) ⊎ (exchange ≡ (attempt_now (protocol config) now (begin_stay (protocol config) now old)).value.exchange) → exchange.xid ≡ old.exchange.xid
    same exchange (inl e) = ap (λ (x : Exchange). x.xid) e
    same exchange (inr e) = ap (λ (x : Exchange). x.xid) e ∙ same_xid config now old

-- the lease that is held after the end of a state was held before
ended_keeps : (state : ClientState) (exchange : Exchange) (lease : Lease) → held_lease (after_end state exchange).state ≡ Some lease → held_lease state ≡ Some lease
ended_keeps InitReboot exchange lease e = absurd (cc e)
ended_keeps (Selecting offer) exchange lease e = absurd (cc e)
ended_keeps (Rebooting held) exchange lease e = absurd (cc e)
ended_keeps (Done bound) exchange lease e = e
ended_keeps (Renewing bound) exchange lease e = e
ended_keeps (Rebinding bound) exchange lease e = absurd (cc e)

lease_of_option : Option Lease → Lease → Lease
lease_of_option None other = other
lease_of_option (Some lease) other = lease

is_bound : (given lease : Lease) → Some given ≡ Some lease → plain.Done given ≡ plain.Done lease
unfolding lease_of_option
is_bound given lease e = ap (λ (o : Option Lease). plain.Done (lease_of_option o given)) e

-- the one that is held after an answer is reported
answered_reports : (forms : DhcpV4MessageForms) (state : ClientState) (answer : Answer) (now : ℕ) (exchange : Exchange) (lease : Lease) → held_lease (after_answer forms state answer now exchange).state ≡ Some lease →
    public_state (after_answer forms state answer now exchange).state ≡ plain.Done lease
answered_reports forms state Refused now exchange lease e = absurd (cc e)
answered_reports forms InitReboot (Granted offer) now exchange lease e = absurd (cc e)
answered_reports forms (Selecting offer) (Granted given) now exchange lease e = is_bound given lease e
answered_reports forms (Rebooting held) (Granted given) now exchange lease e = is_bound given lease e
answered_reports forms (Done bound) (Granted given) now exchange lease e = is_bound given lease e
answered_reports forms (Renewing bound) (Granted given) now exchange lease e = is_bound given lease e
answered_reports forms (Rebinding bound) (Granted given) now exchange lease e = is_bound given lease e

-- over every link: the lease that is held after a change was held before it, or is reported by it
pub lease_is_reported : (config : Config) (now : ℕ) (refuse : Bool) (packet : Option Packet) (lease : Lease) (old new : View ClientState Exchange) →
    IsEnded (protocol config) now old new ⊎ IsHeard (protocol config) now refuse packet old new → held_lease new.state ≡ Some lease →
    (held_lease old.state ≡ Some lease) ⊎ (public_state new.state ≡ plain.Done lease)
lease_is_reported config now refuse packet lease old new (inl ended) holds = inl (ended_keeps old.state _ lease (sym (ap held_lease ended) ∙ holds))
lease_is_reported config now refuse packet lease old new (inr h) holds =
    inr (ap public_state h.next ∙ answered_reports config.message_forms old.state h.answer now h.exchange lease (sym (ap held_lease h.next) ∙ holds))

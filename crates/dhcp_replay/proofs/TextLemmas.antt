-- What is reported of a client has a text: of the leases that an IPv6 client reports the type is known.
use Rattle.std.proofs.Common.{◌≡◌, ◌⊎◌, ℕ, Bool, true, false, List, [], ◌∷◌, Option, Some, None, Result, Ok, Err, IsTrue, refl, sym, ap, subst, ◌∙◌, inl, inr}
use Rattle.std.specs.Prelude.{All, IfSome, if◌then◌else◌, map}
use Rattle.std.specs.List.{AllByRecursion}
use Rattle.std.proofs.lemmas.Bool.{and_parts}
use Rattle.std.proofs.lemmas.List.Elements.{All-cons, All-nil}
use Rattle.std.proofs.lemmas.Option.{none-some, same_Some, option_and_then_some}
use Rattle.dhcp_wire.specs.declared.error.ErrorKind.{ErrorKind}
use Rattle.dhcp_wire.specs.declared.error.ErrorKind.TheVariants.{Timeout, IoError}
use Rattle.dhcp_clock.specs.declared.link.Handed.{Handed}
use Rattle.dhcp_clock.specs.declared.link.Packet.{Packet}
use Rattle.dhcp_history.specs.EventLoop.{HasReported, events_at}
use Rattle.dhcp_history.specs.Machine.{View}
use Rattle.dhcp_history.specs.declared.script.NumberedEvent.{NumberedEvent}
use Rattle.dhcp_history.specs.declared.script.Failure.TheVariants as failures
use Rattle.dhcp_history.specs.declared.script.NumberedReport.{NumberedReport}
use Rattle.dhcp_history.specs.declared.script.Report.{Report}
use Rattle.dhcp_history.specs.declared.script.Report.TheVariants as reports
use Rattle.dhcp4_client.specs.declared.state.PlainState as states4
use Rattle.dhcp6_msg.specs.Config.{Config}
use Rattle.dhcp6_msg.specs.Exchange.{concerns, payload_in}
use Rattle.dhcp6_msg.specs.Lease.{Lease, is_duid, is_typed, is_within_limits, read_lease}
use Rattle.dhcp6_msg.specs.Message.{read_message}
use Rattle.dhcp6_msg.specs.declared.message.DhcpV6Message.{DhcpV6Message}
use Rattle.dhcp6_msg.specs.declared.message_type.DhcpV6MessageType.{DhcpV6MessageType}
use Rattle.dhcp6_msg.specs.declared.mode.DhcpV6Mode.{DhcpV6Mode}
use Rattle.dhcp6_msg.specs.declared.mode.DhcpV6Mode.TheVariants.{NonTemporaryAddresses, TemporaryAddresses, PrefixDelegation}
use Rattle.dhcp6_msg.proofs.LimitLemmas.{within_limits}
use Rattle.dhcp6_client.specs.Answer.{answer_of, awaited_type, lease_if_read, message_for}
use Rattle.dhcp6_client.specs.Rules.{after_answer, after_end, bound_state, protocol, public_state, reading}
use Rattle.dhcp6_client.specs.declared.state.PlainState as states6
use Rattle.dhcp6_client.specs.declared.client_state.ClientState.{ClientState}
use Rattle.dhcp6_client.specs.declared.client_state.ClientState.TheVariants.{Solicit, Request, Done, Temporary, Renew, Rebind}
use Rattle.dhcp6_client.specs.declared.client_state.Exchange.{Exchange}
use Rattle.dhcp6_info.specs.declared.state.PlainInfoState.{PlainInfoState}
use Rattle.dhcp_output.specs.Output.{HasText, HasReportText, HasStateText6, PlainOutput, PlainReport, changed_info, changed_v4, changed_v6, failed, handed, refused, plain_output, plain_report}
use Rattle.dhcp_output.specs.declared.output.Output.{Output}
use Rattle.dhcp_output.specs.declared.output.OutputWhat.{OutputWhat}
use Rattle.dhcp_output.specs.declared.output.OutputWhat.TheVariants as what
use Rattle.dhcp_output.specs.declared.output.Reported.TheVariants.{V4, V6, Info}
use Rattle.dhcp_replay.specs.Life.{output_of, report_of}
use Rattle.dhcp_replay.proofs.ChangeLemmas.{AllSaid, SaysReport, events_said, said_of_each}

-- the plain contents of what has a text
abbrev HasPlainText : PlainReport → Type 0
HasPlainText (handed message) = Unit {0}
HasPlainText (refused message) = Unit {0}
HasPlainText (changed_v4 state) = Unit {0}
HasPlainText (changed_v6 state) = HasStateText6 state
HasPlainText (changed_info state) = Unit {0}
HasPlainText (failed kind) = (kind ≡ Timeout) ⊎ (kind ≡ IoError)

abbrev AllPlain : List PlainOutput → Type 0
AllPlain outputs = AllByRecursion (λ (output : PlainOutput). HasPlainText output.report) outputs

has_text : (report : OutputWhat) → HasPlainText (plain_report report) → HasReportText report
has_text (what.Handed message) h = tt
has_text (what.Refused message) h = tt
has_text (what.Changed (V4 state)) h = tt
has_text (what.Changed (V6 state)) h = h
has_text (what.Changed (Info state)) h = tt
has_text (what.Failed kind) h = h

have_texts : (outputs : List Output) → AllPlain (map plain_output outputs) → All HasText outputs
have_texts [] h = All-nil HasText
have_texts (output ∷ outputs) h = All-cons HasText output outputs (has_text output.what h.0) (have_texts outputs h.1)

-- what is reported has a text where each state has one
module _ {State : Type 0} (changed : State → PlainReport) (Says : State → Type 0) (told : (state : State) → Says state → HasPlainText (changed state)) where
  report_plain : (report : Report State Handed) → SaysReport Says report → HasPlainText (report_of changed report)
  report_plain (reports.Handed message) said = tt
  report_plain (reports.Refused message) said = tt
  report_plain (reports.Changed state) said = told state said
  report_plain (reports.Failed failures.TimedOut) said = inl refl
  report_plain (reports.Failed failures.SendRefused) said = inr refl

  all_plain : (items : List (NumberedReport State Handed)) → AllSaid Says items → AllPlain (map (output_of changed) items)
  all_plain [] said = tt
  all_plain (item ∷ items) said = (report_plain item.report said.0, all_plain items said.1)

  reported_texts : (outputs : List Output) (items : List (NumberedReport State Handed)) → map plain_output outputs ≡ map (output_of changed) items → AllSaid Says items → All HasText outputs
  reported_texts outputs items is said = have_texts outputs (subst AllPlain (sym is) (all_plain items said))

-- of an IPv4 client
pub texts4 : (outputs : List Output) (items : List (NumberedReport states4.PlainState Handed)) → map plain_output outputs ≡ map (output_of changed_v4) items → All HasText outputs
texts4 outputs items is =
    let Says : states4.PlainState → Type 0 = λ state. Unit {0} in
    reported_texts changed_v4 Says (λ state said. tt) outputs items is (said_of_each Says (λ state. tt) items)

-- of a client for configuration alone
pub texts_info : (outputs : List Output) (items : List (NumberedReport PlainInfoState Handed)) → map plain_output outputs ≡ map (output_of changed_info) items → All HasText outputs
texts_info outputs items is =
    let Says : PlainInfoState → Type 0 = λ state. Unit {0} in
    reported_texts changed_info Says (λ state said. tt) outputs items is (said_of_each Says (λ state. tt) items)

-- a message that concerns an attempt is read from the payload of its packet
message_read : (kind : Option DhcpV6MessageType) (xid : ℕ) (packet : Packet) (message : DhcpV6Message) → message_for kind xid packet ≡ Some message → (payload : List ℕ) × (read_message payload ≡ Some message)
message_read None xid packet message is = absurd (none-some _ is)
message_read (Some kind) xid packet message is =
    option_and_then_some _ _ _ is (λ found at_found same.
    option_and_then_some _ (payload_in packet) _ at_found (λ payload at_payload read.
    (payload, read ∙ ap Some (concerned (concerns kind xid found) found same))))
  where
    concerned : (b : Bool) (found : DhcpV6Message) → (let kept : Option DhcpV6Message = if b then Some found else None in kept) ≡ Some message → found ≡ message
    concerned true found same = same_Some _ _ same
    concerned false found same = absurd (none-some _ same)

-- a lease that a packet answers has a type
granted_ok : (result : Result Lease ErrorKind) (lease : Lease) → lease_if_read result ≡ Some lease → result ≡ Ok lease
granted_ok (Ok found) lease is = ap Ok (same_Some _ _ is)
granted_ok (Err kind) lease is = absurd (none-some _ is)

limits_typed : (lease : Lease) → is_within_limits lease ≡ true → is_typed lease.ia_type ≡ true
unfolding is_within_limits
limits_typed lease within = (and_parts _ (is_typed lease.ia_type) (and_parts _ (is_duid lease.srv_duid) within).0).1

answer_typed : (kind : Option DhcpV6MessageType) (xid : ℕ) (packet : Packet) (lease : Lease) → answer_of (message_for kind xid packet) ≡ Some lease → IsTrue (is_typed lease.ia_type)
answer_typed kind xid packet lease is =
    option_and_then_some _ (message_for kind xid packet) _ is (λ message at_message granted.
    let read = message_read kind xid packet message at_message in
    limits_typed lease (within_limits read.0 message lease read.1 (granted_ok (read_lease message) lease granted)))

bound_typed : (mode : DhcpV6Mode) (lease : Lease) (now : ℕ) → IsTrue (is_typed lease.ia_type) → HasStateText6 (public_state (bound_state mode (record { lease = lease; since = now })))
bound_typed NonTemporaryAddresses lease now typed = typed
bound_typed TemporaryAddresses lease now typed = typed
bound_typed (PrefixDelegation length) lease now typed = typed

answered_text : (config : Config) (state : ClientState) (exchange : Exchange) (packet : Packet) (words : List ℕ) (lease : Lease) (now : ℕ) →
    (reading state exchange packet words).value ≡ Some lease → HasStateText6 (public_state (after_answer config state lease now exchange).state)
answered_text config state exchange packet words lease now is = go state (answer_typed (awaited_type state) exchange.xid packet lease is)
  where
    go : (state : ClientState) → IsTrue (is_typed lease.ia_type) → HasStateText6 (public_state (after_answer config state lease now exchange).state)
    go Solicit typed = tt
    go (Request offer) typed = bound_typed config.mode lease now typed
    go (Done bound) typed = bound_typed config.mode lease now typed
    go (Temporary bound) typed = bound_typed config.mode lease now typed
    go (Renew bound) typed = bound_typed config.mode lease now typed
    go (Rebind bound) typed = bound_typed config.mode lease now typed

ended_text : (state : ClientState) (exchange : Exchange) → HasStateText6 (public_state (after_end state exchange).state)
ended_text Solicit exchange = tt
ended_text (Request offer) exchange = tt
ended_text (Done bound) exchange = tt
ended_text (Temporary bound) exchange = tt
ended_text (Renew bound) exchange = tt
ended_text (Rebind bound) exchange = tt

-- of an IPv6 client, where its words are exposed
pub texts6 : (config : Config) (view : List ℕ → View ClientState Exchange) (made : List (NumberedEvent Packet)) (outputs : List Output) (items : List (NumberedReport states6.PlainState Handed)) (new : List ℕ → View ClientState Exchange) (left exposed : Option (List ℕ)) →
    map plain_output outputs ≡ map (output_of changed_v6) items → IfSome exposed (λ drawn. HasReported (events_at (protocol config) (view drawn) made) [] items new left) → IfSome exposed (λ drawn. All HasText outputs)
texts6 config view made outputs items new left None is reported = tt
texts6 config view made outputs items new left (Some drawn) is reported =
    reported_texts changed_v6 HasStateText6 (λ state said. said) outputs items is
    (subst (AllSaid HasStateText6) (sym reported.outputs)
    (events_said (protocol config) HasStateText6 (answered_text config) ended_text (view drawn) made))

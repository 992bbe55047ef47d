-- What is reported of a script, and its text.
use Rattle.std.specs.Prelude.{◌≡◌, ◌⊎◌, ℕ, Bool, true, false, IsTrue, List, [], ◌∷◌, ◌++◌, unwrap_or, codes}
use Rattle.std.specs.List.{count_by, flat_map}
use Rattle.std.specs.Fmt.{decimal}
use Rattle.dhcp_stream.specs.HexText.{hex_text}
use Rattle.dhcp_stream.specs.Line.{line, spaced}
use Rattle.dhcp_stream.specs.Number.{address_text}
use Rattle.dhcp_wire.specs.declared.error.ErrorKind.{ErrorKind}
use Rattle.dhcp_wire.specs.declared.error.ErrorKind.TheVariants as kinds
use Rattle.dhcp_clock.specs.declared.link.Handed.{Handed}
use Rattle.dhcp_clock.specs.declared.link.Handed.TheVariants.{Frame, Udp4, Udp6}
use Rattle.dhcp4_client.specs.State.{plain_state}
use Rattle.dhcp4_client.specs.declared.state.PlainState.{PlainState}
use Rattle.dhcp4_client.specs.declared.state.PlainState.TheVariants as v4
use Rattle.dhcp6_client.specs.State as states6
use Rattle.dhcp6_client.specs.declared.state.PlainState as plain6
use Rattle.dhcp6_client.specs.declared.state.PlainState.TheVariants as v6
use Rattle.dhcp6_info.specs.State as info
use Rattle.dhcp6_info.specs.declared.state.PlainInfoState.{PlainInfoState}
use Rattle.dhcp6_msg.specs.declared.mode.DhcpV6IaType.TheVariants.{NonTemporaryAddresses}
use Rattle.dhcp6_msg.specs.Lease.{is_typed}
use Rattle.dhcp_output.specs.Info as infos
use Rattle.dhcp_output.specs.declared.output.Reported.TheVariants.{V4, V6, Info}
use Rattle.dhcp_output.specs.declared.output.OutputWhat.{OutputWhat}
use Rattle.dhcp_output.specs.declared.output.OutputWhat.TheVariants as what
use Rattle.dhcp_output.specs.declared.output.Output.{Output}
use Rattle.dhcp_output.specs.declared.summary.OutputKind.{OutputKind}
use Rattle.dhcp_output.specs.declared.summary.OutputKind.TheVariants as sorts
use Rattle.dhcp_script.specs.Lease4.{fields_of, lease_text}
use Rattle.dhcp_script.specs.Lease6 as lease6

-- the plain contents of what is reported: that of its state, wherever its lease is kept
pub data PlainReport : Type 0 where
  handed refused : Handed → PlainReport
  changed_v4 : PlainState → PlainReport
  changed_v6 : plain6.PlainState → PlainReport
  changed_info : PlainInfoState → PlainReport
  failed : ErrorKind → PlainReport

-- the plain contents of an output
pub record PlainOutput : Type 0 where
  pub event : ℕ
  pub report : PlainReport

-- what is reported holds
abbrev pub plain_report : OutputWhat → PlainReport
plain_report (what.Handed message) = handed message
plain_report (what.Refused message) = refused message
plain_report (what.Changed (V4 state)) = changed_v4 (plain_state state)
plain_report (what.Changed (V6 state)) = changed_v6 (states6.plain_state state)
plain_report (what.Changed (Info state)) = changed_info (info.plain_state state)
plain_report (what.Failed kind) = failed kind

-- what an output holds
abbrev pub plain_output : Output → PlainOutput
plain_output output = record { event = output.event; report = plain_report output.what }

-- a state of an IPv6 client; the type of its lease, if it holds one, is known
abbrev pub HasStateText6 : plain6.PlainState → Type 0
HasStateText6 (v6.Done lease) = IsTrue (is_typed lease.ia_type)
HasStateText6 v6.Solicit = Unit {0}
HasStateText6 v6.Request = Unit {0}
HasStateText6 v6.Renew = Unit {0}
HasStateText6 v6.Rebind = Unit {0}

-- what has a text of its own: of failures those of two kinds, of IPv6 states those whose lease, if
-- they hold one, has its type
abbrev pub HasReportText : OutputWhat → Type 0
HasReportText (what.Failed kind) = (kind ≡ kinds.Timeout) ⊎ (kind ≡ kinds.IoError)
HasReportText (what.Handed message) = Unit {0}
HasReportText (what.Refused message) = Unit {0}
HasReportText (what.Changed (V4 state)) = Unit {0}
HasReportText (what.Changed (V6 state)) = HasStateText6 (states6.plain_state state)
HasReportText (what.Changed (Info state)) = Unit {0}

-- an output that has a text of its own
abbrev pub HasText : Output → Type 0
HasText output = HasReportText output.what

-- a message that was handed to the link; of one over UDP and IPv6 the bytes alone
abbrev pub message_text : Handed → List ℕ
message_text (Frame bytes) = codes "frame " ++ hex_text bytes
message_text (Udp4 from to bytes) =
    spaced (codes "udp4" ∷ address_text from ∷ address_text to ∷ hex_text bytes ∷ [])
message_text (Udp6 from index bytes) = codes "udp6 " ++ hex_text bytes

-- a state of an IPv4 client
abbrev pub state4_text : PlainState → List ℕ
state4_text (v4.Done lease) = codes "done " ++ lease_text (fields_of lease)
state4_text v4.InitReboot = codes "init_reboot"
state4_text v4.Selecting = codes "selecting"
state4_text v4.Renewing = codes "renewing"
state4_text v4.Rebinding = codes "rebinding"

-- a state of an IPv6 client; the type of a lease without one is written as `na`
abbrev pub state6_text : plain6.PlainState → List ℕ
state6_text (v6.Done lease) =
    codes "done "
    ++ lease6.lease_text (lease6.fields_of (unwrap_or lease.ia_type NonTemporaryAddresses) lease)
state6_text v6.Solicit = codes "solicit"
state6_text v6.Request = codes "request"
state6_text v6.Renew = codes "renew"
state6_text v6.Rebind = codes "rebind"

-- a failure: of the time limit, or of the link, as which every other kind is written
abbrev pub failure_text : ErrorKind → List ℕ
failure_text kinds.Timeout = codes "timeout"
failure_text _ = codes "io_error"

-- what is reported
abbrev pub report_text : PlainReport → List ℕ
report_text (handed message) = codes "handed " ++ message_text message
report_text (refused message) = codes "refused " ++ message_text message
report_text (changed_v4 state) = codes "state " ++ state4_text state
report_text (changed_v6 state) = codes "state " ++ state6_text state
report_text (changed_info state) = codes "state " ++ infos.state_text state
report_text (failed kind) = codes "failed " ++ failure_text kind

-- the line of an output
abbrev pub output_line : PlainOutput → List ℕ
output_line output = line (spaced (decimal output.event ∷ report_text output.report ∷ []))

-- the text of the outputs, which ends in a line `ok`
unfoldable pub outputs_text : List PlainOutput → List ℕ
outputs_text outputs = flat_map output_line outputs ++ line (codes "ok")

-- whether what is reported is of this kind
abbrev pub is_of : OutputKind → PlainReport → Bool
is_of sorts.Handed (handed message) = true
is_of sorts.Refused (refused message) = true
is_of sorts.Changed (changed_v4 state) = true
is_of sorts.Changed (changed_v6 state) = true
is_of sorts.Changed (changed_info state) = true
is_of sorts.Failed (failed why) = true
is_of _ _ = false

-- how many outputs there are of this kind
abbrev pub count_of : OutputKind → List PlainOutput → ℕ
count_of kind outputs = count_by (λ output. is_of kind output.report) outputs

-- the line of a word and a number
abbrev pub count_line : List ℕ → ℕ → List ℕ
count_line word count = line (spaced (word ∷ decimal count ∷ []))

-- the summary of so many events and their outputs, which ends in a line `ok`
unfoldable pub summary_text : ℕ → List PlainOutput → List ℕ
summary_text events outputs =
    count_line (codes "events") events
    ++ count_line (codes "handed") (count_of sorts.Handed outputs)
    ++ count_line (codes "refused") (count_of sorts.Refused outputs)
    ++ count_line (codes "changed") (count_of sorts.Changed outputs)
    ++ count_line (codes "failed") (count_of sorts.Failed outputs)
    ++ line (codes "ok")

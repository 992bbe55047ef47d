-- What a script has: its events, and what a client reports of them.
pub use Rattle.dhcp_history.specs.declared.script.Input.{Input}
pub use Rattle.dhcp_history.specs.declared.script.Input.TheVariants.{Nothing, Arrival, Release, CleanUp}
pub use Rattle.dhcp_history.specs.declared.script.NumberedEvent.{NumberedEvent}
pub use Rattle.dhcp_history.specs.declared.script.Failure.{Failure}
pub use Rattle.dhcp_history.specs.declared.script.Failure.TheVariants.{TimedOut, SendRefused}
pub use Rattle.dhcp_history.specs.declared.script.Report.{Report}
pub use Rattle.dhcp_history.specs.declared.script.Report.TheVariants.{Handed, Refused, Changed, Failed}
pub use Rattle.dhcp_history.specs.declared.script.NumberedReport.{NumberedReport}
use Rattle.std.specs.Prelude.{ℕ, List}

-- A script: the time limit in seconds, 0 where there is none; the state and the exchange with which
-- the client begins; the random words that are left then; the events.
pub record Script (Packet State Exchange : Type 0) : Type 0 where
  pub timeout_sec : ℕ
  pub state : State
  pub exchange : Exchange
  pub words : List ℕ
  pub events : List (NumberedEvent Packet)

-- what is left of an event's input after the call that it asks for: its packet
abbrev pub input_after_call : {Packet : Type 0} → Input Packet → Input Packet
input_after_call (Arrival packet) = Arrival packet
input_after_call Nothing = Nothing
input_after_call Release = Nothing
input_after_call CleanUp = Nothing

abbrev pub after_call : {Packet : Type 0} → NumberedEvent Packet → NumberedEvent Packet
after_call event = record event { input = input_after_call event.input }

-- What the laws say of the polls of a lawful protocol, over every event and script.
use Rattle.std.specs.Prelude.{◌≡◌, ◌≤◌, ℕ, List}
use Rattle.dhcp_clock.specs.declared.link.Handed.{Handed}
use Rattle.dhcp_clock.specs.declared.link.Packet.{Packet}
use Rattle.dhcp_history.specs.Protocol.{Protocol}
use Rattle.dhcp_history.specs.Script.{NumberedEvent, Script}
use Rattle.dhcp_history.specs.History.{history, outputs}
use Rattle.dhcp_history.specs.Machine as machine
use Rattle.dhcp_history.specs.Machine.{View, first_view, replay}
use Rattle.dhcp_history.specs.RealRun.{Polled, Steady, events_of, run_from}
use Rattle.dhcp_history.specs.Bounds.{IsWithinState, count_of, is_change, is_send, poll_count}

module _ {PublicState State Exchange Answer Lease : Type 0}
    (p : Protocol PublicState Packet Handed State Exchange Answer Lease) where
  -- the calls and polls of a script report, event by event, what its history reports
  abbrev pub PollsGiveTheHistory : Type 0
  PollsGiveTheHistory = (script : Script Packet State Exchange) →
      replay p script ≡ outputs p (history p script)

  -- At an event a client is polled at most seven times, and changes its state at most six times;
  -- more polls than seven would do nothing more.
  pub record HasSevenPolls : Type 0 where
    pub polls : (fuel : ℕ) (event : NumberedEvent Packet) (client : View State Exchange) →
        poll_count p fuel event client ≤ 7
    pub changes : (fuel : ℕ) (event : NumberedEvent Packet) (client : View State Exchange) →
        count_of is_change (machine.polls p fuel event client).outputs ≤ 6
    pub enough : (fuel : ℕ) (event : NumberedEvent Packet) (client : View State Exchange) →
        7 ≤ fuel →
        machine.polls p fuel event client ≡ machine.polls p 7 event client

  -- at an event the polls of a client hand at most two messages to the link
  abbrev pub HasTwoMessages : Type 0
  HasTwoMessages = (fuel : ℕ) (event : NumberedEvent Packet) (client : View State Exchange) →
      count_of is_send (machine.polls p fuel event client).outputs ≤ 2

  -- after the polls of an event a client without a kept error is not past the end of its state
  abbrev pub IsNeverOverdue : Type 0
  IsNeverOverdue = (event : NumberedEvent Packet) (client : View State Exchange) →
      IsWithinState p event.moment (machine.polls p 7 event client).view

  -- What a run over any link reports is what the history of the script reports that the run is.
  abbrev pub RunsAreScripts : Type 0
  RunsAreScripts = (script : Script Packet State Exchange) (qs : List Polled) →
      Steady p (first_view script) qs → script.events ≡ events_of p (first_view script) qs →
      (run_from p (first_view script) qs).outputs ≡ outputs p (history p script)

  -- what holds of the polls of a lawful protocol: all of these
  pub record KeepsLaws : Type 0 where
    pub polls_give_the_history : PollsGiveTheHistory
    pub seven_polls_an_event : HasSevenPolls
    pub two_messages_an_event : HasTwoMessages
    pub no_state_is_overdue : IsNeverOverdue

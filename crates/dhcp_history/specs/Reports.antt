-- What a history reports, stay by stay.
use Rattle.std.specs.Prelude.{List, [], ◌∷◌, ◌++◌, flat_map, Some, None, if◌then◌else◌}
use Rattle.dhcp_history.specs.Protocol.{Protocol}
use Rattle.dhcp_history.specs.Script.{TimedOut, SendRefused, Handed, Refused, Changed, Failed, NumberedReport}
use Rattle.dhcp_history.specs.Stay.{Attempted, ReleaseRefused, LimitOver, Act, Lasts, Cut, Answered, Ended, Closing, Stay}

module _ {PublicState Packet Message State Exchange Answer Lease : Type 0}
    (p : Protocol PublicState Packet Message State Exchange Answer Lease) where
  -- what is reported of an act: a message by whether the link refused it
  abbrev pub act_outputs : Act Message → List (NumberedReport PublicState Message)
  act_outputs (Attempted attempt) =
      record {
        event = attempt.event;
        report = if attempt.refused then Refused attempt.message else Handed attempt.message;
      }
      ∷ []
  act_outputs (ReleaseRefused event message) =
      record { event = event; report = Refused message } ∷
      record { event = event; report = Failed SendRefused } ∷ []
  act_outputs (LimitOver event) = record { event = event; report = Failed TimedOut } ∷ []

  -- and of the close of a stay: the message of a release that cut it, or the change of state
  abbrev pub closing_outputs : Closing State Message → List (NumberedReport PublicState Message)
  closing_outputs Lasts = []
  closing_outputs (Cut event None) = []
  closing_outputs (Cut event (Some message)) =
      record { event = event; report = Handed message } ∷ []
  closing_outputs (Answered event next) =
      record { event = event; report = Changed (p.public_state next) } ∷ []
  closing_outputs (Ended event next) =
      record { event = event; report = Changed (p.public_state next) } ∷ []

  -- a stay reports what the client does in it, and then its change of state
  abbrev pub stay_outputs : Stay State Message → List (NumberedReport PublicState Message)
  stay_outputs stay = flat_map act_outputs stay.acts ++ closing_outputs stay.closing

  -- what a history reports, stay by stay
  abbrev pub outputs : List (Stay State Message) → List (NumberedReport PublicState Message)
  outputs history = flat_map stay_outputs history

-- The events of a script as a stay cuts them: those before the first that passes a test, and those
-- from it on.
use Rattle.std.specs.Prelude.{ℕ, Bool, true, false, List, [], ◌∷◌, Option, if◌then◌else◌}
use Rattle.dhcp_history.specs.Protocol.{has_come}
use Rattle.dhcp_history.specs.Script.{Input, Nothing, Arrival, Release, CleanUp, NumberedEvent}

-- whether the event is at or past the moment; no event is past none
abbrev pub is_at_or_past : {Packet : Type 0} → Option ℕ → NumberedEvent Packet → Bool
is_at_or_past moment event = has_come event.moment moment

-- the events before the first that passes the test
abbrev pub before : {Packet : Type 0} → (NumberedEvent Packet → Bool) →
    List (NumberedEvent Packet) →
    List (NumberedEvent Packet)
before test [] = []
before test (event ∷ events) = if test event then [] else event ∷ before test events

-- the events from the first that passes the test on
abbrev pub from : {Packet : Type 0} → (NumberedEvent Packet → Bool) → List (NumberedEvent Packet) →
    List (NumberedEvent Packet)
from test [] = []
from test (event ∷ events) = if test event then event ∷ events else from test events

-- what is left of the first of these events once its packet has answered: an answer uses up the
-- event
abbrev pub after_packet : {Packet : Type 0} → List (NumberedEvent Packet) →
    List (NumberedEvent Packet)
after_packet [] = []
after_packet (event ∷ events) = record event { input = Nothing } ∷ events

-- the number and the moment of the first of these events
abbrev pub number_of : {Packet : Type 0} → List (NumberedEvent Packet) → ℕ
number_of [] = 0
number_of (event ∷ events) = event.number

abbrev pub moment_of : {Packet : Type 0} → List (NumberedEvent Packet) → ℕ
moment_of [] = 0
moment_of (event ∷ events) = event.moment

-- whether an event asks for a release
abbrev pub is_release : {Packet : Type 0} → Input Packet → Bool
is_release Nothing = false
is_release (Arrival packet) = false
is_release Release = true
is_release CleanUp = false

-- Scripts that are worked out by computation, one at least for each rule of histories that a reader could doubt. A wrong rule
-- is refused here.
use Rattle.std.proofs.Common.{◌≡◌, ℕ, true, false, List, [], ◌∷◌, refl}
use Rattle.std.specs.Prelude.{None}
use Rattle.dhcp_history.specs.Script.{Input, Nothing, Arrival, Release, CleanUp, NumberedEvent, Script, NumberedReport, Handed, Refused, Changed, Failed, TimedOut, SendRefused}
use Rattle.dhcp_history.specs.History.{history, outputs, Attempted, Lasts, Cut, Answered}
use Rattle.dhcp_history.specs.Machine.{replay}
use Rattle.dhcp_history.proofs.WorkedClient.{Lease, State, Selecting, Requesting, Bound, Renewing, Message, Discover, Request, Renew, Return, Packet, Lends, Refuses, client}

-- an event over a link that takes what is sent, and one over a link that refuses it
abbrev at : ℕ → ℕ → Input Packet → NumberedEvent Packet
at number moment input = record { number = number; moment = moment; refuse = false; input = input }

abbrev refusing : ℕ → ℕ → Input Packet → NumberedEvent Packet
refusing number moment input = record { number = number; moment = moment; refuse = true; input = input }

-- a script that begins in a state, with all the random words 0
abbrev script : State → ℕ → List (NumberedEvent Packet) → Script Packet State ℕ
script state timeout_sec events = record { timeout_sec = timeout_sec; state = state; exchange = 0; words = []; events = events }

abbrev Reports : Type 0
Reports = List (NumberedReport State Message)

abbrev Tells : Script Packet State ℕ → Reports → Type 0
Tells from reports = (outputs client (history client from) ≡ reports) × (replay client from ≡ reports)

abbrev handed : ℕ → Message → NumberedReport State Message
handed number message = record { event = number; report = Handed message }

abbrev refused : ℕ → Message → NumberedReport State Message
refused number message = record { event = number; report = Refused message }

abbrev changed : ℕ → State → NumberedReport State Message
changed number state = record { event = number; report = Changed state }

abbrev timed_out : ℕ → NumberedReport State Message
timed_out number = record { event = number; report = Failed TimedOut }

abbrev unreleased : ℕ → NumberedReport State Message
unreleased number = record { event = number; report = Failed SendRefused }

-- a lease of 1000 seconds, to be renewed after 500
abbrev lease : Lease
lease = record { renewal = 500000; lasts = 1000000 }

-- The life of a lease. The answer to Discover and the Request are one event. A late poll after the renewal time renews; half of
-- the rest is waited, and the lease expires at its end.
whole_life : Tells (script Selecting 0 (at 1 0 Nothing ∷ at 2 100 (Arrival (Lends lease)) ∷ at 3 200 (Arrival (Lends lease)) ∷
    at 4 499999 Nothing ∷ at 5 600000 Nothing ∷ at 6 900000 Nothing ∷ at 7 1000200 Nothing ∷ []))
    (handed 1 (Discover 0) ∷ changed 2 (Requesting lease) ∷ handed 2 (Request 0) ∷ changed 3 (Bound lease 200) ∷
    changed 5 (Renewing lease 200) ∷ handed 5 (Renew 0) ∷ handed 6 (Renew 1) ∷ changed 7 Selecting ∷ handed 7 (Discover 0) ∷ [])
whole_life = (refl, refl)

-- a packet answers one attempt: the Request that follows in the same event does not hear it
one_answer : Tells (script Selecting 0 (at 1 0 Nothing ∷ at 2 100 (Arrival (Lends lease)) ∷ at 3 150 Nothing ∷ []))
    (handed 1 (Discover 0) ∷ changed 2 (Requesting lease) ∷ handed 2 (Request 0) ∷ [])
one_answer = (refl, refl)

-- an attempt hears the packet of the event at which it is made
answers_at_once : Tells (script Selecting 0 (at 1 0 (Arrival (Lends lease)) ∷ []))
    (handed 1 (Discover 0) ∷ changed 1 (Requesting lease) ∷ handed 1 (Request 0) ∷ [])
answers_at_once = (refl, refl)

-- a packet that comes when the next attempt is due answers that one; the count says that the wait of the first is over
answers_the_next : Tells (script Selecting 0 (at 1 0 Nothing ∷ at 2 4000 (Arrival (Lends lease)) ∷ []))
    (handed 1 (Discover 0) ∷ handed 2 (Discover 1) ∷ changed 2 (Requesting lease) ∷ handed 2 (Request 0) ∷ [])
answers_the_next = (refl, refl)

-- a pause is drawn at the first poll: nothing is sent before it is over
pauses : Tells (record (script Selecting 0 (at 1 50 Nothing ∷ at 2 949 Nothing ∷ at 3 950 Nothing ∷ [])) { words = 1900 ∷ [] })
    (handed 3 (Discover 0) ∷ [])
pauses = (refl, refl)

-- a refused attempt hears nothing and is not counted, and its wait is waited all the same
refused_attempt : Tells (script Selecting 0 (refusing 1 0 Nothing ∷ at 2 100 (Arrival (Lends lease)) ∷ at 3 3999 Nothing ∷ at 4 4000 Nothing ∷ []))
    (refused 1 (Discover 0) ∷ handed 4 (Discover 0) ∷ [])
refused_attempt = (refl, refl)

-- many waits that are over in one event bring one attempt, and the next wait counts from there
late_poll : Tells (script Selecting 0 (at 1 0 Nothing ∷ at 2 50000 Nothing ∷ at 3 53999 Nothing ∷ at 4 54000 Nothing ∷ []))
    (handed 1 (Discover 0) ∷ handed 2 (Discover 1) ∷ handed 4 (Discover 2) ∷ [])
late_poll = (refl, refl)

-- a refusal by the server is an answer; a refusal that nobody asked for is none
refused_request : Tells (script (Requesting lease) 0 (at 1 0 (Arrival Refuses) ∷ at 2 10 (Arrival Refuses) ∷ []))
    (handed 1 (Request 0) ∷ changed 1 Selecting ∷ handed 1 (Discover 0) ∷ [])
refused_request = (refl, refl)

-- the wait of the last attempt ends the state; refused attempts do not count
runs_out : Tells (script (Requesting lease) 0 (at 1 0 Nothing ∷ refusing 2 4000 Nothing ∷ at 3 8000 Nothing ∷ at 4 12000 Nothing ∷ []))
    (handed 1 (Request 0) ∷ refused 2 (Request 1) ∷ handed 3 (Request 1) ∷ changed 4 Selecting ∷ handed 4 (Discover 0) ∷ [])
runs_out = (refl, refl)

-- a packet at the ending moment comes too late for the state that ends, and is left to the next one
too_late : Tells (script (Renewing lease 0) 0 (at 1 600000 Nothing ∷ at 2 1000000 (Arrival Refuses) ∷ []))
    (handed 1 (Renew 0) ∷ changed 2 Selecting ∷ handed 2 (Discover 0) ∷ [])
too_late = (refl, refl)

-- a packet that comes with a jump past the end of a lease answers the attempt that is made in this event
answers_after_a_jump : Tells (script (Bound lease 0) 0 (at 1 1000000 (Arrival (Lends lease)) ∷ []))
    (changed 1 (Renewing lease 0) ∷ changed 1 Selecting ∷ handed 1 (Discover 0) ∷ changed 1 (Requesting lease) ∷ handed 1 (Request 0) ∷ [])
answers_after_a_jump = (refl, refl)

-- a jump past two endings: both states end in one event, and no renewal is sent
two_endings : Tells (script (Bound lease 0) 0 (at 1 2000000 Nothing ∷ []))
    (changed 1 (Renewing lease 0) ∷ changed 1 Selecting ∷ handed 1 (Discover 0) ∷ [])
two_endings = (refl, refl)

-- a lease of no time is over in the event that brings it
no_time : Tells (script (Requesting lease) 0 (at 1 70 (Arrival (Lends (record { renewal = 0; lasts = 0 }))) ∷ []))
    (handed 1 (Request 0) ∷ changed 1 (Bound (record { renewal = 0; lasts = 0 }) 70) ∷ changed 1 (Renewing (record { renewal = 0; lasts = 0 }) 70) ∷ changed 1 Selecting ∷ handed 1 (Discover 0) ∷ [])
no_time = (refl, refl)

-- a clean-up at the first event cuts the first stay before it draws its pause: the word is left for the second
cleaned_first : Tells (record (script Selecting 0 (at 1 0 CleanUp ∷ at 2 700 Nothing ∷ [])) { words = 700 ∷ 999 ∷ [] })
    (handed 2 (Discover 0) ∷ [])
cleaned_first = (refl, refl)

-- a clean-up drops lease, attempt and count
cleaned : Tells (script (Renewing lease 0) 0 (at 1 600000 Nothing ∷ at 2 800000 CleanUp ∷ at 3 900000 Release ∷ []))
    (handed 1 (Renew 0) ∷ handed 2 (Discover 0) ∷ handed 3 (Discover 1) ∷ [])
cleaned = (refl, refl)

-- a release is sent first, and the client begins anew in the same event
released : Tells (script (Renewing lease 0) 0 (at 1 600000 Nothing ∷ at 2 800000 Release ∷ []))
    (handed 1 (Renew 0) ∷ handed 2 (Return lease) ∷ handed 2 (Discover 0) ∷ [])
released = (refl, refl)

-- a release that the link refuses leaves the client as it is, and comes before the attempt of its event
release_refused : Tells (script (Renewing lease 0) 0 (at 1 600000 Nothing ∷ refusing 2 800000 Release ∷ at 3 801000 Release ∷ []))
    (handed 1 (Renew 0) ∷ refused 2 (Return lease) ∷ unreleased 2 ∷ refused 2 (Renew 1) ∷ handed 3 (Return lease) ∷ handed 3 (Discover 0) ∷ [])
release_refused = (refl, refl)

-- without a lease there is nothing to release
nothing_released : Tells (script Selecting 0 (at 1 0 Release ∷ refusing 2 10 Release ∷ [])) (handed 1 (Discover 0) ∷ [])
nothing_released = (refl, refl)

-- a limit that is over is answered at each event until a clean-up, whatever comes
limit_over : Tells (script Selecting 5 (at 1 0 Nothing ∷ at 2 4999 Nothing ∷ at 3 5000 (Arrival (Lends lease)) ∷ at 4 9000 Nothing ∷ at 5 9500 CleanUp ∷ []))
    (handed 1 (Discover 0) ∷ handed 2 (Discover 1) ∷ timed_out 3 ∷ timed_out 4 ∷ handed 5 (Discover 0) ∷ [])
limit_over = (refl, refl)

-- the limit counts from the entry of each state, and not while a lease is held
limit_of_each_state : Tells (script Selecting 5 (at 1 100 Nothing ∷ at 2 5000 (Arrival (Lends lease)) ∷ at 3 9000 (Arrival (Lends lease)) ∷ at 4 400000 Nothing ∷ []))
    (handed 1 (Discover 0) ∷ handed 2 (Discover 1) ∷ changed 2 (Requesting lease) ∷ handed 2 (Request 0) ∷ handed 3 (Request 1) ∷ changed 3 (Bound lease 9000) ∷ [])
limit_of_each_state = (refl, refl)

-- a limit that is over comes before the end of the state
limit_before_end : Tells (script (Renewing lease 0) 1 (at 1 999000 Nothing ∷ at 2 1000000 Nothing ∷ []))
    (handed 1 (Renew 0) ∷ timed_out 2 ∷ [])
limit_before_end = (refl, refl)

-- a stay that its limit stops lasts until a release that the link takes, and a refused one is reported first
limit_and_release : Tells (script (Renewing lease 0) 1 (at 1 600000 Nothing ∷ refusing 2 601000 Release ∷ at 3 602000 Release ∷ []))
    (handed 1 (Renew 0) ∷ refused 2 (Return lease) ∷ unreleased 2 ∷ timed_out 2 ∷ handed 3 (Return lease) ∷ handed 3 (Discover 0) ∷ [])
limit_and_release = (refl, refl)

-- the stays of a history: the first is answered, the second is cut, the last lasts
three_stays : history client (script (Requesting lease) 0 (at 1 10 (Arrival (Lends lease)) ∷ at 2 20 CleanUp ∷ [])) ≡
    record {
      setting = record { state = Requesting lease; entered = 10; timeout_sec = 0 };
      entry = 1;
      pause = 0;
      acts = Attempted (record { event = 1; moment = 10; wait = 4000; refused = false; message = Request 0 }) ∷ [];
      closing = Answered 1 (Bound lease 10);
    } ∷
    record { setting = record { state = Bound lease 10; entered = 10; timeout_sec = 0 }; entry = 1; pause = 0; acts = []; closing = Cut 2 None } ∷
    record {
      setting = record { state = Selecting; entered = 20; timeout_sec = 0 };
      entry = 2;
      pause = 0;
      acts = Attempted (record { event = 2; moment = 20; wait = 4000; refused = false; message = Discover 0 }) ∷ [];
      closing = Lasts;
    } ∷ []
three_stays = refl

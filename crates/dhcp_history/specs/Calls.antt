-- What the calls of a client promise, a record for each: first those of a client of some rules,
-- then those of a client with its configuration, which are the same at the protocol that it has.
use Rattle.std.specs.Prelude.{◌≡◌, ◌≤◌, ◌⊎◌, ◌||◌, ℕ, List, [], Bool, true, false, not, Option, None, is_some, if◌then◌else◌, Result, Ok, OnOk, OnErr, IfOk, IfErr, IfSome, IsSomeAnd}
use Rattle.dhcp_wire.specs.Error.{ErrorParts, no_memory}
use Rattle.dhcp_wire.specs.Fault.{HasCause}
use Rattle.dhcp_clock.specs.declared.link.Packet.{Packet}
use Rattle.dhcp_clock.specs.declared.link.Handed.{Handed}
use Rattle.dhcp_clock.specs.declared.link.Sent.TheVariants as sent
use Rattle.dhcp_clock.specs.Link.{Shown, HandsOver}
use Rattle.dhcp_history.specs.declared.client.Client.{Client}
use Rattle.dhcp_history.specs.declared.machine.RunError.{RunError}
use Rattle.dhcp_history.specs.Protocol.{Lawful, Protocol, has_come}
use Rattle.dhcp_history.specs.Script.{NumberedEvent, NumberedReport, Script, Nothing}
use Rattle.dhcp_history.specs.Machine.{begin_stay, clean_up, first_view, has_open_attempt, is_stopped, is_unpolled, limit_is_over, poll}
use Rattle.dhcp_history.specs.History.{history, outputs}
use Rattle.dhcp_history.specs.Client.{unpolled, view_of}
use Rattle.dhcp_history.specs.Errors.{release_answer, run_answer, send_refused, sent_of, timed_out}
use Rattle.dhcp_history.specs.EventLoop.{HasReported, event_at, events_at, last_moment}
use Rattle.dhcp_history.specs.Release as release
use Rattle.dhcp_history.specs.Release.{HasReleased, OnOutOfMemory, UnlessOutOfMemory}
use Rattle.dhcp_history.specs.Run.{input_of, quiet_poll, HasPolled, HasPolledQuietly, IsSent, IsUnsent, OnNoMemory, OnTimeout, PacketMayAnswer, UnlessNoMemory, UsesLink, WhereKnown}
use Rattle.dhcp_history.specs.Kept.{DropsLease, Keeps}
use Rattle.dhcp_history.specs.Listening.{is_listening}
use Rattle.dhcp_history.specs.Schedule.{HasNextAttempt, IsActive, IsIdle, IsSettled, next_poll}
use Rattle.dhcp_history.specs.Seen.{Seen, seen}
use Rattle.dhcp_history.specs.Traced.{asks}

-- 1. The calls of a client of some rules.

module _ {PublicState State Exchange Answer Lease : Type 0}
    (p : Protocol PublicState Packet Handed State Exchange Answer Lease) where
  -- One poll. Its answer is given as the rules have it; words and link may be known or not.
  pub record Polls (may_answer : State → Exchange → Packet → Bool) (now : ℕ)
      (answer : Result (Option PublicState) RunError) (old new : Seen (Client State Exchange)) :
      Type 0 where
    -- where words and link are known, this is the poll of the protocol
    pub polled : UnlessNoMemory answer (WhereKnown old.words old.shown (λ words shown.
        HasPolled p (poll p now shown.refuses (input_of shown.waiting) (view_of old.client words))
        answer (view_of new.client) new.words shown new.shown))
    -- over all words and links: the steps that use neither
    pub quiet : (words : List ℕ) → IfSome (quiet_poll p now (view_of old.client words)) (λ once.
        HasPolledQuietly p once answer words old new)
    -- the time limit is over, now or since an earlier poll
    pub cause : OnTimeout answer ((words : List ℕ) → (is_stopped old.client.standing.phase
        || limit_is_over p now (view_of old.client words)) ≡ true)
    pub timeout : new.client.timeout_sec ≡ old.client.timeout_sec
    -- the client keeps the moment, unless out of memory
    pub moment : UnlessNoMemory answer (new.client.last_moment ≡ now)
    pub state : OnErr answer (new.client.state ≡ old.client.state)
    -- without a change the state is as it was, and by a lawful protocol nothing is due
    pub still : answer ≡ Ok None → new.client.state ≡ old.client.state
    pub settles : Lawful p → answer ≡ Ok None → IsSettled p now new.client
    -- a change is that to the new state
    pub reported : IfOk answer (λ change. IfSome change (λ reported.
        reported ≡ p.public_state new.client.state))
    -- in a state in which it sends, a client that was polled there has a next attempt
    pub armed : HasNextAttempt p.has_attempts old.client → HasNextAttempt p.has_attempts new.client
    -- what every change of state preserves
    pub keeps : Keeps p old.client.state new.client.state
    -- out of memory: as at entry, or right after the send
    pub memory : OnNoMemory answer (IsUnsent old.client new.client old.shown new.shown
        ⊎ IsSent p now (λ words. begin_stay p now (view_of old.client words)) new.client old.words
        old.shown new.shown)
    -- with no attempt due, only the reading of a packet needs memory
    pub needed : OnNoMemory answer (is_unpolled old.client.standing.phase ≡ false →
        has_come now old.client.standing.deadline ≡ false →
        PacketMayAnswer may_answer old.client old.shown)
    -- so too at the first poll of a state, where the words are known
    pub due : OnNoMemory answer (IfSome old.words (λ words.
        (has_come now (begin_stay p now (view_of old.client words)).deadline ≡ true)
        ⊎ PacketMayAnswer may_answer old.client old.shown))
    -- one message and one packet at most
    pub uses : IfSome old.shown (λ before. IsSomeAnd new.shown (λ after.
        UsesLink (has_open_attempt old.client.standing.phase) before after))
    pub later : old.faults ≤ new.faults

  -- A clean-up.
  pub record CleansUp (old new : Client State Exchange) : Type 0 where
    pub client : (available : List ℕ) → view_of new available ≡ clean_up p (view_of old available)
    pub timeout : new.timeout_sec ≡ old.timeout_sec
    pub moment : new.last_moment ≡ old.last_moment
    pub armed : HasNextAttempt p.has_attempts new
    pub keeps : Keeps p old.state new.state
    -- no lease is held
    pub dropped : DropsLease p → p.held_lease new.state ≡ None
    -- it was not polled in its state yet, so that a script begins with it
    pub anew : new.standing ≡ unpolled new.standing.exchange

  -- What every release keeps of its client: one whose lease was not released is as it was.
  pub record KeepsClient {Returned E : Type 0} (result : Result Returned E)
      (old new : Client State Exchange) : Type 0 where
    pub timeout : new.timeout_sec ≡ old.timeout_sec
    pub state : OnErr result (new.state ≡ old.state)
    pub standing : OnErr result (new.standing ≡ old.standing)
    pub armed : HasNextAttempt p.has_attempts old → HasNextAttempt p.has_attempts new
    pub keeps : Keeps p old.state new.state
    -- after it no lease is held
    pub dropped : DropsLease p → OnOk result (p.held_lease new.state ≡ None)

  -- The same of a release at a moment, which the client keeps; of that nothing is said when out of
  -- memory.
  pub record KeepsUnreleased {Returned : Type 0} (now : ℕ) (result : Result Returned ErrorParts)
      (old new : Client State Exchange) (faults faults' : ℕ) : Type 0 where
    pub client : KeepsClient result old new
    pub open client use *
    -- the link refused the message only if its count of faults rose
    pub cause : HasCause (sent_of result ≡ sent.Refused) faults faults'
    pub moment : UnlessOutOfMemory (release_answer result) (new.last_moment ≡ now)

  -- A release whose message this is, whatever its errors.
  pub record HandsRelease {Returned : Type 0} (message : Handed) (now : ℕ)
      (result : Result Returned ErrorParts) (old new : Client State Exchange)
      (before after : Option Shown) (faults faults' : ℕ) : Type 0 where
    pub kept : KeepsUnreleased now result old new faults faults'
    pub open kept use *
    pub handed : HandsOver message (sent_of result) before after
    -- the link took the message: a clean-up follows
    pub cleaned : OnOk result ((available : List ℕ) →
        view_of new available ≡ clean_up p (view_of old available))
    pub anew : OnOk result (new.standing ≡ unpolled new.standing.exchange)

  -- A release whose message this is.
  pub record Releases {Returned : Type 0} (message : Handed) (now : ℕ)
      (result : Result Returned ErrorParts) (old new : Client State Exchange)
      (before after : Option Shown) (faults faults' : ℕ) : Type 0 where
    pub hands : HandsRelease message now result old new before after faults faults'
    pub open hands use *
    pub errors : IfErr result (λ error. (error ≡ send_refused) ⊎ (error ≡ no_memory))

  -- The release of the lease that is held, if one is.
  pub record ReleasesHeld (now : ℕ) (result : Result Bool ErrorParts)
      (old new : Client State Exchange) (before after : Option Shown) (faults faults' : ℕ) :
      Type 0 where
    pub kept : KeepsUnreleased now result old new faults faults'
    pub open kept use *
    -- where the link is known, this is the release of the protocol
    pub released : UnlessOutOfMemory (release_answer result) (IfSome before (λ shown.
        (available : List ℕ) →
        HasReleased (release.release_held p shown.refuses (view_of old available))
        (release_answer result) (view_of new available) shown after))
    -- it returns whether a lease was held
    pub held : IfOk result (λ released. released ≡ is_some (p.held_lease old.state))
    -- a clean-up follows if one was
    pub cleaned : IfOk result (λ released. (available : List ℕ) → view_of new available ≡
        (if released then clean_up p (view_of old available) else view_of old available))
    pub anew : IfOk result (λ released. released ≡ true →
        new.standing ≡ unpolled new.standing.exchange)
    -- out of memory: a lease is held, and nothing was sent
    pub needed : OnOutOfMemory (release_answer result) (is_some (p.held_lease old.state) ≡ true)
    pub unsent : OnOutOfMemory (release_answer result) (after ≡ before)
    pub errors : IfErr result (λ error. (error ≡ send_refused) ⊎ (error ≡ no_memory))

  -- One event of a script, played: what it reports is put behind these reports.
  pub record PlaysEvent {Returned : Type 0} (result : Result Returned ErrorParts)
      (event : NumberedEvent Packet) (before after : List (NumberedReport PublicState Handed))
      (old new : Client State Exchange) (available left : Option (List ℕ)) : Type 0 where
    -- where the words are known, what is reported is that of the event
    pub reported : OnOk result (IfSome available (λ words.
        HasReported (event_at p event (view_of old words)) before after (view_of new) left))
    -- the client keeps the moment of the event
    pub moment : OnOk result (new.last_moment ≡ event.moment)
    pub armed : HasNextAttempt p.has_attempts old → HasNextAttempt p.has_attempts new
    pub keeps : Keeps p old.state new.state
    pub error : IfErr result (λ error. error ≡ no_memory)

  -- The events of a script, played. What is returned has these outputs as its items.
  pub record Plays {Returned : Type 0} (result : Result Returned ErrorParts)
      (items : Returned → List (NumberedReport PublicState Handed))
      (events : List (NumberedEvent Packet))
      (old new : Client State Exchange) (available left : Option (List ℕ)) : Type 0 where
    -- where the words are known, the outputs are those of the events, one by one
    pub reported : IfOk result (λ reported. IfSome available (λ words.
        HasReported (events_at p (view_of old words) events)
        [] (items reported) (view_of new) left))
    -- the client keeps the moment of the last event
    pub moment : OnOk result (new.last_moment ≡ last_moment old.last_moment events)
    pub armed : HasNextAttempt p.has_attempts old → HasNextAttempt p.has_attempts new
    pub keeps : Keeps p old.state new.state
    pub error : IfErr result (λ error. error ≡ no_memory)

  -- what is reported is that of the history of the script, where the client begins as that says
  abbrev pub HasHistory : {Returned : Type 0} → Result Returned ErrorParts →
      (Returned → List (NumberedReport PublicState Handed)) → List (NumberedEvent Packet) →
      Client State Exchange → Option (List ℕ) → Type 0
  HasHistory result items events old available =
      IfOk result (λ reported. IfSome available (λ words. (script : Script Packet State Exchange) →
      view_of old words ≡ first_view script → script.events ≡ events →
      items reported ≡ outputs p (history p script)))

  -- the same, and by a lawful protocol what the history reports
  pub record Replays {Returned : Type 0} (result : Result Returned ErrorParts)
      (items : Returned → List (NumberedReport PublicState Handed))
      (events : List (NumberedEvent Packet))
      (old new : Client State Exchange) (available left : Option (List ℕ)) : Type 0 where
    pub plays : Plays result items events old new available left
    pub open plays use *
    pub history : Lawful p → HasHistory result items events old available

  -- The moment at which a poll next does something without a packet.
  pub record HasNextPoll (result : Option ℕ) (client : Client State Exchange) : Type 0 where
    pub moment : result ≡ next_poll p client
    -- before it a poll without a packet does nothing
    pub before : (now : ℕ) (refuse : Bool) (available : List ℕ) →
        is_stopped client.standing.phase ≡ false → client.last_moment ≤ now →
        has_come now result ≡ false →
        IsIdle p now (view_of client available)
        (poll p now refuse Nothing (view_of client available))
    -- at or after it, it does something
    pub after : (now : ℕ) (refuse : Bool) (available : List ℕ) → has_come now result ≡ true →
        IsActive (view_of client available) (poll p now refuse Nothing (view_of client available))

  -- Whether a poll at this moment asks its link for a packet, unless the link refuses what the poll
  -- sends.
  pub record HasListening (now : ℕ) (result : Bool) (client : Client State Exchange) :
      Type 0 where
    pub listening : (available : List ℕ) → result ≡ is_listening p now (view_of client available)
    -- a client that was polled in its state asks if and only if this is true
    pub asking : is_unpolled client.standing.phase ≡ false → (available : List ℕ) →
        result ≡ asks p now false (view_of client available)
    -- if it is false no poll asks, over whatever link
    pub deaf : result ≡ false → (refuse : Bool) (available : List ℕ) →
        asks p now refuse (view_of client available) ≡ false

-- 2. The calls of a client with its configuration.

-- what contracts see of a client: its configuration, and the client of its rules
pub record ClientParts (Config State Exchange : Type 0) : Type 0 where
  pub config : Config
  pub client : Client State Exchange

-- the client of its rules, with the same words and link
abbrev pub rules_seen : {Config State Exchange : Type 0} →
    Seen (ClientParts Config State Exchange) → Seen (Client State Exchange)
rules_seen parts = seen parts.client.client parts.words parts.shown parts.faults

module _ {Config PublicState State Exchange Answer Lease : Type 0}
    (protocol : Config → Protocol PublicState Packet Handed State Exchange Answer Lease) where
  -- One poll, with the errors of a client's calls, by a client whose protocol is lawful. What it
  -- returns is seen as a public state.
  pub record IsRun {Returned : Type 0} (view : Returned → PublicState)
      (may_answer : State → Exchange → Packet → Bool) (now : ℕ)
      (result : Result (Option Returned) ErrorParts)
      (old new : Seen (ClientParts Config State Exchange)) : Type 0 where
    pub polls : Polls (protocol old.client.config) may_answer now (run_answer view result)
        (rules_seen old) (rules_seen new)
    pub open polls use *
    -- without a change nothing is due
    pub settled : result ≡ Ok None → IsSettled (protocol old.client.config) now new.client.client
    pub errors : IfErr result (λ error. (error ≡ timed_out) ⊎ (error ≡ no_memory))
    pub config : new.client.config ≡ old.client.config

  -- A clean-up.
  pub record IsCleanUp (old new : ClientParts Config State Exchange) : Type 0 where
    pub cleans : CleansUp (protocol old.config) old.client new.client
    pub open cleans use *
    pub config : new.config ≡ old.config

  -- A release whose message this is.
  pub record IsRelease {Returned : Type 0} (message : Handed) (now : ℕ)
      (result : Result Returned ErrorParts) (old new : ClientParts Config State Exchange)
      (before after : Option Shown) (faults faults' : ℕ) : Type 0 where
    pub releases : Releases (protocol old.config) message now result old.client new.client
        before after faults faults'
    pub open releases use *
    pub config : new.config ≡ old.config

  -- The release of the lease that is held, if one is.
  pub record IsHeldRelease (now : ℕ) (result : Result Bool ErrorParts)
      (old new : ClientParts Config State Exchange) (before after : Option Shown)
      (faults faults' : ℕ) : Type 0 where
    pub releases : ReleasesHeld (protocol old.config) now result old.client new.client
        before after faults faults'
    pub open releases use *
    pub config : new.config ≡ old.config

  -- The moment of the next poll. A client always has one, unless an error is kept.
  pub record IsNextPoll (result : Option ℕ) (parts : ClientParts Config State Exchange) :
      Type 0 where
    pub next : HasNextPoll (protocol parts.config) result parts.client
    pub open next use *
    pub stopped : is_some result ≡ not (is_stopped parts.client.standing.phase)

  -- Whether a poll at this moment asks its link for a packet.
  pub record IsListening (now : ℕ) (result : Bool) (parts : ClientParts Config State Exchange) :
      Type 0 where
    pub listens : HasListening (protocol parts.config) now result parts.client
    pub open listens use *

  -- One event of a script, played.
  pub record IsPlayedEvent {Returned : Type 0} (result : Result Returned ErrorParts)
      (event : NumberedEvent Packet) (before after : List (NumberedReport PublicState Handed))
      (old new : ClientParts Config State Exchange) (available left : Option (List ℕ)) :
      Type 0 where
    pub plays : PlaysEvent (protocol old.config) result event before after old.client new.client
        available left
    pub open plays use *
    pub config : new.config ≡ old.config

  -- The events of a script, played, by a client whose protocol is lawful.
  pub record IsReplay {Returned : Type 0} (result : Result Returned ErrorParts)
      (items : Returned → List (NumberedReport PublicState Handed))
      (events : List (NumberedEvent Packet))
      (old new : ClientParts Config State Exchange)
      (available left : Option (List ℕ)) : Type 0 where
    pub plays : Plays (protocol old.config) result items events old.client new.client available left
    pub open plays use *
    pub history : HasHistory (protocol old.config) result items events old.client available
    pub config : new.config ≡ old.config

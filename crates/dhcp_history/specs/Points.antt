-- A history point by point: which packet answers a stay and when; that no other packet would have;
-- and that what is handed to the link is the protocol's.
use Rattle.std.specs.Prelude.{ℕ, ◌+◌, ◌<◌, ◌≤◌, ◌≡◌, ◌==◌, Bool, false, All, List, [], ◌∷◌, ◌++◌, Some, None}
use Rattle.std.specs.List.{Contains}
use Rattle.dhcp_history.specs.declared.rules.AttemptStart.{AttemptStart}
use Rattle.dhcp_history.specs.Protocol.{Protocol}
use Rattle.dhcp_history.specs.declared.script.NumberedEvent.{NumberedEvent}
use Rattle.dhcp_history.specs.declared.script.Input.TheVariants.{Arrival}
use Rattle.dhcp_history.specs.Stay.{Act, Answered, Attempt, Attempted, Closing, Cut, Ended, Lasts, LimitOver, ReleaseRefused, Stay}
use Rattle.dhcp_history.specs.History.{ends, overruns}
use Rattle.dhcp_history.specs.Bounds.{attempts_of}

-- the numbers of the events rise, above this one, and their moments do not fall below this one
abbrev pub Rises : {Packet : Type 0} → ℕ → ℕ → List (NumberedEvent Packet) → Type 0
Rises number moment [] = Unit {0}
Rises number moment (event ∷ events) =
    (number < event.number) × (moment ≤ event.moment) × Rises event.number event.moment events

-- the stay lasts beyond the event with this number
abbrev pub LastsPast : {State Message : Type 0} → ℕ → Closing State Message → Type 0
LastsPast number Lasts = Unit {0}
LastsPast number (Cut event message) = number < event
LastsPast number (Answered event next) = number < event
LastsPast number (Ended event next) = number < event

-- whether the stay is answered at the event with this number
abbrev pub is_answered_at : {State Message : Type 0} → ℕ → Closing State Message → Bool
is_answered_at number Lasts = false
is_answered_at number (Cut event message) = false
is_answered_at number (Answered event next) = event == number
is_answered_at number (Ended event next) = false

module _ {PublicState Packet Message State Exchange Answer Lease : Type 0}
    (p : Protocol PublicState Packet Message State Exchange Answer Lease) where
  -- The attempt is one that the protocol makes in this state, at its moment; with it the exchange
  -- is this one.
  pub record IsAttemptIn (state : State) (attempt : Attempt Message) (exchange : Exchange) :
      Type 0 where
    pub before : Exchange
    pub start : AttemptStart
    pub words : List ℕ
    pub at_its_moment : start.now ≡ attempt.moment
    pub made : (p.attempt state before start words).value
        ≡ record { wait = attempt.wait; message = attempt.message; exchange = exchange }

  -- At this event the attempt is open: it is the last one that the stay made by then, and the link
  -- took it; its wait is not over, nor is the client's time limit, nor the state.
  pub record IsOpenAt (event : NumberedEvent Packet) (attempt : Attempt Message)
      (stay : Stay State Message) : Type 0 where
    pub earlier : List (Attempt Message)
    pub later : List (Attempt Message)
    pub among : attempts_of stay.acts ≡ earlier ++ attempt ∷ later
    pub by_then : attempt.event ≤ event.number
    pub last : All (λ next. event.number < next.event) later
    pub taken : attempt.refused ≡ false
    pub awaited : event.moment < attempt.moment + attempt.wait
    pub in_time : overruns p stay.setting event ≡ false
    pub in_state : ends p stay.setting event ≡ false

  -- 1. What answers a stay.

  -- The packet of this event is read as an answer to the attempt that is open, and this is the
  -- state after that answer.
  pub record IsAnsweredAt (event : NumberedEvent Packet) (next : State)
      (stay : Stay State Message) :
      Type 0 where
    pub packet : Packet
    pub brings : event.input ≡ Arrival packet
    pub attempt : Attempt Message
    pub open_then : IsOpenAt event attempt stay
    pub exchange : Exchange
    pub own : IsAttemptIn stay.setting.state attempt exchange
    pub words : List ℕ
    pub answer : Answer
    pub reads : (p.reading stay.setting.state exchange packet words).value ≡ Some answer
    pub follows : next ≡ (p.after_answer stay.setting.state answer event.moment exchange).state

  -- and it is the event with this number, one of these
  pub record IsAnsweredAmong (events : List (NumberedEvent Packet)) (number : ℕ) (next : State)
      (stay : Stay State Message) : Type 0 where
    pub event : NumberedEvent Packet
    pub among : Contains events event
    pub numbered : event.number ≡ number
    pub answered : IsAnsweredAt event next stay

  -- a stay that closes with an answer at an event is answered by the packet of that event
  abbrev pub IsAnswered : List (NumberedEvent Packet) → Stay State Message → Type 0
  IsAnswered events stay = (number : ℕ) (next : State) → stay.closing ≡ Answered number next →
      IsAnsweredAmong events number next stay

  -- 2. What answers nothing.

  -- the packet is read as no answer to the attempt
  pub record IsNoAnswer (packet : Packet) (state : State) (attempt : Attempt Message) :
      Type 0 where
    pub exchange : Exchange
    pub own : IsAttemptIn state attempt exchange
    pub words : List ℕ
    pub reads : (p.reading state exchange packet words).value ≡ None

  -- where an attempt of the stay is open at the event, and the stay lasts beyond it, the packet is
  -- read as no answer
  abbrev pub HearsNoAnswer : NumberedEvent Packet → Packet → Stay State Message → Type 0
  HearsNoAnswer event packet stay = (attempt : Attempt Message) → IsOpenAt event attempt stay →
      LastsPast event.number stay.closing → IsNoAnswer packet stay.setting.state attempt

  -- Where no stay is answered at an event, its packet is read as no answer wherever an attempt is
  -- open.
  abbrev pub MissesNoAnswer : List (NumberedEvent Packet) → List (Stay State Message) → Type 0
  MissesNoAnswer events stays = (event : NumberedEvent Packet) (packet : Packet) →
      Contains events event → event.input ≡ Arrival packet →
      All (λ stay. is_answered_at event.number stay.closing ≡ false) stays →
      All (HearsNoAnswer event packet) stays

  -- 3. What is handed to the link.

  -- the message releases the lease that is held in this state
  pub record IsReleaseIn (state : State) (message : Message) : Type 0 where
    pub lease : Lease
    pub held : p.held_lease state ≡ Some lease
    pub exchange : Exchange
    pub is : message ≡ p.release_message lease exchange

  -- an act is as the protocol has it in this state
  abbrev pub IsOwnAct : State → Act Message → Type 0
  IsOwnAct state (Attempted attempt) = (exchange : Exchange) × IsAttemptIn state attempt exchange
  IsOwnAct state (ReleaseRefused event message) = IsReleaseIn state message
  IsOwnAct state (LimitOver event) = Unit {0}

  -- and so is the message of the release that cuts a stay
  abbrev pub IsOwnClosing : State → Closing State Message → Type 0
  IsOwnClosing state Lasts = Unit {0}
  IsOwnClosing state (Cut event None) = Unit {0}
  IsOwnClosing state (Cut event (Some message)) = IsReleaseIn state message
  IsOwnClosing state (Answered event next) = Unit {0}
  IsOwnClosing state (Ended event next) = Unit {0}

  -- each message of a stay is the protocol's: an attempt's, or the release of the lease that is
  -- held
  pub record HandsItsOwn (stay : Stay State Message) : Type 0 where
    pub acts : All (IsOwnAct stay.setting.state) stay.acts
    pub closing : IsOwnClosing stay.setting.state stay.closing

  -- 4. How the stays follow one another.

  -- after a stay that closes so, one begins at the event with this number, in this state
  abbrev pub LeadsTo : Closing State Message → ℕ → State → Type 0
  LeadsTo Lasts entry state = ⊥
  LeadsTo (Cut event message) entry state =
      (entry ≡ event) × ((exchange : Exchange) × (state ≡ (p.after_clean_up exchange).state))
  LeadsTo (Answered event next) entry state = (entry ≡ event) × (state ≡ next)
  LeadsTo (Ended event next) entry state = (entry ≡ event) × (state ≡ next)

  -- each stay begins where the one before it leads to
  abbrev pub FollowOn : List (Stay State Message) → Type 0
  FollowOn [] = Unit {0}
  FollowOn (stay ∷ []) = Unit {0}
  FollowOn (stay ∷ next ∷ stays) =
      LeadsTo stay.closing next.entry next.setting.state × FollowOn (next ∷ stays)

  -- What holds of the history of these events, point by point.
  pub record HoldsByPoint (events : List (NumberedEvent Packet))
      (stays : List (Stay State Message)) :
      Type 0 where
    pub answered : All (IsAnswered events) stays
    pub none_missed : MissesNoAnswer events stays
    pub own_messages : All HandsItsOwn stays
    pub follow_on : FollowOn stays

-- What a protocol keeps of its exchanges, of the messages that it hands over, and of the states to
-- which it changes.
use Rattle.std.specs.Prelude.{◌≡◌, ℕ, List, Some}
use Rattle.std.specs.List.{AllByRecursion}
use Rattle.dhcp_history.specs.declared.rules.AttemptStart.{AttemptStart}
use Rattle.dhcp_history.specs.declared.script.Report.{Report}
use Rattle.dhcp_history.specs.declared.script.Report.TheVariants.{Handed, Refused, Changed, Failed}
use Rattle.dhcp_history.specs.declared.script.Input.{Input}
use Rattle.dhcp_history.specs.declared.script.Input.TheVariants.{Nothing, Arrival, Release, CleanUp}
use Rattle.dhcp_history.specs.Protocol.{Protocol}
use Rattle.dhcp_history.specs.Machine.{EventEffect}

module _ {PublicState Packet Message State Exchange Answer Lease : Type 0}
    (p : Protocol PublicState Packet Message State Exchange Answer Lease)
    (Good : Exchange → Type 0) (Held : State → Type 0) (Comes : Packet → Type 0)
    (Fits : Message → Type 0) (Shows : PublicState → Type 0) (moment : ℕ) where
  -- At an event at this moment: exchanges stay good, and what is held of a state is held of each
  -- next one. Then each message fits, and each state shows this that comes after the end of
  -- another, or after the answer of a packet that comes.
  pub record Keeps : Type 0 where
    pub waited : (exchange : Exchange) → Good exchange → Good (p.after_wait exchange)
    pub attempted : (state : State) (exchange : Exchange) (start : AttemptStart)
        (words : List ℕ) → Good exchange →
        Good (p.attempt state exchange start words).value.exchange
    pub fits : (state : State) (exchange : Exchange) (start : AttemptStart) (words : List ℕ) →
        Good exchange → Held state → Fits (p.attempt state exchange start words).value.message
    pub released : (state : State) (lease : Lease) (exchange : Exchange) → Good exchange →
        Held state → p.held_lease state ≡ Some lease → Fits (p.release_message lease exchange)
    pub cut : (exchange : Exchange) → Good exchange → Good (p.after_clean_up exchange).exchange
    pub cut_held : (exchange : Exchange) → Held (p.after_clean_up exchange).state
    pub answered : (state : State) (answer : Answer) (now : ℕ) (exchange : Exchange) →
        Good exchange → Good (p.after_answer state answer now exchange).exchange
    pub ended : (state : State) (exchange : Exchange) → Good exchange →
        Good (p.after_end state exchange).exchange
    pub ended_held : (state : State) (exchange : Exchange) → Held state →
        Held (p.after_end state exchange).state
    pub answered_held : (state : State) (exchange : Exchange) (packet : Packet)
        (words : List ℕ) (answer : Answer) → Good exchange → Held state → Comes packet →
        (p.reading state exchange packet words).value ≡ Some answer →
        Held (p.after_answer state answer moment exchange).state
    pub shows_ended : (state : State) (exchange : Exchange) → Good exchange →
        Shows (p.public_state (p.after_end state exchange).state)
    pub shows_answered : (state : State) (exchange : Exchange) (packet : Packet)
        (words : List ℕ) (answer : Answer) → Good exchange → Comes packet →
        (p.reading state exchange packet words).value ≡ Some answer →
        Shows (p.public_state (p.after_answer state answer moment exchange).state)

  -- the packet of an event comes
  abbrev pub ComesIn : Input Packet → Type 0
  ComesIn (Arrival packet) = Comes packet
  ComesIn Nothing = Unit {0}
  ComesIn Release = Unit {0}
  ComesIn CleanUp = Unit {0}

  -- what is reported is such a message or such a state
  abbrev pub Tells : Report PublicState Message → Type 0
  Tells (Handed message) = Fits message
  Tells (Refused message) = Unit {0}
  Tells (Changed state) = Shows state
  Tells (Failed failure) = Unit {0}

  -- what an event leaves: a good exchange, a state of which this is held, and reports that tell so
  pub record IsKept (effect : EventEffect PublicState Message State Exchange) : Type 0 where
    pub good : Good effect.view.exchange
    pub held : Held effect.view.state
    pub told : AllByRecursion (λ output. Tells output.report) effect.outputs

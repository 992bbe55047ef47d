-- What a client keeps of its state, whatever comes.
use Rattle.std.specs.Prelude.{◌≡◌, ℕ, Bool, true, List, Some, None}
use Rattle.dhcp_history.specs.Protocol.{Protocol}

module _ {PublicState Packet Message State Exchange Answer Lease : Type 0}
    (p : Protocol PublicState Packet Message State Exchange Answer Lease) where
  -- a test of states that every change of state preserves: the end of a state, an answer that was
  -- read in it, and a clean-up
  pub record Preserves (holds : State → Bool) : Type 0 where
    pub ended : (state : State) (exchange : Exchange) → holds state ≡ true →
        holds (p.after_end state exchange).state ≡ true
    pub answered : (state : State) (exchange : Exchange) (packet : Packet) (words : List ℕ)
        (answer : Answer) (now : ℕ) → holds state ≡ true →
        (p.reading state exchange packet words).value ≡ Some answer →
        holds (p.after_answer state answer now exchange).state ≡ true
    pub cleaned : (exchange : Exchange) → holds (p.after_clean_up exchange).state ≡ true

  -- every such test that the one state passes, the other passes
  abbrev pub Keeps : State → State → Type 0
  Keeps old new = (holds : State → Bool) → Preserves holds → holds old ≡ true → holds new ≡ true

  -- after a clean-up no lease is held
  abbrev pub DropsLease : Type 0
  DropsLease = (exchange : Exchange) → p.held_lease (p.after_clean_up exchange).state ≡ None

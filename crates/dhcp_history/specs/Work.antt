-- What the attempt and the packet of a poll leave, of a client that was polled in its state.
use Rattle.std.specs.Prelude.{◌≡◌, ◌≤◌, ℕ, None, Result, Option, Ok, OnErr, IfOk, IfSome}
use Rattle.dhcp_clock.specs.declared.link.Packet.{Packet}
use Rattle.dhcp_clock.specs.declared.link.Handed.{Handed}
use Rattle.dhcp_history.specs.declared.client.Client.{Client}
use Rattle.dhcp_history.specs.declared.client.Standing.{Standing}
use Rattle.dhcp_history.specs.declared.machine.RunError.{RunError}
use Rattle.dhcp_history.specs.Client.{view_of, view_with}
use Rattle.dhcp_history.specs.Machine.{transmit_and_receive}
use Rattle.dhcp_history.specs.Protocol.{Protocol}
use Rattle.dhcp_history.specs.Run.{HasPolled, OnTimeout, UnlessNoMemory, WhereKnown, input_of}
use Rattle.dhcp_history.specs.Seen.{Seen}

module _ {PublicState State Exchange Answer Lease : Type 0}
    (p : Protocol PublicState Packet Handed State Exchange Answer Lease) where
  -- A client that stands so once it was polled has done the rest of its poll.
  pub record HasWorked (now : ℕ) (result : Result (Option PublicState) RunError)
      (begun : Standing Exchange) (old new : Seen (Client State Exchange)) : Type 0 where
    -- where words and link are known, this is what the protocol does
    pub polled : UnlessNoMemory result (WhereKnown old.words old.shown (λ words before.
        HasPolled p (transmit_and_receive p now before.refuses (input_of before.waiting)
        (view_with old.client begun words)) result (view_of new.client) new.words before new.shown))
    pub still : result ≡ Ok None → new.client.state ≡ old.client.state
    pub reported : IfOk result (λ change. IfSome change (λ reported.
        reported ≡ p.public_state new.client.state))
    pub timeout : new.client.timeout_sec ≡ old.client.timeout_sec
    pub moment : UnlessNoMemory result (new.client.last_moment ≡ now)
    -- the time limit is not over
    pub in_time : OnTimeout result ⊥
    pub state : OnErr result (new.client.state ≡ old.client.state)
    pub later : old.faults ≤ new.faults

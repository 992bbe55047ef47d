use Rattle.std.proofs.Common.{◌≡◌, []}
use Rattle.uses.specs.Manager.{Follows, linked}
use Rattle.uses.proofs.manager.turn.Given as goal

-- each poll so far reported a state that the interface followed, and the table and what may answer
-- are as they were
abbrev pub invariant-loop : goal.invariant-loop
invariant-loop g l = record {
  polls :
      Follows (g.C.ManagedClient.protocol l.fn.client) g.W.Words.gives g.L.DhcpLink.moves
      g.C.ManagedClient.public_state g.I.Follow.follows l.now [] l.counter
      (linked (g.C.ManagedClient.client l.fn.client) l.fn.words l.fn.link) l.fn.interface
      (linked (g.C.ManagedClient.client l.client) l.words l.link) l.interface;
  same : g.C.ManagedClient.protocol l.client ≡ g.C.ManagedClient.protocol l.fn.client;
  answers : g.C.ManagedClient.may_answer l.client ≡ g.C.ManagedClient.may_answer l.fn.client;
}

-- The next poll of the rules, of the client that contracts see.
use Rattle.std.proofs.Common.{sym, ap, ◌∙◌}
use Rattle.std.specs.Prelude.{is_some}
use Rattle.dhcp6_info.proofs.NextPoll.{none_in}
use Rattle.dhcp6_info.proofs.client.DhcpV6InfoClient.next_poll.Goals as goal

pub returns : goal.returns
returns c = rw (← c.self.view_is) (record {
  next = c.next_poll.ensures;
  none = λ h. none_in c.self.inside.rules.config c.self.inside.client.standing.phase c.self.inside.client c.self.invariant (sym (ap is_some c.next_poll.ensures.moment) ∙ h);
})

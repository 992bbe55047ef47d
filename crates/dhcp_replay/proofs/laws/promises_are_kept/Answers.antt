-- By the laws of the client, event by event and stay by stay.
use Rattle.std.proofs.Common.{refl}
use Rattle.dhcp_history.proofs.Messages.{history_sends}
use Rattle.dhcp_history.specs.Machine.{first_view}
use Rattle.dhcp4_client.specs.Rules.{protocol}
use Rattle.dhcp_replay.specs.Life.{numbered}
use Rattle.dhcp_replay.specs.Replayed4.{life_of}
use Rattle.dhcp_replay.proofs.Basis4Lemmas.{names_its_basis}
use Rattle.dhcp_replay.proofs.SettlesLemmas.{settles_at_each}
use Rattle.dhcp_replay.proofs.laws.promises_are_kept.Goals as goal

pub returns : goal.returns
returns c = λ lease words events. record {
  requests_get_rarer = c.requests_get_rarer.ensures lease (life_of c.args.client.now.config lease words events) refl;
  messages_far_apart = c.messages_are_far_apart.ensures (life_of c.args.client.now.config lease words events);
  four_requests = c.four_requests_of_a_lease.ensures (life_of c.args.client.now.config lease words events);
  four_offer_requests = λ forms. c.four_requests_of_an_offer.ensures forms (life_of c.args.client.now.config lease words events);
  two_messages = history_sends (protocol c.args.client.now.config) (c.table_is_lawful.ensures c.args.client.now.config) (life_of c.args.client.now.config lease words events);
  names_its_basis = names_its_basis c.args.client.now.config lease words events;
  by_point = c.history_by_point.ensures (life_of c.args.client.now.config lease words events);
  settles = settles_at_each (protocol c.args.client.now.config) c.polls_keep_laws.ensures.seven_polls_an_event.polls c.polls_keep_laws.ensures.seven_polls_an_event.changes c.polls_keep_laws.ensures.two_messages_an_event c.polls_keep_laws.ensures.no_state_is_overdue (first_view (life_of c.args.client.now.config lease words events)) (numbered 1 events);
}

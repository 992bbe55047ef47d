-- By the laws of the client, event by event and stay by stay.
use Rattle.std.proofs.Common.{refl}
use Rattle.dhcp_history.proofs.Messages.{history_sends}
use Rattle.dhcp_history.specs.Machine.{first_view}
use Rattle.dhcp_replay.specs.Life.{numbered}
use Rattle.dhcp_replay.proofs.SettlesLemmas.{settles_at_each}
use Rattle.dhcp6_info.specs.Rules.{protocol}
use Rattle.dhcp6_info_play.specs.Replayed.{life_of}
use Rattle.dhcp6_info_play.proofs.laws.promises_are_kept.Goals as goal

pub returns : goal.returns
returns c = λ given words events.
    let polls = c.polls_keep_laws.ensures in
    record {
      messages_far_apart = c.messages_are_far_apart.ensures (life_of given words events) refl;
      two_messages = history_sends (protocol c.args.client.now.config) (c.table_is_lawful.ensures c.args.client.now.config) (life_of given words events);
      settles = settles_at_each (protocol c.args.client.now.config) polls.seven_polls_an_event.polls polls.seven_polls_an_event.changes polls.two_messages_an_event polls.no_state_is_overdue (first_view (life_of given words events)) (numbered 1 events);
    }

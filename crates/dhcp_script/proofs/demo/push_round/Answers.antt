use Rattle.dhcp_script.proofs.DemoLaws.{round-pushed}
use Rattle.dhcp_script.proofs.demo.push_round.Goals as goal

pub returns : goal.returns
returns c =
    rw (
      c.in_ok-push-5.ensures.items,
      c.in_ok-push-4.ensures.items,
      c.in_ok-push-3.ensures.items,
      c.in_ok-push-2.ensures.items,
      c.in_ok-push.ensures.items,
      c.event-5.ensures,
      c.event-4.ensures,
      c.event-3.ensures,
      c.event-2.ensures,
      c.event.ensures,
      c.in_ok-reply_payload.ensures,
      c.in_ok-reply_frame-2.ensures,
      c.in_ok-reply_frame.ensures,
    )
    (round-pushed c.args.events.now.items c.args.start)

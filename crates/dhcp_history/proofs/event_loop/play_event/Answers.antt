use Rattle.dhcp_history.proofs.event_loop.play_event.Goals as goal

pub returns : goal.returns
returns g c = record {
  reported = c.in_ok-run_event.ensures.reported;
  moment = c.in_ok-run_event.ensures.moment;
  armed = c.run_event.ensures.armed;
  keeps = c.run_event.ensures.keeps;
  error = tt;
}

use Rattle.std.proofs.Common.{refl}
use Rattle.dhcp_history.proofs.Events.{few_polls, few_changes, seven_are_enough}
use Rattle.dhcp_history.proofs.laws.seven_polls_an_event.Goals as goal

pub returns : goal.returns
returns g c = λ lawful.
    let p = g.R.Rules.protocol c.args.rules.now in
    record {
      polls = few_polls p lawful;
      changes = few_changes p lawful;
      enough = λ fuel event client h. seven_are_enough p lawful 7 fuel refl h event client;
    }

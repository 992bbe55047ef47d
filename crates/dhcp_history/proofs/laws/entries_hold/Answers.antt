use Rattle.std.proofs.Common.{◌≡◌, true}
use Rattle.std.proofs.lemmas.List.Elements.{All-from_recursion}
use Rattle.dhcp_history.specs.History.{history}
use Rattle.dhcp_history.proofs.Stays.{history_holds}
use Rattle.dhcp_history.proofs.laws.entries_hold.Goals as goal

pub returns : goal.returns
returns g c = λ holds law script first.
    All-from_recursion (λ stay. holds stay.setting.state stay.setting.entered ≡ true) (history (g.R.Rules.protocol c.args.rules.now) script)
    (history_holds (g.R.Rules.protocol c.args.rules.now) (λ state now. holds state now ≡ true) law.cut law.answer law.end script first)

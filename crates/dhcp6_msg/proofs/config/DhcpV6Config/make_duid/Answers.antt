-- The identifier that was made is set.
use Rattle.std.proofs.Common.{ap}
use Rattle.dhcp6_msg.specs.Config.{Config}
use Rattle.dhcp6_msg.proofs.ConfigLemmas.{made_is_set, made_is_taken}
use Rattle.dhcp6_msg.proofs.config.DhcpV6Config.make_duid.Goals as goal

pub returns : goal.returns
returns g c = record {
  set =
      made_is_set _ _ c.made_duid-made.result c.keep_duid.result _ c.args.self.now _
      (ap (λ (config : Config). config.src_mac) c.self.view_is) c.keep_duid.ensures.set c.made_duid-made.ensures.drawn;
  taken =
      made_is_taken g.W.Words.gives _ _ c.made_duid-made.result c.keep_duid.result _ c.args.self.now _
      (ap (λ (config : Config). config.src_mac) c.self.view_is) c.keep_duid.ensures.set c.made_duid-made.ensures.taken;
  sendable = c.keep_duid.ensures.sendable c.made_duid-made.ensures.sendable;
}

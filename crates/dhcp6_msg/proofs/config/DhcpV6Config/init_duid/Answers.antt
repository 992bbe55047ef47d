-- An identifier that is there stays, and else one is made.
use Rattle.std.proofs.Common.{ap, refl}
use Rattle.dhcp6_msg.specs.Config.{Config}
use Rattle.dhcp6_msg.proofs.ConfigLemmas.{false_is_not, kept_duid, kept_taken, made_for_empty, made_taken}
use Rattle.dhcp6_msg.proofs.DuidLemmas.{kept_is_duid}
use Rattle.dhcp6_msg.proofs.config.DhcpV6Config.init_duid.Goals as goal

pub returns-then-not-is_empty : goal.returns-then-not-is_empty
returns-then-not-is_empty g c = record {
  set =
      kept_duid _ c.args.self.now c.self.inside.duid
      (ap (λ (config : Config). config.duid) c.self.view_is) (λ none. false_is_not (c.if-not-is_empty.ensures.1 none));
  taken =
      kept_taken g.W.Words.gives _ c.args.self.now c.self.inside.duid
      (ap (λ (config : Config). config.duid) c.self.view_is) (λ none. false_is_not (c.if-not-is_empty.ensures.1 none));
  sendable =
      kept_is_duid c.self.inside.duid c.args.self.now.duid
      (ap (λ (config : Config). config.duid) c.self.view_is) (λ none. false_is_not (c.if-not-is_empty.ensures.1 none));
}

pub returns : goal.returns
returns g c = record {
  set =
      made_for_empty _ _ c.make_duid.result c.args.self.now _ c.self.inside.duid
      (ap (λ (config : Config). config.duid) c.self.view_is) (c.if-not-is_empty.ensures.0 refl) c.make_duid.ensures.set;
  taken =
      made_taken g.W.Words.gives _ _ c.make_duid.result c.args.self.now _ c.self.inside.duid
      (ap (λ (config : Config). config.duid) c.self.view_is) (c.if-not-is_empty.ensures.0 refl) c.make_duid.ensures.taken;
  sendable = λ _. c.make_duid.ensures.sendable;
}

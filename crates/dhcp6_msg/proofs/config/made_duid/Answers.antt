-- Either identifier can be sent.
use Rattle.dhcp6_msg.specs.Config.{ethernet_duid}
use Rattle.dhcp6_msg.proofs.DuidLemmas.{drawn_is_duid, is_duid-ethernet_duid, made_is_duid}
use Rattle.dhcp6_msg.proofs.config.made_duid.Goals as goal

pub returns-in-Some-clause-sendable : goal.returns-in-Some-clause-sendable
returns-in-Some-clause-sendable g c =
    made_is_duid c.ethernet_duid.result (ethernet_duid c.in-Some.mac) (is_duid-ethernet_duid c.in-Some.mac c.has_six_bytes.ensures) c.ethernet_duid.ensures

pub returns-in-None-clause-sendable : goal.returns-in-None-clause-sendable
returns-in-None-clause-sendable g c = drawn_is_duid _ _ c.random.result c.random.ensures.drawn

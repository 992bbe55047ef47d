-- One step of the way back. That the addresses are whole is what their type says.
use Rattle.std.proofs.Common.{rules}
use Rattle.std.specs.Net.Addr.{IsIpv6Addr}
use Rattle.dhcp6_relay.proofs.StepLemmas.{reply-step}
use Rattle.dhcp6_relay.proofs.laws.a_reply_is_unwrapped.Goals as goal

pub returns : goal.returns
returns c =
    let link : IsIpv6Addr c.args.link = search (c, rules) in
    let peer : IsIpv6Addr c.args.peer = search (c, rules) in
    reply-step _ _ _ _ _ (record { link = link; peer = peer })

use Rattle.std.proofs.Common.{◌≡◌, ℕ, ◌<◌, ◌∙◌, nat_lt, List, Some, ap, subst, sym}
use Rattle.std.proofs.lemmas.Bool.{lt-ltb}
use Rattle.dhcp4_net.specs.declared.log.SentPacket.{SentPacket}
use Rattle.dhcp_history.specs.declared.script.Input.{Input}
use Rattle.dhcp_clock.specs.declared.link.Packet.{Packet}
use Rattle.dhcp4_server.specs.Answer.{answer_to}
use Rattle.dhcp4_net.specs.Net.{Log, after_client, input_of}
use Rattle.dhcp4_net.proofs.RunningLemmas.{client_stepped}
use Rattle.dhcp4_net.proofs.running.RunningNet.client_event.Goals as goal

-- src/running.rt:122:5
pub returns-in_ok-play-in-Some-clause-steps : goal.returns-in_ok-play-in-Some-clause-steps
returns-in_ok-play-in-Some-clause-steps c = λ config configs count net stands le.
    let length_is : c.args.self.now.peers.len ≡ count = c.args.self.now.peers.ok.0 ∙ stands.count_is in
    let inside : c.args.client < count = subst (λ (bound : ℕ). c.args.client < bound) (c.len.ensures ∙ length_is) c.if-client-len.false in
    let sent_is : c.sent.result.now ≡ net.sent = c.sent.ensures ∙ ap (λ (log : Log). log.sent) stands.log in
    let input_is : input_of config.bound_ms net.sent c.args.at.moment c.args.act ≡ Some c.in-Some.input =
    ap (λ (bound : ℕ). input_of bound net.sent c.args.at.moment c.args.act) (sym stands.bound_is)
    ∙ ap (λ (sent : List SentPacket). input_of c.args.self.now.bound_ms sent c.args.at.moment c.args.act) (sym sent_is)
    ∙ sym c.in_ok-input_of.ensures ∙ c.in-Some.is in
    client_stepped config configs count c.play.new.self (nat_lt c.args.client count)
    (input_of config.bound_ms net.sent c.args.at.moment c.args.act) c.in-Some.input
    (λ (input : Input Packet). after_client (answer_to config) configs config.bound_ms count net c.args.at.event c.args.at.moment c.args.client c.args.refuse input)
    (lt-ltb c.args.client count inside) input_is
    (c.in_ok-play-in-Some.ensures.played config configs count net stands le)

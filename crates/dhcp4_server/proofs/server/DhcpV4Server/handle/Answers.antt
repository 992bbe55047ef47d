-- What has no message is not answered.
use Rattle.std.proofs.Common.{subst, sym, ◌∙◌, Option}
use Rattle.dhcp4_msg.specs.declared.message.DhcpV4Message.{DhcpV4Message}
use Rattle.dhcp4_server.specs.Answer.{answer_message}
use Rattle.dhcp4_server.specs.Server.{AnswersBy}
use Rattle.dhcp4_server.specs.declared.server.ServerAnswer.TheVariants.{Silent}
use Rattle.dhcp4_server.proofs.ServerLemmas.{silence_answers}
use Rattle.dhcp4_server.proofs.server.DhcpV4Server.handle.Goals as goal

pub returns-in-None-clause-answered : goal.returns-in-None-clause-answered
returns-in-None-clause-answered c =
    subst (λ (message : Option DhcpV4Message). AnswersBy (λ acks. answer_message c.args.self.now.config acks c.args.now c.args.packet.now.kind message) c.args.now Silent c.args.self.now c.args.self.now)
    (sym c.in-None.is ∙ c.in_ok-message_of.ensures) (silence_answers c.args.self.now c.args.now)

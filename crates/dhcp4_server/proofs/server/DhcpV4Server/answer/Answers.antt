-- What asks for nothing is not answered.
use Rattle.std.proofs.Common.{◌≡◌, subst, Option, None}
use Rattle.dhcp4_server.specs.Answer.{answer_query}
use Rattle.dhcp4_server.specs.Request.{query_of}
use Rattle.dhcp4_server.specs.Server.{AnswersBy, Server}
use Rattle.dhcp4_server.specs.declared.decision.Query.{Query}
use Rattle.dhcp4_server.specs.declared.server.ServerAnswer.TheVariants.{Silent}
use Rattle.dhcp4_server.proofs.ServerLemmas.{silence_answers}
use Rattle.dhcp4_server.proofs.server.DhcpV4Server.answer.Goals as goal

pub returns-in-None-clause-answered : goal.returns-in-None-clause-answered
returns-in-None-clause-answered c =
    let none : None ≡ query_of c.args.self.now.config c.args.message.now = subst (λ (server : Server). None ≡ query_of server.config c.args.message.now) c.self.view_is c.in-None.ensures in
    subst (λ (query : Option Query). AnswersBy (λ acks. answer_query c.args.self.now.config acks c.args.now c.args.kind c.args.message.now query) c.args.now Silent c.args.self.now c.args.self.now)
    none (silence_answers c.args.self.now c.args.now)

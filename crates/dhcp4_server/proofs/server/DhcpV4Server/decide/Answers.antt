-- The table decides as the Acks do.
use Rattle.std.proofs.Common.{◌≡◌, ℕ, subst, sym}
use Rattle.std.specs.Prelude.{Some, option_map}
use Rattle.dhcp4_server.specs.Answer.{answer_query}
use Rattle.dhcp4_server.specs.Decision.{BindsBy}
use Rattle.dhcp4_server.specs.Reply.{packet_of, reply_by}
use Rattle.dhcp4_server.specs.Server.{AnswersBy, Server, packet_in}
use Rattle.dhcp4_server.specs.Table.{bound}
use Rattle.dhcp4_server.proofs.ServerLemmas.{table_answers}
use Rattle.dhcp4_server.proofs.server.DhcpV4Server.decide.Goals as goal

pub returns-clause-answered : goal.returns-clause-answered
returns-clause-answered c =
    let replies : packet_in c.in_ok-answer.answer ≡ option_map (packet_of c.self.inside.config c.args.kind) (reply_by c.self.inside.config c.args.message.now c.decide-decision.result) =
    subst (λ (server : Server). packet_in c.in_ok-answer.answer ≡ option_map (packet_of server.config c.args.kind) (reply_by server.config c.args.message.now c.decide-decision.result)) (sym c.self.view_is) c.in_ok-answer.ensures in
    subst (λ (server : Server). AnswersBy (λ acks. answer_query server.config acks c.args.now c.args.kind c.args.message.now (Some c.args.query)) c.args.now c.in_ok-answer.answer server
    (record { config = c.self.inside.config; places = c.note.new.self.places })) c.self.view_is
    (table_answers c.self.inside.config c.self.inside.table c.note.new.self c.args.now c.args.kind c.args.message.now c.args.query c.decide-decision.result c.in_ok-answer.answer
    c.self.invariant.1 c.self.invariant.2 c.note.ensures.first c.decide-decision.ensures.decided replies
    (subst (λ (end : ℕ). BindsBy c.args.message.now.xid end c.decide-decision.result (bound c.self.inside.table) (bound c.note.new.self)) c.kept_until-end.ensures c.in_ok-note.ensures.bound))

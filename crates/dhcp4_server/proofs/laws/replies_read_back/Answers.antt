-- By what was decided.
use Rattle.std.proofs.Common.{◌≡◌, ◌≤◌, length, Some}
use Rattle.std.specs.Prelude.{IfSome}
use Rattle.dhcp4_msg.specs.Laws.{read_back}
use Rattle.dhcp4_msg.specs.Message.{read_message, written_message}
use Rattle.dhcp4_msg.specs.declared.message.DhcpV4Message.{DhcpV4Message}
use Rattle.dhcp4_msg.specs.declared.message_type.DhcpV4MessageType.TheVariants as types
use Rattle.dhcp4_server.specs.Config.{IsTyped}
use Rattle.dhcp4_server.specs.Reply.{IsFramed, granting, refusing, reply_by, reply_frame}
use Rattle.dhcp4_server.specs.Request.{CanBeAnswered}
use Rattle.dhcp4_server.specs.declared.config.ServerConfig.{ServerConfig}
use Rattle.dhcp4_server.specs.declared.decision.Decision.{Decision}
use Rattle.dhcp4_server.specs.declared.decision.Decision.TheVariants as decisions
use Rattle.dhcp4_server.proofs.ReplyLemmas.{frame_back, granting_back, granting_short, refusing_back, refusing_short}
use Rattle.dhcp4_server.proofs.laws.replies_read_back.Goals as goal

module _ (config : ServerConfig) (typed : IsTyped config) (message : DhcpV4Message) (can : CanBeAnswered message) where
  back : (decision : Decision) → IfSome (reply_by config message decision) (λ reply. read_message (written_message reply) ≡ Some (read_back reply))
  back decisions.Silence = tt
  back (decisions.Offer address) = granting_back config typed message types.Offer address can
  back (decisions.Grant address) = granting_back config typed message types.Ack address can
  back decisions.Refuse = refusing_back config typed message can

  short : (decision : Decision) → IfSome (reply_by config message decision) (λ reply. length (written_message reply) ≤ 300)
  short decisions.Silence = tt
  short (decisions.Offer address) = granting_short config typed message types.Offer address can
  short (decisions.Grant address) = granting_short config typed message types.Ack address can
  short decisions.Refuse = refusing_short config typed message can

  framed : (decision : Decision) → IfSome (reply_by config message decision) (λ reply. IsFramed (reply_frame config (written_message reply)))
  framed decisions.Silence = tt
  framed (decisions.Offer address) = frame_back config typed (written_message (granting config message types.Offer address)) (short (decisions.Offer address))
  framed (decisions.Grant address) = frame_back config typed (written_message (granting config message types.Ack address)) (short (decisions.Grant address))
  framed decisions.Refuse = frame_back config typed (written_message (refusing config message)) (short decisions.Refuse)

pub returns-clause-read_back : goal.returns-clause-read_back
returns-clause-read_back c = back c.args.config.now c.a_configuration_is_typed.ensures c.args.message.now c.can_be_answered.ensures c.args.decision

pub returns-clause-short : goal.returns-clause-short
returns-clause-short c = short c.args.config.now c.a_configuration_is_typed.ensures c.args.message.now c.can_be_answered.ensures c.args.decision

pub returns-clause-framed : goal.returns-clause-framed
returns-clause-framed c = framed c.args.config.now c.a_configuration_is_typed.ensures c.args.message.now c.can_be_answered.ensures c.args.decision

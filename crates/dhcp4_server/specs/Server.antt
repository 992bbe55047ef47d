-- A server as contracts see it, and the Acks that its bindings stand for.
use Rattle.std.specs.Prelude.{◌≡◌, ◌≤◌, ℕ, replicate, List, Option, Some, None}
use Rattle.std.specs.Net.Addr.{ipv4_bits}
use Rattle.dhcp_clock.specs.declared.link.Packet.{Packet}
use Rattle.dhcp4_server.specs.Ack.{Ack}
use Rattle.dhcp4_server.specs.Answer.{Answer}
use Rattle.dhcp4_server.specs.Binding.{Stands, bound_in}
use Rattle.dhcp4_server.specs.Config.{kept_ms}
use Rattle.dhcp4_server.specs.declared.binding.Binding.{Binding}
use Rattle.dhcp4_server.specs.declared.config.ServerConfig.{ServerConfig}
use Rattle.dhcp4_server.specs.declared.server.ServerAnswer.{ServerAnswer}
use Rattle.dhcp4_server.specs.declared.server.ServerAnswer.TheVariants.{Silent, Reply}

-- a server: its configuration, and the binding of each address of its pool, in their order
pub record Server : Type 0 where
  pub config : ServerConfig
  pub places : List (Option Binding)

-- a server that has granted nothing yet
abbrev pub begun : ServerConfig → Server
begun config = record { config = config; places = replicate config.count None }

-- its bindings by their addresses
abbrev pub bindings_of : Server → ℕ → Option Binding
bindings_of server = bound_in (ipv4_bits server.config.first) server.places

-- it stands for these Acks, none of them after the latest moment
abbrev pub StandsFor : Server → ℕ → List Ack → Type 0
StandsFor server latest acks = Stands (kept_ms server.config) latest (bindings_of server) acks

-- the packet of an answer
abbrev pub packet_in : ServerAnswer → Option Packet
packet_in Silent = None
packet_in (Reply packet) = Some packet

-- the answer is this one, and the server stands for its Acks
pub record IsAnswered (now : ℕ) (result : ServerAnswer) (after : Server) (answer : Answer) :
    Type 0 where
  pub reply : packet_in result ≡ answer.reply
  pub acks : StandsFor after now answer.acks

-- For each list of Acks that the server stands for, the answer is the one that is given by these
-- Acks, and the server then stands for the Acks of that answer.
abbrev pub AnswersBy : (List Ack → Answer) → ℕ → ServerAnswer → Server → Server → Type 0
AnswersBy answer now result before after =
    (latest : ℕ) (acks : List Ack) → StandsFor before latest acks → latest ≤ now →
    IsAnswered now result after (answer acks)

-- Holds of addresses, and the Acks on which they rest.
use Rattle.std.specs.Prelude.{◌≡◌, ℕ, ◌+◌, ◌≤◌, ◌<◌, List, Option, Some, None}
use Rattle.dhcp4_server.specs.Ack.{Ack, IsAmong}

-- what an Ack grants: an address to the client with a transaction id
pub record Grant : Type 0 where
  pub xid : ℕ
  pub address : ℕ

-- a packet that was sent: when, and what it grants if it is delivered
pub record Sent : Type 0 where
  pub moment : ℕ
  pub grant : Option Grant

-- an address that the client with this transaction id holds, from a moment on up to another
pub record Hold : Type 0 where
  pub xid : ℕ
  pub address : ℕ
  pub from : ℕ
  pub until : ℕ

-- whether a hold has begun at a moment and is not over
pub record Covers (moment : ℕ) (hold : Hold) : Type 0 where
  pub begun : hold.from ≤ moment
  pub lasts : moment < hold.until

-- a packet that was sent at a moment with such a grant, or with none
abbrev pub RestsOn : List Ack → ℕ → Option Grant → Type 0
RestsOn acks moment None = Unit {0}
RestsOn acks moment (Some grant) =
    IsAmong (record { moment = moment; xid = grant.xid; address = grant.address }) acks

-- a packet that was sent by now, whose grant is that of an Ack which was sent with it
pub record IsBacked (acks : List Ack) (now : ℕ) (packet : Sent) : Type 0 where
  pub past : packet.moment ≤ now
  pub backed : RestsOn acks packet.moment packet.grant

module _ (lease bound : ℕ) where
  -- a hold that rests on an Ack to its client, which came in time
  pub record IsGranted (acks : List Ack) (hold : Hold) : Type 0 where
    pub ack : Ack
    pub among : IsAmong ack acks
    pub xid : ack.xid ≡ hold.xid
    pub address : ack.address ≡ hold.address
    pub later : ack.moment ≤ hold.from
    pub in_time : hold.from ≤ ack.moment + bound
    pub until : hold.until ≡ hold.from + lease

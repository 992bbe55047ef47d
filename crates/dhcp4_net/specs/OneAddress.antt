-- No address has two holders at one moment.
use Rattle.std.specs.Prelude.{◌≡◌, ◌⊎◌, ℕ, ◌≤◌, ◌<◌, ◌+◌, ◌*◌, true, List, ◌∷◌, Option, Some, None}
use Rattle.std.specs.List.{Contains}
use Rattle.std.specs.declared.net.Ipv4Addr.{Ipv4Addr}
use Rattle.dhcp_clock.specs.declared.link.Packet.{Packet}
use Rattle.dhcp4_server.specs.Ack.{Ack, is_free}
use Rattle.dhcp4_server.specs.Answer.{Answer as Served}
use Rattle.dhcp4_net.specs.Grants.{IsAnswerable, IsSound, grant_of}
use Rattle.dhcp4_lease.specs.Lease.{Lease}
use Rattle.dhcp4_client.specs.declared.client_state.ClientState.{ClientState}
use Rattle.dhcp4_client.specs.Held.{bound_lease}
use Rattle.dhcp4_net.specs.Net.{Net}
use Rattle.dhcp4_net.specs.declared.output.NetOutput.{NetOutput}
use Rattle.dhcp4_net.specs.declared.output.NetWhat.TheVariants.{Hold}

-- an output that reports this hold, which covers the moment
pub record Holds (moment client : ℕ) (address : Ipv4Addr) (output : NetOutput) : Type 0 where
  pub from : ℕ
  pub until : ℕ
  pub is : output.what ≡ Hold client address from until
  pub begun : from ≤ moment
  pub lasts : moment < until

-- No moment is covered by two holds of one address by different clients.
abbrev pub OneAddress : List NetOutput → Type 0
OneAddress outputs =
    (one other : NetOutput) (moment client second : ℕ) (address : Ipv4Addr) →
    Contains outputs one → Contains outputs other →
    Holds moment client address one → Holds moment second address other →
    client ≡ second

-- a client in this state holds the address at the moment: it holds a lease of it, which has begun
-- and is not over
pub record OwnsAt (moment : ℕ) (address : Ipv4Addr) (state : ClientState) : Type 0 where
  pub lease : Lease
  pub since : ℕ
  pub is : bound_lease state ≡ Some (record { lease = lease; since = since })
  pub address_is : lease.yiaddr ≡ address
  pub begun : since ≤ moment
  pub lasts : moment < since + 1000 * lease.lease_time_sec

-- No two clients hold one address at one moment, by the states in which they stand.
abbrev pub OneHolder : ℕ → Net → Type 0
OneHolder count net =
    (one other moment : ℕ) (address : Ipv4Addr) → one < count → other < count →
    OwnsAt moment address (net.clients one).state →
    OwnsAt moment address (net.clients other).state →
    one ≡ other

-- ---- what proofs say of the server; no clause cites it

-- an Ack for an address that is free for its client
pub record Grants (kept : ℕ) (acks : List Ack) (now : ℕ) (reply : Packet) (after : List Ack) :
    Type 0 where
  pub xid : ℕ
  pub address : ℕ
  pub grant : grant_of reply ≡ Some (record { xid = xid; address = address })
  pub free : is_free kept acks xid address now ≡ true
  pub noted : after ≡ record { moment = now; xid = xid; address = address } ∷ acks

-- a reply that grants nothing, and leaves the Acks
pub record Denies (acks : List Ack) (reply : Packet) (after : List Ack) : Type 0 where
  pub none : grant_of reply ≡ None
  pub unchanged : after ≡ acks

-- a server that has this reply and these Acks then, by the Acks so far: no reply leaves them, and a
-- reply is sound, and grants an address that is free or denies
abbrev pub ServesBy : ℕ → ℕ → List Ack → ℕ → Option Packet → List Ack → Type 0
ServesBy kept lease_sec acks now None after = after ≡ acks
ServesBy kept lease_sec acks now (Some reply) after =
    IsSound lease_sec reply × (Grants kept acks now reply after ⊎ Denies acks reply after)

-- A server that grants an address only where it is free, for this lease time.
abbrev pub ServesSoundly : ℕ → ℕ → (List Ack → ℕ → Packet → Served) → Type 0
ServesSoundly kept lease_sec serve =
    (acks : List Ack) (now : ℕ) (packet : Packet) → IsAnswerable packet →
    ServesBy kept lease_sec acks now (serve acks now packet).reply (serve acks now packet).acks

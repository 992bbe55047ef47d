-- What a network manager does with what its client reports.
use Rattle.std.specs.Prelude.{◌≡◌, ◌<◌, ◌⊎◌, ◌&&◌, ◌||◌, ℕ, Bool, not, is_some, List, [], ◌∷◌, ◌++◌, length, map, Option, Some, None, Result, Ok, Err, count_ones}
use Rattle.std.specs.Net.Addr.{ipv4_bits}
use Rattle.std.specs.declared.net.Ipv4Addr.{Ipv4Addr}
use Rattle.std.specs.declared.net.Ipv6Addr.{Ipv6Addr}
use Rattle.dhcp_wire.specs.Error.{ErrorParts}
use Rattle.dhcp_clock.specs.declared.link.Handed.{Handed}
use Rattle.dhcp_clock.specs.declared.link.Packet.{Packet}
use Rattle.dhcp_clock.specs.Leads.{Leads}
use Rattle.dhcp_clock.specs.Link.{Shown, Turn}
use Rattle.dhcp_history.specs.Calls.{Polls}
use Rattle.dhcp_history.specs.Errors.{run_answer}
use Rattle.dhcp_history.specs.Machine.{is_stopped, is_unpolled}
use Rattle.dhcp_history.specs.Protocol.{Protocol}
use Rattle.dhcp_history.specs.RealCalls.{Call, CallsLead}
use Rattle.dhcp_history.specs.Run.{UnlessNoMemory}
use Rattle.dhcp_history.specs.Schedule.{IsSettled}
use Rattle.dhcp_history.specs.Seen.{seen}
use Rattle.dhcp_history.specs.Traced.{Traces}
use Rattle.dhcp_history.specs.declared.client.Client.{Client}
use Rattle.dhcp_history.specs.declared.client.Standing.{Standing}
use Rattle.dhcp4_client.specs.declared.state.PlainState as plain4
use Rattle.dhcp4_client.specs.declared.state.PlainState.TheVariants as states4
use Rattle.dhcp6_client.specs.declared.state.PlainState as plain6
use Rattle.dhcp6_client.specs.declared.state.PlainState.TheVariants as states6
use Rattle.dhcp6_info.specs.declared.state.PlainInfoState.{PlainInfoState}
use Rattle.dhcp6_info.specs.declared.state.PlainInfoState.TheVariants as infos
use Rattle.uses.specs.declared.manager.interface.Interface.{Interface}

-- the IPv4 address of an interface once its client is in this state: a lease that is being renewed
-- is still held
abbrev pub address_after : plain4.PlainState → Option Ipv4Addr → Option Ipv4Addr
address_after (states4.Done lease) address = Some lease.yiaddr
address_after states4.InitReboot address = None
address_after states4.Selecting address = None
address_after states4.Renewing address = address
address_after states4.Rebinding address = address

-- how many bits of it are those of its network: those of the mask of the lease that came last
abbrev pub prefix_length_after : plain4.PlainState → ℕ → ℕ
prefix_length_after (states4.Done lease) length = count_ones (ipv4_bits lease.subnet_mask)
prefix_length_after states4.InitReboot length = length
prefix_length_after states4.Selecting length = length
prefix_length_after states4.Renewing length = length
prefix_length_after states4.Rebinding length = length

-- and its IPv6 address
abbrev pub address_after6 : plain6.PlainState → Option Ipv6Addr → Option Ipv6Addr
address_after6 (states6.Done lease) address = Some lease.address
address_after6 states6.Solicit address = None
address_after6 states6.Request address = None
address_after6 states6.Renew address = address
address_after6 states6.Rebind address = address

-- the interface once its client of IPv4 is in this state
abbrev pub interface_after : plain4.PlainState → Interface → Interface
interface_after state interface = record interface {
  address = address_after state interface.address;
  prefix_length = prefix_length_after state interface.prefix_length;
}

-- and once its client of IPv6 is
abbrev pub interface_after6 : plain6.PlainState → Interface → Interface
interface_after6 state interface =
    record interface { address6 = address_after6 state interface.address6 }

-- the first of these addresses, if there is one
abbrev pub first_of : Option (List Ipv6Addr) → Option Ipv6Addr
first_of None = None
first_of (Some []) = None
first_of (Some (address ∷ addresses)) = Some address

-- and once its client for configuration alone is: while that asks anew, what it was told stays
abbrev pub interface_told : PlainInfoState → Interface → Interface
interface_told (infos.Done info) interface =
    record interface { name_server = first_of info.dns_srvs }
interface_told infos.Inform interface = interface

-- a client of some rules, with its source of words and its link
pub record Linked (State Exchange Source Link : Type 0) : Type 0 where
  pub client : Client State Exchange
  pub words : Source
  pub link : Link

abbrev pub linked : {State Exchange Source Link : Type 0} → Client State Exchange → Source →
    Link → Linked State Exchange Source Link
linked client words link = record { client = client; words = words; link = link }

-- whether a client that was polled in its state has a next attempt there
abbrev pub has_attempt_ahead : {Exchange : Type 0} → Standing Exchange → Bool
has_attempt_ahead standing = not (is_unpolled standing.phase) && is_some standing.deadline

-- Whether a client does nothing any more without a packet: it keeps an error, or its state lasts
-- for ever and no attempt lies ahead in it. Of a client whose states all end, that is whether it
-- keeps an error.
abbrev pub rests_for_ever : {State Exchange : Type 0} → (State → Bool) → Client State Exchange →
    Bool
rests_for_ever lasts_for_ever client =
    (lasts_for_ever client.state && not (has_attempt_ahead client.standing))
    || is_stopped client.standing.phase

-- the calls at a moment that return these changes, one after the other
abbrev pub calls_at : {PublicState : Type 0} → ℕ → List (Option PublicState) →
    List (Call PublicState)
calls_at now [] = []
calls_at now (change ∷ changes) =
    record { moment = now; answer = Ok change } ∷ calls_at now changes

-- A manager's polls, over every link and every source of words.
module _ {PublicState State Exchange Answer Lease Source Link : Type 0}
    (p : Protocol PublicState Packet Handed State Exchange Answer Lease)
    (gives : ℕ → Source → Source → Type 0) (moves : Turn → Link → Link → Type 0)
    {Reported : Type 0} (view : Reported → PublicState) where
  -- One poll: what the clause of a client's `run` says. First what holds where the words are known
  -- that are left and what the link exposes, and what holds of every source and every link; then by
  -- which words of its source, and by which turns of its link, it is the poll of the protocol.
  pub record Polled (may_answer : State → Exchange → Packet → Bool)
      (left : Source → Option (List ℕ)) (shown : Link → Option Shown) (faults : Link → ℕ)
      (now : ℕ) (result : Result (Option Reported) ErrorParts)
      (old new : Linked State Exchange Source Link) : Type 0 where
    pub polls : Polls p may_answer now (run_answer view result)
        (seen old.client (left old.words) (shown old.link) (faults old.link))
        (seen new.client (left new.words) (shown new.link) (faults new.link))
    -- without a change nothing is due
    pub settled : result ≡ Ok None → IsSettled p now new.client
    pub traced : UnlessNoMemory (run_answer view result) (Traces p gives moves now
        (run_answer view result) old.client new.client old.words new.words old.link new.link)

  module _ {Interface : Type 0} (follows : Reported → Interface → Interface → Type 0) (now : ℕ)
    where
      -- So many polls at a moment report a state each, which the interface follows, and further
      -- ones return these changes: all of them, in this order, are polls that follow one another.
      pub record Follows (further : List (Option PublicState)) (count : ℕ)
          (old : Linked State Exchange Source Link) (before : Interface)
          (new : Linked State Exchange Source Link) (after : Interface) : Type 0 where
        pub states : List Reported
        pub counted : length states ≡ count
        pub followed : Leads follows before states after
        pub ran : CallsLead p gives moves
            (calls_at now (map (λ state. Some (view state)) states ++ further))
            old.client old.words old.link new.client new.words new.link

      -- at most six polls that report a state, and a last one with this answer
      pub record FailsWith (polled : Result (Option Reported) ErrorParts →
          Linked State Exchange Source Link → Linked State Exchange Source Link → Type 0)
          (error : ErrorParts) (old : Linked State Exchange Source Link) (before : Interface)
          (new : Linked State Exchange Source Link) (after : Interface) : Type 0 where
        pub count : ℕ
        pub few : count < 7
        pub between : Linked State Exchange Source Link
        pub reported : Follows [] count old before between after
        pub last : polled (Err error) between new

      -- A turn that returns a moment polls until no change is reported, or seven times; one that
      -- fails has the error of its last poll.
      unfoldable pub HasTurned : {Moment : Type 0} →
          (Result (Option Reported) ErrorParts → Linked State Exchange Source Link →
          Linked State Exchange Source Link → Type 0) → Result Moment ErrorParts →
          Linked State Exchange Source Link → Interface → Linked State Exchange Source Link →
          Interface → Type 0
      HasTurned polled (Ok moment) old before new after =
          ((count : ℕ) × ((count < 7) × Follows (None ∷ []) count old before new after))
          ⊎ Follows [] 7 old before new after
      HasTurned polled (Err error) old before new after =
          FailsWith polled error old before new after

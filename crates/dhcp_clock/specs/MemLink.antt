-- A link in memory.
use Rattle.std.specs.Prelude.{◌≡◌, ℕ, ◌+◌, ◌-◌, ◌^◌, Bool, false, [], drop, Option, Some, None, nat_lt, if◌then◌else◌}
use Rattle.dhcp_clock.specs.declared.link.Packet.{Packet}
use Rattle.dhcp_clock.specs.declared.link.Handed.{Handed}
use Rattle.dhcp_clock.specs.declared.link.Sent.{Sent}
use Rattle.dhcp_clock.specs.declared.link.Sent.TheVariants.{Taken, Refused, NoMemory}
use Rattle.dhcp_clock.specs.declared.mem_link.MemLink.TheInside.{Inside}
use Rattle.dhcp_clock.specs.Link.{MemoryParts, Sends, Turn, Hands, Gives}

-- what it shows, and its count
abbrev pub parts_of : Inside → MemoryParts
parts_of link = record {
  shown = record { refuses = link.refuses; waiting = link.waiting; handed = link.handed.items };
  faults = link.faults;
}

-- a new one: it takes what it is handed
abbrev pub empty : MemoryParts
empty = record { shown = record { refuses = false; waiting = None; handed = [] }; faults = 0 }

-- with this packet that waits
abbrev pub with_waiting : Option Packet → MemoryParts → MemoryParts
with_waiting packet link = record link { shown = record link.shown { waiting = packet } }

-- refusing from now on, or taking
abbrev pub refusing : Bool → MemoryParts → MemoryParts
refusing refuses link = record link { shown = record link.shown { refuses = refuses } }

-- without the oldest message of the list
abbrev pub without_oldest : MemoryParts → MemoryParts
without_oldest link =
    record link { shown = record link.shown { handed = drop 1 link.shown.handed } }

-- one more, as far as a u64 counts
abbrev pub one_more : ℕ → ℕ
one_more faults = if nat_lt faults (2 ^ 64 - 1) then faults + 1 else faults

-- the count after this answer: it rises at a refusal alone
abbrev pub counted : Sent → ℕ → ℕ
counted Taken faults = faults
counted Refused faults = one_more faults
counted NoMemory faults = faults

-- The message is sent, with this answer, and the count goes on.
pub record ListsMessage (message : Handed) (answer : Sent) (before after : MemoryParts)
    : Type 0 where
  pub sends : Sends message answer before.shown (Some after.shown)
  pub counts : after.faults ≡ counted answer before.faults

-- The link does this turn: it lists the message that it is handed, or gives the packet that waits.
abbrev pub Does : Turn → MemoryParts → MemoryParts → Type 0
Does (Hands message answer) before after = ListsMessage message answer before after
Does (Gives packet) before after =
    (packet ≡ before.shown.waiting) × (after ≡ with_waiting None before)

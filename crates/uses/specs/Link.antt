-- A link of one's own.
use Rattle.std.specs.Prelude.{◌≡◌, [], ◌∷◌, ◌++◌}
use Rattle.dhcp_clock.specs.declared.link.Handed.{Handed}
use Rattle.dhcp_clock.specs.declared.link.Sent.{Sent}
use Rattle.dhcp_clock.specs.declared.link.Sent.TheVariants.{Taken, Refused, NoMemory}
use Rattle.uses.specs.declared.link.QueueLink.{QueueLink}

-- A message that was taken is the last of those that wait to be sent. None is refused. Out of
-- memory changes nothing, and the packet that waits stays.
abbrev pub Queues : Handed → Sent → QueueLink → QueueLink → Type 0
Queues message Taken old new =
    (new.to_send.items ≡ old.to_send.items ++ message ∷ []) × (new.received ≡ old.received)
Queues message Refused old new = ⊥
Queues message NoMemory old new =
    (new.to_send.items ≡ old.to_send.items) × (new.received ≡ old.received)

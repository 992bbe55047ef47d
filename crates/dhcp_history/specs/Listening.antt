-- When a client asks its link for a packet.
use Rattle.std.specs.Prelude.{ℕ, Bool, not, ◌&&◌, ◌||◌, if◌then◌else◌}
use Rattle.dhcp_history.specs.Protocol.{Protocol, has_come}
use Rattle.dhcp_history.specs.Machine.{View, has_ended, has_open_attempt, is_stopped, is_unpolled, limit_is_over}

module _ {PublicState Packet Message State Exchange Answer Lease : Type 0}
    (p : Protocol PublicState Packet Message State Exchange Answer Lease) where
  -- Whether a packet may be asked for at a moment: the client has not stopped and does not stop
  -- then, its state does not end, and an attempt is open, or due and made then. In the first poll
  -- of a state its pause decides whether an attempt is due.
  abbrev pub is_listening : ℕ → View State Exchange → Bool
  is_listening now view =
      not (is_stopped view.phase || (limit_is_over p now view || has_ended p now view)) &&
      (if is_unpolled view.phase then p.has_attempts view.state
      else (has_come now view.deadline || has_open_attempt view.phase))

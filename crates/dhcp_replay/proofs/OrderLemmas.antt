-- The events of a valid script rise.
use Rattle.std.proofs.Common.{◌≡◌, ℕ, suc, List, [], ◌∷◌, length, Bool, true, false, refl, arith}
use Rattle.std.specs.Prelude.{◌&&◌, nat_le, nat_lt}
use Rattle.std.specs.List.{list_all}
use Rattle.std.proofs.lemmas.Bool.{leb-true}
use Rattle.dhcp_history.specs.Points.{Rises}
use Rattle.dhcp_script.specs.Event.{are_in_order, are_valid, is_within_limits, moment_limit, most_events}
use Rattle.dhcp_script.specs.declared.event.Event.{Event}
use Rattle.dhcp_replay.specs.Life.{numbered}

both : (a b : Bool) → (a && b) ≡ true → (a ≡ true) × (b ≡ true)
both true true is = (refl, refl)
both true false is = absurd cc
both false b is = absurd cc

ordered_rise : (number start : ℕ) (events : List Event) → are_in_order start events ≡ true → Rises number start (numbered (suc number) events)
ordered_rise number start [] is = tt
ordered_rise number start (event ∷ events) is =
    let parts : (nat_le start event.moment ≡ true) × (are_in_order event.moment events ≡ true) = both (nat_le start event.moment) (are_in_order event.moment events) is in
    (omega arith, leb-true start event.moment parts.0, ordered_rise (suc number) event.moment events parts.1)

from_zero : (number start : ℕ) (events : List Event) → Rises number start (numbered (suc number) events) → Rises number 0 (numbered (suc number) events)
from_zero number start [] rises = tt
from_zero number start (event ∷ events) rises = (rises.0, omega arith, rises.2)

pub valid_events_rise : (start : ℕ) (events : List Event) → are_valid start events ≡ true → Rises 0 0 (numbered 1 events)
unfolding are_valid
valid_events_rise start events is =
    from_zero 0 start events (ordered_rise 0 start events (both (nat_lt start moment_limit && nat_le (length events) most_events && list_all is_within_limits events) (are_in_order start events) is).1)

-- The blocks of a pool: 256 places each, with a moment before which none of their addresses is free
-- for every client.
use Rattle.std.specs.Prelude.{◌≡◌, ◌≤◌, ◌<◌, ℕ, ◌+◌, ◌/◌, min, length, slice_get, slice_index, List, Option, Some, None, Bool, true, false}
use Rattle.dhcp4_server.specs.Binding.{bound_at, end_of, is_over_by}
use Rattle.dhcp4_server.specs.declared.binding.Binding.{Binding}

-- the moment from which the address at a place is free for every client
abbrev pub end_at : List (Option Binding) → ℕ → ℕ
end_at places place = end_of (bound_at (slice_get places place))

-- whether it is at this moment
abbrev pub is_over_at : List (Option Binding) → ℕ → ℕ → Bool
is_over_at places now place = is_over_by (bound_at (slice_get places place)) now

-- the lowest of the numbers from one up to another, the latter not included, that passes a test
abbrev pub IsLowestIn : (ℕ → Bool) → ℕ → ℕ → Option ℕ → Type 0
IsLowestIn test from to None = (k : ℕ) → from ≤ k → k < to → test k ≡ false
IsLowestIn test from to (Some place) =
    (from ≤ place) × (place < to) × (test place ≡ true)
    × ((k : ℕ) → from ≤ k → k < place → test k ≡ false)

-- how many blocks there are of so many places, the last one perhaps shorter
abbrev pub block_count : ℕ → ℕ
block_count places = (places + 255) / 256

-- the place after the last one of the block that begins at a place, of so many places
abbrev pub end_of_block : ℕ → ℕ → ℕ
end_of_block places start = min (start + 256) places

-- There is a moment for each block, and no address of the block is free for every client before it.
pub record BoundsBlocks (earliest : List ℕ) (places : List (Option Binding)) : Type 0 where
  pub count : length earliest ≡ block_count (length places)
  pub below : (place : ℕ) → place < length places →
      slice_index earliest (place / 256) ≤ end_at places place

-- An identifier that is drawn from any source of words.
use Rattle.std.specs.Prelude.{ℕ, List}
use Rattle.dhcp_clock.specs.Words.{Drawn, DrawsBy}
use Rattle.dhcp6_opt.specs.declared.duid.DhcpV6Duid.{DhcpV6Duid}

-- Some words that the source gave, one after the other, were taken, and this is said of the
-- identifier that they give.
abbrev pub DrawsDuid : {Source : Type 0} → (ℕ → Source → Source → Type 0) →
    (List ℕ → Drawn DhcpV6Duid) → Source → Source → (DhcpV6Duid → Type 0) → Type 0
DrawsDuid gives draws old new Says =
    (duid : DhcpV6Duid) × (DrawsBy gives draws old duid new × Says duid)

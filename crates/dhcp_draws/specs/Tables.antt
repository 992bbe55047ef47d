-- How many words the clients of both families draw at most.
use Rattle.std.specs.Prelude.{ℕ}
use Rattle.dhcp_draws.specs.Draws.{Limits}

-- an IPv4 client: one word for the pause before its first Discover, one for the wait of an attempt,
-- and two for the times T1 and T2 of a lease
abbrev pub limits4 : Limits
limits4 = record { pause = 1; attempt = 1; reading = 2 }

-- an IPv6 client: one word for the pause before its first Solicit; three for an attempt, of them
-- one for its transaction id or its identity association, and two for its wait; none for a packet
abbrev pub limits6 : Limits
limits6 = record { pause = 1; attempt = 3; reading = 0 }

-- how many words the clients of both families draw at most, as they begin and at each event
abbrev pub most_words : ℕ
most_words = 8

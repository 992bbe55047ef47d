-- A pool of one address, leases of 100 seconds and a bound of one second: the second client gets nothing at 101,029 ms, and the address at 101,030.
use Rattle.std.proofs.Common.{◌≡◌, List, [], ◌∷◌, refl}
use Rattle.dhcp4_server.specs.declared.decision.Query.TheVariants.{Discover, Request}
use Rattle.dhcp4_server.specs.declared.decision.Decision.TheVariants.{Silence, Offer, Grant, Refuse}
use Rattle.dhcp4_server.specs.Ack.{Ack}
use Rattle.dhcp4_server.specs.Decision.{Pool, decide}

-- 192.0.2.10 alone
pool : Pool
pool = record { first = 0xc000020a; count = 1 }

-- it was granted to the first client at 30 ms
acks : List Ack
acks = record { moment = 30; xid = 0x12345678; address = 0xc000020a } ∷ []

offered : decide 101000 pool [] 0x12345678 10 Discover ≡ Offer 0xc000020a
unfolding pool
offered = refl

granted : decide 101000 pool [] 0x12345678 30 (Request 0xc000020a) ≡ Grant 0xc000020a
unfolding pool
granted = refl

refused : decide 101000 pool acks 0x12345679 30 (Request 0xc000020a) ≡ Refuse
unfolding pool acks
refused = refl

silent : decide 101000 pool acks 0x12345679 101029 Discover ≡ Silence
unfolding pool acks
silent = refl

offered_again : decide 101000 pool acks 0x12345679 101030 Discover ≡ Offer 0xc000020a
unfolding pool acks
offered_again = refl

own : decide 101000 pool acks 0x12345678 101029 Discover ≡ Offer 0xc000020a
unfolding pool acks
own = refl

outside : decide 101000 pool acks 0x12345678 101029 (Request 0xc000020b) ≡ Refuse
unfolding pool acks
outside = refl

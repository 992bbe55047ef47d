-- The configuration of a server: its limits, its pool, and how long it keeps an address.
use Rattle.std.specs.Prelude.{◌≡◌, ◌<◌, ℕ, ◌+◌, ◌*◌, ◌^◌, ◌==◌, nat_le, nat_lt, length, Bool, not, ◌&&◌}
use Rattle.std.specs.Net.Addr.{IsIpv4Addr, ipv4_bits}
use Rattle.dhcp4_server.specs.Decision.{Pool}
use Rattle.dhcp4_server.specs.declared.config.ServerConfig.{ServerConfig}

-- A server can have a configuration: it grants 1 to 65,536 addresses, none past 255.255.255.255,
-- its leases last, and the time that a packet may take is below 2^40 milliseconds.
abbrev pub is_lawful : ServerConfig → Bool
is_lawful config =
    not (config.count == 0) && nat_le config.count 65536
    && nat_le (ipv4_bits config.first + config.count) (2 ^ 32)
    && not (config.lease_sec == 0) && nat_lt config.bound_ms (2 ^ 40)

-- the addresses that it grants
abbrev pub pool_of : ServerConfig → Pool
pool_of config = record { first = ipv4_bits config.first; count = config.count }

-- How long it keeps an address after it has sent the Ack, in milliseconds: the lease time, which
-- the client counts from when the Ack arrives, and the longest time that the Ack may take.
abbrev pub kept_ms : ServerConfig → ℕ
kept_ms config = 1000 * config.lease_sec + config.bound_ms

-- what its types keep: an address has four bytes, a MAC address six, a lease time 32 bits
pub record IsTyped (config : ServerConfig) : Type 0 where
  pub ip : IsIpv4Addr config.ip
  pub mask : IsIpv4Addr config.mask
  pub mac : length config.mac ≡ 6
  pub lease : config.lease_sec < 2 ^ 32

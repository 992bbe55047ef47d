-- A lease, as it is read from a message: RFC 2131 sections 2 and 4.4.5, RFC 2132, RFC 3442.
use Rattle.std.specs.Prelude.{◌≡◌, ℕ, ◌+◌, ◌-◌, ◌%◌, ◌&&◌, nat_lt, nat_le, Bool, List, drop, Option, Some, None, option_map, unwrap_or, replicate, Result, ok_or, if◌then◌else◌}
use Rattle.std.specs.FinMap as map
use Rattle.std.specs.declared.net.Ipv4Addr.{Ipv4Addr}
use Rattle.dhcp_wire.specs.Error.{ErrorParts}
use Rattle.dhcp_wire.specs.Outcome.{Gives}
use Rattle.dhcp_wire.specs.declared.error.ErrorKind.TheVariants.{InvalidDhcpMessage}
use Rattle.dhcp_clock.specs.Words.{next_of, Drawn, Draws, DrawsBy}
use Rattle.dhcp4_msg.specs.declared.message.DhcpV4Message.{DhcpV4Message}
use Rattle.dhcp4_msg.specs.declared.route.DhcpV4ClasslessRoute.{DhcpV4ClasslessRoute}
use Rattle.dhcp4_lease.specs.declared.lease.times.LeaseTimes.{LeaseTimes}
use Rattle.dhcp4_msg.specs.LeaseTime.{default_rebinding_time, default_renewal_time}
use Rattle.dhcp4_msg.specs.Message.{no_address}
use Rattle.dhcp4_msg.specs.Options.{OptionMap, said_by, classless_routes}
use Rattle.dhcp4_msg.specs.Value.{address_said, addresses_said, seconds_said, size_said, text_said}

-- what contracts see of a lease; times are in seconds from its acknowledgement
pub record Lease : Type 0 where
  pub siaddr : Ipv4Addr
  pub yiaddr : Ipv4Addr
  pub t1_sec : ℕ
  pub t2_sec : ℕ
  pub lease_time_sec : ℕ
  pub srv_id : Ipv4Addr
  pub subnet_mask : Ipv4Addr
  pub broadcast_addr : Option Ipv4Addr
  pub dns_srvs : Option (List Ipv4Addr)
  pub gateways : Option (List Ipv4Addr)
  pub ntp_srvs : Option (List Ipv4Addr)
  pub mtu : Option ℕ
  pub host_name : Option (List ℕ)
  pub domain_name : Option (List ℕ)
  pub classless_routes : Option (List DhcpV4ClasslessRoute)
  pub srv_mac : List ℕ
  pub options : OptionMap

-- ---- the times, RFC 2131 section 4.4.5

-- About this time: from 20 seconds on a word moves it by 2 seconds less to 1 second more; a shorter
-- one takes no word.
abbrev pub drawn_about : ℕ → List ℕ → Drawn ℕ
drawn_about base words =
    if nat_lt base 20 then record { value = base; left = words }
    else record { value = base + next_of words % 4 - 2; left = drop 1 words }

-- the time that an option says, or else one about this long
unfoldable pub said_or_drawn : Option ℕ → ℕ → List ℕ → Drawn ℕ
said_or_drawn (Some seconds) base words = record { value = seconds; left = words }
said_or_drawn None base words = drawn_about base words

-- the times of a lease that lasts so long: T1 is option 58, and T2 option 59, or each is about its
-- default
unfoldable pub times_of : OptionMap → ℕ → List ℕ → Drawn LeaseTimes
times_of options lease_time words =
    let renewal = said_by seconds_said options 58 in
    let t1 = said_or_drawn renewal (default_renewal_time lease_time) words in
    let rebinding = said_by seconds_said options 59 in
    let t2 = said_or_drawn rebinding (default_rebinding_time lease_time) t1.left in
    record {
      value = record { t1_sec = t1.value; t2_sec = t2.value; lease_time_sec = lease_time };
      left = t2.left;
    }

-- whether a lease of these times is not rebound before it is renewed, and does not end before it is
-- rebound: T1 <= T2 <= the end
abbrev pub are_in_order : LeaseTimes → Bool
are_in_order times =
    nat_le times.t1_sec times.t2_sec && nat_le times.t2_sec times.lease_time_sec

-- the times of a message with this lease time, which option 51 says: none if there is none, or if
-- they are out of order
abbrev pub ordered_times : OptionMap → List ℕ → Option ℕ → Drawn (Option LeaseTimes)
ordered_times options words None = record { value = None; left = words }
ordered_times options words (Some lease_time) =
    let times = times_of options lease_time words in
    record {
      value = if are_in_order times.value then Some times.value else None;
      left = times.left;
    }

-- the times of a message, if it has a lease time and its times are in order
unfoldable pub read_times : OptionMap → List ℕ → Drawn (Option LeaseTimes)
read_times options words = ordered_times options words (said_by seconds_said options 51)

-- ---- the lease

-- each IP address that a lease must have 0.0.0.0, each time zero, the MAC address of the server the
-- broadcast address, and nothing else
unfoldable pub empty_lease : Lease
empty_lease = record {
  siaddr = no_address;
  yiaddr = no_address;
  t1_sec = 0;
  t2_sec = 0;
  lease_time_sec = 0;
  srv_id = no_address;
  subnet_mask = no_address;
  broadcast_addr = None;
  dns_srvs = None;
  gateways = None;
  ntp_srvs = None;
  mtu = None;
  host_name = None;
  domain_name = None;
  classless_routes = None;
  srv_mac = replicate 6 255;
  options = map.empty;
}

-- the lease of this address by this next server, with these options and these times
abbrev pub lease_with : Ipv4Addr → Ipv4Addr → OptionMap → LeaseTimes → Lease
lease_with siaddr yiaddr options times = record {
  siaddr = siaddr;
  yiaddr = yiaddr;
  t1_sec = times.t1_sec;
  t2_sec = times.t2_sec;
  lease_time_sec = times.lease_time_sec;
  srv_id = unwrap_or (said_by address_said options 54) no_address;
  subnet_mask = unwrap_or (said_by address_said options 1) no_address;
  broadcast_addr = said_by address_said options 28;
  dns_srvs = said_by addresses_said options 6;
  gateways = said_by addresses_said options 3;
  ntp_srvs = said_by addresses_said options 42;
  mtu = said_by size_said options 26;
  host_name = said_by text_said options 12;
  domain_name = said_by text_said options 15;
  classless_routes = classless_routes options;
  srv_mac = replicate 6 255;
  options = options;
}

-- the lease of a message with these times
abbrev pub lease_of : DhcpV4Message → LeaseTimes → Lease
lease_of message times = lease_with message.siaddr message.yiaddr message.options times

-- the lease that a message grants, if it grants one, and the words that it leaves
abbrev pub read_lease : DhcpV4Message → List ℕ → Drawn (Option Lease)
read_lease message words =
    let times = read_times message.options words in
    record { value = option_map (lease_of message) times.value; left = times.left }

-- The read of a lease from words that the source exposed as `before`, and exposes as `after`: the
-- lease that they give, or the refusal if they give none, or out of memory. The words are drawn in
-- each case.
abbrev pub ReadsLease :
    Option (List ℕ) → Result Lease ErrorParts → Option (List ℕ) → DhcpV4Message → Type 0
ReadsLease before result after message =
    Draws before after (read_lease message)
    (λ lease. Gives (λ lease. lease) result (ok_or lease InvalidDhcpMessage))

-- The same from any source of words, by the words that were taken.
abbrev pub ReadsLeaseBy : {Source : Type 0} → (ℕ → Source → Source → Type 0) →
    Source → Result Lease ErrorParts → Source → DhcpV4Message → Type 0
ReadsLeaseBy gives old result new message =
    (lease : Option Lease) × (DrawsBy gives (read_lease message) old lease new ×
    Gives (λ lease. lease) result (ok_or lease InvalidDhcpMessage))

-- the times of a lease
abbrev pub times_in : Lease → LeaseTimes
times_in lease = record {
  t1_sec = lease.t1_sec;
  t2_sec = lease.t2_sec;
  lease_time_sec = lease.lease_time_sec;
}

-- whether the times of a lease are in this order
abbrev pub are_times_in_order : Lease → Bool
are_times_in_order lease = are_in_order (times_in lease)

-- Every field of the lease but its times is that of the message.
abbrev pub HasFieldsOf : DhcpV4Message → Lease → Type 0
HasFieldsOf message lease = lease ≡ lease_of message (times_in lease)

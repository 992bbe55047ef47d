-- What a client hands to its link, RFC 2131 sections 4.1 and 4.3.6, tables 4 and 5: each message
-- with its carrier.
use Rattle.std.specs.Prelude.{ℕ, List, replicate, Option, Some, None, if◌then◌else◌}
use Rattle.std.specs.declared.net.Ipv4Addr.{Ipv4Addr}
use Rattle.dhcp_wire.specs.Field.{address_of}
use Rattle.dhcp_clock.specs.declared.link.Handed.{Handed}
use Rattle.dhcp_clock.specs.declared.link.Handed.TheVariants as handed
use Rattle.dhcp_frame.specs.declared.frame.Frame.{Frame}
use Rattle.dhcp_frame.specs.Write.{frame_bytes}
use Rattle.dhcp4_msg.specs.Message.{no_address, written_message}
use Rattle.dhcp4_lease.specs.declared.message_forms.DhcpV4MessageForms.{DhcpV4MessageForms}
use Rattle.dhcp4_lease.specs.declared.message_forms.DhcpV4MessageForms.TheVariants.{Mozim, Rfc2131}
use Rattle.dhcp4_lease.specs.declared.message_table.Row.{Row}
use Rattle.dhcp4_lease.specs.Config.{Config}
use Rattle.dhcp4_lease.specs.Lease.{Lease}
use Rattle.dhcp4_lease.specs.MessageTable as table
use Rattle.dhcp4_client.specs.declared.client_state.ClientState.{ClientState}
use Rattle.dhcp4_client.specs.declared.client_state.ClientState.TheVariants.{InitReboot, Selecting, Rebooting, Done, Renewing, Rebinding}

-- the bytes of the message of a row, with this transaction id
abbrev pub message_bytes : ℕ → Config → Row → List ℕ
message_bytes xid config row = written_message (table.table_message xid config row)

-- a frame from the client's port 68 to a server's port 67
abbrev pub frame : Config → List ℕ → Ipv4Addr → Ipv4Addr → List ℕ → Frame
frame config dst_mac from to payload = record {
  src_mac = config.src_mac;
  dst_mac = dst_mac;
  src_ip = from;
  dst_ip = to;
  src_port = 68;
  dst_port = 67;
  payload = payload;
}

-- the address 255.255.255.255
abbrev pub everyone : Ipv4Addr
everyone = address_of (replicate 4 255)

-- A frame from 0.0.0.0 to 255.255.255.255 and the MAC address ff:ff:ff:ff:ff:ff. The messages of
-- each state but RENEWING go this way; in REBINDING the client still has its address, and names it
-- in ciaddr. The broadcast flag (RFC 2131, section 2) is set in no state.
abbrev pub broadcast : Config → List ℕ → Handed
broadcast config payload =
    handed.Frame (frame_bytes (frame config (replicate 6 255) no_address everyone payload))

-- The server that renews a lease, to which its renewals go: by RFC 2131 section 4.4.5 the one that
-- granted it, by its identifier, if it has one; by mozim its next server, siaddr.
abbrev pub renewal_server : DhcpV4MessageForms → Lease → Option Ipv4Addr
renewal_server Mozim lease = Some lease.siaddr
renewal_server Rfc2131 lease =
    if table.is_unspecified lease.srv_id then None else Some lease.srv_id

-- a payload from the address of a lease to the server that renews it, or else to any server, in the
-- frame of REBINDING
abbrev pub renewal : Config → Lease → Option Ipv4Addr → List ℕ → Handed
renewal config lease None payload = broadcast config payload
renewal config lease (Some server) payload = handed.Udp4 lease.yiaddr server payload

-- The message of a state. That of RENEWING and REBINDING has, by mozim's form, options 50 and 54,
-- which RFC 2131 section 4.3.2 forbids there. BOUND sends nothing; it stands here as RENEWING.
abbrev pub row : DhcpV4MessageForms → ClientState → Row
row forms InitReboot = table.discover
row forms (Selecting offer) = table.request offer
row forms (Rebooting held) = table.reboot held
row forms (Done bound) = table.extend forms bound.lease
row forms (Renewing bound) = table.extend forms bound.lease
row forms (Rebinding bound) = table.extend forms bound.lease

-- the renewal of a lease by the forms of a configuration, with this payload
abbrev pub renewal_of : Config → Lease → List ℕ → Handed
renewal_of config lease payload =
    renewal config lease (renewal_server config.message_forms lease) payload

-- a payload with the carrier of a state: RENEWING alone sends it to the server of its lease
abbrev pub with_carrier : Config → ClientState → List ℕ → Handed
with_carrier config InitReboot payload = broadcast config payload
with_carrier config (Selecting offer) payload = broadcast config payload
with_carrier config (Rebooting held) payload = broadcast config payload
with_carrier config (Done bound) payload = renewal_of config bound.lease payload
with_carrier config (Renewing bound) payload = renewal_of config bound.lease payload
with_carrier config (Rebinding bound) payload = broadcast config payload

-- what is handed to the link at an attempt in a state
abbrev pub attempt_message : ℕ → Config → ClientState → Handed
attempt_message xid config state =
    with_carrier config state (message_bytes xid config (row config.message_forms state))

-- the bytes of the release of a lease
abbrev pub release_bytes : ℕ → Config → Lease → List ℕ
release_bytes xid config lease =
    message_bytes xid config (table.release config.message_forms lease)

-- The server to which the release of a lease goes: by RFC 2131 section 4.4.6 the server of that
-- lease; by mozim's form this next server.
abbrev pub release_server : DhcpV4MessageForms → Ipv4Addr → Lease → Ipv4Addr
release_server Mozim next_server lease = next_server
release_server Rfc2131 next_server lease = table.server_of lease

-- the release of a lease in a frame, from its address to its server
abbrev pub release_frame : Config → Lease → List ℕ → Frame
release_frame config lease payload =
    frame config lease.srv_mac lease.yiaddr
    (release_server config.message_forms lease.siaddr lease) payload

abbrev pub framed_release : ℕ → Config → Lease → Handed
framed_release xid config lease =
    handed.Frame (frame_bytes (release_frame config lease (release_bytes xid config lease)))

-- the release of a lease in a payload, from the address of the lease that is held; by mozim's form
-- it goes to the next server of that
abbrev pub payload_release : ℕ → Config → Lease → Lease → Handed
payload_release xid config held lease =
    handed.Udp4 held.yiaddr (release_server config.message_forms held.siaddr lease)
    (release_bytes xid config lease)

-- The release of `lease` by a client that holds the lease `held`, or none. As a proxy, whose lease
-- is for another host, or without a held lease, it goes in a frame; else as a payload from the
-- address of `held`.
abbrev pub release_message : ℕ → Config → Option Lease → Lease → Handed
release_message xid config None lease = framed_release xid config lease
release_message xid config (Some held) lease =
    if config.is_proxy then framed_release xid config lease
    else payload_release xid config held lease

-- the release of the lease that is held
abbrev pub held_release : ℕ → Config → Lease → Handed
held_release xid config lease = release_message xid config (Some lease) lease

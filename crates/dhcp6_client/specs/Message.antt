-- What a client hands to its link, RFC 8415 sections 7.1, 7.2 and 18.2: each message goes to all
-- servers and relays of the link.
use Rattle.std.specs.Prelude.{ℕ, List}
use Rattle.dhcp_clock.specs.declared.link.Handed.{Handed}
use Rattle.dhcp_clock.specs.declared.link.Handed.TheVariants as handed
use Rattle.dhcp6_msg.specs.Config.{Config}
use Rattle.dhcp6_msg.specs.Lease.{Lease}
use Rattle.dhcp6_msg.specs.Message.{written_message}
use Rattle.dhcp6_msg.specs.MessageTable as table
use Rattle.dhcp6_msg.specs.MessageTable.{RowParts}
use Rattle.dhcp6_client.specs.declared.client_state.ClientState.{ClientState}
use Rattle.dhcp6_client.specs.declared.client_state.ClientState.TheVariants.{Solicit, Request, Done, Temporary, Renew, Rebind}

-- the bytes of the message of a row, with this transaction id
abbrev pub message_bytes : ℕ → Config → RowParts → List ℕ
message_bytes xid config row = written_message (table.table_message xid config row)

-- a payload from the client's address on its interface
abbrev pub sent_from : Config → List ℕ → Handed
sent_from config payload = handed.Udp6 config.src_ip config.iface_index payload

-- the message of a state, for a client that has tried for so many milliseconds; a Solicit has this
-- identifier of its association. A client that holds its lease sends nothing; it stands here as one
-- that renews it.
abbrev pub row : Config → ℕ → ℕ → ClientState → RowParts
row config elapsed_ms iaid Solicit = table.solicit config.mode iaid elapsed_ms
row config elapsed_ms iaid (Request offer) = table.request offer elapsed_ms
row config elapsed_ms iaid (Done bound) = table.renew bound.lease elapsed_ms
row config elapsed_ms iaid (Temporary bound) = table.renew bound.lease elapsed_ms
row config elapsed_ms iaid (Renew bound) = table.renew bound.lease elapsed_ms
row config elapsed_ms iaid (Rebind bound) = table.rebind bound.lease elapsed_ms

-- what is handed to the link at an attempt in a state
abbrev pub attempt_message : ℕ → Config → ℕ → ℕ → ClientState → Handed
attempt_message xid config elapsed_ms iaid state =
    sent_from config (message_bytes xid config (row config elapsed_ms iaid state))

-- the release of a lease
abbrev pub release_message : ℕ → Config → Lease → Handed
release_message xid config lease =
    sent_from config (message_bytes xid config (table.release lease))

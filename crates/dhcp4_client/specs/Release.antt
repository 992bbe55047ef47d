-- The release of a lease by a client, RFC 2131 section 4.4.6.
use Rattle.dhcp_clock.specs.declared.link.Handed.{Handed}
use Rattle.dhcp4_lease.specs.Lease.{Lease}
use Rattle.dhcp4_client.specs.Client.{ClientParts}
use Rattle.dhcp4_client.specs.Message.{release_message}
use Rattle.dhcp4_client.specs.Rules.{held_lease}

-- what it hands to the link
abbrev pub release_by : ClientParts → Lease → Handed
release_by parts lease =
    release_message parts.client.standing.exchange.xid parts.config
    (held_lease parts.client.state) lease

-- The message of each row is short.
use Rattle.dhcp4_lease.proofs.BuiltMessages.{extend_is, no_address_is, release_is}
use Rattle.dhcp4_lease.proofs.ShortMessages.{row_is_short}
use Rattle.dhcp4_lease.proofs.laws.requests_are_short.Goals as goal

pub returns : goal.returns
returns c =
    let short = row_is_short c.args.config.now in
    let forms = c.args.config.now.message_forms in
    let within = c.requires in
    let typed = c.is_typed.ensures in
    let yiaddr = c.has_addresses.ensures.yiaddr in
    let server = c.has_addresses.ensures.server in
    record {
      request = short _ within typed (record { ciaddr = no_address_is; requested = yiaddr; server = server });
      reboot = short _ within typed (record { ciaddr = no_address_is; requested = yiaddr; server = tt });
      extend = short _ within typed (extend_is forms c.args.lease.now yiaddr server);
      release = short _ within typed (release_is forms c.args.lease.now yiaddr server);
    }

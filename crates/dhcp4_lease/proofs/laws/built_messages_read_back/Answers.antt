-- The message of each row is one that reads back.
use Rattle.dhcp4_lease.proofs.BuiltMessages.{extend_is, no_address_is, release_is, row_reads_back}
use Rattle.dhcp4_lease.proofs.laws.built_messages_read_back.Goals as goal

pub returns : goal.returns
returns c =
    let reads = row_reads_back c.messages_read_back.ensures c.args.config.now in
    let forms = c.args.config.now.message_forms in
    let within = c.requires in
    let typed = c.is_typed.ensures in
    let yiaddr = c.has_addresses.ensures.yiaddr in
    let server = c.has_addresses.ensures.server in
    record {
      discover = reads _ within typed (record { ciaddr = no_address_is; requested = tt; server = tt });
      request = reads _ within typed (record { ciaddr = no_address_is; requested = yiaddr; server = server });
      reboot = reads _ within typed (record { ciaddr = no_address_is; requested = yiaddr; server = tt });
      extend = reads _ within typed (extend_is forms c.args.lease.now yiaddr server);
      release = reads _ within typed (release_is forms c.args.lease.now yiaddr server);
    }

-- The message of each row is one that reads back.
use Rattle.dhcp6_msg.proofs.BuiltMessages.{lease_in_range, mode_in_range, row_reads_back}
use Rattle.dhcp6_msg.proofs.laws.built_message_reads_back.Goals as goal

pub returns : goal.returns
returns c =
    let reads = row_reads_back c.args.message.now c.option_list_reads_back.ensures.alone in
    record {
      solicit = λ id config iaid elapsed_ms is. reads id config _ (record { client = is; server = tt; association = mode_in_range config.mode iaid });
      request = λ id config offer elapsed_ms are. reads id config _ (record { client = are.client; server = are.server; association = lease_in_range offer });
      renew = λ id config held elapsed_ms are. reads id config _ (record { client = are.client; server = are.server; association = lease_in_range held });
      rebind = λ id config held elapsed_ms is. reads id config _ (record { client = is; server = tt; association = lease_in_range held });
      release = λ id config held are. reads id config _ (record { client = are.client; server = are.server; association = lease_in_range held });
    }

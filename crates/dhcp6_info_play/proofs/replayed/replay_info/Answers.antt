-- A valid script can be played.
use Rattle.std.proofs.Common.{◌∙◌, sym}
use Rattle.dhcp6_info_play.proofs.ValidLemmas.{config_begins, events_play}
use Rattle.dhcp6_info_play.proofs.replayed.replay_info.Goals as goal

pub play_with-requires-clause-begins : goal.play_with-requires-clause-begins
play_with-requires-clause-begins c = config_begins c.args.script.now c.in_ok-config.config (sym c.is_valid.ensures ∙ c.if-not-is_valid.false) c.in_ok-config.ensures

pub play_with-requires-clause-plays : goal.play_with-requires-clause-plays
play_with-requires-clause-plays c = events_play c.args.script.now c.as_slice-2.result.now (sym c.is_valid.ensures ∙ c.if-not-is_valid.false) c.as_slice-2.ensures

-- By the life of the client that begins.
use Rattle.std.proofs.Common.{◌≡◌, rules, subst, sym}
use Rattle.dhcp_replay.specs.Life.{CanPlay}
use Rattle.dhcp_replay.proofs.PrintedScripts.{keeps4, lines4, where_ok}
use Rattle.dhcp_replay.proofs.ReplayLemmas.{can_play}
use Rattle.dhcp_replay.proofs.Valid4Lemmas.{parts}
use Rattle.dhcp_replay.proofs.printed.print_script4.Goals as goal

pub print_events-requires : goal.print_events-requires
print_events-requires c =
    let events_are : c.into_vec-events.result.items ≡ c.args.script.now.events = search rules in
    subst CanPlay (sym events_are) (can_play c.args.script.now.start c.args.script.now.events (parts c.args.script.now c.requires).events)

pub returns-clause-lines : goal.returns-clause-lines
returns-clause-lines c =
    let words_are : c.new-words.result ≡ c.args.script.now.words = search rules in
    let events_are : c.into_vec-events.result.items ≡ c.args.script.now.events = search rules in
    lines4 c.args.script.now c.new-words.result c.into_vec-events.result.items words_are events_are
    c.in_ok-client.client.value _ c.in_ok-client.ensures.begun c.in_ok-client.ensures.drawn _ c.deref_mut.ensures.value c.print_events.result _ _ _ _ (c.table_is_lawful.ensures c.in_ok-client.client.value.config) c.print_events.ensures.printed

pub returns-clause-promises : goal.returns-clause-promises
returns-clause-promises c =
    let words_are : c.new-words.result ≡ c.args.script.now.words = search rules in
    let events_are : c.into_vec-events.result.items ≡ c.args.script.now.events = search rules in
    where_ok c.print_events.result (keeps4 c.args.script.now c.new-words.result c.into_vec-events.result.items words_are events_are
    c.in_ok-client.client.value _ c.in_ok-client.ensures.begun c.in_ok-client.ensures.drawn c.deref.result.now c.deref.ensures c.promises_are_kept.ensures)

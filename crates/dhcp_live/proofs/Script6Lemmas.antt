-- An IPv6 script of what was heard of a session.
use Rattle.std.proofs.Common.{◌≡◌, ◌⊎◌, ◌≤◌, ℕ, suc, Bool, true, List, [], ◌++◌, Option, None, refl, sym, ap, subst, ◌∙◌, append_assoc, append-nil, codes, length}
use Rattle.std.specs.Prelude.{◌&&◌, ◌==◌, All, map, not, option_map}
use Rattle.std.specs.Fmt.{decimal}
use Rattle.std.specs.List.{list_all}
use Rattle.std.proofs.lemmas.Bool.{and_from, and_parts}
use Rattle.dhcp_clock.specs.Words.{Drawn}
use Rattle.dhcp_history.specs.Client.{view_of}
use Rattle.dhcp_history.specs.Machine.{View, first_view}
use Rattle.dhcp_history.specs.Protocol.{Lawful}
use Rattle.dhcp_history.specs.declared.client.Phase.TheVariants.{Unpolled}
use Rattle.dhcp_draws.specs.Draws.{DrawsAtMost}
use Rattle.dhcp_draws.specs.Events.{with_more}
use Rattle.dhcp_draws.specs.Tables.{most_words}
use Rattle.dhcp_stream.specs.HexText.{AreWords, numbers_text, words_text}
use Rattle.dhcp_stream.specs.Line.{line}
use Rattle.dhcp6_client.specs.Client.{FirstDraws, first_draws, first_exchange, first_state}
use Rattle.dhcp6_client.specs.Rules.{protocol}
use Rattle.dhcp6_client.specs.declared.client_state.ClientState.{ClientState}
use Rattle.dhcp6_client.specs.declared.client_state.Exchange.{Exchange}
use Rattle.dhcp6_msg.specs.Config.{Config}
use Rattle.dhcp_output.specs.Output.{PlainOutput, changed_v6}
use Rattle.dhcp_replay.specs.Life.{output_of}
use Rattle.dhcp_replay.specs.Replayed.{outputs_of_v6}
use Rattle.dhcp_replay.specs.Replayed6 as lives
use Rattle.dhcp_replay.specs.Replayed6.{outputs6}
use Rattle.dhcp_script.specs.Event.{are_in_order, are_valid, is_within_limits, most_events}
use Rattle.std.specs.Int.{w16}
use Rattle.dhcp6_msg.specs.Lease.{Lease, is_unspecified}
use Rattle.dhcp_script.specs.Codes.{are_few, listed_text}
use Rattle.dhcp_script.specs.Duid.{is_duid_or_none}
use Rattle.dhcp_script.specs.Field.{unless_none}
use Rattle.dhcp_script.specs.Lease6.{lease_with, versioned_lease_text}
use Rattle.dhcp_script.specs.Life.{IsEvent, events_text}
use Rattle.dhcp_script.specs.Script6 as scripts
use Rattle.dhcp_script.specs.declared.event.Event.{Event}
use Rattle.dhcp_script.specs.declared.script6.Script6.{Script6}
use Rattle.dhcp_script.specs.declared.version.Version.TheVariants.{Later}
use Rattle.dhcp_live.specs.Begin.{Begins6}
use Rattle.dhcp_live.specs.Live.{LiveParts}
use Rattle.dhcp_live.specs.Tool.{end_line}
use Rattle.dhcp_live.proofs.ScriptLemmas.{are_valid_told, longer_text, reports_history}
use Rattle.dhcp_live.proofs.TranscriptLemmas.{reports, reports_with}
use Rattle.dhcp_live.proofs.WordsLemmas.{AreWords-append, draws_alike}

-- the same with events
abbrev pub with_events6 : List Event → Script6 → Script6
with_events6 events script = record script { events = events }

-- the same with further words
abbrev pub with_more6 : List ℕ → Script6 → Script6
with_more6 more script = record script { words = script.words ++ more }

with_more6-nil : (more : List ℕ) (script : Script6) → more ≡ [] → with_more6 more script ≡ script
with_more6-nil more script none = ap (λ (words : List ℕ). record script { words = words }) (ap (λ (all : List ℕ). script.words ++ all) none ∙ append-nil script.words)

-- one that fits
pub fits6 : (script : Script6) (more : List ℕ) (events : List Event) → scripts.IsScript6 Later script → AreWords more → All IsEvent events → scripts.IsScript6 Later (with_events6 events (with_more6 more script))
fits6 script more events is words_fit events_fit = record {
  iface_index = is.iface_index;
  src_ip = is.src_ip;
  mac = is.mac;
  mode = is.mode;
  timeout_sec = is.timeout_sec;
  duid = is.duid;
  codes = is.codes;
  lease = is.lease;
  life = record { words_fit = AreWords-append script.words more is.life.words_fit words_fit; start_fits = is.life.start_fits; events_fit = events_fit };
}

-- the text of a script with these events
front : Script6 → List ℕ
front script = scripts.first_lines Later script ++ line (codes "codes " ++ listed_text (numbers_text w16) script.codes) ++ line (codes "lease " ++ unless_none (versioned_lease_text Later) script.lease)

middle : Script6 → List ℕ
middle script = line (codes "words " ++ words_text script.words) ++ line (codes "start " ++ decimal script.start)

text-with_events : (script : Script6) (events : List Event) → scripts.script6_text Later (with_events6 events script) ≡ front script ++ (middle script ++ events_text events)
unfolding scripts.script6_text front middle
text-with_events script events = refl

pub text6 : (script : Script6) (head : List ℕ) (events : List Event) → script.events ≡ [] → scripts.script6_text Later script ≡ head ++ end_line → scripts.script6_text Later (with_events6 events script) ≡ head ++ events_text events
text6 script head events none is =
    let begins : front script ++ (middle script ++ end_line) ≡ head ++ end_line = sym (text-with_events script []) ∙ ap (λ (all : List Event). scripts.script6_text Later (with_events6 all script)) (sym none) ∙ is in
    text-with_events script events ∙ longer_text (front script) (middle script) head (events_text events) begins

-- its head, and with it the text
pub head6 : Script6 → List ℕ
head6 script = front script ++ middle script

pub text-head6 : (script : Script6) → script.events ≡ [] → scripts.script6_text Later script ≡ head6 script ++ end_line
unfolding head6
text-head6 script none =
    ap (λ (all : List Event). scripts.script6_text Later (with_events6 all script)) none ∙ text-with_events script [] ∙ sym (append_assoc (front script) (middle script) end_line)

-- with no further words it is the given head
pub same_text6 : (script : Script6) (head : List ℕ) (more : List ℕ) (events : List Event) → more ≡ [] → script.events ≡ [] → scripts.script6_text Later script ≡ head ++ end_line →
    scripts.script6_text Later (with_events6 events (with_more6 more script)) ≡ head ++ events_text events
same_text6 script head more events no_words none is =
    ap (λ (all : Script6). scripts.script6_text Later (with_events6 events all)) (with_more6-nil more script no_words) ∙ text6 script head events none is

-- it is valid
pub valid6 : (script : Script6) (more : List ℕ) (events : List Event) → script.events ≡ [] → scripts.is_valid script ≡ true → length events ≤ most_events → list_all is_within_limits events ≡ true → are_in_order script.start events ≡ true → scripts.is_valid (with_events6 events (with_more6 more script)) ≡ true
unfolding scripts.is_valid
valid6 script more events none valid few within in_order =
    let tests : Bool = not (script.iface_index == 0) && not (is_unspecified script.src_ip) && is_duid_or_none script.duid && are_few scripts.most_codes script.codes && scripts.is_lease_valid script.lease in
    let parts = and_parts tests (are_valid script.start script.events) valid in
    let begins : are_valid script.start [] ≡ true = subst (λ (all : List Event). are_valid script.start all ≡ true) none parts.1 in
    and_from tests (are_valid script.start events) parts.0 (are_valid_told script.start events begins few within in_order)

-- what is left as the client begins
pub left6 : (script : Script6) (first : LiveParts Config ClientState Exchange) → Begins6 script first → length first.words ≡ length (first_draws (scripts.config_of script) script.words).left
left6 script first begins = ap (λ (view : View ClientState Exchange). length view.words) begins.client

-- the client for which this was drawn, and the words that it leaves
abbrev begun6 : Config → Option Lease → ℕ → Drawn FirstDraws → View ClientState Exchange
begun6 config lease start drawn = record {
  state = first_state config.mode lease start;
  exchange = first_exchange drawn.value.xid;
  timeout_sec = config.timeout_sec;
  entered = 0;
  phase = Unpolled;
  deadline = None;
  words = drawn.left;
}

-- its outputs
same_config : (script : Script6) (more : List ℕ) (events : List Event) → scripts.config_of (with_events6 events (with_more6 more script)) ≡ scripts.config_of script
unfolding scripts.config_of
same_config script more events = refl

module _ (lawful : (config : Config) → Lawful (protocol config)) (within : (config : Config) → DrawsAtMost most_words (first_draws config)) (script : Script6) (first : LiveParts Config ClientState Exchange)
    (begins : Begins6 script first) (more : List ℕ) (events : List Event) (enough : (more ≡ []) ⊎ (most_words ≤ length script.words)) where
  pub outputs6_are : (outs : List PlainOutput) → outs ≡ reports_with protocol changed_v6 more first events → outs ≡ outputs_of_v6 (with_events6 events (with_more6 more script))
  unfolding outputs6
  outputs6_are outs is =
      is ∙ ap (λ (c : Config). reports protocol changed_v6 c (with_more more (view_of first.parts.client first.words)) (suc first.number) events) begins.config
      ∙ ap (λ (view : View ClientState Exchange). reports protocol changed_v6 (lives.config_in (scripts.config_of script) script.words) (with_more more view) (suc first.number) events) begins.client
      ∙ ap (λ (number : ℕ). reports protocol changed_v6 (lives.config_in (scripts.config_of script) script.words) (with_more more (first_view (lives.life_of (scripts.config_of script) (option_map lease_with script.lease) script.start script.words events))) (suc number) events) begins.number
      ∙ ap (λ (drawn : Drawn FirstDraws). reports protocol changed_v6 drawn.value.config (begun6 (scripts.config_of script) (option_map lease_with script.lease) script.start drawn) 1 events) (sym (draws_alike (first_draws (scripts.config_of script)) most_words (within (scripts.config_of script)) script.words more enough))
      ∙ ap (map (output_of changed_v6)) (reports_history (protocol (lives.config_in (scripts.config_of script) (script.words ++ more))) (lawful (lives.config_in (scripts.config_of script) (script.words ++ more))) (lives.life_of (scripts.config_of script) (option_map lease_with script.lease) script.start (script.words ++ more) events))
      ∙ ap (λ (config : Config). outputs6 config (option_map lease_with script.lease) script.start (script.words ++ more) events) (sym (same_config script more events))

-- An IPv4 script of what was heard of a session.
use Rattle.std.proofs.Common.{◌≡◌, ◌⊎◌, ◌≤◌, ℕ, suc, Bool, true, List, [], ◌++◌, Option, None, refl, sym, ap, subst, ◌∙◌, append_assoc, append-nil, codes, length}
use Rattle.std.specs.Prelude.{◌&&◌, ◌==◌, All, drop, map, nat_le, not, option_map}
use Rattle.std.specs.Fmt.{decimal}
use Rattle.std.specs.List.{list_all}
use Rattle.std.proofs.lemmas.Bool.{and_from, and_parts}
use Rattle.dhcp_clock.specs.Words.{Drawn, drawn_word}
use Rattle.dhcp_history.specs.Client.{view_of}
use Rattle.dhcp_history.specs.Machine.{View, first_view}
use Rattle.dhcp_history.specs.Protocol.{Lawful}
use Rattle.dhcp_history.specs.declared.client.Phase.TheVariants.{Unpolled}
use Rattle.dhcp_draws.specs.Draws.{DrawsAtMost}
use Rattle.dhcp_draws.specs.Events.{with_more}
use Rattle.dhcp_draws.specs.Tables.{most_words}
use Rattle.dhcp_stream.specs.HexText.{AreWords, hex_text, words_text}
use Rattle.dhcp_stream.specs.Line.{line}
use Rattle.dhcp4_client.specs.Client.{first_exchange, first_state}
use Rattle.dhcp4_client.specs.Rules.{protocol}
use Rattle.dhcp4_client.specs.declared.client_state.ClientState.{ClientState}
use Rattle.dhcp4_client.specs.declared.client_state.Exchange.{Exchange}
use Rattle.dhcp4_lease.specs.Config.{Config}
use Rattle.dhcp4_lease.specs.Lease.{Lease}
use Rattle.dhcp_output.specs.Output.{PlainOutput, changed_v4}
use Rattle.dhcp_replay.specs.Life.{output_of}
use Rattle.dhcp_replay.specs.Replayed.{outputs_of_v4}
use Rattle.dhcp_replay.specs.Replayed4 as lives
use Rattle.dhcp_replay.specs.Replayed4.{outputs4}
use Rattle.dhcp_script.specs.Event.{are_in_order, are_valid, is_within_limits, most_events}
use Rattle.dhcp_script.specs.Codes.{listed_text}
use Rattle.dhcp_script.specs.Field.{unless_none}
use Rattle.dhcp_script.specs.Lease4.{lease_with, versioned_lease_text}
use Rattle.dhcp_script.specs.Life.{IsEvent, events_text}
use Rattle.dhcp_script.specs.Script4 as scripts
use Rattle.dhcp_script.specs.declared.event.Event.{Event}
use Rattle.dhcp_script.specs.declared.script4.Script4.{Script4}
use Rattle.dhcp_script.specs.declared.version.Version.TheVariants.{Later}
use Rattle.dhcp_live.specs.Begin.{Begins4}
use Rattle.dhcp_live.specs.Live.{LiveParts}
use Rattle.dhcp_live.specs.Tool.{end_line}
use Rattle.dhcp_live.proofs.ScriptLemmas.{are_valid_told, longer_text, reports_history}
use Rattle.dhcp_live.proofs.TranscriptLemmas.{reports, reports_with}
use Rattle.dhcp_live.proofs.WordsLemmas.{AreWords-append, draws_alike}

-- the same with events
abbrev pub with_events4 : List Event → Script4 → Script4
with_events4 events script = record script { events = events }

-- the same with further words
abbrev pub with_more4 : List ℕ → Script4 → Script4
with_more4 more script = record script { words = script.words ++ more }

with_more4-nil : (more : List ℕ) (script : Script4) → more ≡ [] → with_more4 more script ≡ script
with_more4-nil more script none = ap (λ (words : List ℕ). record script { words = words }) (ap (λ (all : List ℕ). script.words ++ all) none ∙ append-nil script.words)

-- one that fits
pub fits4 : (script : Script4) (more : List ℕ) (events : List Event) → scripts.IsScript4 Later script → AreWords more → All IsEvent events → scripts.IsScript4 Later (with_events4 events (with_more4 more script))
fits4 script more events is words_fit events_fit = record {
  iface_index = is.iface_index;
  mac = is.mac;
  timeout_sec = is.timeout_sec;
  forms = is.forms;
  host = is.host;
  client = is.client;
  codes = is.codes;
  lease = is.lease;
  life = record { words_fit = AreWords-append script.words more is.life.words_fit words_fit; start_fits = is.life.start_fits; events_fit = events_fit };
}

-- the text of a script with these events
front : Script4 → List ℕ
front script = scripts.first_lines Later script ++ line (codes "codes " ++ listed_text hex_text script.codes) ++ line (codes "lease " ++ unless_none (versioned_lease_text Later) script.lease)

middle : Script4 → List ℕ
middle script = line (codes "words " ++ words_text script.words) ++ line (codes "start " ++ decimal script.start)

text-with_events : (script : Script4) (events : List Event) → scripts.script4_text Later (with_events4 events script) ≡ front script ++ (middle script ++ events_text events)
unfolding scripts.script4_text front middle
text-with_events script events = refl

pub text4 : (script : Script4) (head : List ℕ) (events : List Event) → script.events ≡ [] → scripts.script4_text Later script ≡ head ++ end_line → scripts.script4_text Later (with_events4 events script) ≡ head ++ events_text events
text4 script head events none is =
    let begins : front script ++ (middle script ++ end_line) ≡ head ++ end_line = sym (text-with_events script []) ∙ ap (λ (all : List Event). scripts.script4_text Later (with_events4 all script)) (sym none) ∙ is in
    text-with_events script events ∙ longer_text (front script) (middle script) head (events_text events) begins

-- its head, and with it the text
pub head4 : Script4 → List ℕ
head4 script = front script ++ middle script

pub text-head4 : (script : Script4) → script.events ≡ [] → scripts.script4_text Later script ≡ head4 script ++ end_line
unfolding head4
text-head4 script none =
    ap (λ (all : List Event). scripts.script4_text Later (with_events4 all script)) none ∙ text-with_events script [] ∙ sym (append_assoc (front script) (middle script) end_line)

-- with no further words it is the given head
pub same_text4 : (script : Script4) (head : List ℕ) (more : List ℕ) (events : List Event) → more ≡ [] → script.events ≡ [] → scripts.script4_text Later script ≡ head ++ end_line →
    scripts.script4_text Later (with_events4 events (with_more4 more script)) ≡ head ++ events_text events
same_text4 script head more events no_words none is =
    ap (λ (all : Script4). scripts.script4_text Later (with_events4 events all)) (with_more4-nil more script no_words) ∙ text4 script head events none is

-- it is valid
pub valid4 : (script : Script4) (more : List ℕ) (events : List Event) → script.events ≡ [] → scripts.is_valid script ≡ true → length events ≤ most_events → list_all is_within_limits events ≡ true → are_in_order script.start events ≡ true → scripts.is_valid (with_events4 events (with_more4 more script)) ≡ true
unfolding scripts.is_valid
valid4 script more events none valid few within in_order =
    let tests : Bool = not (script.iface_index == 0) && scripts.is_host_name script.host && nat_le (length script.client) scripts.most_client_bytes && scripts.are_few script.codes && scripts.is_in_order script.lease in
    let parts = and_parts tests (are_valid script.start script.events) valid in
    let begins : are_valid script.start [] ≡ true = subst (λ (all : List Event). are_valid script.start all ≡ true) none parts.1 in
    and_from tests (are_valid script.start events) parts.0 (are_valid_told script.start events begins few within in_order)

-- what is left as the client begins
pub left4 : (script : Script4) (first : LiveParts Config ClientState Exchange) → Begins4 script first → length first.words ≡ length (drop 1 script.words)
left4 script first begins = ap (λ (view : View ClientState Exchange). length view.words) begins.client

-- the client with this transaction id, and the words that it leaves
abbrev begun4 : Config → Option Lease → Drawn ℕ → View ClientState Exchange
begun4 config lease drawn = record {
  state = first_state lease;
  exchange = first_exchange drawn.value;
  timeout_sec = config.timeout_sec;
  entered = 0;
  phase = Unpolled;
  deadline = None;
  words = drawn.left;
}

-- its outputs
same_config : (script : Script4) (more : List ℕ) (events : List Event) → scripts.config_of (with_events4 events (with_more4 more script)) ≡ scripts.config_of script
unfolding scripts.config_of
same_config script more events = refl

module _ (lawful : (config : Config) → Lawful (protocol config)) (within : DrawsAtMost most_words drawn_word) (script : Script4) (first : LiveParts Config ClientState Exchange) (begins : Begins4 script first) (more : List ℕ)
    (events : List Event) (enough : (more ≡ []) ⊎ (most_words ≤ length script.words)) where
  pub outputs4_are : (outs : List PlainOutput) → outs ≡ reports_with protocol changed_v4 more first events → outs ≡ outputs_of_v4 (with_events4 events (with_more4 more script))
  unfolding outputs4
  outputs4_are outs is =
      is ∙ ap (λ (c : Config). reports protocol changed_v4 c (with_more more (view_of first.parts.client first.words)) (suc first.number) events) begins.config
      ∙ ap (λ (view : View ClientState Exchange). reports protocol changed_v4 (scripts.config_of script) (with_more more view) (suc first.number) events) begins.client
      ∙ ap (λ (number : ℕ). reports protocol changed_v4 (scripts.config_of script) (with_more more (first_view (lives.life_of (scripts.config_of script) (option_map lease_with script.lease) script.words events))) (suc number) events) begins.number
      ∙ ap (λ (drawn : Drawn ℕ). reports protocol changed_v4 (scripts.config_of script) (begun4 (scripts.config_of script) (option_map lease_with script.lease) drawn) 1 events) (sym (draws_alike drawn_word most_words within script.words more enough))
      ∙ ap (map (output_of changed_v4)) (reports_history (protocol (scripts.config_of script)) (lawful (scripts.config_of script)) (lives.life_of (scripts.config_of script) (option_map lease_with script.lease) (script.words ++ more) events))
      ∙ ap (λ (config : Config). outputs4 config (option_map lease_with script.lease) (script.words ++ more) events) (sym (same_config script more events))

-- A transcript is a script.
use Rattle.std.proofs.Common.{◌≡◌, ℕ, true, List, ◌++◌, refl, sym, ap, inl, subst, ◌∙◌}
use Rattle.dhcp_clock.specs.Words.{drawn_word}
use Rattle.dhcp_history.specs.Protocol.{Lawful}
use Rattle.dhcp4_client.specs.Rules as rules4
use Rattle.dhcp4_lease.specs.Config as config4
use Rattle.dhcp6_client.specs.Client.{first_draws}
use Rattle.dhcp6_client.specs.Rules as rules6
use Rattle.dhcp6_msg.specs.Config as config6
use Rattle.dhcp_draws.specs.Draws.{DrawsAtMost}
use Rattle.dhcp_draws.specs.Events.{EventsTakeAtMost}
use Rattle.dhcp_draws.specs.Tables.{most_words}
use Rattle.dhcp_output.specs.Output.{changed_v4, changed_v6}
use Rattle.dhcp_script.specs.Event.{are_in_order}
use Rattle.dhcp_script.specs.declared.event.Event.{Event}
use Rattle.dhcp_script.specs.declared.script.Script.{Script}
use Rattle.dhcp_script.specs.declared.script.Script.TheVariants.{V4, V6}
use Rattle.dhcp_tool.specs.declared.status.Status.TheVariants.{Done}
use Rattle.dhcp_dialogue.specs.Dialogue.{Turn}
use Rattle.dhcp_live.specs.Dropped.{verdict4, verdict6}
use Rattle.dhcp_live.specs.Session.{most_lines}
use Rattle.dhcp_live.specs.Tool.{IsHead, IsSessionOf}
use Rattle.dhcp_live.specs.Transcript.{AreEnough, IsTranscript, events_in, outputs_in, words_in}
use Rattle.dhcp_live.proofs.Script4Lemmas.{fits4, head4, left4, outputs4_are, same_text4, text-head4, text4, valid4, with_more4}
use Rattle.dhcp_live.proofs.Script6Lemmas.{fits6, head6, left6, outputs6_are, same_text6, text-head6, text6, valid6, with_more6}
use Rattle.dhcp_live.proofs.TranscriptLemmas.{IsTold, is_told}
use Rattle.dhcp_live.proofs.WordsLemmas.{enough_where_none}

module _ (lawful4 : (config : config4.Config) → Lawful (rules4.protocol config)) (lawful6 : (config : config6.Config) → Lawful (rules6.protocol config))
    (begins4 : DrawsAtMost most_words drawn_word) (begins6 : (config : config6.Config) → DrawsAtMost most_words (first_draws config))
    (events4 : (config : config4.Config) → EventsTakeAtMost (rules4.protocol config) most_words) (events6 : (config : config6.Config) → EventsTakeAtMost (rules6.protocol config) most_words) where
  pub transcript : (head : List ℕ) (script : Script) (turns : List Turn) → IsHead head script → IsSessionOf script turns Done → IsTranscript head script turns
  transcript head (V4 script) turns is session =
      let said : IsTold rules4.protocol changed_v4 session.0 turns = is_told rules4.protocol changed_v4 (λ client. client) verdict4 events4 most_lines session.0 turns Done session.1.1 refl in
      let more : List ℕ = words_in said.entries in
      let events : List Event = events_in said.entries in
      record {
        entries = said.entries;
        turns_are = said.turns_are;
        fits = fits4 script more events is.fits said.words_fit said.events_fit;
        whole_head = head4 (with_more4 more script);
        head_is = record { fits = fits4 script more script.events is.fits said.words_fit is.fits.life.events_fit; text = text-head4 (with_more4 more script) is.none; none = is.none };
        text = text4 (with_more4 more script) (head4 (with_more4 more script)) events is.none (text-head4 (with_more4 more script) is.none);
        outputs_are = λ enough. outputs4_are lawful4 begins4 script session.0 session.1.0 more events enough.begins (outputs_in said.entries)
            (said.outputs_are (subst (λ (left : ℕ). AreEnough left said.entries) (sym (left4 script session.0 session.1.0)) enough.events));
        valid = λ valid few. valid4 script more events is.none valid few said.within (subst (λ (start : ℕ). are_in_order start events ≡ true) session.1.0.moment said.in_order);
        no_more = λ wordless. record { begins = inl (said.no_more wordless); events = enough_where_none _ said.entries (said.no_more wordless) };
        same_text = λ wordless. same_text4 script head more events (said.no_more wordless) is.none is.text ∙ ap (λ (text : List ℕ). head ++ text) (sym (said.heard wordless));
      }
  transcript head (V6 script) turns is session =
      let said : IsTold rules6.protocol changed_v6 session.0 turns = is_told rules6.protocol changed_v6 (λ client. client) verdict6 events6 most_lines session.0 turns Done session.1.1 refl in
      let more : List ℕ = words_in said.entries in
      let events : List Event = events_in said.entries in
      record {
        entries = said.entries;
        turns_are = said.turns_are;
        fits = fits6 script more events is.fits said.words_fit said.events_fit;
        whole_head = head6 (with_more6 more script);
        head_is = record { fits = fits6 script more script.events is.fits said.words_fit is.fits.life.events_fit; text = text-head6 (with_more6 more script) is.none; none = is.none };
        text = text6 (with_more6 more script) (head6 (with_more6 more script)) events is.none (text-head6 (with_more6 more script) is.none);
        outputs_are = λ enough. outputs6_are lawful6 begins6 script session.0 session.1.0 more events enough.begins (outputs_in said.entries)
            (said.outputs_are (subst (λ (left : ℕ). AreEnough left said.entries) (sym (left6 script session.0 session.1.0)) enough.events));
        valid = λ valid few. valid6 script more events is.none valid few said.within (subst (λ (start : ℕ). are_in_order start events ≡ true) session.1.0.moment said.in_order);
        no_more = λ wordless. record { begins = inl (said.no_more wordless); events = enough_where_none _ said.entries (said.no_more wordless) };
        same_text = λ wordless. same_text6 script head more events (said.no_more wordless) is.none is.text ∙ ap (λ (text : List ℕ). head ++ text) (sym (said.heard wordless));
      }

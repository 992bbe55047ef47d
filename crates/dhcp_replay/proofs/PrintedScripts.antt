-- What is printed of the client of a script is what is reported of it.
use Rattle.std.proofs.Common.{◌≡◌, ℕ, List, Option, Some, Result, Ok, Err, ◌++◌, refl, ap, subst, ◌∙◌}
use Rattle.std.specs.Prelude.{OnOk, option_map}
use Rattle.std.specs.List.{flat_map}
use Rattle.dhcp_clock.specs.Words.{GivesNext}
use Rattle.dhcp_history.specs.Protocol.{Lawful}
use Rattle.dhcp_history.specs.Rules.{GivesDrawn}
use Rattle.dhcp4_lease.specs.Config as configs4
use Rattle.dhcp4_lease.specs.Lease as leases4
use Rattle.dhcp4_client.specs.Client as clients4
use Rattle.dhcp4_client.specs.Rules as rules4
use Rattle.dhcp6_msg.specs.Config as configs6
use Rattle.dhcp6_msg.specs.Lease as leases6
use Rattle.dhcp6_client.specs.Client as clients6
use Rattle.dhcp6_client.specs.Rules as rules6
use Rattle.dhcp_output.specs.Output.{PlainOutput, changed_v4, changed_v6, output_line}
use Rattle.dhcp_script.specs.Lease4 as lease4
use Rattle.dhcp_script.specs.Lease6 as lease6
use Rattle.dhcp_script.specs.Script4 as v4
use Rattle.dhcp_script.specs.Script6 as v6
use Rattle.dhcp_script.specs.declared.event.Event.{Event}
use Rattle.dhcp_script.specs.declared.script4.Script4.{Script4}
use Rattle.dhcp_script.specs.declared.script6.Script6.{Script6}
use Rattle.dhcp_replay.specs.Printed.{IsPrinted, played_events}
use Rattle.dhcp_replay.specs.Promises4 as promised4
use Rattle.dhcp_replay.specs.Promises6 as promised6
use Rattle.dhcp_replay.specs.Replayed.{outputs_of_v4, outputs_of_v6}
use Rattle.dhcp_replay.specs.Replayed4.{outputs4}
use Rattle.dhcp_replay.specs.Replayed6.{life_of, outputs6}
use Rattle.dhcp_replay.proofs.Life4Lemmas.{printed4, promises4}
use Rattle.dhcp_replay.proofs.Life6Lemmas.{printed6, promises6}

-- what is said of two things, is said of the same two
same_two : {A B : Type 0} (P : A → B → Type 0) {a a' : A} {b b' : B} → a ≡ a' → b ≡ b' → P a b → P a' b'
same_two P {a} {a'} {b} {b'} a_is b_is said = subst (λ x. P a' x) b_is (subst (λ x. P x b) a_is said)

-- what holds, holds where a call succeeds
pub where_ok : {X E : Type 0} {P : Type 0} (result : Result X E) → P → OnOk result P
where_ok (Ok x) holds = holds
where_ok (Err error) holds = tt

-- the lines of some outputs behind a text
abbrev with_lines : List ℕ → List PlainOutput → List ℕ
with_lines before outs = before ++ flat_map output_line outs

-- of an IPv4 script
module _ (script : Script4) (words : List ℕ) (events : List Event) (words_are : words ≡ script.words) (events_are : events ≡ script.events)
    (client : clients4.ClientParts) (after : Option (List ℕ)) (begins : clients4.Begins (v4.config_of script) (option_map lease4.lease_with script.lease) client) (drawn : GivesNext (Some words) client.client.standing.exchange.xid after)
    (given : clients4.ClientParts) (same : given ≡ client) where
  abbrev config4 : configs4.Config
  config4 = v4.config_of script

  abbrev held4 : Option leases4.Lease
  held4 = option_map lease4.lease_with script.lease

  same4 : outputs4 config4 held4 words events ≡ outputs_of_v4 script
  same4 = same_two (λ (w : List ℕ) (e : List Event). outputs4 config4 held4 words events ≡ outputs4 config4 held4 w e) words_are events_are refl

  pub keeps4 : ((held : Option leases4.Lease) (words : List ℕ) (all : List Event) → promised4.KeepsPromises given.config held words all) → promised4.KeepsPromisesOfV4 script
  keeps4 keeps = same_two (promised4.KeepsPromises config4 held4) words_are events_are (promises4 config4 held4 events client (Some words) after drawn begins given same keeps)

  pub lines4 : {X E : Type 0} (result : Result X E) (text text' : List ℕ) (new : clients4.ClientParts) (left : Option (List ℕ)) → Lawful (rules4.protocol client.config) →
      OnOk result (IsPrinted changed_v4 (played_events rules4.protocol given events) text text' given new after left) → OnOk result (text' ≡ text ++ flat_map output_line (outputs_of_v4 script))
  lines4 (Err error) text text' new left lawful printed = tt
  lines4 (Ok x) text text' new left lawful printed =
      let is = subst (λ (parts : clients4.ClientParts). IsPrinted changed_v4 (played_events rules4.protocol parts events) text text' parts new after left) same printed in
      is.text_is ∙ ap (with_lines text) (printed4 config4 held4 events client (Some words) after drawn begins is.items new left lawful is.reported ∙ same4)

-- of an IPv6 script
module _ (script : Script6) (words : List ℕ) (events : List Event) (words_are : words ≡ script.words) (events_are : events ≡ script.events)
    (client : clients6.ClientParts) (after : Option (List ℕ)) (begins : clients6.Begins (v6.config_of script) (option_map lease6.lease_with script.lease) script.start client)
    (drawn : GivesDrawn (clients6.first_draws (v6.config_of script)) (Some words) (clients6.drawn_for client) after) (given : clients6.ClientParts) (same : given ≡ client) where
  abbrev config6 : configs6.Config
  config6 = v6.config_of script

  abbrev held6 : Option leases6.Lease
  held6 = option_map lease6.lease_with script.lease

  same6 : outputs6 config6 held6 script.start words events ≡ outputs_of_v6 script
  same6 = same_two (λ (w : List ℕ) (e : List Event). outputs6 config6 held6 script.start words events ≡ outputs6 config6 held6 script.start w e) words_are events_are refl

  pub keeps6 :
      ((for : configs6.Config) (held : Option leases6.Lease) (from : ℕ) (words : List ℕ) (all : List Event) → promised6.KeepsPromisesOver given.config held (life_of for held from words all)) → promised6.KeepsPromisesOfV6 script
  keeps6 keeps = same_two (promised6.KeepsPromises config6 held6 script.start) words_are events_are (promises6 config6 held6 script.start events client (Some words) after drawn begins given same keeps)

  pub lines6 : {X E : Type 0} (result : Result X E) (text text' : List ℕ) (new : clients6.ClientParts) (left : Option (List ℕ)) → Lawful (rules6.protocol client.config) →
      OnOk result (IsPrinted changed_v6 (played_events rules6.protocol given events) text text' given new after left) → OnOk result (text' ≡ text ++ flat_map output_line (outputs_of_v6 script))
  lines6 (Err error) text text' new left lawful printed = tt
  lines6 (Ok x) text text' new left lawful printed =
      let is = subst (λ (parts : clients6.ClientParts). IsPrinted changed_v6 (played_events rules6.protocol parts events) text text' parts new after left) same printed in
      is.text_is ∙ ap (with_lines text) (printed6 config6 held6 script.start events client (Some words) after drawn begins is.items new left lawful is.reported ∙ same6)

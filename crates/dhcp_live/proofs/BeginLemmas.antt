-- A client that has begun, before its first event.
use Rattle.std.proofs.Common.{◌≡◌, ℕ, Bool, true, List, [], Option, Some, refl, sym, ap, subst, ◌∙◌, option_map}
use Rattle.dhcp_wire.specs.Error.{ErrorParts, no_memory}
use Rattle.dhcp_clock.specs.Words.{GivesNext}
use Rattle.dhcp_history.specs.Client.{view_of}
use Rattle.dhcp_history.specs.Machine.{first_view}
use Rattle.dhcp_history.specs.Rules.{GivesDrawn}
use Rattle.dhcp4_client.specs.Client as client4
use Rattle.dhcp4_client.specs.declared.client_state.ClientState as state4
use Rattle.dhcp4_client.specs.declared.client_state.Exchange as exchange4
use Rattle.dhcp4_lease.specs.Config as config4
use Rattle.dhcp4_lease.specs.Lease as leases4
use Rattle.dhcp6_client.specs.Client as client6
use Rattle.dhcp6_client.specs.declared.client_state.ClientState as state6
use Rattle.dhcp6_client.specs.declared.client_state.Exchange as exchange6
use Rattle.dhcp6_msg.specs.Config as config6
use Rattle.dhcp6_msg.specs.Lease as leases6
use Rattle.dhcp_replay.specs.Replayed4 as lives4
use Rattle.dhcp_replay.specs.Replayed6 as lives6
use Rattle.dhcp_replay.proofs.Life4Lemmas as life4
use Rattle.dhcp_replay.proofs.Life6Lemmas as life6
use Rattle.dhcp_script.specs.Lease4 as lease4
use Rattle.dhcp_script.specs.Lease6 as lease6
use Rattle.dhcp_script.specs.Script4 as script4
use Rattle.dhcp_script.specs.Script6 as script6
use Rattle.dhcp_script.specs.declared.script4.Script4.{Script4}
use Rattle.dhcp_script.specs.declared.script6.Script6.{Script6}
use Rattle.dhcp_replay.specs.Life.{IsRefusal}
use Rattle.dhcp_live.specs.Begin.{Begins, Begins4, Begins6}
use Rattle.dhcp_live.specs.Live.{LiveParts}

-- of a valid script, out of memory
pub no_memory_left : (valid : Bool) (error : ErrorParts) → valid ≡ true → IsRefusal valid error → error ≡ no_memory
no_memory_left valid error is refused = subst (λ (v : Bool). IsRefusal v error) is refused

-- the words that are left
left_are : (after left : List ℕ) → Some after ≡ Some left → after ≡ left
left_are after left is = cc is

-- an IPv4 client
module _ (start : ℕ) (client : client4.ClientParts) (after : List ℕ) where
  abbrev here4 : LiveParts config4.Config state4.ClientState exchange4.Exchange
  here4 = record { parts = client; words = after; number = 0; moment = start }

  abbrev Is4 : config4.Config → Option leases4.Lease → List ℕ → Type 0
  Is4 config lease words = Begins config (first_view (lives4.life_of config lease words [])) start here4

  exactly4 : (config : config4.Config) (lease : Option leases4.Lease) (words : List ℕ) → client4.Begins config lease client → GivesNext (Some words) client.client.standing.exchange.xid (Some after) → Is4 config lease words
  exactly4 config lease words begins drawn = record {
    config = begins.config;
    client = ap (view_of client.client) (left_are after (lives4.life_of config lease words []).words drawn.1) ∙ (life4.begun config lease [] client (Some words) (Some after) drawn begins words drawn.0).view;
    number = refl;
    moment = refl;
  }

pub begins4 : (script : Script4) (words after : List ℕ) (client : client4.ClientParts) (here : LiveParts config4.Config state4.ClientState exchange4.Exchange) →
    words ≡ script.words → client4.Begins (script4.config_of script) (option_map lease4.lease_with script.lease) client → GivesNext (Some words) client.client.standing.exchange.xid (Some after) →
    here ≡ record { parts = client; words = after; number = 0; moment = script.start } → Begins4 script here
begins4 script words after client here words_are begins drawn here_is =
    let config = script4.config_of script in
    let held = option_map lease4.lease_with script.lease in
    subst (Begins4 script) (sym here_is) (subst (λ (w : List ℕ). Is4 script.start client after config held w) words_are (exactly4 script.start client after config held words begins drawn))

-- an IPv6 client
module _ (start : ℕ) (client : client6.ClientParts) (after : List ℕ) where
  abbrev here6 : LiveParts config6.Config state6.ClientState exchange6.Exchange
  here6 = record { parts = client; words = after; number = 0; moment = start }

  abbrev Is6 : config6.Config → Option leases6.Lease → List ℕ → Type 0
  Is6 config lease words = Begins (lives6.config_in config words) (first_view (lives6.life_of config lease start words [])) start here6

  exactly6 : (config : config6.Config) (lease : Option leases6.Lease) (words : List ℕ) → client6.Begins config lease start client → GivesDrawn (client6.first_draws config) (Some words) (client6.drawn_for client) (Some after) → Is6 config lease words
  exactly6 config lease words begins drawn =
      let begun = life6.begun config lease start [] client (Some words) (Some after) drawn begins words drawn.0 in
      record {
        config = begun.config;
        client = ap (view_of client.client) (left_are after (client6.first_draws config words).left drawn.1) ∙ begun.view;
        number = refl;
        moment = refl;
      }

pub begins6 : (script : Script6) (words after : List ℕ) (client : client6.ClientParts) (here : LiveParts config6.Config state6.ClientState exchange6.Exchange) →
    words ≡ script.words → client6.Begins (script6.config_of script) (option_map lease6.lease_with script.lease) script.start client → GivesDrawn (client6.first_draws (script6.config_of script)) (Some words) (client6.drawn_for client) (Some after) →
    here ≡ record { parts = client; words = after; number = 0; moment = script.start } → Begins6 script here
begins6 script words after client here words_are begins drawn here_is =
    let config = script6.config_of script in
    let held = option_map lease6.lease_with script.lease in
    subst (Begins6 script) (sym here_is) (subst (λ (w : List ℕ). Is6 script.start client after config held w) words_are (exactly6 script.start client after config held words begins drawn))

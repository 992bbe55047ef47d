-- The life of a client that begins: what is reported of it, how it ends, and what is promised of it.
use Rattle.std.proofs.Common.{◌≡◌, ℕ, List, Option, Some, None, sym, ap, subst, ◌∙◌}
use Rattle.std.specs.Prelude.{IfSome}
use Rattle.dhcp_clock.specs.declared.link.Handed.{Handed}
use Rattle.dhcp_clock.specs.declared.link.Packet.{Packet}
use Rattle.dhcp_clock.specs.Words.{Drawn, GivesNext, drawn_word}
use Rattle.dhcp_history.specs.declared.client.Client.{Client}
use Rattle.dhcp_history.specs.declared.client.Phase.TheVariants.{Unpolled}
use Rattle.dhcp_history.specs.declared.client.Standing.{Standing}
use Rattle.dhcp_history.specs.Client.{unpolled, view_of}
use Rattle.dhcp_history.specs.EventLoop.{events_at}
use Rattle.dhcp_history.specs.Machine.{View, first_view}
use Rattle.dhcp_history.specs.Protocol.{Protocol}
use Rattle.dhcp_history.specs.Rules.{GivesDrawn}
use Rattle.dhcp_history.specs.Script.{Script}
use Rattle.dhcp_history.specs.declared.script.NumberedEvent.{NumberedEvent}

-- a next word is drawn
pub next_drawn : (before after : Option (List ℕ)) (word : ℕ) → GivesNext before word after → GivesDrawn drawn_word before word after
next_drawn None after word is = is
next_drawn (Some words) after word is = is

-- what is said of the words that are left, is said of those that a draw leaves
after_draw : (Says : List ℕ → Type 0) (left : List ℕ) (after : Option (List ℕ)) → after ≡ Some left → IfSome after Says → Says left
after_draw Says left after is says = subst (λ (a : Option (List ℕ)). IfSome a Says) is says

-- how a client stands that was not polled yet
pub begun_view : {State Exchange : Type 0} (client : Client State Exchange) (state : State) (exchange : Exchange) (timeout_sec : ℕ) (words : List ℕ) →
    client.state ≡ state → client.standing ≡ unpolled exchange → client.timeout_sec ≡ timeout_sec →
    view_of client words ≡ record { state = state; exchange = exchange; timeout_sec = timeout_sec; entered = 0; phase = Unpolled; deadline = None; words = words }
begun_view {State} {Exchange} client state exchange timeout_sec words state_is standing_is timeout_is =
    let view : State → Standing Exchange → ℕ → View State Exchange = λ state stands timeout. record {
      state = state;
      exchange = stands.exchange;
      timeout_sec = timeout;
      entered = stands.entered;
      phase = stands.phase;
      deadline = stands.deadline;
      words = words;
    } in
    ap (λ (state : State). view state client.standing client.timeout_sec) state_is
    ∙ ap (λ (stands : Standing Exchange). view state stands client.timeout_sec) standing_is
    ∙ ap (λ (timeout : ℕ). view state (unpolled exchange) timeout) timeout_is

-- A client of this protocol: what is drawn for it from some words, its configuration then, and its life.
module _ {Config X PublicState State Exchange Answer Lease : Type 0} (protocol : Config → Protocol PublicState Packet Handed State Exchange Answer Lease)
    (draws : List ℕ → Drawn X) (config_in : List ℕ → Config) (life_of : List ℕ → Script Packet State Exchange) where
  -- the client with which a life begins
  pub record BeginsLife (value : X) (own : Config) (client : Client State Exchange) (words : List ℕ) : Type 0 where
    pub view : view_of client (draws words).left ≡ first_view (life_of words)
    pub config : own ≡ config_in words

  abbrev pub Begun : X → Config → Client State Exchange → Type 0
  Begun value own client = (words : List ℕ) → value ≡ (draws words).value → BeginsLife value own client words

  module _ (before after : Option (List ℕ)) (value : X) (own : Config) (client : Client State Exchange) (drawn : GivesDrawn draws before value after) (begun : Begun value own client) where
    -- what holds of a life with the client's configuration
    pub life_promises : (Keeps : List ℕ → Type 0) → ((words : List ℕ) → own ≡ config_in words → Keeps words) → IfSome before Keeps
    life_promises Keeps keeps = go before drawn
      where
        go : (exposed : Option (List ℕ)) → GivesDrawn draws exposed value after → IfSome exposed Keeps
        go None drawn = tt
        go (Some words) drawn = keeps words (begun words drawn.0).config

    -- what is said of no words, once they are exposed
    pub life_says : (Says : Type 0) → IfSome after (λ words. Says) → IfSome before (λ words. Says)
    life_says Says says = go before drawn
      where
        go : (exposed : Option (List ℕ)) → GivesDrawn draws exposed value after → IfSome exposed (λ words. Says)
        go None drawn = tt
        go (Some words) drawn = after_draw (λ words. Says) (draws words).left after drawn.1 says

    module _ (made : List (NumberedEvent Packet)) (made_is : (words : List ℕ) → made ≡ (life_of words).events) where
      -- what holds of each life that the client begins
      abbrev pub Reports : (Config → Script Packet State Exchange → Type 0) → List ℕ → Type 0
      Reports Is left = (script : Script Packet State Exchange) → view_of client left ≡ first_view script → script.events ≡ made → Is own script

      pub life_reports : (Is : Config → Script Packet State Exchange → Type 0) → IfSome after (Reports Is) → IfSome before (λ words. Is (config_in words) (life_of words))
      life_reports Is reports = go before drawn
        where
          go : (exposed : Option (List ℕ)) → GivesDrawn draws exposed value after → IfSome exposed (λ words. Is (config_in words) (life_of words))
          go None drawn = tt
          go (Some words) drawn =
              let begins = begun words drawn.0 in
              let known : Reports Is (draws words).left = after_draw (Reports Is) (draws words).left after drawn.1 reports in
              subst (λ (c : Config). Is c (life_of words)) begins.config (known (life_of words) begins.view (sym (made_is words)))

      -- how it ends
      module _ (Ends : View State Exchange → Type 0) where
        abbrev pub Leaves : List ℕ → Type 0
        Leaves left = Ends (events_at (protocol own) (view_of client left) made).view

        abbrev pub EndsSo : List ℕ → Type 0
        EndsSo words = Ends (events_at (protocol (config_in words)) (first_view (life_of words)) (life_of words).events).view

        pub life_ends : IfSome after Leaves → IfSome before EndsSo
        life_ends leaves = go before drawn
          where
            go : (exposed : Option (List ℕ)) → GivesDrawn draws exposed value after → IfSome exposed EndsSo
            go None drawn = tt
            go (Some words) drawn =
                let begins = begun words drawn.0 in
                let left_so : Leaves (draws words).left = after_draw Leaves (draws words).left after drawn.1 leaves in
                let first : View State Exchange = first_view (life_of words) in
                let same : (events_at (protocol own) (view_of client (draws words).left) made).view ≡ (events_at (protocol (config_in words)) first (life_of words).events).view =
                ap (λ (c : Config). (events_at (protocol c) (view_of client (draws words).left) made).view) begins.config
                ∙ ap (λ (view : View State Exchange). (events_at (protocol (config_in words)) view made).view) begins.view
                ∙ ap (λ (all : List (NumberedEvent Packet)). (events_at (protocol (config_in words)) first all).view) (made_is words) in
                subst Ends same left_so

-- what follows of some words, follows where they are exposed
pub if_exposed : (Says Also : List ℕ → Type 0) (exposed : Option (List ℕ)) → ((words : List ℕ) → Says words → Also words) → IfSome exposed Says → IfSome exposed Also
if_exposed Says Also None follows says = tt
if_exposed Says Also (Some words) follows says = follows words says

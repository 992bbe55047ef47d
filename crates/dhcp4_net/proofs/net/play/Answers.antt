-- The network has gone through all events, or one may not come.
use Rattle.std.proofs.Common.{◌≡◌, List, Bool, true, false, Ok, length, inr, sym, ap, ◌∙◌, subst, rules}
use Rattle.dhcp4_server.specs.Answer.{answer_to}
use Rattle.dhcp4_net.specs.Clients.{net_at}
use Rattle.dhcp4_net.specs.Net.{net_after}
use Rattle.dhcp4_net.specs.Running.{StandsForNet, StepsTo}
use Rattle.dhcp4_net.specs.Script.{configs_of}
use Rattle.dhcp4_net.specs.declared.running.RunningNet.{RunningNet}
use Rattle.dhcp4_net.specs.declared.script.NetEvent.{NetEvent}
use Rattle.dhcp4_net.specs.declared.script.NetScript.{NetScript}
use Rattle.dhcp4_net.proofs.ScriptLemmas.{finished_run, invalid_without, refused_run}
use Rattle.dhcp4_net.proofs.net.play.Goals as goal

-- the network of a script at its start, and what it steps to by these events
abbrev Begins : NetScript → RunningNet → Type 0
Begins script running = StandsForNet script.server (configs_of script.clients) (length script.clients) running (net_at script.start script.clients)

abbrev Steps : NetScript → List NetEvent → Bool → RunningNet → Type 0
Steps script events came running =
    StepsTo script.server (configs_of script.clients) (length script.clients) (Ok came) running
    (net_after (answer_to script.server) (configs_of script.clients) script.server.bound_ms (length script.clients) (net_at script.start script.clients) 1 events)

pub returns-then-not-branch : goal.returns-then-not-branch
returns-then-not-branch c =
    let is : c.deref_mut.result.now ≡ c.in_ok-begun.field-0 = search rules in
    let stands : Begins c.args.script.now c.deref_mut.result.now = subst (Begins c.args.script.now) (sym is) c.in_ok-begun.ensures.stands in
    let steps : Steps c.args.script.now c.as_slice.result.now c.in_ok-play_all.field-0 c.play_all.new.self =
    c.in_ok-play_all.ensures.steps c.args.script.now.server (configs_of c.args.script.now.clients) (length c.args.script.now.clients) (net_at c.args.script.now.start c.args.script.now.clients) stands in
    let no : c.in_ok-play_all.field-0 ≡ false = search rules in
    let refused : Steps c.args.script.now c.args.script.now.events false c.play_all.new.self =
    subst (λ (events : List NetEvent). Steps c.args.script.now events false c.play_all.new.self) c.as_slice.ensures
    (subst (λ (came : Bool). Steps c.args.script.now c.as_slice.result.now came c.play_all.new.self) no steps) in
    inr (invalid_without c.args.script.now c.not_valid.result (refused_run c.args.script.now c.requires c.play_all.new.self refused) c.not_valid.ensures)

pub returns : goal.returns
returns c =
    let is : c.deref_mut.result.now ≡ c.in_ok-begun.field-0 = search rules in
    let stands : Begins c.args.script.now c.deref_mut.result.now = subst (Begins c.args.script.now) (sym is) c.in_ok-begun.ensures.stands in
    let steps : Steps c.args.script.now c.as_slice.result.now c.in_ok-play_all.field-0 c.play_all.new.self =
    c.in_ok-play_all.ensures.steps c.args.script.now.server (configs_of c.args.script.now.clients) (length c.args.script.now.clients) (net_at c.args.script.now.start c.args.script.now.clients) stands in
    let yes : c.in_ok-play_all.field-0 ≡ true = search rules in
    let finished : Steps c.args.script.now c.args.script.now.events true c.play_all.new.self =
    subst (λ (events : List NetEvent). Steps c.args.script.now events true c.play_all.new.self) c.as_slice.ensures
    (subst (λ (came : Bool). Steps c.args.script.now c.as_slice.result.now came c.play_all.new.self) yes steps) in
    let outputs : c.play_all.new.self.log.outputs ≡ c.into_outputs.result.items = search rules in
    finished_run c.args.script.now c.requires c.play_all.new.self finished ∙ ap (λ items. Ok items) outputs

-- What the limits of a script say, and One-address of its network.
use Rattle.std.proofs.Common.{◌≡◌, ℕ, zero, suc, ◌<◌, List, [], ◌∷◌, length, refl, sym, ap, arith, Bool, true, false, ◌∙◌, subst, Option, None, Some}
use Rattle.std.specs.Prelude.{◌==◌, ◌&&◌, not, All, IfSome, if◌then◌else◌, nat_le, nat_lt}
use Rattle.std.specs.List.{list_all}
use Rattle.std.proofs.lemmas.Bool.Decides.{nat_tests}
use Rattle.dhcp4_server.specs.Config.{IsTyped, is_lawful}
use Rattle.dhcp4_net.specs.Clients.{HaveDistinctIds, IsTypedClient, client_at, net_of, xid_of}
use Rattle.std.specs.Prelude.{IfOk, ok_or, option_map, Result, Ok, Err}
use Rattle.std.specs.Global.{Vec}
use Rattle.dhcp_wire.specs.Error.{ErrorParts}
use Rattle.dhcp_wire.specs.Outcome.{Gives}
use Rattle.dhcp_wire.specs.declared.error.ErrorKind.{ErrorKind}
use Rattle.dhcp_wire.specs.declared.error.ErrorKind.TheVariants.{InvalidArgument}
use Rattle.dhcp4_net.specs.Net.{Log, Net}
use Rattle.dhcp4_net.specs.Running.{StepsTo}
use Rattle.dhcp4_net.specs.declared.output.NetOutput.{NetOutput}
use Rattle.dhcp4_net.specs.declared.running.RunningNet.{RunningNet}
use Rattle.dhcp4_net.specs.OneAddress.{OneAddress, OneHolder}
use Rattle.dhcp4_net.specs.Script.{IsWithin, are_distinct, configs_of, has_id, is_early, is_within_limits, net_at_end, outputs_at_end}
use Rattle.dhcp4_net.specs.declared.script.NetClient.{NetClient}
use Rattle.dhcp4_net.specs.declared.script.NetScript.{NetScript}
use Rattle.dhcp4_net.proofs.AnswerLemmas.{both_true}
use Rattle.dhcp4_net.proofs.NetLemmas.{keeps_one_address, keeps_one_holder}

-- what six tests say that all pass
six : (a b c d e f : Bool) → (a && b && c && d && e && f) ≡ true → (a ≡ true) × (d ≡ true) × (e ≡ true) × (f ≡ true)
six false b c d e f is = absurd (cc is)
six true false c d e f is = absurd (cc is)
six true true false d e f is = absurd (cc is)
six true true true false e f is = absurd (cc is)
six true true true true false f is = absurd (cc is)
six true true true true true false is = absurd (cc is)
six true true true true true true is = (refl, refl, refl, refl)

pub within_limits : (script : NetScript) → is_within_limits script ≡ true → IsWithin script
unfolding is_within_limits
within_limits script is =
    let tests : (is_lawful script.server ≡ true) × (are_distinct script.clients ≡ true) × (nat_le (length script.events) 20000 ≡ true) × (list_all is_early script.events ≡ true) =
    six (is_lawful script.server) (nat_lt 0 (length script.clients)) (nat_le (length script.clients) 64) (are_distinct script.clients) (nat_le (length script.events) 20000) (list_all is_early script.events) is in
    record { within = is; lawful = tests.0; distinct = tests.1; few = grind (arith, nat_tests); early = tests.3 }

-- an id that is not among clients is that of none of them
not_among : (xid : ℕ) (clients : List NetClient) (number : ℕ) → has_id xid clients ≡ false → number < length clients → xid_of (client_at clients number) ≡ xid → ⊥
not_among xid [] number none inside same = omega (arith, inside)
not_among xid (client ∷ clients) number none inside same = go (xid_of client == xid) refl number inside same (λ rest number inside same. not_among xid clients number rest inside same)
  where
    go : (test : Bool) → (xid_of client == xid) ≡ test → (number : ℕ) → number < length (client ∷ clients) → xid_of (client_at (client ∷ clients) number) ≡ xid →
        (has_id xid clients ≡ false → (number : ℕ) → number < length clients → xid_of (client_at clients number) ≡ xid → ⊥) → ⊥
    go true t number inside same later = cc (rw t at none)
    go false t zero inside same later = grind (arith, nat_tests)
    go false t (suc number) inside same later = later (rw t at none) number (omega (arith, inside)) same

not_true : (test : Bool) → not test ≡ true → test ≡ false
not_true true is = absurd (cc is)
not_true false is = refl

-- the first client has no id of a later one, and the later ones differ
first_differs : (client : NetClient) (clients : List NetClient) → are_distinct (client ∷ clients) ≡ true → (has_id (xid_of client) clients ≡ false) × (are_distinct clients ≡ true)
first_differs client clients is =
    let both : (not (has_id (xid_of client) clients) ≡ true) × (are_distinct clients ≡ true) = both_true (not (has_id (xid_of client) clients)) (are_distinct clients) is in
    (not_true (has_id (xid_of client) clients) both.0, both.1)

pub distinct_ids : (clients : List NetClient) → are_distinct clients ≡ true → HaveDistinctIds clients
distinct_ids [] is one other a b same = absurd (omega (arith, a))
distinct_ids (client ∷ clients) is zero zero a b same = refl
distinct_ids (client ∷ clients) is zero (suc other) a b same = absurd (not_among (xid_of client) clients other (first_differs client clients is).0 (omega (arith, b)) (sym same))
distinct_ids (client ∷ clients) is (suc one) zero a b same = absurd (not_among (xid_of client) clients one (first_differs client clients is).0 (omega (arith, a)) same)
distinct_ids (client ∷ clients) is (suc one) (suc other) a b same = ap suc (distinct_ids clients (first_differs client clients is).1 one other (omega (arith, a)) (omega (arith, b)) same)

-- the network after the events of a script that is within its limits
at_end : (script : NetScript) → is_within_limits script ≡ true → net_at_end script ≡ net_of script.server script.clients script.start script.events
unfolding net_at_end
at_end script is = ap (λ (test : Bool). if test then net_of script.server script.clients script.start script.events else None) is

if_ends : (end : Option Net) (P : Net → Type 0) → ((net : Net) → end ≡ Some net → P net) → IfSome end P
if_ends None P holds = tt
if_ends (Some net) P holds = holds net refl

module _ (script : NetScript) (is : is_within_limits script ≡ true) (typed : IsTyped script.server) (clients : All IsTypedClient script.clients) where
  within : IsWithin script
  within = within_limits script is

  pub ends_with_one_address : IfSome (net_at_end script) (λ net. OneAddress net.outputs)
  ends_with_one_address =
      subst (λ (end : Option Net). IfSome end (λ net. OneAddress net.outputs)) (sym (at_end script is))
      (if_ends (net_of script.server script.clients script.start script.events) (λ net. OneAddress net.outputs)
      (λ net ends. keeps_one_address script.server typed within.lawful script.clients clients (distinct_ids script.clients within.distinct) script.start script.events net ends))

  pub ends_with_one_holder : IfSome (net_at_end script) (OneHolder (length script.clients))
  ends_with_one_holder =
      subst (λ (end : Option Net). IfSome end (OneHolder (length script.clients))) (sym (at_end script is))
      (if_ends (net_of script.server script.clients script.start script.events) (OneHolder (length script.clients))
      (λ net ends. keeps_one_holder script.server typed within.lawful script.clients clients (distinct_ids script.clients within.distinct) script.start script.events net ends))

-- a script that is not within its limits has no network at its end
pub no_end : (script : NetScript) → is_within_limits script ≡ false → net_at_end script ≡ None
unfolding net_at_end
no_end script is = ap (λ (test : Bool). if test then net_of script.server script.clients script.start script.events else None) is

pub invalid_without : (script : NetScript) (error : ErrorParts) → net_at_end script ≡ None → error.kind ≡ InvalidArgument → ok_or (outputs_at_end script) InvalidArgument ≡ Err error.kind
invalid_without script error none kind =
    ap (λ (end : Option Net). ok_or (option_map (λ net. net.outputs) end) InvalidArgument) none ∙ ap (λ (one : ErrorKind). Err one) (sym kind)

-- what a network that runs through a script leaves
module _ (script : NetScript) (within : IsWithin script) where
  abbrev Steps : Bool → RunningNet → Option Net → Type 0
  Steps came running end = StepsTo script.server (configs_of script.clients) (length script.clients) (Ok came) running end

  abbrev whole : Option Net
  whole = net_of script.server script.clients script.start script.events

  pub refused_run : (running : RunningNet) → Steps false running whole → net_at_end script ≡ None
  refused_run running steps = at_end script within.within ∙ go whole steps
    where
      go : (end : Option Net) → Steps false running end → end ≡ None
      go None s = refl
      go (Some net) s = absurd s

  pub finished_run : (running : RunningNet) → Steps true running whole → ok_or (outputs_at_end script) InvalidArgument ≡ Ok running.log.outputs
  finished_run running steps =
      ap (λ (end : Option Net). ok_or (option_map (λ net. net.outputs) end) InvalidArgument) (at_end script within.within) ∙ go whole steps
    where
      go : (end : Option Net) → Steps true running end → ok_or (option_map (λ net. net.outputs) end) InvalidArgument ≡ Ok running.log.outputs
      go None s = absurd s
      go (Some net) s = ap (λ (log : Log). Ok log.outputs) (sym s.log)

-- what is returned keeps One-address, where the network at the end does
pub returned_address : (result : Result (Vec NetOutput) ErrorParts) (end : Option Net) → Gives (λ outputs. outputs.items) result (ok_or (option_map (λ net. net.outputs) end) InvalidArgument) →
    IfSome end (λ net. OneAddress net.outputs) → IfOk result (λ outputs. OneAddress outputs.items)
returned_address (Ok outputs) None gives holds = absurd (cc gives)
returned_address (Ok outputs) (Some net) gives holds = subst OneAddress (cc gives) holds
returned_address (Err error) end gives holds = tt

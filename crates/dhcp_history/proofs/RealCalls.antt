-- The calls of a manager over any link are a run.
use Rattle.std.proofs.Common.{◌≡◌, ℕ, List, [], ◌∷◌, ◌++◌, refl, ap, sym, subst, ◌∙◌, append_assoc}
use Rattle.std.specs.Prelude.{Option, Some, None, Result}
use Rattle.dhcp_clock.specs.declared.link.Packet.{Packet}
use Rattle.dhcp_clock.specs.declared.link.Handed.{Handed}
use Rattle.dhcp_clock.specs.Link.{Turn}
use Rattle.dhcp_clock.proofs.Taken.{leads_both}
use Rattle.dhcp_history.specs.declared.client.Client.{Client}
use Rattle.dhcp_history.specs.Protocol.{Protocol, Lawful}
use Rattle.dhcp_history.specs.Script.{Script}
use Rattle.dhcp_history.specs.declared.client.Standing.{Standing}
use Rattle.dhcp_history.specs.declared.machine.RunError.{RunError}
use Rattle.dhcp_history.specs.Machine.{View, PollEffect, first_view}
use Rattle.dhcp_history.specs.Client.{view_of, view_with, unpolled}
use Rattle.dhcp_history.specs.Run.{answer_of}
use Rattle.dhcp_history.specs.Traced.{Traces, IsPollBy}
use Rattle.dhcp_history.specs.RealRun.{Polled, NextAt, FollowedUp, Steady, events_of, once_of, run_from}
use Rattle.dhcp_history.specs.RealCalls.{Call, AreCalls, CallsLead, AreRun, NextCallAt, AgainAt, Disciplined, AreScript, script_of}
use Rattle.dhcp_history.proofs.Runs.{run_history}

module _ {PublicState State Exchange Answer Lease : Type 0} (p : Protocol PublicState Packet Handed State Exchange Answer Lease)
    {Source Link : Type 0} (gives : ℕ → Source → Source → Type 0) (moves : Turn → Link → Link → Type 0) where
  pub calls_are_run : (calls : List (Call PublicState)) (old : Client State Exchange) (words : Source) (link : Link) (new : Client State Exchange) (words' : Source) (link' : Link) →
      CallsLead p gives moves calls old words link new words' link' → AreRun p gives moves calls old words link new words' link'
  calls_are_run [] old words link new words' link' done = record {
    taken = [];
    turns = [];
    polls = [];
    drawn = done.1.0;
    moved = done.1.1;
    run = λ rest. (refl, ap (λ (client : Client State Exchange). view_of client rest) done.0);
  }
  calls_are_run (call ∷ calls) old words link new words' link' done =
      let client : Client State Exchange = done.0 in
      let source : Source = done.1.0 in
      let there : Link = done.1.1.0 in
      let one : Traces p gives moves call.moment call.answer old client words source link there = done.1.1.1.0 in
      let more : AreRun p gives moves calls client source there new words' link' = calls_are_run calls client source there new words' link' done.1.1.1.1 in
      let q : Polled = record { moment = call.moment; refuse = one.refuse; packet = one.packet } in
      record {
        taken = one.taken ++ more.taken;
        turns = one.turns ++ more.turns;
        polls = q ∷ more.polls;
        drawn = leads_both gives one.taken more.taken words source words' one.drawn more.drawn;
        moved = leads_both moves one.turns more.turns link there link' one.moved more.moved;
        run = λ rest.
            let whole : View State Exchange = view_of old ((one.taken ++ more.taken) ++ rest) in
            let is : IsPollBy p call.moment one.refuse one.packet one.turns call.answer whole (view_of client (more.taken ++ rest)) =
            subst (λ (ws : List ℕ). IsPollBy p call.moment one.refuse one.packet one.turns call.answer (view_of old ws) (view_of client (more.taken ++ rest)))
            (sym (append_assoc one.taken more.taken rest)) (one.polled (more.taken ++ rest)) in (
              refl,
              (
                is.answer,
                (
                  is.took,
                  (
                    more.turns,
                    (
                      ap (λ (done : List Turn). done ++ more.turns) is.turns,
                      subst (λ (view : View State Exchange). AreCalls p calls more.polls more.turns view (view_of new rest)) is.client (more.run rest),
                    ),
                  ),
                ),
              ),
            );
      }

  -- a run that is polled again after each change is steady
  next_at : (moment : ℕ) (calls : List (Call PublicState)) (qs : List Polled) (turns : List Turn) (old new : View State Exchange) → AreCalls p calls qs turns old new → NextCallAt moment calls → NextAt moment qs
  next_at moment [] qs turns old new are comes = absurd comes
  next_at moment (call ∷ calls) [] turns old new are comes = absurd are
  next_at moment (call ∷ calls) (q ∷ qs) turns old new are comes = are.0 ∙ comes

  followed : (moment : ℕ) (calls : List (Call PublicState)) (qs : List Polled) (turns : List Turn) (once : PollEffect Packet Handed State Exchange) (old new : View State Exchange) → AreCalls p calls qs turns old new →
      AgainAt (answer_of p once) moment calls → (change : Option State) → once.change ≡ change → FollowedUp change moment qs
  followed moment calls qs turns once old new are again None e = tt
  followed moment calls qs turns once old new are again (Some next) e = next_at moment calls qs turns old new are (rw e at again)

  pub calls_steady : (calls : List (Call PublicState)) (qs : List Polled) (turns : List Turn) (old new : View State Exchange) → AreCalls p calls qs turns old new → Disciplined calls → Steady p old qs
  calls_steady [] [] turns old new are disciplined = tt
  calls_steady [] (q ∷ qs) turns old new are disciplined = absurd are
  calls_steady (call ∷ calls) [] turns old new are disciplined = absurd are
  calls_steady (call ∷ calls) (q ∷ qs) turns old new are disciplined =
      let once : PollEffect Packet Handed State Exchange = once_of p q old in
      let later : List Turn = are.1.1.1.0 in
      let more : AreCalls p calls qs later once.view new = are.1.1.1.1.1 in
      let again : AgainAt (answer_of p once) call.moment calls = subst (λ (answer : Result (Option PublicState) RunError). AgainAt answer call.moment calls) are.1.0 disciplined.0 in
      let follows : FollowedUp once.change call.moment qs = followed call.moment calls qs later once once.view new more again once.change refl in
      (are.1.1.0, (subst (λ (moment : ℕ). FollowedUp once.change moment qs) (sym are.0) follows, calls_steady calls qs later once.view new more disciplined.1))

  -- calls that begin with a client that was not polled yet, and that poll again after each change, are a script
  pub calls_are_script : Lawful p → (calls : List (Call PublicState)) (old : Client State Exchange) (words : Source) (link : Link) (new : Client State Exchange) (words' : Source) (link' : Link) →
      CallsLead p gives moves calls old words link new words' link' → Disciplined calls → old.standing ≡ unpolled old.standing.exchange →
      AreScript p gives moves calls old words link new words' link'
  calls_are_script lawful calls old words link new words' link' lead disciplined begins =
      let run : AreRun p gives moves calls old words link new words' link' = calls_are_run calls old words link new words' link' lead in
      record {
        are = run;
        reports = λ rest.
            let ws : List ℕ = run.taken ++ rest in
            let script : Script Packet State Exchange = script_of p old ws run.polls in
            let same : view_of old ws ≡ first_view script = ap (λ (standing : Standing Exchange). view_with old standing ws) begins in
            let steady : Steady p (view_of old ws) run.polls = calls_steady calls run.polls run.turns (view_of old ws) (view_of new rest) (run.run rest) disciplined in
            ap (λ (view : View State Exchange). (run_from p view run.polls).outputs) same
            ∙ run_history p lawful script run.polls (subst (λ (view : View State Exchange). Steady p view run.polls) same steady) (ap (λ (view : View State Exchange). events_of p view run.polls) same);
      }

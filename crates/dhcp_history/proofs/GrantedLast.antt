-- What a poll reports was granted by the packet that the link gave last.
use Rattle.std.proofs.Common.{◌≡◌, ℕ, Bool, true, List, [], ◌∷◌, ◌++◌, sym, ap, subst, ◌∙◌}
use Rattle.std.specs.Prelude.{Option, Some, None, Result, Ok, Err, IfOk, IfSome}
use Rattle.dhcp_wire.specs.Error.{ErrorParts}
use Rattle.dhcp_clock.specs.declared.link.Packet.{Packet}
use Rattle.dhcp_clock.specs.declared.link.Handed.{Handed}
use Rattle.dhcp_clock.specs.Leads.{Leads}
use Rattle.dhcp_clock.specs.Link.{Turn, Gives}
use Rattle.dhcp_history.specs.declared.client.Client.{Client}
use Rattle.dhcp_history.specs.declared.machine.RunError.{RunError}
use Rattle.dhcp_history.specs.Client.{view_of}
use Rattle.dhcp_history.specs.Errors.{run_answer}
use Rattle.dhcp_history.specs.HeardBy.{IsGrantedLast}
use Rattle.dhcp_history.specs.Machine.{View, poll}
use Rattle.dhcp_history.specs.Protocol.{Protocol}
use Rattle.dhcp_history.specs.Run.{UnlessNoMemory, input_of}
use Rattle.dhcp_history.specs.Traced.{IsPollBy, Traces, asked, asks, made}

-- the turn that gave the packet comes last
gave : (earlier turns : List Turn) (asks : Bool) (packet : Option Packet) (heard : Packet) → turns ≡ earlier ++ asked asks packet → asks ≡ true → packet ≡ Some heard →
    turns ≡ earlier ++ Gives (Some heard) ∷ []
gave earlier turns asks packet heard are is given =
    are ∙ (ap (λ (b : Bool). earlier ++ asked b packet) is ∙ ap (λ (packet : Option Packet). earlier ++ Gives packet ∷ []) given)

module _ {PublicState State Exchange Answer Lease : Type 0} (p : Protocol PublicState Packet Handed State Exchange Answer Lease) (now : ℕ)
    (Grants : Bool → Option Packet → View State Exchange → Type 0) where
  -- what grants is a packet that the link was asked for, and gave
  pub record IsHeardPacket (refuse : Bool) (packet : Option Packet) (old : View State Exchange) : Type 0 where
    pub heard : Packet
    pub asked : asks p now refuse old ≡ true
    pub given : packet ≡ Some heard

  pub granted_last : {Source Link : Type 0} (gives : ℕ → Source → Source → Type 0) (moves : Turn → Link → Link → Type 0) (reported : PublicState) (old new : Client State Exchange) (words words' : Source) (link link' : Link) →
      ((refuse : Bool) (packet : Option Packet) (turns : List Turn) (rest : List ℕ) (before : View State Exchange) → IsPollBy p now refuse packet turns (Ok (Some reported)) before (view_of new rest) → Grants refuse packet before) →
      ((refuse : Bool) (packet : Option Packet) (before : View State Exchange) → Grants refuse packet before → IsHeardPacket refuse packet before) →
      Traces p gives moves now (Ok (Some reported)) old new words words' link link' → IsGrantedLast gives moves Grants old words words' link link'
  granted_last gives moves reported old new words words' link link' law hears t =
      let before : List ℕ → View State Exchange = λ rest. view_of old (t.taken ++ rest) in
      let granted : (rest : List ℕ) → Grants t.refuse t.packet (before rest) = λ rest. law t.refuse t.packet t.turns rest (before rest) (t.polled rest) in
      let first : IsHeardPacket t.refuse t.packet (before []) = hears t.refuse t.packet (before []) (granted []) in
      let earlier : List Turn = made t.refuse (poll p now t.refuse (input_of t.packet) (before [])).handed in
      let turns : t.turns ≡ earlier ++ Gives (Some first.heard) ∷ [] = gave earlier t.turns _ t.packet first.heard (t.polled []).turns first.asked first.given in
      record {
        heard = first.heard;
        earlier = earlier;
        taken = t.taken;
        refuse = t.refuse;
        drawn = t.drawn;
        moved = subst (λ (turns : List Turn). Leads moves link turns link') turns t.moved;
        granted = λ rest. subst (λ (packet : Option Packet). Grants t.refuse packet (before rest)) first.given (granted rest);
      }

-- a trace with an answer that is this one
pub traced_as : {PublicState State Exchange Answer Lease Source Link : Type 0} (p : Protocol PublicState Packet Handed State Exchange Answer Lease) (gives : ℕ → Source → Source → Type 0) (moves : Turn → Link → Link → Type 0) (now : ℕ)
    (answer given : Result (Option PublicState) RunError) (old new : Client State Exchange) (words words' : Source) (link link' : Link) → answer ≡ given →
    UnlessNoMemory given (Traces p gives moves now given old new words words' link link') → UnlessNoMemory answer (Traces p gives moves now answer old new words words' link link')
traced_as p gives moves now answer given old new words words' link link' same traced =
    subst (λ (answer' : Result (Option _) RunError). UnlessNoMemory answer' (Traces p gives moves now answer' old new words words' link link')) (sym same) traced

-- A state that a poll reports with a lease: what the client's law says of the poll was granted by the packet that the link gave last.
module _ {PublicState State Exchange Answer Lease Reported : Type 0} (p : Protocol PublicState Packet Handed State Exchange Answer Lease) (now : ℕ) (plain : Reported → PublicState) (with_lease : Lease → PublicState)
    (Grants : Lease → Bool → Option Packet → View State Exchange → Type 0)
    (law : (refuse : Bool) (packet : Option Packet) (turns : List Turn) (lease : Lease) (old new : View State Exchange) → IsPollBy p now refuse packet turns (Ok (Some (with_lease lease))) old new → with_lease lease ≡ p.public_state new.state →
    Grants lease refuse packet old)
    (hears : (lease : Lease) (refuse : Bool) (packet : Option Packet) (old : View State Exchange) → Grants lease refuse packet old → IsHeardPacket p now (Grants lease) refuse packet old)
    {Source Link : Type 0} (gives : ℕ → Source → Source → Type 0) (moves : Turn → Link → Link → Type 0) (old new : Client State Exchange) (words words' : Source) (link link' : Link) where
  abbrev IsGrantedIf : Result (Option Reported) ErrorParts → Type 0
  IsGrantedIf result = IfOk result (λ change. IfSome change (λ state. (lease : Lease) → plain state ≡ with_lease lease → IsGrantedLast gives moves (Grants lease) old words words' link link'))

  granted : (result : Result (Option Reported) ErrorParts) → UnlessNoMemory (run_answer plain result) (Traces p gives moves now (run_answer plain result) old new words words' link link') →
      IfOk (run_answer plain result) (λ change. IfSome change (λ reported. reported ≡ p.public_state new.state)) → IsGrantedIf result
  granted (Err error) traced reported = tt
  granted (Ok None) traced reported = tt
  granted (Ok (Some state)) traced reported = λ lease is.
      granted_last p now (Grants lease) gives moves (plain state) old new words words' link link'
      (λ refuse packet turns rest before polled.
      law refuse packet turns lease before (view_of new rest) (subst (λ (s : PublicState). IsPollBy p now refuse packet turns (Ok (Some s)) before (view_of new rest)) is polled) (sym is ∙ reported))
      (hears lease) traced

  pub granted_by : (result : Result (Option Reported) ErrorParts) (answer : Result (Option PublicState) RunError) → run_answer plain result ≡ answer →
      UnlessNoMemory answer (Traces p gives moves now answer old new words words' link link') → IfOk answer (λ change. IfSome change (λ reported. reported ≡ p.public_state new.state)) → IsGrantedIf result
  granted_by result answer is traced reported =
      granted result (traced_as p gives moves now (run_answer plain result) answer old new words words' link link' is traced)
      (subst (λ (answer' : Result (Option PublicState) RunError). IfOk answer' (λ change. IfSome change (λ reported'. reported' ≡ p.public_state new.state))) (sym is) reported)

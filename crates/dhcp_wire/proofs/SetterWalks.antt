-- A setter that calls its step and makes its answer of the step's by `setter_answer`, as a lemma over the type and the parameters.
--     HandsOn      what a type has so that its setters can hand on its reference
--     setter1, setter2, setter3      a setter of one, two or three parameters beside `self` meets its clauses, where its step meets the same
--                                    clauses at what is handed on.        allocator, number, text, bytes      the kinds of parameters
use Prim.Native.Nat.{ℕ, suc}
use mathlib.Core.Path.{◌≡◌, refl}
use mathlib.Core.List.{List, [], ◌∷◌, not-mem-nil}
use lib.Dec.{T}
use lib.ListN.{length}
use seplogic.Ra.Ura.{Ura}
use base.Fml.{Fml, Lft, Share, flft, fsep, ftrue}
use base.Fraction.{full_share}
use base.Logic.{emp, id⊢}
use contract.Lifetimes.{toks}
use contract.BorrowLft.{◌⊑◌}
use contract.Monad.{fact, fact_i}
use contract.Running.{Running, tables}
use mir.Raw.{raw as raw_ty}
use mir.Syntax.{a_type, Body, Callee, Fn, Local, Opd, Place, addr_of, assign, call, copy, deref, erased, local, mut, named, place, return, seq, ty_ref, value_local}
use mir.Val.{Val}
use prog.Erase.{raw-raw}
use prog.Model.{Model}
use prog.Wired.{Wired}
use prog.Wp.{Closed, Env, Loops}
use types.ByLocal.{alloc_all, free_all, get, lands_as, look_at, pass_all, sets, through}
use types.Kit.{◌$◌, ◌∵◌, !, ◌⊛◌, ‵, Goal, Item, Post, Seq, Soaks, await, done, drop, fjoin, join, lands, later, move, pick, qed, raw, rewrite, runs, some, split, suffices, use0, use1, use2}
use types.Logic.{Logic}
use types.Run.{Opds, addr, and_then, enter, no_more, returns, stop}
use denote.Exit.{yes}
use denote.Laws.{Is, Typed, shows}
use denote.Param.{arg, layout, layouts, param}
use denote.Param.Laws.{Laws, arg_laws, is_one, of_field, param_laws, row_shared}
use denote.Param.Shared.{mut_ref_shared}
use denote.RattleType.{RattleType}
use denote.Ref.{MutRef, NamedLft}
use denote.Signature.{plain, type_at}
use denote.Steps.{heard, nothing, peeks}
use denote.Struct.Field.{Field, mut_ref_field}
use denote.Struct.Laws.{mut_ref_laws}
use denote.Triple.Bound.{Bound}
use denote.Triple.Call.{calls_at}
use denote.Triple.Clauses.{Clauses, Ended, Lasts, at_exit, closing, lasts}
use denote.Triple.Entry.{Res, alive}
use denote.Triple.Spec.{Meets, triple_of}
use denote.Triple.Table.{framed}
use denote.Triple.Walked.{has_of}
use Rattle.std.proofs.raw_atomic.Walks.{leaves, proved}
use Rattle.std.specs.contracts.result.Result.{the_row as Result}
use Rattle.std.proofs.result.Result.TheLaws.{the_row_laws as result_laws}
use Rattle.dhcp_wire.specs.Setter.{setter_answer}
use Rattle.dhcp_wire.specs.contracts.setter.SetterStep.{the_row as SetterStep}
use Rattle.dhcp_wire.specs.contracts.error.DhcpError.{the_row as DhcpError}
use Rattle.dhcp_wire.specs.contracts.setter.setter_answer as handing
use Rattle.dhcp_wire.proofs.setter.setter_answer.Met.{met}
use Rattle.dhcp_wire.proofs.setter.setter_answer.Symbol as symbol
use Rattle.dhcp_wire.proofs.error.DhcpError.TheLaws.{the_row_laws as error_laws}
use Rattle.dhcp_wire.proofs.setter.SetterStep.TheLaws.{the_row_laws as chain_laws}
use Rattle.dhcp_wire.proofs.Passing.{Passed, all_go, all_tell, fit, kepts, lent, nothing_asked, nothing_had, slots, spells, stays, values}
pub use mir.Syntax.{w16, w32, w64, w8}
pub use Rattle.dhcp_wire.proofs.Passing.{allocator, bytes, number, text}

-- ---- what a step and a setter answer, of a type of the row R, for the lifetime κ
abbrev lent_for : Lft → NamedLft
lent_for κ = record { mir = named 0; lft = κ }

abbrev Step : RattleType → Lft → RattleType
Step R κ = Result (SetterStep (lent_for κ) R) DhcpError

abbrev Answer : RattleType → Lft → RattleType
Answer R κ = Result (MutRef (named 0) κ R) DhcpError

module _ (R : RattleType) (R-laws : Laws R) (κ : Lft) where
  step_laws : Laws (Step R κ)
  step_laws = result_laws (SetterStep (lent_for κ) R) DhcpError (chain_laws (lent_for κ) R R-laws) error_laws

  abbrev reference : Field
  reference = mut_ref_field (lent_for κ) R (is_one R R-laws)

  answer_laws : Laws (Answer R κ)
  answer_laws = result_laws reference.row DhcpError
      (of_field reference (mut_ref_laws (lent_for κ) R (is_one R R-laws)) refl (mut_ref_shared (lent_for κ) R (is_one R R-laws) (row_shared R R-laws)))
      error_laws

-- R as a call gives it to a generic function, and as that function takes it
abbrev given : RattleType → RattleType
given R = arg (raw_ty (layout R)) yes R

given_laws : (R : RattleType) → Laws R → Laws (given R)
given_laws R laws = arg_laws (raw_ty (layout R)) yes R laws (raw-raw (layout R))

abbrev taken : RattleType → RattleType
taken R = param 0 (given R)

-- What a type has so that its setters can hand on its reference: the laws, that it holds no reference, and that a generic function owns
-- the same of it. At a struct without lifetimes these are the laws of its own proofs, `λ a m. m` and `refl`.
pub record HandsOn (R : RattleType) : Type 2 where
  pub laws : Laws R
  pub lives : [] ⊑ R.lives
  pub step_owned : (κ : Lft) → (Step R κ).own_val ≡ (Step (taken R) κ).own_val
  pub answer_owned : (κ : Lft) → (Answer (taken R) κ).own_val ≡ (Answer R κ).own_val

module _ {M : Type 1} {𝓤 : Ura M} {𝓛 : Logic 𝓤} {K : Type 0} {Γ : List (Item 𝓤)} {G : Goal 𝓤 𝓛.H} where
  -- a call has returned: there are its answer, which is of its type, what its contract ensures, and the tokens
  answered : K → Soaks G → (T : Ended) (c : Clauses 𝓤 T) (y : (triple_of 𝓛 T.signature (closing 𝓛 T c)).Ghost) (v : Val)
      → Laws (type_at T.signature.result y.0.0)
      → ((r : Res T.signature y.0.0) (ws : Lasts T y.0.0 y.0.3) → Typed (type_at T.signature.result y.0.0).mir (v ∷ [])
      → Seq K 𝓛 (‵ ((type_at T.signature.result y.0.0).own_val r (v ∷ [])) ∷ raw ((c y.0.0 y.0.3).ensures y.1 r (at_exit T y.0.0 y.0.3 ws))
      ∷ raw (alive 𝓛 T.signature y.0.0 y.0.1) ∷ Γ) G)
      → Seq K 𝓛 (raw ((triple_of 𝓛 T.signature (closing 𝓛 T c)).post y v) ∷ Γ) G
  answered t soaks T c y v laws k =
      let R = type_at T.signature.result y.0.0 in
      use1 𝓛 (later (some (λ (r : Res T.signature y.0.0). (raw (alive 𝓛 T.signature y.0.0 y.0.1) ⊛ ‵ (R.own_val r (v ∷ []))) ⊛
      some (λ (ws : Lasts T y.0.0 y.0.3). ‵ (lasts T y.0.0 y.0.3 ws) ⊛ raw ((c y.0.0 y.0.3).ensures y.1 r (at_exit T y.0.0 y.0.3 ws)))))) (id⊢ 𝓤 _) $
      await t soaks $ pick t (λ r. split t $ split t $ move t (2 ∷ []) $ pick t (λ ws. split t $ drop t $ move t (2 ∷ []) $
      peeks t R (Is R) (shows 𝓛 R) r (v ∷ []) (λ is. k r ws ((laws.lawful 𝓛).typed r (v ∷ []) is))))

-- the call of `setter_answer`, which makes a setter's answer of its step's. It has a second lifetime, for which R lives: here the longest.
module _ {R : RattleType} (D : HandsOn R) where
  abbrev hand : Callee
  hand = symbol.name (layouts (a_type ∷ []) (given R, tt))

  abbrev Asked : {M : Type 1} {𝓤 : Ura M} (𝓛 : Logic 𝓤) (κ : Lft) (s : Share) (r : (Step R κ).Denot) (v : Val) → Bound 𝓛 (handing.signature (given R)) × Unit {0}
  Asked 𝓛 κ s r v = (((κ, ([], tt)), (s, (full_share, tt)), ((λ x m. absurd (not-mem-nil m)), tt), (r, tt), (v ∷ [], tt)), tt)

  module _ {M : Type 1} {𝓤 : Ura M} (𝓛 : Logic 𝓤) (𝓜 : Model 𝓤 𝓛.H) (𝓡 : Running 𝓤 𝓛.H 𝓜) (wired : Wired 𝓡.env symbol.code) {K : Type 0}
      {Γ : List (Item 𝓤)} {E : Env 𝓤 𝓛.H} {Λ : Loops 𝓤 𝓛.H} {q : Post 𝓤 𝓛.H} {d : Place} {rest : Body} {xs : List Opd}
      {Ensured Others : Item 𝓤} where
    -- Ensured is what the step ensures of its answer r, and Others are the tokens of the other lifetimes: both stay
    hands_on : K → (κ : Lft) (s : Share) (r : (Step R κ).Denot) (v : Val)
        → Opds K 𝓛 (raw ((triple_of 𝓛 (handing.signature (given R)) (handing.spec (given R) 𝓛 𝓜.mem 𝓡.returns)).pre (Asked 𝓛 κ s r v))
        ∷ Others ∷ Ensured ∷ Γ) E xs (v ∷ [])
        → ((v' : Val) → Typed (Answer R κ).mir (v' ∷ [])
        → Seq K 𝓛 (‵ ((Answer R κ).own_val (setter_answer r) (v' ∷ [])) ∷ Ensured ∷ (‵ (flft κ s) ⊛ Others) ∷ Γ)
        (lands (tables 𝓤 𝓛.H 𝓜 𝓡 𝓡.env).C Λ E d v' rest q))
        → Seq K 𝓛 (‵ ((Step R κ).own_val r (v ∷ [])) ∷ Ensured ∷ (‵ (flft κ s) ⊛ Others) ∷ Γ)
        (runs (tables 𝓤 𝓛.H 𝓜 𝓡 𝓡.env).C Λ E (seq (call hand xs d) rest) q)
    hands_on t κ s r v operands k =
        let H = triple_of 𝓛 (handing.signature (given R)) (handing.spec (given R) 𝓛 𝓜.mem 𝓡.returns) in
        let z : H.Ghost = Asked 𝓛 κ s r v in
        rewrite t 0 (λ (f : (Step R κ).Denot → List Val → Fml). ‵ (f r (v ∷ []))) (D.step_owned κ) refl $
        move t (2 ∷ []) $ split t $ nothing t $ use0 𝓛 (‵ (flft [] full_share)) (𝓛.lfts.lft-nil full_share) $ fjoin t $
        move t (1 ∷ 0 ∷ []) $ join t $
        -- [the tokens; the other tokens; the step's answer; what it ensures]
        nothing t $ move t (3 ∷ 0 ∷ []) $ fjoin t $ move t (1 ∷ 0 ∷ []) $ join t $
        nothing t $ use0 𝓛 (raw (fact 𝓤 ([] ⊑ R.lives))) (fact_i 𝓤 ([] ⊑ R.lives) (emp 𝓤) D.lives) $ join t $
        move t (1 ∷ 0 ∷ []) $ use2 𝓛 (raw (H.pre z)) (id⊢ 𝓤 (H.pre z)) $
        calls_at t (framed 𝓤 𝓛.H 𝓜 (tables 𝓤 𝓛.H 𝓜 𝓡 𝓡.env)) H (met 𝓤 𝓛 𝓜 𝓡 wired (given R) (given_laws R D.laws)) z operands (λ v'.
        answered t tt (handing.ended (given R)) (handing.clauses (given R) 𝓛 𝓜.mem 𝓡.returns) z v' (answer_laws (taken R) (param_laws 0 (given R) (given_laws R D.laws)) κ) (λ r' ws fits.
        -- [the setter's answer; that it is what the definition says; the tokens; the other tokens; what the step ensures]
        move t (1 ∷ []) $ heard t _ (λ same.
        rewrite t 0 (λ (f : (Answer R κ).Denot → List Val → Fml). ‵ (f r' (v' ∷ []))) (D.answer_owned κ) refl $
        rewrite t 0 (λ (x : (Answer R κ).Denot). ‵ ((Answer R κ).own_val x (v' ∷ []))) same refl $
        move t (1 ∷ []) $ use1 𝓛 (‵ (flft κ s) ⊛ ‵ (fsep (flft [] full_share) ftrue)) (id⊢ 𝓤 _) $ split t $ move t (1 ∷ []) $ drop t $
        move t (0 ∷ 2 ∷ []) $ join t $ move t (1 ∷ 2 ∷ 0 ∷ []) $ k v' fits)))

-- ---- the setter, of the lifetimes m + 1
module _ {M : Type 1} {𝓤 : Ura M} (𝓛 : Logic 𝓤) {R : RattleType} (D : HandsOn R) {m : ℕ} where
  abbrev all_of : List (Passed 𝓛 (suc m)) → List (Passed 𝓛 (suc m))
  all_of ps = lent 𝓛 R (is_one R D.laws) R.written.ty tt ∷ ps

  abbrev ended_of : (Lft → RattleType) → List (Passed 𝓛 (suc m)) → Ended
  ended_of Q ps = record {
    signature = record { lifetimes = suc m; outlives = []; params = slots 𝓛 (all_of ps); result = plain (λ κs. Q κs.0) };
    kept = kepts 𝓛 (all_of ps);
  }

  -- the clauses of the step: the setter's, at what is handed on
  abbrev stepped : (ps : List (Passed 𝓛 (suc m))) → Clauses 𝓤 (ended_of (Answer R) ps) → Clauses 𝓤 (ended_of (Step R) ps)
  stepped ps c κs a = record {
    ghost = (c κs a).ghost;
    requires = (c κs a).requires;
    ensures = λ g r e. (c κs a).ensures g (setter_answer r) e;
  }

  abbrev locals_of : List (Passed 𝓛 (suc m)) → List Local → List Local
  locals_of [] ls = ls
  locals_of (p ∷ ps) ls = local p.ty value_local ∷ locals_of ps ls

  abbrev operands_of : ℕ → List (Passed 𝓛 (suc m)) → List Opd
  operands_of i [] = []
  operands_of i (p ∷ ps) = copy (place i []) ∷ operands_of (suc i) ps

  abbrev setter_fn : List (Passed 𝓛 (suc m)) → Callee → Fn
  setter_fn ps step = let k = length ps in record {
    lifetimes = suc m;
    outlives = [];
    ty_params = [];
    givens = 0;
    params = suc k;
    locals = local (layout (Answer R [])) value_local ∷ local (ty_ref (named 0) mut R.written.ty) value_local
        ∷ locals_of ps (local (layout (Result (SetterStep (record { mir = erased; lft = [] }) R) DhcpError)) value_local ∷ local (ty_ref erased mut R.written.ty) value_local ∷ []);
    body = seq (assign (place (suc (suc (suc k))) []) (addr_of (place 1 (deref (layout R) ∷ []))))
        (seq (call step (copy (place (suc (suc (suc k))) []) ∷ operands_of 2 ps) (place (suc (suc k)) []))
        (seq (call (hand D) (copy (place (suc (suc k)) []) ∷ []) (place 0 [])) return));
  }

  module _ (𝓜 : Model 𝓤 𝓛.H) (𝓡 : Running 𝓤 𝓛.H 𝓜) (hands : Wired 𝓡.env symbol.code) where
    abbrev Lemma : Callee → Callee → List (Passed 𝓛 (suc m)) → Type 2
    Lemma name step ps = (c : Clauses 𝓤 (ended_of (Answer R) ps)) → Closed 𝓤 𝓛.H (tables 𝓤 𝓛.H 𝓜 𝓡 𝓡.env).C (tables 𝓤 𝓛.H 𝓜 𝓡 𝓡.env).Λ name (setter_fn ps step)
        → Meets 𝓛 (ended_of (Step R) ps).signature (𝓡.run (𝓡.env step)) (closing 𝓛 (ended_of (Step R) ps) (stepped ps c))
        → Meets 𝓛 (ended_of (Answer R) ps).signature ((tables 𝓤 𝓛.H 𝓜 𝓡 𝓡.env).C name) (closing 𝓛 (ended_of (Answer R) ps) c)

    pub setter1 : {name step : Callee} (p : Passed 𝓛 (suc m)) → Lemma name step (p ∷ [])
    setter1 {name} {step} p c closed met =
        let ps : List (Passed 𝓛 (suc m)) = all_of (p ∷ []) in let T = ended_of (Answer R) (p ∷ []) in let T' = ended_of (Step R) (p ∷ []) in
        let c' = stepped (p ∷ []) c in let G = triple_of 𝓛 T'.signature (closing 𝓛 T' c') in
        proved 𝓛 T (stays 𝓛 ps) c 𝓜 𝓡 (all_go 𝓛 ps) name (setter_fn (p ∷ []) step) closed
        (λ κs. spells 𝓛 κs ps) (λ κs. all_tell 𝓛 κs ps) (λ κs qs bounds a g are.
        let z : G.Ghost = ((κs, qs, bounds, a, values 𝓛 κs ps a), g) in
        qed 𝓛 (raw (G.pre z) ∷ []) ∵ enter ! _ _ _ _ _ $ alloc_all ! (λ l. pass_all ! refl (fit 𝓛 κs ps a are) $
        sets ! (addr ! (through ! refl (stop !))) refl (tt, tt) $
        calls_at ! (framed 𝓤 𝓛.H 𝓜 (tables 𝓤 𝓛.H 𝓜 𝓡 𝓡.env)) G met z (and_then ! (get ! refl) (and_then ! (get ! refl) (no_more !))) (λ v.
        answered ! tt T' c' z v (step_laws R D.laws κs.0) (λ r' ws fits. lands_as ! refl refl fits.0 $
        -- [the step's answer; what it ensures; the tokens]
        move ! (2 ∷ []) $ use1 𝓛 (‵ (flft κs.0 qs.0) ⊛ raw (toks 𝓛 m κs.1 qs.1)) (id⊢ 𝓤 _) $ move ! (1 ∷ 2 ∷ 0 ∷ []) $
        hands_on D 𝓛 𝓜 𝓡 hands ! κs.0 qs.0 r' v (and_then ! (get ! refl) (no_more !)) (λ v' fits'.
        lands_as ! refl refl fits'.0 $ returns ! (look_at ! 0 refl) $ free_all ! refl $
        suffices ! _ (leaves 𝓛 T (stays 𝓛 ps) c z v' (setter_answer r') ws (nothing_asked 𝓛 κs ps a ws)) $
        use0 𝓛 (‵ (has_of κs T.signature.params T.kept (stays 𝓛 ps) a ws z.0.4)) (nothing_had 𝓛 κs ps a ws z.0.4) $
        -- [nothing of the parameters; the answer; what is ensured; the tokens]
        move ! (3 ∷ 0 ∷ 1 ∷ []) $ done !)))))

    pub setter2 : {name step : Callee} (p q : Passed 𝓛 (suc m)) → Lemma name step (p ∷ q ∷ [])
    setter2 {name} {step} p q c closed met =
        let ps : List (Passed 𝓛 (suc m)) = all_of (p ∷ q ∷ []) in let T = ended_of (Answer R) (p ∷ q ∷ []) in let T' = ended_of (Step R) (p ∷ q ∷ []) in
        let c' = stepped (p ∷ q ∷ []) c in let G = triple_of 𝓛 T'.signature (closing 𝓛 T' c') in
        proved 𝓛 T (stays 𝓛 ps) c 𝓜 𝓡 (all_go 𝓛 ps) name (setter_fn (p ∷ q ∷ []) step) closed
        (λ κs. spells 𝓛 κs ps) (λ κs. all_tell 𝓛 κs ps) (λ κs qs bounds a g are.
        let z : G.Ghost = ((κs, qs, bounds, a, values 𝓛 κs ps a), g) in
        qed 𝓛 (raw (G.pre z) ∷ []) ∵ enter ! _ _ _ _ _ $ alloc_all ! (λ l. pass_all ! refl (fit 𝓛 κs ps a are) $
        sets ! (addr ! (through ! refl (stop !))) refl (tt, tt) $
        calls_at ! (framed 𝓤 𝓛.H 𝓜 (tables 𝓤 𝓛.H 𝓜 𝓡 𝓡.env)) G met z (and_then ! (get ! refl) (and_then ! (get ! refl) (and_then ! (get ! refl) (no_more !)))) (λ v.
        answered ! tt T' c' z v (step_laws R D.laws κs.0) (λ r' ws fits. lands_as ! refl refl fits.0 $
        -- [the step's answer; what it ensures; the tokens]
        move ! (2 ∷ []) $ use1 𝓛 (‵ (flft κs.0 qs.0) ⊛ raw (toks 𝓛 m κs.1 qs.1)) (id⊢ 𝓤 _) $ move ! (1 ∷ 2 ∷ 0 ∷ []) $
        hands_on D 𝓛 𝓜 𝓡 hands ! κs.0 qs.0 r' v (and_then ! (get ! refl) (no_more !)) (λ v' fits'.
        lands_as ! refl refl fits'.0 $ returns ! (look_at ! 0 refl) $ free_all ! refl $
        suffices ! _ (leaves 𝓛 T (stays 𝓛 ps) c z v' (setter_answer r') ws (nothing_asked 𝓛 κs ps a ws)) $
        use0 𝓛 (‵ (has_of κs T.signature.params T.kept (stays 𝓛 ps) a ws z.0.4)) (nothing_had 𝓛 κs ps a ws z.0.4) $
        -- [nothing of the parameters; the answer; what is ensured; the tokens]
        move ! (3 ∷ 0 ∷ 1 ∷ []) $ done !)))))

    pub setter3 : {name step : Callee} (p q r : Passed 𝓛 (suc m)) → Lemma name step (p ∷ q ∷ r ∷ [])
    setter3 {name} {step} p q r c closed met =
        let ps : List (Passed 𝓛 (suc m)) = all_of (p ∷ q ∷ r ∷ []) in let T = ended_of (Answer R) (p ∷ q ∷ r ∷ []) in let T' = ended_of (Step R) (p ∷ q ∷ r ∷ []) in
        let c' = stepped (p ∷ q ∷ r ∷ []) c in let G = triple_of 𝓛 T'.signature (closing 𝓛 T' c') in
        proved 𝓛 T (stays 𝓛 ps) c 𝓜 𝓡 (all_go 𝓛 ps) name (setter_fn (p ∷ q ∷ r ∷ []) step) closed
        (λ κs. spells 𝓛 κs ps) (λ κs. all_tell 𝓛 κs ps) (λ κs qs bounds a g are.
        let z : G.Ghost = ((κs, qs, bounds, a, values 𝓛 κs ps a), g) in
        qed 𝓛 (raw (G.pre z) ∷ []) ∵ enter ! _ _ _ _ _ $ alloc_all ! (λ l. pass_all ! refl (fit 𝓛 κs ps a are) $
        sets ! (addr ! (through ! refl (stop !))) refl (tt, tt) $
        calls_at ! (framed 𝓤 𝓛.H 𝓜 (tables 𝓤 𝓛.H 𝓜 𝓡 𝓡.env)) G met z (and_then ! (get ! refl) (and_then ! (get ! refl) (and_then ! (get ! refl) (and_then ! (get ! refl) (no_more !))))) (λ v.
        answered ! tt T' c' z v (step_laws R D.laws κs.0) (λ r' ws fits. lands_as ! refl refl fits.0 $
        -- [the step's answer; what it ensures; the tokens]
        move ! (2 ∷ []) $ use1 𝓛 (‵ (flft κs.0 qs.0) ⊛ raw (toks 𝓛 m κs.1 qs.1)) (id⊢ 𝓤 _) $ move ! (1 ∷ 2 ∷ 0 ∷ []) $
        hands_on D 𝓛 𝓜 𝓡 hands ! κs.0 qs.0 r' v (and_then ! (get ! refl) (no_more !)) (λ v' fits'.
        lands_as ! refl refl fits'.0 $ returns ! (look_at ! 0 refl) $ free_all ! refl $
        suffices ! _ (leaves 𝓛 T (stays 𝓛 ps) c z v' (setter_answer r') ws (nothing_asked 𝓛 κs ps a ws)) $
        use0 𝓛 (‵ (has_of κs T.signature.params T.kept (stays 𝓛 ps) a ws z.0.4)) (nothing_had 𝓛 κs ps a ws z.0.4) $
        -- [nothing of the parameters; the answer; what is ensured; the tokens]
        move ! (3 ∷ 0 ∷ 1 ∷ []) $ done !)))))

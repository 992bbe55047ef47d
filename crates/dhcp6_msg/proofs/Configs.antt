-- Configurations, whose setters hand on their reference, and a list of option codes as a parameter of such a setter.
use Prim.Native.Nat.{ℕ, suc, zero}
use mathlib.Core.Path.{refl}
use mathlib.Core.List.{[], ◌∷◌}
use lib.ListN.{length}
use seplogic.Ra.Ura.{Ura}
use contract.Lifetimes.{Lfts, Within}
use mir.Syntax.{named}
use types.Logic.{Logic}
use denote.Builtin.{SliceRefOf, u16}
use denote.Exit.{yes}
use denote.Param.{layout}
use denote.Signature.{named_lft, plain}
use denote.Slice.{shr_slice_Lawful, shr_slice_Tells, slice_val}
use denote.Triple.Walked.{Goes-dropped}
use Rattle.dhcp_wire.proofs.Passing.{Passed}
use Rattle.dhcp_wire.proofs.SetterWalks.{HandsOn}
use Rattle.dhcp6_msg.specs.contracts.config.DhcpV6Config.{the_row}
use Rattle.dhcp6_msg.proofs.config.DhcpV6Config.TheLaws.{the_row_laws}

pub configs : HandsOn the_row
configs = record { laws = the_row_laws; lives = λ a m. m; step_owned = λ κ. refl; answer_owned = λ κ. refl }

-- a machine's type does not depend on the lifetimes
abbrev all_static : (n : ℕ) → Lfts n
all_static zero = tt
all_static (suc n) = ([], all_static n)

module _ {M : Type 1} {𝓤 : Ura M} (𝓛 : Logic 𝓤) {n : ℕ} (j : ℕ) (ok : Within n j) where
  -- numbers of two bytes, at the lifetime j
  abbrev pub option_codes : Passed 𝓛 n
  option_codes = record {
    slot = SliceRefOf (j ∷ []) ok (plain (λ _. u16)) (λ _. tt);
    kept = yes;
    goes = Goes-dropped 𝓛 n (SliceRefOf (j ∷ []) ok (plain (λ _. u16)) (λ _. tt)) yes (λ κs x f. refl);
    value = λ κs x. slice_val x.ref_ptr (length x.now);
    ty = layout ((SliceRefOf {n = n} (j ∷ []) ok (plain (λ _. u16)) (λ _. tt)).row (all_static n));
    told = λ κs. shr_slice_Tells (named j) (named_lft n j ok κs).lft u16;
    fits = λ κs x is. ((shr_slice_Lawful 𝓛 (named j) (named_lft n j ok κs).lft u16).typed x _ is).0;
  }

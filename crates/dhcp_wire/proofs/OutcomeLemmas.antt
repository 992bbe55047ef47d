-- What becomes of an outcome.
use Rattle.std.proofs.Common.{◌≡◌, inl, inr, Option, Some, None, Result, Ok, Err, ok_or, option_map, refl, sym, subst}
use Rattle.dhcp_wire.specs.declared.error.ErrorKind.TheVariants.{InvalidDhcpMessage}
use Rattle.dhcp_wire.specs.Error.{ErrorParts}
use Rattle.dhcp_wire.specs.Outcome.{Gives, Makes, none_if_refusal, none_if_refused}

-- a value that a read gives or refuses, as none where it is refused
pub Makes-none_if_refused : {X Y : Type 0} (view : X → Y) (read : Result X ErrorParts) (expected : Option Y) → Gives view read (ok_or expected InvalidDhcpMessage) → Makes (option_map view) (none_if_refused read) expected
Makes-none_if_refused view (Ok x) (Some y) is = cc
Makes-none_if_refused view (Ok x) None is = cc
Makes-none_if_refused view (Err e) (Some y) (inl is) = subst (λ e. Makes (option_map view) (none_if_refusal e e.kind) (Some y)) (sym is) refl
Makes-none_if_refused view (Err e) None (inl is) = subst (λ e. Makes (option_map view) (none_if_refusal e e.kind) None) (sym is) refl
Makes-none_if_refused view (Err e) (Some y) (inr is) = cc
Makes-none_if_refused {X = X} view (Err e) None (inr is) =
    let kind : InvalidDhcpMessage ≡ e.kind = cc in
    subst (λ kind. Makes {X = Option X} (option_map view) (none_if_refusal e kind) None) kind refl

-- a value that is given is what was read
pub given_read : {A E : Type 0} (read : Option A) (kind : E) (x : A) → ok_or read kind ≡ Ok x → read ≡ Some x
given_read None kind x is = cc
given_read (Some y) kind x is = cc

-- where none was read there is a refusal, of this kind
pub refused_read : {A E : Type 0} (read : Option A) (kind e : E) → ok_or read kind ≡ Err e → (read ≡ None) × (e ≡ kind)
refused_read None kind e is = (refl, cc)
refused_read (Some y) kind e is = cc

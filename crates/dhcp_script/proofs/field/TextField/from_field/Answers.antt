use Rattle.std.proofs.Common.{◌∙◌, Some, sym, ap}
use Rattle.std.proofs.lemmas.Bool.{false≢true}
use Rattle.std.proofs.lemmas.Result.{err_from_is_err_and}
use Rattle.std.proofs.lemmas.Str.{IsUtf8-string_bytes}
use Rattle.dhcp_script.proofs.FieldLemmas.{finds_err, hex_utf8_in-none, hex_utf8_in-text, hex_utf8_in-unread}
use Rattle.dhcp_script.proofs.field.TextField.from_field.Goals as goal

pub returns-in_err-bytes : goal.returns-in_err-bytes
returns-in_err-bytes c =
    let exit = err_from_is_err_and c.from_residual.result c.from_residual.ensures.1 in
    rw (exit.1, exit.2) (finds_err _ _ _ c.in_err-bytes.ensures (hex_utf8_in-unread c.args.field.now))

pub returns-in-Ok : goal.returns-in-Ok
returns-in-Ok c =
    let same = ap (λ v. v.items) c.in-Ok.ensures.ok ∙ c.into_vec.ensures in
    rw c.from.ensures (hex_utf8_in-text c.args.field.now _ (c.in_ok-bytes.ensures ∙ ap Some (sym same)) (IsUtf8-string_bytes c.in-Ok.text))

pub returns : goal.returns
returns c =
    hex_utf8_in-none c.args.field.now c.in_ok-bytes.bytes c.in_ok-bytes.ensures
    (λ utf8. false≢true (c.in-Err.ensures.succeeds (rw c.into_vec.ensures utf8)))

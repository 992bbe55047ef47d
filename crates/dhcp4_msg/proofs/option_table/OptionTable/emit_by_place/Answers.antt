-- Each turn writes one option, which fits, or none. End is written after the others.
use Rattle.std.proofs.Common.{◌≡◌, ◌<◌, ◌≤◌, List, length, [], ◌∷◌, ◌++◌, take, filter_map, get_or, None, Some, Option, Bor, is_some, sym, ap, subst, ◌∙◌, arith, append_assoc, append-nil}
use Rattle.std.specs.Int.{from_bool}
use Rattle.std.specs.Prelude.{option_copied}
use Rattle.std.specs.FinMap as map
use Rattle.std.specs.List.{count_by, flat_map}
use Rattle.std.proofs.lemmas.Grind.{flat_map-append}
use Rattle.std.proofs.lemmas.List.{take_all}
use Rattle.dhcp_wire.specs.Outcome.{Emits}
use Rattle.dhcp4_msg.specs.declared.option.DhcpV4Option.{DhcpV4Option}
use Rattle.dhcp4_msg.specs.Value.{written_option}
use Rattle.dhcp4_msg.specs.Options.{kept_in, map_of}
use Rattle.dhcp_wire.proofs.EmitLemmas.{emits_exit, emits_last, front_walk}
use Rattle.std.proofs.lemmas.List.Sums.{count_by_more_no, count_by_more_yes}
use Rattle.dhcp4_msg.proofs.SlotLemmas.{all_kept, end_left, kept_split, kept_more, kept_same, some_kept, values_kept, place_inside}
use Rattle.dhcp4_msg.proofs.option_table.OptionTable.emit_by_place.Goals as goal
use Rattle.dhcp4_msg.proofs.option_table.OptionTable.emit_by_place.Goals.{else-loop-place-test, in-Some+in_ok-emit, in_default, then-loop-place-test+then-left-last}

-- End is one of the options, where it is kept
end_counted : (kept : List DhcpV4Option) (end : Option (Bor DhcpV4Option)) → option_copied end ≡ map.get (map_of kept) 255 → from_bool (is_some end) ≤ length kept
end_counted kept None is = omega arith
end_counted kept (Some option) is = some_kept kept 255 option.now (sym is)

pub loop-place-init : goal.loop-place-init
loop-place-init c = record {
  written = sym (append-nil c.args.buf.now);
  left = omega (arith, c.len-left.ensures, c.self.inside.kept.ok);
  enough =
      let found = c.kept_at-end.ensures.value ∙ ap (λ options. map.get options 255) (sym c.self.view_is) in
      let counted : c.from-last.result ≤ length c.self.inside.kept.items = subst (λ n. n ≤ length c.self.inside.kept.items) (sym (c.from-last.ensures ∙ ap from_bool c.is_some.ensures)) (end_counted _ _ found) in
      omega (arith, counted, c.len-left.ensures, c.self.inside.kept.ok);
}

pub returns-in_err-emit : goal.returns-in_err-emit
returns-in_err-emit c =
    let inside : c.loop-place.place-index < length c.self.inside.places = omega (arith, c.self.invariant.sized) in
    let within = place_inside _ _ _ _ c.self.invariant c.loop-place-test.true c.in-Some.is in
    let here = c.index.ensures ∙ ap (λ i. get_or c.self.inside.kept.items i c.index.result.now) c.from.ensures in
    let all = sym (values_kept _ _ c.self.invariant) ∙ kept_split _ _ _ _ _ inside c.in-Some.is within here in
    rw (← c.self.view_is) (emits_exit _ _ _ _ _ c.from_residual.ensures.1 c.in_err-emit.ensures.0
    (front_walk written_option _ _ _ _ _ _ _ all c.loop-place.invariant.written c.in_err-emit.ensures.1))

pub loop-place-preserved : goal.loop-place-preserved
loop-place-preserved c =
    let inside : c.loop-place.place-index < length c.self.inside.places = omega (arith, c.self.invariant.sized) in
    elim c.match-place.branch [
      | in-Some+in_ok-emit w ↦
          let within = place_inside _ _ _ _ c.self.invariant c.loop-place-test.true w.in-Some.is in
          let here = w.index.ensures ∙ ap (λ i. get_or c.self.inside.kept.items i w.index.result.now) w.from.ensures in
          let done = filter_map (kept_in c.self.inside.kept.items) (take c.loop-place.place-index c.self.inside.places) in
          let more = count_by_more_yes is_some c.self.inside.places c.loop-place.place-index None inside (ap is_some w.in-Some.is) in
          record {
            written = rw (w.buf-is, kept_more _ _ _ _ _ inside w.in-Some.is within here)
                (w.in_ok-emit.ensures ∙ ap (λ bytes. bytes ++ written_option w.index.result.now) c.loop-place.invariant.written
                ∙ append_assoc c.args.buf.now (flat_map written_option done) (written_option w.index.result.now)
                ∙ ap (λ bytes. c.args.buf.now ++ bytes) (sym (flat_map-append written_option done (w.index.result.now ∷ []) ∙ ap (λ last. flat_map written_option done ++ last) (append-nil (written_option w.index.result.now)))));
            left = omega (arith, w.left-is, more, c.loop-place.invariant.left, c.loop-place.invariant.enough, c.if-left-last.false);
            enough = omega (arith, w.left-is, c.loop-place.invariant.enough, c.if-left-last.false);
          }
      | in_default w ↦
          let same = count_by_more_no is_some c.self.inside.places c.loop-place.place-index None inside (ap is_some w.in_default.is) in
          record {
            written = rw (w.buf-is, kept_same _ _ _ inside w.in_default.is) c.loop-place.invariant.written;
            left = omega (arith, w.left-is, same, c.loop-place.invariant.left);
            enough = omega (arith, w.left-is, c.loop-place.invariant.enough);
          }
    ]

pub returns-in-Some-end : goal.returns-in-Some-end
returns-in-Some-end c =
    let kept = c.self.inside.kept.items in
    let places = c.self.inside.places in
    let option = c.in-Some-end.option.now in
    let found = sym (ap option_copied c.in-Some-end.is) ∙ c.kept_at-end.ensures.value ∙ ap (λ options. map.get options 255) (sym c.self.view_is) in
    let last : c.from-last.result ≡ 1 = c.from-last.ensures ∙ ap from_bool (c.is_some.ensures ∙ ap is_some c.in-Some-end.is) in
    let all : filter_map (kept_in kept) places ≡ filter_map (kept_in kept) (take c.loop-place.place-index places) ++ option ∷ [] =
    elim c.loop-place-test.branch [
      | else-loop-place-test w ↦
          let whole : count_by is_some (take c.loop-place.place-index places) ≡ length kept = ap (count_by is_some) (take_all c.loop-place.place-index places (omega (arith, c.self.invariant.sized, w.loop-place-test.false))) ∙ c.self.invariant.counted in
          absurd (omega (arith, whole, last, c.loop-place.invariant.left, c.loop-place.invariant.enough))
      | then-loop-place-test+then-left-last w ↦
          end_left kept places c.loop-place.place-index option c.self.invariant w.loop-place-test.true (omega (arith, c.loop-place.invariant.left, last, w.if-left-last.true)) (sym found)
    ] in
    let written = ap (flat_map written_option) (sym (values_kept _ _ c.self.invariant) ∙ all) ∙ flat_map-append written_option (filter_map (kept_in kept) (take c.loop-place.place-index places)) (option ∷ [])
    ∙ ap (λ bytes. flat_map written_option (filter_map (kept_in kept) (take c.loop-place.place-index places)) ++ bytes) (append-nil (written_option option)) in
    rw (← c.self.view_is) (subst (Emits c.emit-in-Some-end.result c.args.buf.now c.emit-in-Some-end.new.buf) (sym written)
    (emits_last _ _ _ _ _ _ c.loop-place.invariant.written c.emit-in-Some-end.ensures))

pub returns-in-None : goal.returns-in-None
returns-in-None c =
    let kept = c.self.inside.kept.items in
    let all = values_kept _ _ c.self.invariant in
    let last : c.from-last.result ≡ 0 = c.from-last.ensures ∙ ap from_bool (c.is_some.ensures ∙ ap is_some c.in-None.is) in
    elim c.loop-place-test.branch [
      | else-loop-place-test w ↦
          rw (← c.self.view_is, ← all)
          (c.loop-place.invariant.written
          ∙ ap (λ places. c.args.buf.now ++ flat_map written_option (filter_map (kept_in kept) places))
          (take_all c.loop-place.place-index c.self.inside.places (omega (arith, c.self.invariant.sized, w.loop-place-test.false))))
      | then-loop-place-test+then-left-last w ↦
          rw (← c.self.view_is, ← all)
          (c.loop-place.invariant.written
          ∙ ap (λ options. c.args.buf.now ++ flat_map written_option options)
          (all_kept kept c.self.inside.places c.loop-place.place-index c.self.invariant
          (omega (arith, c.loop-place.invariant.left, last, w.if-left-last.true))))
    ]

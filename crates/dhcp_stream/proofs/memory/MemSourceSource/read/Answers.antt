use Rattle.std.proofs.Common.{arith, ◌≡◌, drop, ap, sym}
use Rattle.std.proofs.lemmas.Grind.{common_steps}
use Rattle.std.proofs.lemmas.List.{drop-drop}
use Rattle.dhcp_stream.proofs.StreamLemmas.{Consumes-piece}
use Rattle.dhcp_stream.specs.Memory.{MemSourceView}
use Rattle.dhcp_stream.proofs.memory.MemSourceSource.read.Goals as goal

pub returns-clause-moved : goal.returns-clause-moved
returns-clause-moved c =
    let left = drop c.self.inside.place c.self.inside.bytes.items in
    let shown : left ≡ c.args.self.now.left = ap (λ (view : MemSourceView). view.left) c.self.view_is in
    rw (← shown)
    (Consumes-piece left c.copy_from_slice.new.self _ _ c.min-count.result
    (grind (arith, common_steps)) (grind (arith, common_steps))
    (sym (drop-drop c.min-count.result c.self.inside.place c.self.inside.bytes.items)))

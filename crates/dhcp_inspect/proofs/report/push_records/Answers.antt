-- A line more, and a record less that is left.
use Rattle.std.proofs.Common.{◌≡◌, ◌+◌, ◌++◌, ◌∷◌, List, ℕ, length, string_bytes, append_assoc, sym, ap, ◌∙◌, arith}
use Rattle.dhcp_inspect.specs.Record.{RecordParts}
use Rattle.dhcp_inspect.specs.Report.{record_text, records_text}
use Rattle.dhcp_inspect.proofs.TextLemmas.{records_text-cons}
use Rattle.dhcp_inspect.proofs.report.push_records.Goals as goal

pub loop-packet-preserved : goal.loop-packet-preserved
loop-packet-preserved c =
    let text = string_bytes c.loop-packet.text in
    let unit = c.unit-unit.result in
    let number = c.loop-packet.number + 1 in
    let packet = c.in-Some.packet in
    let rest = c.next.new.self.records in
    let pushed : string_bytes c.push_record.new.text ≡ text ++ record_text unit number packet = c.in_ok-push_record.ensures in
    let first : c.loop-packet.capture.records ≡ packet ∷ rest = c.in-Some.ensures.steps in
    record {
      lines = ap (λ (t : List ℕ). t ++ records_text unit (number + 1) rest) pushed
          ∙ append_assoc text (record_text unit number packet) (records_text unit (number + 1) rest)
          ∙ ap (λ (t : List ℕ). text ++ t) (sym (records_text-cons unit number packet rest))
          ∙ ap (λ (packets : List RecordParts). text ++ records_text unit number packets) (sym first)
          ∙ c.loop-packet.invariant.lines;
      few = omega (arith, ap length first, c.loop-packet.invariant.few);
      remainder = c.in-Some.ensures.remainder ∙ c.loop-packet.invariant.remainder;
    }

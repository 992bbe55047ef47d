use Rattle.std.proofs.Common.{refl, rules}
use Rattle.dhcp_frame.proofs.Sums.{ones_complement_sum-parts}
use Rattle.dhcp_frame.proofs.write.covered_checksum.Goals as goal

pub returns : goal.returns
returns c =
    let one = c.pseudo_header-pseudo_header.result in
    let two = c.udp_header-header.result in
    let three = c.as_slice-payload.result.now in
    let sum = ones_complement_sum-parts one two three c.carried.result
    (rw (← c.word_sum.ensures.value, ← c.word_sum-2.ensures.value, ← c.word_sum-3.ensures.value) c.carried.ensures)
    (search rules) (search rules) c.word_sum.ensures.bytes c.word_sum-2.ensures.bytes c.word_sum-3.ensures.bytes in
    rw (sum, c.pseudo_header-pseudo_header.ensures, c.udp_header-header.ensures.value, c.as_slice-payload.ensures) refl

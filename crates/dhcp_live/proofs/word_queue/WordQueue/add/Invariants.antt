use Rattle.std.proofs.Common.{◌≡◌, ◌++◌, take}
use Rattle.dhcp_live.proofs.word_queue.WordQueue.add.Given as goal

-- the words so far were added
abbrev pub invariant-loop-word : goal.invariant-loop-word
invariant-loop-word l = l.self-inside.left.items ≡ l.fn.self ++ take l.word-index l.words

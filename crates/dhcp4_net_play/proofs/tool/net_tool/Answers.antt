-- What the clauses of every program say of these scripts.
use Rattle.std.proofs.Common.{arith}
use Rattle.dhcp4_net_play.proofs.ToolLemmas.{kept_of}
use Rattle.dhcp4_net_play.proofs.tool.net_tool.Goals as goal

pub returns-clause-network : goal.returns-clause-network
returns-clause-network g c = λ script asked one valid left short kept sink_kept.
    (c.run_tool.ensures.ends (record {}) asked).complete script one valid left short kept sink_kept

pub returns-clause-one_address : goal.returns-clause-one_address
returns-clause-one_address g c = λ script done one left.
    let asked = c.run_tool.ensures.asked (λ wrong. omega (arith, done, wrong)) in
    kept_of _ script one left ((c.run_tool.ensures.ends (record {}) asked.1).promises done)

pub returns-clause-ends : goal.returns-clause-ends
returns-clause-ends g c = λ asked. c.run_tool.ensures.ends (record {}) asked

pub returns-clause-wrong_words : goal.returns-clause-wrong_words
returns-clause-wrong_words g c =
    (λ is asked. c.run_tool.ensures.wrong_words.0 is (record {}) asked, λ not. c.run_tool.ensures.wrong_words.1 (λ request asked. not asked))

-- What the clauses of every program say of these scripts.
use Rattle.dhcp6_info_play.proofs.tool.info_tool.Goals as goal

pub returns-clause-information_history : goal.returns-clause-information_history
returns-clause-information_history g c = λ script asked one valid left short kept sink_kept.
    (c.run_tool.ensures.ends (record {}) asked).complete script one valid left short kept sink_kept

pub returns-clause-ends : goal.returns-clause-ends
returns-clause-ends g c = λ asked. c.run_tool.ensures.ends (record {}) asked

pub returns-clause-wrong_words : goal.returns-clause-wrong_words
returns-clause-wrong_words g c =
    (λ is asked. c.run_tool.ensures.wrong_words.0 is (record {}) asked, λ not. c.run_tool.ensures.wrong_words.1 (λ request asked. not asked))

-- By what was said.
use Rattle.dhcp_live.proofs.session.answer_said.Goals as goal

pub answer_event-requires : goal.answer_event-requires
answer_event-requires g c = rw c.in-Event.is at c.requires

pub add_words-requires : goal.add_words-requires
add_words-requires g c = rw c.as_slice.ensures (rw c.in-Words.is at c.requires)

pub returns-in-Event : goal.returns-in-Event
returns-in-Event g c = rw c.in-Event.is c.answer_event.ensures

pub returns-in-Words : goal.returns-in-Words
returns-in-Words g c = rw (c.in-Words.is, ← c.as_slice.ensures) c.add_words.ensures

pub returns-in-End : goal.returns-in-End
returns-in-End g c = rw c.in-End.is c.end.ensures

-- By the laws of both tables of states, and by how many words are drawn.
use Rattle.dhcp_live.proofs.TranscriptLaw.{transcript}
use Rattle.dhcp_live.proofs.laws.a_transcript_is_a_script.Goals as goal

pub returns : goal.returns
returns c =
    let draws = c.eight_words_are_enough.ensures in
    transcript c.table_is_lawful.ensures c.table_is_lawful-2.ensures draws.begins4 draws.begins6 draws.events4 draws.events6

pub mod AnswerLemmas
pub mod BeginLemmas
pub mod DroppedLemmas
pub mod HeadLemmas
pub mod RunBytesLemmas
pub mod Script4Lemmas
pub mod Script6Lemmas
pub mod ScriptLemmas
pub mod SessionLemmas
pub mod ToolLemmas
pub mod TranscriptLaw
pub mod TranscriptLemmas
pub mod TurnLemmas
pub mod WordsLemmas
mod WorkedTranscript

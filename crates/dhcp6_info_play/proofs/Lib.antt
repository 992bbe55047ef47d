mod InfoLife
mod InfoScriptLaws
mod PrintLemmas
mod ValidLemmas

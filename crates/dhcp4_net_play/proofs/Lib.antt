mod ClientLaws
mod FieldLaws
mod LineLaws
mod NetScriptLaws
mod ToolLemmas

pub mod CommonNames
pub mod FrontLemmas
pub mod GroupLemmas
pub mod ScriptLemmas
pub mod SessionLemmas
pub mod ThreadLemmas
pub mod LineLemmas
pub mod TranscriptLemmas

pub mod ListLemmas
pub mod RunningLemmas
mod FormLemmas
mod NotedLemmas
pub mod ScriptLemmas

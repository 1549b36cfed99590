pub mod Alternating
pub mod Asking
pub mod Chained
mod ClientOver
mod ClientSteps
pub mod Edits
mod EndSteps
mod Exactness
pub mod Halves
pub mod Headline
pub mod Histories
pub mod Heeding
pub mod HistoryRuns
mod LogSteps
mod Newest
mod OneIdentity
mod ProxyCalls
mod Reading
mod Recording
pub mod Refused
pub mod Refusing
mod ServerOver
mod ServerSteps

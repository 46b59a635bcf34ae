pub mod Audits
pub mod EndLaws
pub mod Finishing
pub mod Made
pub mod Meant
pub mod Ordering
pub mod Sound
pub mod Sums
pub mod ThreadEnds
pub mod Totalling
pub mod Verdicts
pub mod AllCommands
pub mod Running
pub mod Clean
pub mod Deciding
pub mod Promising
mod SentSchedules
mod DoneEnds
mod ThreadedNumbers

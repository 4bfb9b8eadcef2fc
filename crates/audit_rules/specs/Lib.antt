pub mod Asking
pub mod BrokenRules
pub mod Given
pub mod CheckerState
pub mod EventKinds
pub mod PendingLines

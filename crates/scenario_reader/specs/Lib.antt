pub mod AppContext
pub mod Joining
pub mod Operating
pub mod Owning
pub mod StepLinesReading
pub mod Walking
pub mod TopLevel

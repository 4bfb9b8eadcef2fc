mod LineReading
mod Naming
mod ProgramReading
mod Rows
mod StepReading
mod Walking

mod HeadFaults
mod InnerLines
mod ItemReading
mod Naming
mod OneItem
mod Placing
mod Shapes
mod Sound

mod Choices
mod Lists
mod OneReading
mod Varints
mod Vectors

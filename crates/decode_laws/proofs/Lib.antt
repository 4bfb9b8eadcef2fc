mod Endings
mod Frames
mod Lines
mod Once
mod Texts

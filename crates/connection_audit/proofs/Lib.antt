mod Fits
mod Held

mod Fronts
mod Parts
mod ShortVarints
mod Weights

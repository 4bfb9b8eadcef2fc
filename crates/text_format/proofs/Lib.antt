mod Appending
mod Fields
mod Indents
mod NoNumbers
mod Showing
mod SortedNames
mod Weights
mod Wholes

mod Refusals
mod Rows
mod Texts
mod SameKeys

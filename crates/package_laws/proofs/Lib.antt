mod Lists
mod Alike
mod Judged
mod Together
mod OneFile
mod Looking
mod Resolved
mod Rows

mod Judging
mod Leaving
mod Listed
mod Normality
mod ReadLemmas
mod Removing
mod Rows
mod Words

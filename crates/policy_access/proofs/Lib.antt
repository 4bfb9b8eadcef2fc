mod Judging
mod NameLemmas
mod ReadLemmas
mod Rows
mod ReadRows
mod TextLemmas
mod Words

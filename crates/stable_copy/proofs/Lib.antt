mod Answering
mod Rows
mod Steadiness

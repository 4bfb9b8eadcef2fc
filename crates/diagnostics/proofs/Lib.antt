mod Plain
mod Pointed
mod Rows
mod Saying
mod SpanRows

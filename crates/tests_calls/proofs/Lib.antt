mod HistoryRows
mod Young

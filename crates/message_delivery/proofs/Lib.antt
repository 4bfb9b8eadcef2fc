mod Lived
mod Reclaiming
mod Rows
mod Told

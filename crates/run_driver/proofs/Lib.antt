mod Judging
mod Shown
mod Tellable
mod Weighing
mod Zips

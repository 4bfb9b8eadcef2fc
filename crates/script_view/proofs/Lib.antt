mod Blanks
mod Making
mod Numbered

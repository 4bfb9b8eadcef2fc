mod Heard
mod OneGreeting
mod Rows

mod Lines
mod Ends

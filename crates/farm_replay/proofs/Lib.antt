mod Bursting
mod Groups
mod Running
mod Grown
mod Changed
mod Entries
mod Lines

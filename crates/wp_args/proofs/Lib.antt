mod Entries
mod Globals
mod Literals
mod Numerals
mod Refusals
mod Uniqueness

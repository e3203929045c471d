mod EachFamily
mod Growth
mod News
mod Room
mod Whole
mod Clearing
mod Bounds

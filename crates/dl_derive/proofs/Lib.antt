pub mod Gaining
mod Resting
mod Spread
mod Gaps
mod Absent
mod Running
mod Certified
mod Answered
mod Wanting
pub mod Parts
mod Fitting
mod Cutting
mod Copying
mod Behind

pub mod Orders
pub mod Placing
pub mod Conclusions
pub mod KeptConcluded
pub mod Text

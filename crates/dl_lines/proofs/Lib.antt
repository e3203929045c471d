pub mod Accounts
pub mod Calls
pub mod Cuts
pub mod Found
pub mod Room

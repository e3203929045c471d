pub mod Halls
pub mod Accounts
pub mod Serves

pub mod Whole
pub mod Reading
pub mod Theories
pub mod Handing
pub mod Statuses

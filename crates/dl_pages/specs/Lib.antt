pub mod Paged
pub mod Pages
pub mod KeptPage
pub mod KeptPages
pub mod KeptPaged
pub mod KeptTable

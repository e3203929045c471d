pub mod Inside
pub mod Laws
pub mod Lines
pub mod Reading
pub mod Steps

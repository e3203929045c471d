pub mod Serve
pub mod Serving

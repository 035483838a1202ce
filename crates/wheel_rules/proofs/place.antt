-- Laws of placement, and that its promises determine the answers.
pub mod Tables
pub mod Once
pub mod Finding
pub mod Visiting

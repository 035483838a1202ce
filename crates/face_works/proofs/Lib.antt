-- What the works share.
pub mod Moving

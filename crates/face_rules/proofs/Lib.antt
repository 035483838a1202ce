-- The laws of the face. Determined and exports are what a reader looks for.
pub mod nodes
pub mod Turning
pub mod Loading
pub mod Crowding
pub mod Facing
pub mod Enabling
pub mod Answers
pub mod Determined
pub mod exports

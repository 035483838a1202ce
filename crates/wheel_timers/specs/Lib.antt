-- What the contracts cite beside the definitions of wheel_rules.
pub mod Slices

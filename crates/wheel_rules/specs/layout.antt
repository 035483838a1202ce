-- The records as enabling lays them out.
pub mod Layout
pub mod Around

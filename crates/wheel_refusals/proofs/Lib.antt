-- What the soundness test keeps from slot to slot.
pub mod SlotKinds

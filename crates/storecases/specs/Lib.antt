pub mod Slots
pub mod SlotsLemmas

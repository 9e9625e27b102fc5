pub mod AtRest
pub mod BlockLaws
pub mod LastPlaces
pub mod Rests
pub mod SlotScans
pub mod StockScans
pub mod Wholes

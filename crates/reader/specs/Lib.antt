pub mod AsDefined
pub mod KnownMemory
pub mod ListingPlaces
pub mod ShortPrinted
pub mod Verifies

pub mod PlaceTags

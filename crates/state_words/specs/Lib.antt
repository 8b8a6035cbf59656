pub mod StateWords
pub mod WordRows
pub mod RoundTrip
pub mod Changes
pub mod EntriesStore

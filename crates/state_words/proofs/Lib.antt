pub mod Changes
pub mod EntriesStore
pub mod RoundTrip

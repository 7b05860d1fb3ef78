pub mod StoredChanges

pub mod CountLemmas
pub mod NameLemmas
pub mod OwnerLemmas
pub mod ReplyLemmas
pub mod TypeLemmas

pub mod JoinedLemmas
pub mod PointerLemmas
pub mod DataLemmas
pub mod AgainLemmas
pub mod WrittenLemmas
pub mod PreparedLemmas

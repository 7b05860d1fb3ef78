pub mod DoneLemmas
mod VerdictLemmas

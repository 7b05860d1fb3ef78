pub mod ExchangeLemmas
pub mod PeerLemmas
pub mod TurnLemmas

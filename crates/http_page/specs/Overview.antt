-- What the page shows.
use Rattle.std.specs.Prelude.{ℕ, List, Option}
use Rattle.http_page.specs.Graph.{GraphOf}

-- a secondary: its address, how many NOTIFYs were sent, answered and given up, the serial that it last answered for (RFC 1996)
pub record SecondaryOf : Type 0 where
  pub address : List ℕ
  pub sent : ℕ
  pub answered : ℕ
  pub given_up : ℕ
  pub serial : Option ℕ

-- the zone's name, serial and number of records, the seconds since the start, the store's state, rates, secondaries, and lines of the log
pub record OverviewOf : Type 0 where
  pub zone : List ℕ
  pub serial : ℕ
  pub records : ℕ
  pub uptime : ℕ
  pub store : List ℕ
  pub graphs : List GraphOf
  pub secondaries : List SecondaryOf
  pub lines : List (List ℕ)

-- Keys whose connections could go on are among the next ones.
use Rattle.std.proofs.Common.{◌≡◌, ◌≢◌, ℕ, ◌+◌, ◌<◌, List, length, take, get_or, Option, Some, Result, Ok, sym, ap, subst, ◌⊎◌, inl, inr}
use Rattle.std.specs.List.{All, Contains}
use Rattle.std.proofs.lemmas.Bool.{cases_eq}
use Rattle.std.proofs.lemmas.List.Elements.{All-weaker, All-more, Contains-append_left}
use Rattle.std.specs.declared.net.socket_addr.SocketAddr.{SocketAddr}
use Rattle.requests.specs.Served.{BeginsWith}
use Rattle.requests.specs.declared.stream_end.StreamEnd.{StreamEnd}
use Rattle.tcp_connections.specs.Going.{IsHeldUp}
use Rattle.tcp_connections.specs.declared.step.Step.{Step}
use Rattle.tcp_connections.specs.declared.step.Step.TheVariants.{Blocked, Later}
use Rattle.tcp_connections.specs.Connections.{HasStopped}
use Rattle.tcp_connections.specs.declared.connection.Connection.{Connection}

-- a connection that couldn't go on has stopped
pub stopped_by_step : {S M : Type 0} (would_block : S → Type 0) (is_later : SocketAddr → List ℕ → Type 0) (connection : Option (Connection S M)) (new : Connection S M) (step : Step) → connection ≡ Some new → (step ≡ Blocked) ⊎ (step ≡ Later)
    → (◌≡◌ {A = Result Step StreamEnd} (Ok step) (Ok Blocked) → would_block new.stream) → (◌≡◌ {A = Result Step StreamEnd} (Ok step) (Ok Later) → IsHeldUp (is_later new.from) new.state) → HasStopped would_block is_later connection
stopped_by_step would_block is_later connection new step is (inl same) blocked waits = subst (HasStopped would_block is_later) (sym is) (inl (blocked (ap (λ (s : Step). Ok s) same)))
stopped_by_step would_block is_later connection new step is (inr same) blocked waits = subst (HasStopped would_block is_later) (sym is) (inr (waits (ap (λ (s : Step). Ok s) same)))

module _ {L : Type 0} (Stopped : Option L → Type 0) where
  -- what holds of one key still does, once it or another one has been served
  next_more : (next more : List ℕ) (before after : ℕ → Option L) (at : ℕ) → BeginsWith more next → ((other : ℕ) → other ≢ at → after other ≡ before other) → Contains more at ⊎ Stopped (after at)
      → (key : ℕ) → Contains next key ⊎ Stopped (before key) → Contains more key ⊎ Stopped (after key)
  next_more next more before after at begins others here key (inl has) = inl (subst (λ (l : List ℕ). Contains l key) (sym begins.1) (Contains-append_left next begins.0 key has))
  next_more next more before after at begins others here key (inr stopped) = elim (cases_eq key at) [
    | inl same ↦ subst (λ (k : ℕ). Contains more k ⊎ Stopped (after k)) (sym same) here
    | inr differs ↦ inr (subst Stopped (sym (others key differs)) stopped)
  ]

  -- what holds of the keys so far, of one more
  pub all_more : (keys next more : List ℕ) (before after : ℕ → Option L) (index : ℕ) → index < length keys → BeginsWith more next → ((other : ℕ) → other ≢ get_or keys index 0 → after other ≡ before other)
      → Contains more (get_or keys index 0) ⊎ Stopped (after (get_or keys index 0)) → All (λ k. Contains next k ⊎ Stopped (before k)) (take index keys) → All (λ k. Contains more k ⊎ Stopped (after k)) (take (index + 1) keys)
  all_more keys next more before after index within begins others here so_far =
      All-more (λ k. Contains more k ⊎ Stopped (after k)) keys index 0 within
      (All-weaker (λ k. Contains next k ⊎ Stopped (before k)) (λ k. Contains more k ⊎ Stopped (after k)) (next_more next more before after (get_or keys index 0) begins others here) (take index keys) so_far) here

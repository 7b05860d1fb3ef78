-- What a place and a claim own.
-- A place is whole, or shared: its value is then lent for a lifetime of its own, whose token lies in pieces, one for each seat that may claim. A claim takes the piece of its seat's number and leaves a part of the seat's view in its stead. So who has the place and knows that no view is the key finds each piece in it.
use Rattle.core.specs.Prelude.{◌≡◌, ℕ, zero, suc, List, [], ◌∷◌, Bool, true, false}
use mathlib.Core.Option.{some}
use lib.ListN.{get_elem?}
use base.Fraction.{full_share, left, right}
use base.Share.{three_quarters}
use base.Stored.{Gv, Coded, coded×, coded_ℕ, coded_via}
use base.Fml.{Lft, Share, Fml, fsep, fex, flft, flent}
use types.Keyed.{ticket, tickets_from}
use denote.RattleType.{RattleType}
use denote.RawPtr.{Ptr, lies_at}
use denote.Sharing.{beside, one, held}
use denote.Struct.Lending.{lent_at}
use Rattle.atomic_table.specs.Table.{State}
use Rattle.atomic_table.specs.Seated.{seen}

-- The token after k pieces were cut off, and the piece of the number k
abbrev pub left_after : ℕ → Share
left_after zero = full_share
left_after (suc k) = left (left_after k)

abbrev pub piece : ℕ → Share
piece k = right (left_after k)

-- The part of a view that a claim leaves in the place, and the part that goes with it
abbrev pub kept : Share
kept = left three_quarters

abbrev pub gone : Share
gone = right three_quarters

-- γ is the name of the table's views, ρ the name of the place's tickets, a its lifetime, and key the view that claims
module _ {V : Type 0} (c : V → Gv) (γ ρ a : ℕ) (key : V) where
  -- at the number k, with the claim in or out
  abbrev pub spot : ℕ → Bool → Fml
  spot k false = fsep (ticket ρ k) (flft (a ∷ []) (piece k))
  spot k true = seen c γ k kept key

  abbrev pub stock : ℕ → List Bool → Fml
  stock k [] = fsep (tickets_from ρ k) (flft (a ∷ []) (left_after k))
  stock k (u ∷ us) = fsep (spot k u) (stock (suc k) us)

  abbrev pub tally : Fml
  tally = fex (List Bool) (stock 0)

  -- what goes with the claim of the seat id
  abbrev pub claimed : ℕ → Fml
  claimed id = fsep (ticket ρ id) (fsep (flft (a ∷ []) (piece id)) (seen c γ id gone key))

-- Of a place that is shared: the view that may claim it, the name of the table's views, the lifetime, and the name of the tickets
pub record Stake (V : Type 0) : Type 0 where
  pub key : V
  pub views : ℕ
  pub life : ℕ
  pub tally : ℕ

abbrev pub stake_coded : {V : Type 0} → Coded V → Coded (Stake V)
stake_coded {V} v = coded_via (coded× v (coded× coded_ℕ (coded× coded_ℕ coded_ℕ))) (λ (s : Stake V). (s.key, (s.views, (s.life, s.tally))))
    (λ x y e i. record { key = (e i).0; views = (e i).1.0; life = (e i).1.1.0; tally = (e i).1.1.1 })

module _ (R : RattleType) {V : Type 0} (c : V → Gv) (p : Ptr) (x : R.Denot) where
  abbrev pub pot : Stake V → Fml
  pot s = fsep (lent_at R p x (s.life ∷ [])) (fsep (flent (s.life ∷ []) (lies_at R full_share p x)) (tally c s.views s.tally s.life s.key))

  abbrev pub place_owns : List (Stake V) → Fml
  place_owns [] = lies_at R full_share p x
  place_owns (s ∷ ss) = pot s

  abbrev pub held_owns : Stake V → ℕ → Fml
  held_owns s id = fsep (lent_at R p x (s.life ∷ [])) (claimed c s.views s.tally s.life s.key id)

  abbrev pub held_shares : ℕ → Lft → Fml
  held_shares a = beside (one (λ q. flft (a ∷ []) q)) (held (a ∷ []) (lent_at R p x))

module _ {S T V : Type 0} (at : S → Ptr) (value : S → T) (stake : S → List (Stake V)) where
  -- Whatever the table is, while the seat id has the view v the slot k is at home with a place at p that v may claim, and `tells` holds of its stake and its value
  abbrev pub Claimable : (State S V → Type 0) → (Stake V → T → Type 0) → ℕ → ℕ → V → ℕ → Ptr → Type 0
  Claimable holds tells γ id v k p = (t : State S V) → holds t → get_elem? t.views id ≡ some v
      → (y : S) × (s : Stake V) × (get_elem? t.homes k ≡ some (some y)) × (at y ≡ p) × (stake y ≡ s ∷ []) × (s.key ≡ v) × (s.views ≡ γ) × tells s (value y)

module _ {S V : Type 0} (stake : S → List (Stake V)) where
  -- Whatever the table is, while the seat id has the key of s for its view the slot k is at home with the place of the stake s
  abbrev pub Returnable : (State S V → Type 0) → ℕ → Stake V → ℕ → Type 0
  Returnable holds id s k = (t : State S V) → holds t → get_elem? t.views id ≡ some s.key → (y : S) × (get_elem? t.homes k ≡ some (some y)) × (stake y ≡ s ∷ [])

module _ {S V : Type 0} where
  -- Whatever the table is, while the seat id has the view v no view is u
  abbrev pub Alone : (State S V → Type 0) → ℕ → V → V → Type 0
  Alone holds id v u = (t : State S V) → holds t → get_elem? t.views id ≡ some v → (i : ℕ) → ¬ (get_elem? t.views i ≡ some u)

-- the first of the slots that a seat has, with f of its value
abbrev pub first_with : {S : Type 0} → (S → S) → List (ℕ × S) → List (ℕ × S)
first_with f [] = []
first_with f (x ∷ xs) = (x.0, f x.1) ∷ xs

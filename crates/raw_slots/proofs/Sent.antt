-- A place may go to another thread where its value may and may be read there, a claim where its value may be read there.
use mathlib.Core.List.{List, [], ◌∷◌}
use Prim.Native.Nat.{ℕ, suc, ◌+◌}
use mathlib.Core.Bool.{Bool, true, false}
use base.Fraction.{full_share}
use base.Stored.{Gv}
use base.Shift.{Keyless}
use types.Keyed.{token, entry_keyless, entries_keyless}
use types.SemTy.{cells}
use denote.RattleType.{RattleType}
use denote.Memory.{mem}
use denote.RawPtr.{Ptr, block_of, count_of}
use denote.Param.Send.{IsSend, IsSync, part_keyless}
use Rattle.std_alloc.proofs.SendSync.{lies, seen}
use Rattle.atomic_table.specs.Seated.{halved}
use Rattle.raw_slots.specs.Places.{Stake, stock, claimed, place_owns, held_owns}
use Rattle.raw_slots.specs.Rows.{row_owns}

module _ {V : Type 0} (c : V → Gv) (γ ρ a : ℕ) (key : V) where
  stock_keyless : (k : ℕ) (us : List Bool) → Keyless (stock c γ ρ a key k us)
  stock_keyless k [] = (entries_keyless token ρ k _, tt)
  stock_keyless k (false ∷ us) = ((entry_keyless token ρ k _, tt), stock_keyless (suc k) us)
  stock_keyless k (true ∷ us) = (entry_keyless halved γ k _, stock_keyless (suc k) us)

  claimed_keyless : (id : ℕ) → Keyless (claimed c γ ρ a key id)
  claimed_keyless id = (entry_keyless token ρ id _, (tt, entry_keyless halved γ id _))

module _ (R : RattleType) {V : Type 0} (c : V → Gv) (p : Ptr) (x : R.Denot) where
  pub place_keyless : IsSend R → IsSync R → (ss : List (Stake V)) → Keyless (place_owns R c p x ss)
  place_keyless s y [] = lies R s p x
  place_keyless s y (k ∷ ks) = (seen R y p x (k.life ∷ []), (lies R s p x, λ us. stock_keyless c k.views k.tally k.life k.key 0 us))

  pub held_keyless : IsSync R → (k : Stake V) (id : ℕ) → Keyless (held_owns R c p x k id)
  held_keyless y k id = (seen R y p x (k.life ∷ []), claimed_keyless c k.views k.tally k.life k.key id)

cells_keyless : (R : RattleType) → IsSend R → (xs : List R.Denot) (b o : ℕ) → Keyless (cells (mem R) xs b o)
cells_keyless R s [] b o = tt
cells_keyless R s (x ∷ xs) b o = (part_keyless R s full_share x b o, cells_keyless R s xs b (o + (mem R).size))

pub row_keyless : (R : RattleType) → IsSend R → (p : Ptr) (n : ℕ) (xs : List R.Denot) → Keyless (row_owns R p n xs)
row_keyless R s p n xs = ((λ _. tt), cells_keyless R s xs (block_of p) (count_of p))

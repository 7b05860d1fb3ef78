-- The slots that a table's words and places show.
use Rattle.std.proofs.Common.{◌≡◌, refl, sym, ap, ◌∙◌, ℕ, zero, suc, ◌+◌, List, [], ◌∷◌, get_or, set, arith, Some}
use Rattle.std.specs.List.{slice_get}
use mathlib.Core.Option as maybe
use mathlib.Core.Option.{none, some}
use lib.ListN.{get_elem?}
use Rattle.cell_core.specs.declared.words.Slot.{Slot}
use Rattle.counted_handles.specs.Shown.{Room, version_at, slots_in, behind}

-- twice a number, by recursion
double : ℕ → ℕ
double zero = zero
double (suc k) = suc (suc (double k))

twice : (k : ℕ) → double k ≡ k + k
unfolding double
twice zero = refl
twice (suc k) = let e = twice k in omega (arith, e)

-- a slot by its words and its place
abbrev pub slot_by : {T : Type 0} → List ℕ → ℕ → maybe.Option (Room T) → Slot T
slot_by words k home = record { shares = get_or words (k + k) 0; weak = get_or words (suc (k + k)) 0; version = version_at home }

abbrev slot_at : {T : Type 0} → List ℕ → ℕ → maybe.Option (Room T) → Slot T
slot_at words n home = record { shares = get_or words n 0; weak = get_or words (suc n) 0; version = version_at home }

made_at : {T : Type 0} (words : List ℕ) (homes : List (maybe.Option (Room T))) (k : ℕ) (there : Slot T) → slice_get (slots_in words homes) k ≡ Some there → (home : maybe.Option (Room T)) × (get_elem? homes k ≡ some home) × (slot_at words (double k) home ≡ there)
unfolding double
made_at [] homes k there e = absurd (let wrong = e in cc)
made_at (s ∷ []) homes k there e = absurd (let wrong = e in cc)
made_at (s ∷ w ∷ words) [] k there e = absurd (let wrong = e in cc)
made_at (s ∷ w ∷ words) (home ∷ homes) zero there e = (home, refl, (let h = e in cc))
made_at (s ∷ w ∷ words) (home ∷ homes) (suc k) there e = made_at words homes k there e

-- a slot is made of its two words and its place
pub slot_made : {T : Type 0} (words : List ℕ) (homes : List (maybe.Option (Room T))) (k : ℕ) (there : Slot T) → slice_get (slots_in words homes) k ≡ Some there → (home : maybe.Option (Room T)) × (get_elem? homes k ≡ some home) × (slot_by words k home ≡ there)
slot_made words homes k there e = let m = made_at words homes k there e in (m.0, m.1, ap (λ n. slot_at words n m.0) (sym (twice k)) ∙ m.2)

set_at : {T : Type 0} (words : List ℕ) (homes : List (maybe.Option (Room T))) (k n : ℕ) (home : maybe.Option (Room T)) (there : Slot T) → slice_get (slots_in words homes) k ≡ Some there → slots_in (set words (double k) n) (set homes k home) ≡ set (slots_in words homes) k (record { shares = n; weak = there.weak; version = version_at home })
unfolding double
set_at [] homes k n home there e = absurd (let wrong = e in cc)
set_at (s ∷ []) homes k n home there e = absurd (let wrong = e in cc)
set_at (s ∷ w ∷ words) [] k n home there e = absurd (let wrong = e in cc)
set_at {T} (s ∷ w ∷ words) (old ∷ homes) zero n home there e =
    let same : record { shares = s; weak = w; version = version_at old } ≡ there = (let h = e in cc) in
    ap (λ (x : Slot T). record { shares = n; weak = x.weak; version = version_at home } ∷ slots_in words homes) same
set_at (s ∷ w ∷ words) (old ∷ homes) (suc k) n home there e = ap (λ l. record { shares = s; weak = w; version = version_at old } ∷ l) (set_at words homes k n home there e)

-- a slot whose S and whose place are set
pub slot_set : {T : Type 0} (words : List ℕ) (homes : List (maybe.Option (Room T))) (k n : ℕ) (home : maybe.Option (Room T)) (there : Slot T) → slice_get (slots_in words homes) k ≡ Some there → slots_in (set words (k + k) n) (set homes k home) ≡ set (slots_in words homes) k (record { shares = n; weak = there.weak; version = version_at home })
slot_set words homes k n home there e = ap (λ m. slots_in (set words m n) (set homes k home)) (sym (twice k)) ∙ set_at words homes k n home there e

weak_at : {T : Type 0} (words : List ℕ) (homes : List (maybe.Option (Room T))) (k n : ℕ) (home : maybe.Option (Room T)) (there : Slot T) → slice_get (slots_in words homes) k ≡ Some there → slots_in (set words (suc (double k)) n) (set homes k home) ≡ set (slots_in words homes) k (record { shares = there.shares; weak = n; version = version_at home })
unfolding double
weak_at [] homes k n home there e = absurd (let wrong = e in cc)
weak_at (s ∷ []) homes k n home there e = absurd (let wrong = e in cc)
weak_at (s ∷ w ∷ words) [] k n home there e = absurd (let wrong = e in cc)
weak_at {T} (s ∷ w ∷ words) (old ∷ homes) zero n home there e =
    let same : record { shares = s; weak = w; version = version_at old } ≡ there = (let h = e in cc) in
    ap (λ (x : Slot T). record { shares = x.shares; weak = n; version = version_at home } ∷ slots_in words homes) same
weak_at (s ∷ w ∷ words) (old ∷ homes) (suc k) n home there e = ap (λ l. record { shares = s; weak = w; version = version_at old } ∷ l) (weak_at words homes k n home there e)

-- a slot whose K and whose place are set
pub weak_set : {T : Type 0} (words : List ℕ) (homes : List (maybe.Option (Room T))) (k n : ℕ) (home : maybe.Option (Room T)) (there : Slot T) → slice_get (slots_in words homes) k ≡ Some there → slots_in (set words (suc (k + k)) n) (set homes k home) ≡ set (slots_in words homes) k (record { shares = there.shares; weak = n; version = version_at home })
weak_set words homes k n home there e = ap (λ m. slots_in (set words (suc m) n) (set homes k home)) (sym (twice k)) ∙ weak_at words homes k n home there e

-- W, and the words behind it
pub behind_first : (words : List ℕ) (n : ℕ) → behind (set words 0 n) ≡ behind words
behind_first [] n = refl
behind_first (w ∷ words) n = refl

pub behind_set : (words : List ℕ) (k n : ℕ) → behind (set words (suc k) n) ≡ set (behind words) k n
behind_set [] k n = refl
behind_set (w ∷ words) k n = refl

pub first_kept : (words : List ℕ) (k n : ℕ) → get_or (set words (suc k) n) 0 0 ≡ get_or words 0 0
first_kept [] k n = refl
first_kept (w ∷ words) k n = refl

pub first_set : {T : Type 0} (words : List ℕ) (homes : List (maybe.Option (Room T))) (k n : ℕ) (there : Slot T) → slice_get (slots_in (behind words) homes) k ≡ Some there → get_or (set words 0 n) 0 0 ≡ n
first_set [] homes k n there e = absurd (let wrong = e in cc)
first_set (w ∷ words) homes k n there e = refl

pub read_behind : (words : List ℕ) (k : ℕ) → get_or words (suc k) 0 ≡ get_or (behind words) k 0
read_behind [] k = refl
read_behind (w ∷ words) k = refl

-- What a step leaves of the slots that the publisher has seen free, and of K of the slot in W.
use Rattle.std.proofs.Common.{◌≡◌, ◌≢◌, sym, ap, ◌∙◌, subst, ℕ, suc, ◌+◌, inl, inr, List, [], ◌∷◌, get_or, set, arith, Some, None}
use Rattle.std.proofs.lemmas.Bool.Decides.{eqb_tells}
use Rattle.std.proofs.lemmas.List.{set-get_or, get_or-set_other}
use mathlib.Core.Option as maybe
use mathlib.Core.Option.{none, some}
use Rattle.atomic_table.proofs.Lists.{set_else}
use Rattle.counted_handles.specs.declared.view.Mark.{Mark}
use Rattle.counted_handles.specs.Found.{IsAbsent, without}
use Rattle.counted_handles.specs.Shown.{Room, version_at}
use Rattle.counted_handles.specs.Ruled.{IsFree, AreFree, AllFree, MarkIs, version_of}
use Rattle.counted_handles.proofs.Lists.{one_there}

-- a step on another slot, and on its place
pub free_else : {T : Type 0} (words : List ℕ) (homes : List (maybe.Option (Room T))) (k m : ℕ) (home : maybe.Option (Room T)) (slot : ℕ) → slot ≢ k → IsFree words homes slot → IsFree (set words (suc (k + k)) m) (set homes k home) slot
free_else words homes k m home slot other is =
    record {
      shares = get_or-set_other words (suc (k + k)) (suc (slot + slot)) m 0 (λ e. other (omega (arith, e))) ∙ is.shares;
      room = is.room;
      home = set_else homes k slot home other ∙ is.home;
      empty = is.empty;
    }

-- a free slot is another than one that isn't
apart_from : {T : Type 0} (words : List ℕ) (homes : List (maybe.Option (Room T))) (k slot : ℕ) → (IsFree words homes k → ⊥) → IsFree words homes slot → slot ≢ k
apart_from words homes k slot busy is e = busy (subst (IsFree words homes) e is)

-- a step on a slot that isn't free, and on its place
pub free_kept : {T : Type 0} (words : List ℕ) (homes : List (maybe.Option (Room T))) (k m : ℕ) (home : maybe.Option (Room T)) (slot : ℕ) → (IsFree words homes k → ⊥) → IsFree words homes slot → IsFree (set words (suc (k + k)) m) (set homes k home) slot
free_kept words homes k m home slot busy is = free_else words homes k m home slot (apart_from words homes k slot busy is) is

-- a step on its words alone
pub free_stay : {T : Type 0} (words : List ℕ) (homes : List (maybe.Option (Room T))) (k m slot : ℕ) → (IsFree words homes k → ⊥) → IsFree words homes slot → IsFree (set words (suc (k + k)) m) homes slot
free_stay words homes k m slot busy is =
    let other : slot ≢ k = apart_from words homes k slot busy is in
    record { shares = get_or-set_other words (suc (k + k)) (suc (slot + slot)) m 0 (λ e. other (omega (arith, e))) ∙ is.shares; room = is.room; home = is.home; empty = is.empty }

-- a step on K of such a slot, and on its place
pub free_tied : {T : Type 0} (words : List ℕ) (homes : List (maybe.Option (Room T))) (k m : ℕ) (home : maybe.Option (Room T)) (slot : ℕ) → (IsFree words homes k → ⊥) → IsFree words homes slot → IsFree (set words (suc (suc (k + k))) m) (set homes k home) slot
free_tied words homes k m home slot busy is =
    record {
      shares = get_or-set_other words (suc (suc (k + k))) (suc (slot + slot)) m 0 (λ e. omega (arith, e)) ∙ is.shares;
      room = is.room;
      home = set_else homes k slot home (apart_from words homes k slot busy is) ∙ is.home;
      empty = is.empty;
    }

-- a step on K alone
pub free_beside : {T : Type 0} (words : List ℕ) (homes : List (maybe.Option (Room T))) (k m slot : ℕ) → IsFree words homes slot → IsFree (set words (suc (suc (k + k))) m) homes slot
free_beside words homes k m slot is = record { shares = get_or-set_other words (suc (suc (k + k))) (suc (slot + slot)) m 0 (λ e. omega (arith, e)) ∙ is.shares; room = is.room; home = is.home; empty = is.empty }

-- a step on W
pub free_behind : {T : Type 0} (words : List ℕ) (homes : List (maybe.Option (Room T))) (n slot : ℕ) → IsFree words homes slot → IsFree (set words 0 n) homes slot
free_behind words homes n slot is = record { shares = get_or-set_other words 0 (suc (slot + slot)) n 0 (λ e. omega (arith, e)) ∙ is.shares; room = is.room; home = is.home; empty = is.empty }

-- a step that leaves all words as they were
pub free_again : {T : Type 0} (words : List ℕ) (homes : List (maybe.Option (Room T))) (i slot : ℕ) → IsFree words homes slot → IsFree (set words i (get_or words i 0)) homes slot
free_again words homes i slot is = subst (λ w. IsFree w homes slot) (sym (set-get_or words i 0)) is

-- and that takes another slot's place
pub free_away : {T : Type 0} (words : List ℕ) (homes : List (maybe.Option (Room T))) (i k slot : ℕ) → slot ≢ k → IsFree words homes slot → IsFree (set words i (get_or words i 0)) (set homes k none) slot
free_away words homes i k slot other is =
    free_again words (set homes k none) i slot (record { shares = is.shares; room = is.room; home = set_else homes k slot none other ∙ is.home; empty = is.empty })

-- all of some slots, where each of them is still free
pub all_free : {T : Type 0} (words later : List ℕ) (homes moved : List (maybe.Option (Room T))) → ((slot : ℕ) → IsFree words homes slot → IsFree later moved slot) → (found : List ℕ) → AllFree words homes found → AllFree later moved found
all_free words later homes moved keeps [] are = tt
all_free words later homes moved keeps (slot ∷ found) are = (keeps slot are.0, all_free words later homes moved keeps found are.1)

-- where each is but one that isn't one of them
pub all_apart : {T : Type 0} (words later : List ℕ) (homes moved : List (maybe.Option (Room T))) (k : ℕ) → ((slot : ℕ) → slot ≢ k → IsFree words homes slot → IsFree later moved slot) → (found : List ℕ) → IsAbsent k found → AllFree words homes found → AllFree later moved found
all_apart words later homes moved k keeps [] absent are = tt
all_apart words later homes moved k keeps (slot ∷ found) absent are = (keeps slot absent.0 are.0, all_apart words later homes moved k keeps found absent.1 are.1)

-- a slot that is left out isn't one of the others
pub absent_without : (k : ℕ) (found : List ℕ) → IsAbsent k (without k found)
absent_without k [] = tt
absent_without k (slot ∷ found) = elim (eqb_tells slot k) [ inl same ↦ rw same.0 (absent_without k found) | inr other ↦ rw other.0 (other.1, absent_without k found) ]

all_without : {T : Type 0} (words : List ℕ) (homes : List (maybe.Option (Room T))) (k : ℕ) (found : List ℕ) → AllFree words homes found → AllFree words homes (without k found)
all_without words homes k [] are = tt
all_without words homes k (slot ∷ found) are = elim (eqb_tells slot k) [ inl same ↦ rw same.0 (all_without words homes k found are.1) | inr other ↦ rw other.0 (are.0, all_without words homes k found are.1) ]

-- all but one that is taken
pub all_taken : {T : Type 0} (words later : List ℕ) (homes moved : List (maybe.Option (Room T))) (k : ℕ) → ((slot : ℕ) → slot ≢ k → IsFree words homes slot → IsFree later moved slot) → (found : List ℕ) → AllFree words homes found → AllFree later moved (without k found)
all_taken words later homes moved k keeps found are = all_apart words later homes moved k keeps (without k found) (absent_without k found) (all_without words homes k found are)

-- a slot that isn't free is none of those that are
pub absent_busy : {T : Type 0} (words : List ℕ) (homes : List (maybe.Option (Room T))) (k : ℕ) → (IsFree words homes k → ⊥) → (found : List ℕ) → AllFree words homes found → IsAbsent k found
absent_busy words homes k busy [] are = tt
absent_busy words homes k busy (slot ∷ found) are = (apart_from words homes k slot busy are.0, absent_busy words homes k busy found are.1)

-- the same of so many slots, from the first one on, but for the one in W, and of K of that one
pub frees_kept : {T : Type 0} (words : List ℕ) (homes : List (maybe.Option (Room T))) (k m : ℕ) (home : maybe.Option (Room T)) (last swept : ℕ) → (IsFree words homes k → ⊥) → AreFree words homes last swept → AreFree (set words (suc (k + k)) m) (set homes k home) last swept
frees_kept words homes k m home last swept busy are = (
  λ slot l apart. free_kept words homes k m home slot busy (are.0 slot l apart),
  λ l. get_or-set_other words (suc (k + k)) (suc (suc (last + last))) m 0 (λ e. omega (arith, e)) ∙ are.1 l,
)

pub frees_stay : {T : Type 0} (words : List ℕ) (homes : List (maybe.Option (Room T))) (k m last swept : ℕ) → (IsFree words homes k → ⊥) → AreFree words homes last swept → AreFree (set words (suc (k + k)) m) homes last swept
frees_stay words homes k m last swept busy are = (
  λ slot l apart. free_stay words homes k m slot busy (are.0 slot l apart),
  λ l. get_or-set_other words (suc (k + k)) (suc (suc (last + last))) m 0 (λ e. omega (arith, e)) ∙ are.1 l,
)

pub frees_tied : {T : Type 0} (words : List ℕ) (homes : List (maybe.Option (Room T))) (k m : ℕ) (home : maybe.Option (Room T)) (last swept : ℕ) → (IsFree words homes k → ⊥) → k ≢ last → AreFree words homes last swept → AreFree (set words (suc (suc (k + k))) m) (set homes k home) last swept
frees_tied words homes k m home last swept busy elsewhere are = (
  λ slot l apart. free_tied words homes k m home slot busy (are.0 slot l apart),
  λ l. get_or-set_other words (suc (suc (k + k))) (suc (suc (last + last))) m 0 (λ e. elsewhere (omega (arith, e))) ∙ are.1 l,
)

pub frees_beside : {T : Type 0} (words : List ℕ) (homes : List (maybe.Option (Room T))) (k m last swept : ℕ) → (get_or words (suc (suc (last + last))) 0 ≡ 1 → k ≢ last) → AreFree words homes last swept → AreFree (set words (suc (suc (k + k))) m) homes last swept
frees_beside words homes k m last swept elsewhere are = (
  λ slot l apart. free_beside words homes k m slot (are.0 slot l apart),
  λ l. get_or-set_other words (suc (suc (k + k))) (suc (suc (last + last))) m 0 (λ e. elsewhere (are.1 l) (omega (arith, e))) ∙ are.1 l,
)

pub frees_behind : {T : Type 0} (words : List ℕ) (homes : List (maybe.Option (Room T))) (n last swept : ℕ) → AreFree words homes last swept → AreFree (set words 0 n) homes last swept
frees_behind words homes n last swept are = (
  λ slot l apart. free_behind words homes n slot (are.0 slot l apart),
  λ l. get_or-set_other words 0 (suc (suc (last + last))) n 0 (λ e. omega (arith, e)) ∙ are.1 l,
)

-- a step that leaves all words as they were
pub frees_again : {T : Type 0} (words : List ℕ) (homes : List (maybe.Option (Room T))) (i last swept : ℕ) → AreFree words homes last swept → AreFree (set words i (get_or words i 0)) homes last swept
frees_again words homes i last swept are = subst (λ w. AreFree w homes last swept) (sym (set-get_or words i 0)) are

-- a slot of which somebody has a share isn't free
pub not_free : {T : Type 0} (words : List ℕ) (homes : List (maybe.Option (Room T))) (name : ℕ) (mark : Mark T) → MarkIs homes name mark → IsFree words homes mark.slot → ⊥
not_free words homes name mark is free =
    let same : some free.room ≡ some is.room = one_there homes mark.slot (some free.room) (some is.room) free.home is.home in
    let wrong : None ≡ Some (version_of mark) = sym free.empty ∙ ap version_at same ∙ is.version in
    cc

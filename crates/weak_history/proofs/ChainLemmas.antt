-- Entries that are owned one after the other.
use Rattle.std.proofs.Common.{◌≡◌, refl, ℕ, suc, zero, ◌+◌, ◌-◌, ◌≤◌, ◌<◌, Bool, true, false, List, [], ◌∷◌, ◌++◌, length, map, filter, drop, Option, None, Some, Result, Ok, Err, IfOk, nat_le, arith, sym, ap, ◌∙◌, subst, append_assoc, append-nil}
use Rattle.std.specs.Prelude.{◌==◌, ◌&&◌, if◌then◌else◌}
use Rattle.std.specs.List.{slice_get}
use Rattle.std.specs.Option.{option_map, option_or}
use Rattle.std.proofs.lemmas.List.{length_push, drop_all}
use Rattle.std.proofs.Common.{length-drop, length-append}
use Rattle.std.proofs.lemmas.Option.{slice_get-get_or}
use Rattle.std.proofs.Math.ListN.{get_or}
use Rattle.std.proofs.Math.Seq.{drop-nil}
use Rattle.weak_history.specs.Places.{placed, IsFull}
use Rattle.weak_history.proofs.PlaceLemmas.{shown, placed_get}
use Rattle.transfer_core.proofs.VersionLemmas.{drop_here}
use Rattle.cell_core.specs.declared.words.Version.{Version}
use Rattle.snapshot_cell.specs.Tokens.{ReaderState, IsUpgraded}
use Rattle.weak_history.specs.History.{Entered, versions_in, numbered_to, after_serial, later_entries}
use Rattle.weak_history.specs.Owned.{less, AreOwned, HasGone, AreTooMany, IsLost, IsOwnedAt, IsLostAt}
use Rattle.weak_history.specs.declared.chain.Lost.{Lost}
use Rattle.weak_history.specs.declared.chain.Lost.TheVariants.{Gone, Spent}

-- the entries from a place on, by the one there
pub entries_from : {X : Type 0} (entries : List X) (at : ℕ) (entry : X) → slice_get entries at ≡ Some entry → drop at entries ≡ entry ∷ drop (at + 1) entries
entries_from entries at entry is = drop_here entries at entry (sym is)

-- there is one where there are more
pub some_at : {X : Type 0} (entries : List X) (at : ℕ) → at < length entries → (entry : X) × (slice_get entries at ≡ Some entry)
some_at [] at within = absurd (omega arith)
some_at (first ∷ entries) zero within = (first, refl)
some_at (first ∷ entries) (suc at) within = some_at entries at (omega arith)

pub no_entry : {X : Type 0} (entries : List X) (at : ℕ) → at < length entries → None ≡ slice_get entries at → ⊥
no_entry entries at within none = let some = (some_at entries at within).1 in no_both (none ∙ some)
  where
    no_both : {X : Type 0} {x : X} → None ≡ Some x → ⊥
    no_both e = cc

-- the entry in a place is upgraded
pub upgraded_here : {T E : Type 0} (result : Result (Option (Version T)) E) (places : List (Option (Entered T))) (at : ℕ) (place : Option (Entered T)) (own : Entered T) (before after : ReaderState T) → IsFull places → at < length places → get_or places at place ≡ Some own
    → IfOk result (λ found. IsUpgraded before after own.version found × (0 < before.left)) → IfOk result (λ found. (entry : Entered T) → slice_get (placed places) at ≡ Some entry → IsUpgraded before after entry.version found × (0 < before.left))
upgraded_here {T} (Ok found) places at place own before after full within is up =
    λ entry there.
    subst (λ (e : Entered T). IsUpgraded before after e.version found × (0 < before.left)) (same own entry (sym (ap shown (slice_get-get_or places at place within ∙ ap Some is)) ∙ sym (placed_get places at full) ∙ there)) up
  where
    same : (a b : Entered T) → Some a ≡ Some b → a ≡ b
    same a b e = cc
upgraded_here (Err e) places at place own before after full within is up = tt

-- an entry that is met, and one that isn't
with_one : {T : Type 0} (number : ℕ) (entry : Entered T) (entries : List (Entered T)) → nat_le entry.version.number number ≡ true → numbered_to number (entry ∷ entries) ≡ entry ∷ numbered_to number entries
with_one number entry entries up = rw up refl

without_one : {T : Type 0} (number : ℕ) (entry : Entered T) (entries : List (Entered T)) → nat_le entry.version.number number ≡ false → numbered_to number (entry ∷ entries) ≡ numbered_to number entries
without_one number entry entries beyond = rw beyond refl

both : (a b : Bool) → a && b ≡ true → (a ≡ true) × (b ≡ true)
both true true is = (refl, refl)
both true false is = absurd (cc)
both false b is = absurd (cc)

module _ {T : Type 0} (serial number : ℕ) where
  -- a serial that is met behind is met
  met_before : (entry : Entered T) (entries later : List (Entered T)) → later_entries serial number entries ≡ Some later → later_entries serial number (entry ∷ entries) ≡ Some later
  met_before entry entries later met = by (nat_le entry.version.number number) refl
    where
      by : (b : Bool) → nat_le entry.version.number number ≡ b → later_entries serial number (entry ∷ entries) ≡ Some later
      by true up = ap (after_serial serial) (with_one number entry entries up) ∙ ap (λ o. option_or o (if entry.serial == serial then Some (numbered_to number entries) else None)) met
      by false beyond = ap (after_serial serial) (without_one number entry entries beyond) ∙ met

  pub met_from : (entries : List (Entered T)) (at : ℕ) (later : List (Entered T)) → later_entries serial number (drop at entries) ≡ Some later → later_entries serial number entries ≡ Some later
  met_from [] at later met = ap (later_entries serial number) (sym (drop-nil at)) ∙ met
  met_from (entry ∷ entries) zero later met = met
  met_from (entry ∷ entries) (suc at) later met = met_before entry entries later (met_from entries at later met)

  here_met : (entry : Entered T) (entries : List (Entered T)) → nat_le entry.version.number number ≡ true → (entry.serial == serial) ≡ true → later_entries serial number entries ≡ None → later_entries serial number (entry ∷ entries) ≡ Some (numbered_to number entries)
  here_met entry entries up same none =
      ap (after_serial serial) (with_one number entry entries up) ∙ ap (λ o. option_or o (if entry.serial == serial then Some (numbered_to number entries) else None)) none ∙ rw same refl

  here_missed : (entry : Entered T) (entries : List (Entered T)) (b : Bool) → nat_le entry.version.number number ≡ b → b && (entry.serial == serial) ≡ false → later_entries serial number entries ≡ None → later_entries serial number (entry ∷ entries) ≡ None
  here_missed entry entries true up other none =
      ap (after_serial serial) (with_one number entry entries up) ∙ ap (λ o. option_or o (if entry.serial == serial then Some (numbered_to number entries) else None)) none ∙ rw other refl
  here_missed entry entries false beyond other none = ap (after_serial serial) (without_one number entry entries beyond) ∙ none

  -- the one at a place is met, and none behind it
  pub met_at : (entries : List (Entered T)) (at : ℕ) (entry : Entered T) → slice_get entries at ≡ Some entry → later_entries serial number (drop (at + 1) entries) ≡ None
      → nat_le entry.version.number number && (entry.serial == serial) ≡ true → Some (numbered_to number (drop (at + 1) entries)) ≡ later_entries serial number entries
  met_at entries at entry is none met =
      let b = both (nat_le entry.version.number number) (entry.serial == serial) met in
      sym (met_from entries at (numbered_to number (drop (at + 1) entries)) (ap (later_entries serial number) (entries_from entries at entry is) ∙ here_met entry (drop (at + 1) entries) b.0 b.1 none))

  -- the one at a place isn't met
  pub missed_at : (entries : List (Entered T)) (at : ℕ) (entry : Entered T) → slice_get entries at ≡ Some entry → later_entries serial number (drop (at + 1) entries) ≡ None
      → nat_le entry.version.number number && (entry.serial == serial) ≡ false → later_entries serial number (drop at entries) ≡ None
  missed_at entries at entry is none missed =
      ap (later_entries serial number) (entries_from entries at entry is) ∙ here_missed entry (drop (at + 1) entries) (nat_le entry.version.number number) refl missed none

-- the entries numbered up to a number, from a place on, by the one there
pub left_with : {T : Type 0} (number : ℕ) (entries : List (Entered T)) (at : ℕ) (entry : Entered T) → slice_get entries at ≡ Some entry → nat_le entry.version.number number ≡ true → numbered_to number (drop at entries) ≡ entry ∷ numbered_to number (drop (at + 1) entries)
left_with number entries at entry is up = ap (numbered_to number) (entries_from entries at entry is) ∙ with_one number entry (drop (at + 1) entries) up

pub left_without : {T : Type 0} (number : ℕ) (entries : List (Entered T)) (at : ℕ) (entry : Entered T) → slice_get entries at ≡ Some entry → nat_le entry.version.number number ≡ false → numbered_to number (drop at entries) ≡ numbered_to number (drop (at + 1) entries)
left_without number entries at entry is beyond = ap (numbered_to number) (entries_from entries at entry is) ∙ without_one number entry (drop (at + 1) entries) beyond

filter_short : {X : Type 0} (p : X → Bool) (xs : List X) → length (filter p xs) ≤ length xs
filter_short p [] = omega arith
filter_short p (x ∷ xs) = by (p x) (filter_short p xs)
  where
    by : (b : Bool) → length (filter p xs) ≤ length xs → length (if b then x ∷ filter p xs else filter p xs) ≤ suc (length xs)
    by true short = omega (arith, short)
    by false short = omega (arith, short)

pub left_short : {T : Type 0} (number : ℕ) (entries : List (Entered T)) (at : ℕ) → length (numbered_to number (drop at entries)) ≤ length entries
left_short number entries at = let short = filter_short (λ (entry : Entered _). nat_le entry.version.number number) (drop at entries) in omega (arith, short, length-drop at entries)

versions_push : {T : Type 0} (entries : List (Entered T)) (entry : Entered T) → versions_in (entries ++ entry ∷ []) ≡ versions_in entries ++ entry.version ∷ []
versions_push [] entry = refl
versions_push (first ∷ entries) entry = ap (λ l. first.version ∷ l) (versions_push entries entry)

length_versions : {T : Type 0} (entries : List (Entered T)) → length (versions_in entries) ≡ length entries
length_versions [] = refl
length_versions (first ∷ entries) = ap suc (length_versions entries)

less_none : {T : Type 0} (reader : ReaderState T) → reader ≡ less 0 reader
less_none reader = let same : reader.left ≡ reader.left - 0 = omega arith in λ i. record reader { left = same i }

less_more : {T : Type 0} (reader : ReaderState T) (count : ℕ) → less 1 (less count reader) ≡ less (count + 1) reader
less_more reader count = let same : reader.left - count - 1 ≡ reader.left - (count + 1) = omega arith in λ i. record reader { left = same i }

-- those in front of what is left of some entries are owned
pub record SoFar {T : Type 0} (all rest : List (Entered T)) (before now : ReaderState T) (owners : List (Version T)) : Type 0 where
  pub front : List (Entered T)
  pub split : front ++ rest ≡ all
  pub owned : AreOwned front before now owners

module _ {T : Type 0} (all : List (Entered T)) (before : ReaderState T) where
  pub none_yet : SoFar all all before before []
  none_yet = record { front = []; split = refl; owned = record { versions = refl; enough = omega arith; spent = less_none before } }

  pub on_to : (rest next : List (Entered T)) (now : ReaderState T) (owners : List (Version T)) → rest ≡ next → SoFar all rest before now owners → SoFar all next before now owners
  on_to rest next now owners same so_far = subst (λ l. SoFar all l before now owners) same so_far

  pub one_more : (rest : List (Entered T)) (entry : Entered T) (now after : ReaderState T) (owners more : List (Version T)) (owner : Version T) → SoFar all (entry ∷ rest) before now owners → owner ≡ entry.version → 0 < now.left → after ≡ less 1 now → more ≡ owners ++ owner ∷ []
      → SoFar all rest before after more
  one_more rest entry now after owners more owner so_far is some spent longer =
      let o = so_far.owned in
      let size : length (so_far.front ++ entry ∷ []) ≡ length so_far.front + 1 = length_push so_far.front entry in
      let had : now.left ≡ before.left - length so_far.front = ap (λ (r : ReaderState T). r.left) o.spent in
      record {
        front = so_far.front ++ entry ∷ [];
        split = append_assoc so_far.front (entry ∷ []) rest ∙ so_far.split;
        owned = record {
          versions = longer ∙ ap (λ l. l ++ owner ∷ []) o.versions ∙ ap (λ v. versions_in so_far.front ++ v ∷ []) is ∙ sym (versions_push so_far.front entry);
          enough = omega (arith, size, had, some, o.enough);
          spent = spent ∙ ap (less 1) o.spent ∙ less_more before (length so_far.front) ∙ ap (λ n. less n before) (sym size);
        };
      }

  pub all_owned : (now : ReaderState T) (owners : List (Version T)) → SoFar all [] before now owners → AreOwned all before now owners
  all_owned now owners so_far = subst (λ l. AreOwned l before now owners) (sym (append-nil so_far.front) ∙ so_far.split) so_far.owned

  -- there are fewer owners than entries while some are left
  pub room_left : (rest : List (Entered T)) (entry : Entered T) (now : ReaderState T) (owners : List (Version T)) → SoFar all (entry ∷ rest) before now owners → length owners < length all
  room_left rest entry now owners so_far =
      let versions : length owners ≡ length so_far.front = ap length so_far.owned.versions ∙ length_versions so_far.front in
      let whole : length (so_far.front ++ entry ∷ rest) ≡ length all = ap length so_far.split in
      let parts : length (so_far.front ++ entry ∷ rest) ≡ length so_far.front + length (entry ∷ rest) = length-append so_far.front (entry ∷ rest) in
      omega (arith, versions, whole, parts)

  -- one gives no owner
  pub one_lost : (rest : List (Entered T)) (entry : Entered T) (number : ℕ) (now after : ReaderState T) (owners : List (Version T)) (lost : Lost) → SoFar all (entry ∷ rest) before now owners → IsLostAt entry number now after lost → IsLost all before after lost
  one_lost rest entry number now after owners (Gone gone) so_far is =
      let o = so_far.owned in
      let had : now.left ≡ before.left - length so_far.front = ap (λ (r : ReaderState T). r.left) o.spent in
      record {
        front = so_far.front;
        entry = entry;
        rest = rest;
        split = sym so_far.split;
        number_is = is.1;
        enough = omega (arith, had, is.2);
        sunk = subst (λ r. IsUpgraded r after entry.version None) o.spent is.3;
      }
  one_lost rest entry number now after owners Spent so_far is =
      let o = so_far.owned in
      let had : now.left ≡ before.left - length so_far.front = ap (λ (r : ReaderState T). r.left) o.spent in
      let whole : length (so_far.front ++ entry ∷ rest) ≡ length all = ap length so_far.split in
      let parts : length (so_far.front ++ entry ∷ rest) ≡ length so_far.front + length (entry ∷ rest) = length-append so_far.front (entry ∷ rest) in
      let same : length so_far.front ≡ before.left = omega (arith, had, is.1, o.enough) in
      record { few = omega (arith, whole, parts, same); spent = is.2 ∙ o.spent ∙ ap (λ n. less n before) same }

  -- whichever the reason
  pub lost_here : (rest left : List (Entered T)) (entry : Entered T) (number : ℕ) (now after : ReaderState T) (owners : List (Version T)) (lost : Lost) → (nat_le entry.version.number number ≡ true → left ≡ entry ∷ rest) → SoFar all left before now owners → IsLostAt entry number now after lost
      → IsLost all before after lost
  lost_here rest left entry number now after owners (Gone gone) splits so_far is = one_lost rest entry number now after owners (Gone gone) (on_to left (entry ∷ rest) now owners (splits is.0) so_far) is
  lost_here rest left entry number now after owners Spent splits so_far is = one_lost rest entry number now after owners Spent (on_to left (entry ∷ rest) now owners (splits is.0) so_far) is

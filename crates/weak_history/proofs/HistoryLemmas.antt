-- The longest run that fits, and the entries after one of a serial.
use Rattle.std.proofs.Common.{◌≡◌, refl, ℕ, suc, zero, ◌+◌, ◌-◌, ◌≤◌, ◌<◌, Bool, true, false, List, [], ◌∷◌, ◌++◌, length, filter, drop, Option, None, Some, nat_le, nat_lt, ◌^◌, arith, sym, ap, ◌∙◌, subst}
use Rattle.std.specs.Prelude.{◌==◌, ◌&&◌, if◌then◌else◌}
use Rattle.std.specs.List.{slice_get}
use Rattle.std.specs.Option.{option_map, option_or}
use Rattle.transfer_core.specs.Window.{span, fits}
use Rattle.std.proofs.lemmas.List.{length_push, drop_all}
use Rattle.std.proofs.lemmas.Bool.Decides.{nat_tests}
use Rattle.dns_rdata.specs.SerialOrder.{serial_distance}
use Rattle.transfer_core.proofs.VersionLemmas.{drop_here}
use Rattle.weak_history.specs.History.{Entered, HistoryState, serials_in, span_in, longest_run}

serials_push : {T : Type 0} (entries : List (Entered T)) (entry : Entered T) → serials_in (entries ++ entry ∷ []) ≡ serials_in entries ++ entry.serial ∷ []
serials_push [] entry = refl
serials_push (first ∷ entries) entry = ap (λ l. first.serial ∷ l) (serials_push entries entry)

-- entries that fit with one more are the longest run
run_fits : {T : Type 0} (size : ℕ) (entries : List (Entered T)) → fits size (serials_in entries) ≡ true → longest_run size entries ≡ entries
run_fits size [] fit = refl
run_fits size (entry ∷ entries) fit = rw fit refl

pub run_with : {T : Type 0} (size serial : ℕ) (entries : List (Entered T)) (entry : Entered T) → entry.serial ≡ serial → fits size (serials_in entries ++ serial ∷ []) ≡ true → longest_run size (entries ++ entry ∷ []) ≡ entries ++ entry ∷ []
run_with size serial entries entry is fit = run_fits size (entries ++ entry ∷ []) (ap (fits size) (serials_push entries entry ∙ ap (λ (s : ℕ). serials_in entries ++ s ∷ []) is) ∙ fit)

-- the first of those that don't fit leaves
pub run_without : {T : Type 0} (size serial : ℕ) (entries : List (Entered T)) (entry : Entered T) → entry.serial ≡ serial → 0 < length entries → fits size (serials_in entries ++ serial ∷ []) ≡ false
    → longest_run size (entries ++ entry ∷ []) ≡ longest_run size (drop 1 entries ++ entry ∷ [])
run_without size serial [] entry is some unfit = absurd (omega arith)
run_without size serial (first ∷ entries) entry is some unfit =
    let not_fit : fits size (serials_in ((first ∷ entries) ++ entry ∷ [])) ≡ false = ap (fits size) (serials_push (first ∷ entries) entry ∙ ap (λ (s : ℕ). serials_in (first ∷ entries) ++ s ∷ []) is) ∙ unfit in
    rw not_fit refl

none_first : {X : Type 0} (xs : List X) → None ≡ slice_get xs 0 → xs ≡ []
none_first [] none = refl
none_first (x ∷ xs) none = absurd (cc)

-- from no entry it is no way to a serial
pub no_way : {T : Type 0} (entries : List (Entered T)) (serial : ℕ) → None ≡ slice_get entries 0 → true ≡ nat_lt (span_in (serials_in entries ++ serial ∷ [])) 2147483648
no_way {T} entries serial none = ap (λ (es : List (Entered T)). nat_lt (span_in (serials_in es ++ serial ∷ [])) 2147483648) (sym (none_first entries none))

-- the way from one entry to the next, with the way from there on, is the whole way
pub way_on : {T : Type 0} (entries : List (Entered T)) (at serial last sum now all : ℕ) (entry : Entered T) → slice_get entries at ≡ Some entry → now ≡ sum + serial_distance last entry.serial
    → sum + span last (serials_in (drop at entries) ++ serial ∷ []) ≡ all → now + span entry.serial (serials_in (drop (at + 1) entries) ++ serial ∷ []) ≡ all
way_on entries at serial last sum now all entry is now_is so_far =
    let here : span last (serials_in (drop at entries) ++ serial ∷ []) ≡ serial_distance last entry.serial + span entry.serial (serials_in (drop (at + 1) entries) ++ serial ∷ []) =
    ap (λ es. span last (serials_in es ++ serial ∷ [])) (drop_here entries at entry (sym is)) in
    omega (arith, now_is, here, so_far)

-- it is too far by then
pub too_far : {T : Type 0} (entries : List (Entered T)) (at serial last sum now all : ℕ) (entry : Entered T) → slice_get entries at ≡ Some entry → now ≡ sum + serial_distance last entry.serial
    → sum + span last (serials_in (drop at entries) ++ serial ∷ []) ≡ all → 2147483648 ≤ now → false ≡ nat_lt all 2147483648
too_far entries at serial last sum now all entry is now_is so_far far =
    let whole = way_on entries at serial last sum now all entry is now_is so_far in
    by all (omega (arith, whole, far))
  where
    by : (n : ℕ) → 2147483648 ≤ n → false ≡ nat_lt n 2147483648
    by n far = grind (arith, nat_tests)

-- entries fit with one more, by how many there are and how far it is
pub fits_by : {T : Type 0} (size : ℕ) (entries : List (Entered T)) (serial : ℕ) → nat_lt (length entries) size && nat_lt (span_in (serials_in entries ++ serial ∷ [])) 2147483648 ≡ fits size (serials_in entries ++ serial ∷ [])
fits_by size [] serial = refl
fits_by size (entry ∷ entries) serial =
    let size_is : length (serials_in entries ++ serial ∷ []) ≡ length (entry ∷ entries) = length_push (serials_in entries) serial ∙ ap (λ n. n + 1) (length_serials entries) ∙ omega arith in
    ap (λ n. nat_lt n size && nat_lt (span entry.serial (serials_in entries ++ serial ∷ [])) 2147483648) (sym size_is)
  where
    length_serials : {T : Type 0} (es : List (Entered T)) → length (serials_in es) ≡ length es
    length_serials [] = refl
    length_serials (e ∷ es) = ap suc (length_serials es)

pub fits_then : {T : Type 0} (size : ℕ) (entries : List (Entered T)) (serial : ℕ) (b : Bool) → length entries < size → b ≡ nat_lt (span_in (serials_in entries ++ serial ∷ [])) 2147483648 → b ≡ fits size (serials_in entries ++ serial ∷ [])
fits_then size entries serial b few is =
    let is_few : nat_lt (length entries) size ≡ true = grind (arith, nat_tests) in
    is ∙ ap (λ t. t && nat_lt (span_in (serials_in entries ++ serial ∷ [])) 2147483648) (sym is_few) ∙ fits_by size entries serial

pub fits_else : {T : Type 0} (size : ℕ) (entries : List (Entered T)) (serial : ℕ) → size ≤ length entries → false ≡ fits size (serials_in entries ++ serial ∷ [])
fits_else size entries serial many =
    let is_many : nat_lt (length entries) size ≡ false = grind (arith, nat_tests) in
    ap (λ t. t && nat_lt (span_in (serials_in entries ++ serial ∷ [])) 2147483648) (sym is_many) ∙ fits_by size entries serial

-- what fits has room
pub fits_few : {T : Type 0} (size : ℕ) (entries : List (Entered T)) (serial : ℕ) → fits size (serials_in entries ++ serial ∷ []) ≡ true → length entries < size
fits_few size entries serial fit = few_by (length entries) size (nat_lt (span_in (serials_in entries ++ serial ∷ [])) 2147483648) (fits_by size entries serial ∙ fit)
  where
    few_by : (n most : ℕ) (near : Bool) → nat_lt n most && near ≡ true → n < most
    few_by n most near both = grind (arith, nat_tests)

-- one entry alone fits, where there may be one
pub one_fits : {T : Type 0} (size serial : ℕ) (entries : List (Entered T)) → 0 < size → fits size (serials_in entries ++ serial ∷ []) ≡ false → 0 < length entries
one_fits size serial [] some unfit =
    let is_some : nat_lt 0 size ≡ true = grind (arith, nat_tests) in
    absurd (clash (ap (λ t. t && true) (sym is_some) ∙ unfit))
  where
    clash : true ≡ false → ⊥
    clash e = cc
one_fits size serial (entry ∷ entries) some unfit = omega arith

span_push : (serial : ℕ) (serials : List ℕ) (next : ℕ) → span serial serials ≤ span serial (serials ++ next ∷ [])
span_push serial [] next = omega arith
span_push serial (s ∷ serials) next = let more = span_push s serials next in omega (arith, more)

fits_front : (size : ℕ) (serials : List ℕ) (next : ℕ) → fits size (serials ++ next ∷ []) ≡ true → fits size serials ≡ true
fits_front size [] next fit = refl
fits_front size (serial ∷ serials) next fit =
    let longer = length_push serials next in
    let further = span_push serial serials next in
    less (length serials) (length (serials ++ next ∷ [])) (span serial serials) (span serial (serials ++ next ∷ [])) (omega (arith, longer)) further fit
  where
    less : (m n s t : ℕ) → m ≤ n → s ≤ t → nat_lt n size && nat_lt t (2 ^ 31) ≡ true → nat_lt m size && nat_lt s (2 ^ 31) ≡ true
    less m n s t shorter nearer fit = grind (arith, nat_tests)

run_gone : {T : Type 0} (size : ℕ) (entry : Entered T) (entries : List (Entered T)) → fits size (serials_in (entry ∷ entries)) ≡ false → longest_run size (entry ∷ entries) ≡ longest_run size entries
run_gone size entry entries unfit = rw unfit refl

still_unfit : (size : ℕ) (serials : List ℕ) (next : ℕ) (b : Bool) → fits size (serials ++ next ∷ []) ≡ b → fits size serials ≡ false → fits size (serials ++ next ∷ []) ≡ false
still_unfit size serials next false is unfit = is
still_unfit size serials next true is unfit = let fit = fits_front size serials next is in absurd (cc)

run_by : {T : Type 0} (size : ℕ) (first : Entered T) (entries : List (Entered T)) (entry : Entered T) (b : Bool) → fits size (serials_in (first ∷ entries)) ≡ b → longest_run size (longest_run size entries ++ entry ∷ []) ≡ longest_run size (entries ++ entry ∷ [])
    → longest_run size (longest_run size (first ∷ entries) ++ entry ∷ []) ≡ longest_run size ((first ∷ entries) ++ entry ∷ [])
run_by {T} size first entries entry true fit again = ap (λ (es : List (Entered T)). longest_run size (es ++ entry ∷ [])) (run_fits size (first ∷ entries) fit)
run_by {T} size first entries entry false unfit again =
    let longer : fits size (serials_in ((first ∷ entries) ++ entry ∷ [])) ≡ false =
    ap (fits size) (serials_push (first ∷ entries) entry) ∙ still_unfit size (serials_in (first ∷ entries)) entry.serial (fits size (serials_in (first ∷ entries) ++ entry.serial ∷ [])) refl unfit in
    ap (λ (es : List (Entered T)). longest_run size (es ++ entry ∷ [])) (run_gone size first entries unfit) ∙ again ∙ sym (run_gone size first (entries ++ entry ∷ []) longer)

pub run_again : {T : Type 0} (size : ℕ) (entries : List (Entered T)) (entry : Entered T) → longest_run size (longest_run size entries ++ entry ∷ []) ≡ longest_run size (entries ++ entry ∷ [])
run_again size [] entry = refl
run_again size (first ∷ entries) entry = run_by size first entries entry (fits size (serials_in (first ∷ entries))) refl (run_again size entries entry)

pub not_less : (n most : ℕ) → most ≤ n → nat_lt n most ≡ false
not_less n most many = grind (arith, nat_tests)

-- the oldest entry leaves, and the others are as long a run with one more
pub one_leaves : {T : Type 0} (initial state : HistoryState T) (serial size : ℕ) (entries : List (Entered T)) → 0 < initial.size → state.size ≡ initial.size
    → ((entry : Entered T) → entry.serial ≡ serial → longest_run state.size (state.entries ++ entry ∷ []) ≡ longest_run initial.size (initial.entries ++ entry ∷ [])) → fits state.size (serials_in state.entries ++ serial ∷ []) ≡ false
    → size ≡ state.size → entries ≡ drop 1 state.entries → (size ≡ initial.size) × ((entry : Entered T) → entry.serial ≡ serial → longest_run size (entries ++ entry ∷ []) ≡ longest_run initial.size (initial.entries ++ entry ∷ []))
one_leaves {T} initial state serial size entries some kept run unfit same rest =
    let few : 0 < length state.entries = one_fits state.size serial state.entries (omega (arith, some, kept)) unfit in (
      same ∙ kept,
      λ entry is.
          ap (λ (n : ℕ). longest_run n (entries ++ entry ∷ [])) same
          ∙ ap (λ (es : List (Entered T)). longest_run state.size (es ++ entry ∷ [])) rest
          ∙ sym (run_without state.size serial state.entries entry is few unfit)
          ∙ run entry is,
    )

-- What is in full places, and the newest of a list.
use Rattle.std.proofs.Common.{◌≡◌, refl, ℕ, suc, zero, ◌+◌, ◌-◌, ◌≤◌, ◌<◌, min, List, [], ◌∷◌, ◌++◌, length, take, drop, take-append-drop, append_assoc, length-drop, Option, None, Some, arith, sym, ap, ◌∙◌, subst}
use Rattle.std.proofs.lemmas.List.{length_push, drop_all}
use Rattle.std.specs.List.{slice_get}
use Rattle.std.proofs.Math.ListN.{get_or}
use lib.Seq.{drop-append-le}
use Rattle.dns_rdata.specs.Record.{Record}
use Rattle.zone_tree.specs.Version.{Version}
use Rattle.cell_core.specs.Cell.{EachFollows}
use Rattle.cell_core.specs.declared.words.Version.{Version as Numbered}
use Rattle.counted_handles.specs.History.{IsHistory}
use Rattle.dns_engine.specs.Versions.{IsFirst, IsNext}
use Rattle.dns_engine.specs.Held.{Held, newest, IsNewest, held_with}
use Rattle.weak_history.specs.Places.{placed, IsFull}
use Rattle.weak_history.proofs.PlaceLemmas.{placed-append, length-placed}
use Rattle.dns_engine.specs.Owned.{versions_of}

pub full_drop : {T : Type 0} (places : List (Option T)) → IsFull places → IsFull (drop 1 places)
full_drop [] full = tt
full_drop (None ∷ places) full = absurd full
full_drop (Some other ∷ places) full = full

-- the versions of owners in places
abbrev pub owned : List (Option (Numbered Version)) → List Version
owned places = versions_of (placed places)

versions-append : (owners more : List (Numbered Version)) → versions_of (owners ++ more) ≡ versions_of owners ++ versions_of more
versions-append [] more = refl
versions-append (owner ∷ owners) more = ap (λ l. owner.value ∷ l) (versions-append owners more)

length-versions : (owners : List (Numbered Version)) → length (versions_of owners) ≡ length owners
length-versions [] = refl
length-versions (owner ∷ owners) = ap suc (length-versions owners)

pub owned-append : (places more : List (Option (Numbered Version))) → owned (places ++ more) ≡ owned places ++ owned more
owned-append places more = ap versions_of (placed-append places more) ∙ versions-append (placed places) (placed more)

pub length-owned : (places : List (Option (Numbered Version))) → IsFull places → length (owned places) ≡ length places
length-owned places full = length-versions (placed places) ∙ length-placed places full

pub owned-drop : (places : List (Option (Numbered Version))) → IsFull places → owned (drop 1 places) ≡ drop 1 (owned places)
owned-drop [] full = refl
owned-drop (None ∷ places) full = absurd full
owned-drop (Some other ∷ places) full = refl

-- the newest of a list with one value more
pub newest_push : {T : Type 0} (keep : ℕ) (values : List T) (value : T) → 0 < keep → newest keep (values ++ value ∷ []) ≡ newest (keep - 1) values ++ value ∷ []
newest_push keep values value some =
    let size : length (values ++ value ∷ []) ≡ length values + 1 = length_push values value in
    let much : length (values ++ value ∷ []) - keep ≡ length values - (keep - 1) = omega arith in
    ap (λ k. drop k (values ++ value ∷ [])) much ∙ drop-append-le (length values - (keep - 1)) values (value ∷ []) (omega arith)

-- none of a list is kept
pub newest_none : {T : Type 0} (values : List T) → newest 0 values ≡ []
newest_none values = drop_all (length values - 0) values (omega arith)

-- how many the newest are
pub length-newest : {T : Type 0} (keep : ℕ) (values : List T) → length (newest keep values) ≡ min keep (length values)
length-newest keep values = length-drop (length values - keep) values ∙ omega arith

each_on : (begins : Version) (before : List Version) (last value : Version) → EachFollows IsNext (begins ∷ (before ++ last ∷ [])) → IsNext last value → EachFollows IsNext (begins ∷ ((before ++ last ∷ []) ++ value ∷ []))
each_on begins [] last value each may = (each.0, (may, tt))
each_on begins (next ∷ before) last value each may = (each.0, each_on next before last value each.1 may)

-- a version that may follow the last one makes a history longer
pub goes_on : (first : List Record) (before : List Version) (last value : Version) → IsHistory (IsFirst first) IsNext (before ++ last ∷ []) → IsNext last value → IsHistory (IsFirst first) IsNext ((before ++ last ∷ []) ++ value ∷ [])
goes_on first [] last value history may = (history.0, (may, tt))
goes_on first (begins ∷ before) last value history may = (history.0, each_on begins before last value history.1 may)

-- what is held once a version is published is the newest again
pub newest_on : (first : List Record) (held : Held) (version : Version) → IsNewest first held → IsNext held.last version → IsNewest first (held_with held version)
newest_on first held version p may =
    let all = held.older ++ held.last ∷ [] in
    let k : ℕ = length all - held.keep in
    let whole : (p.before ++ take k all) ++ drop k all ≡ (p.before ++ held.older) ++ held.last ∷ [] =
    append_assoc p.before (take k all) (drop k all) ∙ ap (λ l. p.before ++ l) (take-append-drop k all) ∙ sym (append_assoc p.before held.older (held.last ∷ [])) in
    let longer = goes_on first (p.before ++ held.older) held.last version (subst (IsHistory (IsFirst first) IsNext) p.ends p.history) may in
    let next : version.number ≡ held.last.number + 1 = may.makes.number in
    record {
      before = p.before ++ take k all;
      history = subst (λ l. IsHistory (IsFirst first) IsNext (l ++ version ∷ [])) (sym p.ends) longer;
      ends = ap (λ l. l ++ version ∷ []) (p.ends ∙ sym whole);
      number = ap length whole ∙ length_push (p.before ++ held.older) held.last ∙ ap (λ n. n + 1) p.number ∙ sym next;
      most = length-newest held.keep all ∙ ap (min held.keep) (length_push held.older held.last) ∙ omega (arith, p.most, next);
    }

-- where there are as many as are kept, the oldest goes; where there are fewer, all stay
pub oldest_out : (keep : ℕ) (places : List (Option (Numbered Version))) → IsFull places → 0 < keep → length places ≡ keep → owned (drop 1 places) ≡ newest (keep - 1) (owned places)
oldest_out keep places full some many =
    let size = length-owned places full in
    let one : 1 ≡ length (owned places) - (keep - 1) = omega (arith, size, many) in
    owned-drop places full ∙ ap (λ k. drop k (owned places)) one

pub all_stay : (keep : ℕ) (places : List (Option (Numbered Version))) → IsFull places → 0 < keep → length places ≤ keep → (length places ≡ keep → ⊥) → owned places ≡ newest (keep - 1) (owned places)
all_stay keep places full some few other =
    let size = length-owned places full in
    let nothing : 0 ≡ length (owned places) - (keep - 1) = omega (arith, size, few, other) in
    ap (λ k. drop k (owned places)) nothing

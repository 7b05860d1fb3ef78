-- What is held once versions are published one after another.
use Rattle.std.proofs.Common.{◌≡◌, refl, ℕ, zero, suc, ◌+◌, ◌-◌, ◌≤◌, List, [], ◌∷◌, ◌++◌, length, drop, length-drop, append_assoc, append-nil, arith, sym, ap, ◌∙◌, subst}
use Rattle.std.proofs.lemmas.List.{drop-drop, drop_all}
use Rattle.dns_rdata.specs.Record.{Record}
use Rattle.zone_tree.specs.Version.{Version}
use Rattle.cell_core.specs.Cell.{EachFollows}
use Rattle.counted_handles.specs.History.{IsHistory}
use Rattle.dns_engine.specs.Versions.{IsFirst, IsNext, AreNext}
use Rattle.dns_engine.specs.Held.{Held, newest, IsNewest, held_with, all_held, held_alone, held_through}
use Rattle.dns_engine.proofs.OwnedLemmas.{newest_push, newest_none}

-- a list's elements, once all are taken
pub all_taken : {A : Type 0} (taken rest all : List A) → taken ++ rest ≡ all → length rest ≡ 0 → taken ≡ all
all_taken taken [] all whole none = sym (append-nil taken) ∙ whole
all_taken taken (value ∷ rest) all whole none = absurd (omega (arith, none))

-- one version more is published
pub through_more : (held : Held) (later : List Version) (version : Version) → held_through held (later ++ version ∷ []) ≡ held_with (held_through held later) version
through_more held [] version = refl
through_more held (next ∷ later) version = through_more (held_with held next) later version

-- fewer of the newest
pub newest_newest : {T : Type 0} (few many : ℕ) (values : List T) → few ≤ many → newest few (newest many values) ≡ newest few values
newest_newest few many values within =
    let left : length (drop (length values - many) values) ≡ length values - (length values - many) = length-drop (length values - many) values in
    let gone : (length values - many) + (length (drop (length values - many) values) - few) ≡ length values - few = omega (arith, left, within) in
    drop-drop (length (drop (length values - many) values) - few) (length values - many) values ∙ ap (λ (n : ℕ). drop n values) gone

-- the newest of the newest and one value more
pub newest_again : {T : Type 0} (keep : ℕ) (values : List T) (value : T) → newest keep (newest keep values ++ value ∷ []) ≡ newest keep (values ++ value ∷ [])
newest_again zero values value = newest_none (newest 0 values ++ value ∷ []) ∙ sym (newest_none (values ++ value ∷ []))
newest_again {T} (suc keep) values value =
    newest_push (suc keep) (newest (suc keep) values) value (omega arith)
    ∙ (ap (λ (l : List T). l ++ value ∷ []) (newest_newest (suc keep - 1) (suc keep) values (omega arith))
    ∙ sym (newest_push (suc keep) values value (omega arith)))

-- the last value and the newest before it
pub newest_with : {T : Type 0} (keep : ℕ) (values : List T) (value : T) → newest (keep + 1) (values ++ value ∷ []) ≡ newest keep values ++ value ∷ []
newest_with {T} keep values value =
    let same : (keep + 1) - 1 ≡ keep = omega arith in
    newest_push (keep + 1) values value (omega arith) ∙ ap (λ (n : ℕ). newest n values ++ value ∷ []) same

-- the versions that are held are the newest of those in front of the last and behind it
pub through_all : (held : Held) (before later : List Version) → held.older ≡ newest held.keep before
    → all_held (held_through held later) ≡ newest (held.keep + 1) ((before ++ held.last ∷ []) ++ later)
through_all held before [] kept =
    ap (λ (l : List Version). l ++ held.last ∷ []) kept
    ∙ (sym (newest_with held.keep before held.last) ∙ ap (λ (l : List Version). newest (held.keep + 1) l) (sym (append-nil (before ++ held.last ∷ []))))
through_all held before (version ∷ later) kept =
    let again : newest held.keep (held.older ++ held.last ∷ []) ≡ newest held.keep (before ++ held.last ∷ []) =
    ap (λ (l : List Version). newest held.keep (l ++ held.last ∷ [])) kept ∙ newest_again held.keep before held.last in
    through_all (held_with held version) (before ++ held.last ∷ []) later again
    ∙ ap (λ (l : List Version). newest (held.keep + 1) l) (append_assoc (before ++ held.last ∷ []) (version ∷ []) later)

-- the same where one version alone is published at first
pub alone_all : (version : Version) (keep : ℕ) (later : List Version) → all_held (held_through (held_alone (version ∷ []) version keep) later) ≡ newest (keep + 1) (version ∷ later)
alone_all version keep later = through_all (held_alone (version ∷ []) version keep) [] later (sym (drop_all (0 - keep) [] (omega arith)))

-- the first of versions, and those behind it that may be published one after another
abbrev pub Follow : List Version → Type 0
Follow [] = Unit {0}
Follow (version ∷ later) = AreNext version later

each_next : (version : Version) (later : List Version) → EachFollows IsNext (version ∷ later) → AreNext version later
each_next version [] each = tt
each_next version (next ∷ later) each = (each.0, each_next next later each.1)

history_follows : (first : List Record) (published : List Version) → IsHistory (IsFirst first) IsNext published → Follow published
history_follows first [] history = absurd history
history_follows first (version ∷ later) history = each_next version later history.1

next_behind : (version : Version) (before versions : List Version) → AreNext version (before ++ versions) → Follow versions
next_behind version [] [] are = tt
next_behind version [] (next ∷ versions) are = are.1
next_behind version (next ∷ before) versions are = next_behind next before versions are.1

follow_behind : (before versions : List Version) → Follow (before ++ versions) → Follow versions
follow_behind [] versions follow = follow
follow_behind (version ∷ before) versions follow = next_behind version before versions follow

-- the versions that are held may be published one after another
pub held_follow : (first : List Record) (held : Held) → IsNewest first held → Follow (all_held held)
held_follow first held newest =
    let parts : held.published ≡ newest.before ++ all_held held = newest.ends ∙ append_assoc newest.before held.older (held.last ∷ []) in
    follow_behind newest.before (all_held held) (subst Follow parts (history_follows first held.published newest.history))

-- The history of published versions, with one version more.
use Rattle.std.proofs.Common.{◌≡◌, refl, ℕ, ◌+◌, List, [], ◌∷◌, ◌++◌, length, map, Some, sym, ap, ◌∙◌, subst, arith}
use Rattle.std.specs.List.{slice_get}
use Rattle.std.proofs.lemmas.List.{map-append}
use Rattle.zone_tree.specs.Version.{Version, zone_serial}
use Rattle.cell_core.specs.declared.words.Version.{Version as Numbered}
use Rattle.weak_history.specs.History.{Entered, HistoryState, longest_run}
use Rattle.weak_history.proofs.HistoryLemmas.{run_again}
use Rattle.dns_rdata.specs.Record.{Record}
use Rattle.counted_handles.specs.History.{IsHistory}
use Rattle.dns_engine.specs.Versions.{IsFirst, IsNext}
use Rattle.dns_engine.specs.Held.{IsNewest}
use Rattle.dns_engine.specs.Entries.{entry_of, entries_of, history_of}

entry_is : (version : Version) (owner : Numbered Version) (serial : ℕ) → owner ≡ record { number = version.number; value = version } → serial ≡ zone_serial version.zone → record { version = owner; serial = serial } ≡ entry_of version
entry_is version owner serial is at = λ i. record { version = is i; serial = at i }

pub history_on : (published : List Version) (version : Version) (state new : HistoryState Version) (owner : Numbered Version) (serial : ℕ) → state ≡ history_of published → owner ≡ record { number = version.number; value = version } → serial ≡ zone_serial version.zone
    → new ≡ record state { entries = longest_run state.size (state.entries ++ record { version = owner; serial = serial } ∷ []) } → new ≡ history_of (published ++ version ∷ [])
history_on published version state new owner serial held is at reported =
    let entries : longest_run 16 (entries_of published ++ record { version = owner; serial = serial } ∷ []) ≡ entries_of (published ++ version ∷ []) =
    ap (λ (e : Entered Version). longest_run 16 (entries_of published ++ e ∷ [])) (entry_is version owner serial is at)
    ∙ run_again 16 (map entry_of published) (entry_of version)
    ∙ ap (longest_run 16) (sym (map-append entry_of published (version ∷ []))) in
    reported
    ∙ ap (λ (s : HistoryState Version). record s { entries = longest_run s.size (s.entries ++ record { version = owner; serial = serial } ∷ []) }) held
    ∙ (λ i. record { size = 16; entries = entries i })

-- where one version alone is published
pub history_begun : (published : List Version) (version : Version) (state new : HistoryState Version) (owner : Numbered Version) (serial : ℕ) → published ≡ version ∷ [] → state ≡ record { size = 16; entries = [] } → owner ≡ record { number = version.number; value = version } → serial ≡ zone_serial version.zone
    → new ≡ record state { entries = longest_run state.size (state.entries ++ record { version = owner; serial = serial } ∷ []) } → new ≡ history_of published
history_begun published version state new owner serial one begun is at reported = history_on [] version state new owner serial begun is at reported ∙ ap history_of (sym one)

-- a list of which the first value is the last one
pub only_one : (published : List Version) (value : Version) → length published ≡ 1 → slice_get published 0 ≡ Some value → published ≡ value ∷ []
only_one [] value size is = absurd (omega arith)
only_one (first ∷ []) value size is = ap (λ v. v ∷ []) (some_same first value is)
  where
    some_same : (a b : Version) → Some a ≡ Some b → a ≡ b
    some_same a b e = cc
only_one (first ∷ (next ∷ more)) value size is = absurd (omega arith)

-- where one version alone is published, it is the newest
pub begun_newest : (first : List Record) (published : List Version) (version : Version) (keep : ℕ) (older : List Version) → published ≡ version ∷ [] → IsHistory (IsFirst first) IsNext published → older ≡ [] → version.number ≡ 0
    → IsNewest first (record { published = published; last = version; keep = keep; older = older })
begun_newest first published version keep older one history none begins = record {
  before = [];
  history = history;
  ends = one ∙ ap (λ (o : List Version). o ++ version ∷ []) (sym none);
  number = ap length none ∙ sym begins;
  most = ap length none ∙ omega (arith, begins);
}

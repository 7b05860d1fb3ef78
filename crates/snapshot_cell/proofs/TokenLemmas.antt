-- What a step over a token's views makes of the token.
use Rattle.std.proofs.Common.{◌≡◌, refl, ap, sym, ◌∙◌, subst, ℕ, zero, suc, ◌+◌, ◌-◌, ◌*◌, ◌<◌, ◌≤◌, List, [], ◌∷◌, ◌++◌, length, Option, Some, None, mul-le-mul_right, arith}
use Rattle.std.specs.Prelude.{Result, Ok, Err, IfErr}
use Rattle.std.specs.List.{slice_get}
use Rattle.std.proofs.lemmas.List.{length_push}
use Rattle.std.proofs.Math.Nat.{suc-mul, zero-mul}
use Rattle.std.proofs.Math.Numerals.{suc-eq-add-one}
use Rattle.atomic_table.specs.Seated.{TableId}
use Rattle.cell_core.specs.Words.{slots, grants, notes}
use Rattle.cell_core.specs.declared.words.Version.{Version}
use Rattle.counted_handles.specs.declared.view.Publishing.{Publishing}
use Rattle.counted_handles.specs.declared.view.View.{View}
use Rattle.counted_handles.specs.declared.view.View.TheVariants.{Publishes}
use Rattle.counted_handles.specs.History.{IsHistory}
use Rattle.counted_handles.specs.Ruled.{Begins}
use Rattle.counted_handles.specs.Cuts.{dealt_grants, with_reader, reader_of}
use Rattle.counted_handles.specs.Opens.{IsBegun}
use Rattle.counted_handles.specs.Tells.{opener}
use Rattle.counted_handles.specs.Calls.{IsOwned, IsNewer}
use Rattle.snapshot_cell.specs.Tokens.{ReaderState, seen_in, gone_in, IsReader, IsPublisher, IsLoad, IsDealing, limited_reader}
use Rattle.counted_handles.specs.Found.{without, Falls}
use Rattle.counted_handles.specs.Calls.{HasNone, HasFound}
use Rattle.counted_handles.proofs.FoundLemmas.{falls_without, length_without, none_found}
use Rattle.snapshot_cell.proofs.HistoryLemmas.{history_next}

abbrev got_or : {X : Type 0} → X → Option X → X
got_or x None = x
got_or x (Some y) = y

-- what a list has at its end
at_end : {X : Type 0} (xs : List X) (x : X) → slice_get (xs ++ x ∷ []) (length xs) ≡ Some x
at_end [] x = refl
at_end (y ∷ ys) x = at_end ys x

-- the last of some values is one
pub same_last : {T : Type 0} (published : List T) (version : Version T) (number : ℕ) (value : T) → length published ≡ version.number + 1 → slice_get published version.number ≡ Some version.value → length published ≡ number + 1 → slice_get published number ≡ Some value → version ≡ record { number = number; value = value }
same_last published version number value size got size_too got_too =
    let numbers : version.number ≡ number = omega (arith, size, size_too) in
    let values : version.value ≡ value = ap (got_or value) (sym got ∙ ap (slice_get published) numbers ∙ got_too) in
    λ i. record { number = numbers i; value = values i }

module _ {T : Type 0} (begins : T → Type 0) (follows : T → T → Type 0) where
  pub loaded_as : (before : ReaderState T) (cell new_cell : TableId) (views new_views : List (View T)) (left : ℕ) (version : Version T) → before ≡ record { cell = cell; seen = seen_in views; left = left; gone = gone_in views } → (inv : IsReader cell views left) → 0 < left → new_cell ≡ cell
      → IsOwned begins follows inv.reading new_views version → IsLoad begins follows before (record { cell = new_cell; seen = seen_in new_views; left = left - 1; gone = gone_in new_views }) version
  loaded_as before cell new_cell views new_views left version is inv some same o =
      let saw : seen_in views ≡ inv.reading.seen = ap seen_in inv.views_are in
      let sees : seen_in new_views ≡ o.published = ap seen_in o.views_are in
      subst (λ b. IsLoad begins follows b (record { cell = new_cell; seen = seen_in new_views; left = left - 1; gone = gone_in new_views }) version) (sym is) (record {
        cell = same;
        begun = subst (λ s. Begins s (seen_in new_views)) (sym saw) (subst (λ p. Begins inv.reading.seen p) (sym sees) o.begun);
        history = subst (IsHistory begins follows) (sym sees) o.history;
        last = (ap (λ (l : List T). length l) sees ∙ o.last, ap (λ l. slice_get l version.number) sees ∙ o.value_is);
        left = omega arith;
        gone = ap gone_in o.views_are ∙ sym (ap gone_in inv.views_are);
      })

  -- a token whose view tells the same
  pub publisher_as : {ready : ℕ} (cell new_cell : TableId) (id new_id : ℕ) (views new_views : List (View T)) (spare_cell : TableId) (spare : List (View T)) (number : ℕ) (value : T) (readers noted new_noted : ℕ) → (inv : IsPublisher begins follows cell id views spare_cell spare number value readers noted ready) → new_cell ≡ cell → new_id ≡ id
      → (q : Publishing T) → new_views ≡ Publishes q ∷ [] → q.published ≡ inv.publishing.published → q.how ≡ inv.publishing.how → q.share ≡ inv.publishing.share → q.left ≡ 0 → q.name ≡ inv.publishing.name → q.readers ≡ inv.publishing.readers → q.noted ≡ new_noted → new_noted ≤ notes → q.found ≡ inv.publishing.found → IsPublisher begins follows new_cell new_id new_views spare_cell spare number value readers new_noted ready
  publisher_as {ready = ready} cell new_cell id new_id views new_views spare_cell spare number value readers noted new_noted inv same same_id q is published how share left name still gave few same_found = record {
    publishing = q;
    views_are = is;
    first = same_id ∙ inv.first;
    how = how ∙ inv.how;
    whole = share ∙ inv.whole;
    none_left = left;
    name_is = name ∙ inv.name_is ∙ ap (λ (z : TableId). z.views_name) (sym same);
    history = subst (IsHistory begins follows) (sym published) inv.history;
    last = ap (λ (l : List T). length l) published ∙ inv.last;
    value_is = ap (λ l. slice_get l number) published ∙ inv.value_is;
    readers_are = still ∙ inv.readers_are;
    spare_fits = inv.spare_fits ∙ sym same;
    rest = inv.rest;
    spare_is = inv.spare_is;
    spare_whole = inv.spare_whole;
    noted_is = gave;
    few = few;
    found = λ some. subst (λ xs. Falls slots xs × (ready ≤ length xs)) (sym same_found) (inv.found some);
  }

  -- a token that has counted free slots
  pub publisher_found : {ready : ℕ} (cell new_cell : TableId) (id new_id : ℕ) (views new_views : List (View T)) (spare_cell : TableId) (spare : List (View T)) (number : ℕ) (value : T) (readers noted count : ℕ) → (inv : IsPublisher begins follows cell id views spare_cell spare number value readers noted ready) → new_cell ≡ cell → new_id ≡ id
      → HasFound inv.publishing count new_views → IsPublisher begins follows new_cell new_id new_views spare_cell spare number value readers noted count
  publisher_found cell new_cell id new_id views new_views spare_cell spare number value readers noted count inv same same_id has = record {
    publishing = record (inv.publishing) { found = has.found };
    views_are = has.views_are;
    first = same_id ∙ inv.first;
    how = inv.how;
    whole = inv.whole;
    none_left = inv.none_left;
    name_is = inv.name_is ∙ ap (λ (z : TableId). z.views_name) (sym same);
    history = inv.history;
    last = inv.last;
    value_is = inv.value_is;
    readers_are = inv.readers_are;
    spare_fits = inv.spare_fits ∙ sym same;
    rest = inv.rest;
    spare_is = inv.spare_is;
    spare_whole = inv.spare_whole;
    noted_is = inv.noted_is;
    few = inv.few;
    found = λ some. (has.falls, omega (arith, has.many));
  }

  -- a token behind a publication
  pub publisher_next : {ready : ℕ} (cell new_cell : TableId) (id new_id : ℕ) (views new_views : List (View T)) (spare_cell : TableId) (spare : List (View T)) (number : ℕ) (last value : T) (readers noted : ℕ) → (inv : IsPublisher begins follows cell id views spare_cell spare number last readers noted ready) → new_cell ≡ cell → new_id ≡ id → follows last value
      → IsNewer inv.publishing value new_views → IsPublisher begins follows new_cell new_id new_views spare_cell spare (number + 1) value readers noted (ready - 1)
  publisher_next cell new_cell id new_id views new_views spare_cell spare number last value readers noted inv same same_id may newer =
      let p : Publishing T = inv.publishing in
      let size : length (p.published ++ value ∷ []) ≡ number + 1 + 1 = length_push p.published value ∙ ap (λ n. n + 1) inv.last in
      record {
        publishing = record p { published = p.published ++ value ∷ []; next = None; fixed = None; spot = newer.0; found = without newer.1 p.found };
        views_are = newer.2;
        first = same_id ∙ inv.first;
        how = inv.how;
        whole = inv.whole;
        none_left = inv.none_left;
        name_is = inv.name_is ∙ ap (λ (z : TableId). z.views_name) (sym same);
        history = history_next begins follows p.published number last value inv.history inv.last inv.value_is may;
        last = size;
        value_is = ap (slice_get (p.published ++ value ∷ [])) (sym inv.last) ∙ at_end p.published value;
        readers_are = inv.readers_are;
        spare_fits = inv.spare_fits ∙ sym same;
        rest = inv.rest;
        spare_is = inv.spare_is;
        spare_whole = inv.spare_whole;
        noted_is = inv.noted_is;
        few = inv.few;
        found = λ some.
            let was = inv.found (omega (arith, some)) in
            (falls_without newer.1 slots p.found was.0, (let less = length_without newer.1 slots p.found was.0 in omega (arith, less, was.1)));
      }

-- what holds in any case holds of an error
pub if_err : {A E X : Type 0} (r : Result A E) → X → IfErr r (λ _. X)
if_err (Ok value) x = tt
if_err (Err fault) x = x

-- where no free slot is known none was counted
pub none_ready : {T : Type 0} (p : Publishing T) (ready : ℕ) → (0 < ready → Falls slots p.found × (ready ≤ length p.found)) → HasNone p → ready ≡ 0
none_ready p zero found none = refl
none_ready p (suc ready) found none =
    let was = found (omega arith) in
    absurd (let e = none_found p was.0 none in omega (arith, was.1, e))

-- the tokens of a new cell
module _ {T : Type 0} where
  pub begun_dealing : (value : T) (name each : ℕ) (views : List (View T)) → IsBegun value name views → IsDealing value name 0 each views
  begun_dealing value name each views begun = record { publishing = opener value name begun.0; views_are = begun.1; published = refl; how = refl; whole = refl; left = ap (λ n. grants + n) (zero-mul each); noted = refl; readers_are = refl; name_is = refl }

  pub enough_left : (value : T) (name count each : ℕ) (views : List (View T)) → (d : IsDealing value name count each views) → count < 64 → each ≤ dealt_grants → each ≤ d.publishing.left
  enough_left value name count each views d l few =
      let most : count * each ≤ 63 * each = mul-le-mul_right each (omega (arith, l)) in
      omega (arith, d.left, most, few)

  pub dealing_next : (value : T) (name count each : ℕ) (views new_views : List (View T)) → (d : IsDealing value name count each views) → each ≤ d.publishing.left → new_views ≡ Publishes (with_reader d.publishing each) ∷ [] → IsDealing value name (count + 1) each new_views
  dealing_next value name count each views new_views d enough is =
      let more : (count + 1) * each ≡ count * each + each = ap (λ n. n * each) (sym (suc-eq-add-one count)) ∙ suc-mul count each in
      record {
        publishing = with_reader d.publishing each;
        views_are = is;
        published = d.published;
        how = d.how;
        whole = d.whole;
        left = omega (arith, d.left, enough, more);
        noted = d.noted;
        readers_are = ap (λ n. n + 1) d.readers_are;
        name_is = d.name_is;
      }

  pub dealt_reader : (value : T) (count n : ℕ) (table cell : TableId) (views dealt : List (View T)) → (d : IsDealing value table.views_name count n views) → cell ≡ table → dealt ≡ reader_of d.publishing n ∷ [] → IsReader cell dealt n
  dealt_reader value count n table cell views dealt d same is = record {
    reading = record { seen = d.publishing.published; share = None; left = n; gone = []; name = d.publishing.name };
    views_are = is;
    whole = refl;
    left_is = refl;
    name_is = d.name_is ∙ ap (λ (z : TableId). z.views_name) (sym same);
  }

  pub dealt_state : (value : T) (count n : ℕ) (table cell : TableId) (views dealt : List (View T)) → (d : IsDealing value table.views_name count n views) → cell ≡ table → dealt ≡ reader_of d.publishing n ∷ [] → record { cell = cell; seen = seen_in dealt; left = n; gone = gone_in dealt } ≡ limited_reader n table value
  dealt_state value count n table cell views dealt d same is =
      let saw : seen_in dealt ≡ value ∷ [] = ap seen_in is ∙ d.published in
      let none : gone_in dealt ≡ [] = ap gone_in is in
      λ i. record { cell = same i; seen = saw i; left = n; gone = none i }

  -- the publisher's token, when the readers have theirs
  pub first_token : (begins : T → Type 0) (follows : T → T → Type 0) (value last : T) (count each : ℕ) (table cell : TableId) (id : ℕ) (views new_views : List (View T)) (spare_cell : TableId) (spare : List (View T)) → (d : IsDealing value table.views_name count each views) → begins value → last ≡ value → cell ≡ table → id ≡ 0
      → new_views ≡ Publishes (with_reader d.publishing d.publishing.left) ∷ [] → spare_cell ≡ cell → spare ≡ reader_of d.publishing d.publishing.left ∷ [] → IsPublisher begins follows cell id new_views spare_cell spare 0 last count 0 0
  first_token begins follows value last count each table cell id views new_views spare_cell spare d begun seen same seat is spare_same spare_is = record {
    publishing = with_reader d.publishing d.publishing.left;
    views_are = is;
    first = seat;
    how = d.how;
    whole = d.whole;
    none_left = omega arith;
    name_is = d.name_is ∙ ap (λ (z : TableId). z.views_name) (sym same);
    history = subst (IsHistory begins follows) (sym d.published) (begun, tt);
    last = ap (λ (l : List T). length l) d.published;
    value_is = ap (λ (l : List T). slice_get l 0) d.published ∙ ap Some (sym seen);
    spare_fits = spare_same;
    readers_are = ap (λ n. n + 1) d.readers_are;
    rest = record { seen = d.publishing.published; share = None; left = d.publishing.left; gone = []; name = d.publishing.name };
    spare_is = spare_is;
    spare_whole = refl;
    noted_is = d.noted;
    few = omega arith;
    found = λ some. absurd (omega (arith, some));
  }

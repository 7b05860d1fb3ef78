-- What a cell's tokens are to contracts (own).
use Rattle.std.specs.Prelude.{◌≡◌, ◌⊎◌, ℕ, ◌+◌, ◌-◌, ◌*◌, ◌<◌, ◌≤◌, List, [], ◌∷◌, ◌++◌, length, Option, None, Some}
use Rattle.std.specs.List.{slice_get}
use base.Stored.{Coded, coded×, coded_ℕ, coded_list, coded_via}
use Rattle.atomic_table.specs.Seated.{TableId, table_id_coded}
use Rattle.cell_core.specs.Words.{slots, grants, notes}
use Rattle.cell_core.specs.declared.words.Version.{Version}
use Rattle.cell_core.specs.declared.words.Publisher.TheVariants.{Probing}
use Rattle.counted_handles.specs.declared.view.Reading.{Reading}
use Rattle.counted_handles.specs.declared.view.Publishing.{Publishing}
use Rattle.counted_handles.specs.declared.view.View.{View}
use Rattle.counted_handles.specs.declared.view.View.TheVariants.{Begin, Began, Publishes, Reads, Hosts, Has, HasWeakly, Buries, Fades, Resets, Frees, Ends, Gone}
use Rattle.counted_handles.specs.Found.{Falls}
use Rattle.counted_handles.specs.Cuts.{dealt_grants}
use Rattle.counted_handles.specs.History.{IsHistory}
use Rattle.counted_handles.specs.Ruled.{Begins}

-- a reader: its cell, the values that it has seen published, the first one first, the grants that it has left, and the numbers that it has
-- seen buried (own)
pub record ReaderState (T : Type 0) : Type 0 where
  pub cell : TableId
  pub seen : List T
  pub left : ℕ
  pub gone : List ℕ

abbrev pub reader_coded : {T : Type 0} → Coded T → Coded (ReaderState T)
reader_coded {T} v = coded_via (coded× table_id_coded (coded× (coded_list v) (coded× coded_ℕ (coded_list coded_ℕ)))) (λ (s : ReaderState T). (s.cell, (s.seen, (s.left, s.gone))))
    (λ x y e i. record { cell = (e i).0; seen = (e i).1.0; left = (e i).1.1.0; gone = (e i).1.1.1 })

-- the publisher: its cell, the values published, the first one first, the last one with its number, how many readers there are beside it, how
-- many weak owners it has given, and how many free slots it has counted and not used since (own)
pub record PublisherState (T : Type 0) : Type 0 where
  pub cell : TableId
  pub published : List T
  pub number : ℕ
  pub value : T
  pub readers : ℕ
  pub noted : ℕ
  pub ready : ℕ

abbrev pub publisher_coded : {T : Type 0} → Coded T → Coded (PublisherState T)
publisher_coded {T} v = coded_via (coded× table_id_coded (coded× (coded_list v) (coded× coded_ℕ (coded× v (coded× coded_ℕ (coded× coded_ℕ coded_ℕ)))))) (λ (s : PublisherState T). (s.cell, (s.published, (s.number, (s.value, (s.readers, (s.noted, s.ready)))))))
    (λ x y e i. record { cell = (e i).0; published = (e i).1.0; number = (e i).1.1.0; value = (e i).1.1.1.0; readers = (e i).1.1.1.1.0; noted = (e i).1.1.1.1.1.0; ready = (e i).1.1.1.1.1.1 })

-- what a seat has seen published (own)
abbrev pub values_of : {T : Type 0} → View T → List T
values_of (Publishes p) = p.published
values_of (Reads r) = r.seen
values_of (Hosts r hold) = r.seen
values_of (Begin value) = []
values_of (Began spot) = []
values_of (Has mark) = []
values_of (Buries slot name) = []
values_of (HasWeakly tie) = []
values_of (Fades slot spot) = []
values_of (Resets slot) = []
values_of (Frees slot) = []
values_of (Ends slot spot) = []
values_of Gone = []

abbrev pub seen_in : {T : Type 0} → List (View T) → List T
seen_in [] = []
seen_in (view ∷ views) = values_of view

abbrev pub published_in : {T : Type 0} → List (View T) → List T
published_in views = seen_in views

-- the numbers that a seat has seen buried (own)
abbrev pub sunk_of : {T : Type 0} → View T → List ℕ
sunk_of (Reads r) = r.gone
sunk_of (Hosts r hold) = r.gone
sunk_of (Publishes p) = []
sunk_of (Begin value) = []
sunk_of (Began spot) = []
sunk_of (Has mark) = []
sunk_of (Buries slot name) = []
sunk_of (HasWeakly tie) = []
sunk_of (Fades slot spot) = []
sunk_of (Resets slot) = []
sunk_of (Frees slot) = []
sunk_of (Ends slot spot) = []
sunk_of Gone = []

abbrev pub gone_in : {T : Type 0} → List (View T) → List ℕ
gone_in [] = []
gone_in (view ∷ views) = sunk_of view

-- a reader's token: it has no share that isn't split off, and so many grants (own)
pub record IsReader {T : Type 0} (cell : TableId) (views : List (View T)) (left : ℕ) : Type 0 where
  pub reading : Reading T
  pub views_are : views ≡ Reads reading ∷ []
  pub whole : reading.share ≡ None
  pub left_is : reading.left ≡ left
  pub name_is : reading.name ≡ cell.views_name

-- the publisher's token between two calls: it has no grant, since a reader beside it has those that aren't dealt, and it knows the
-- last value with its number, how many other readers there are, and how many weak owners it has given, of which there may be so many; and where
-- it has counted free slots it knows as many (own)
pub record IsPublisher {T : Type 0} (begins : T → Type 0) (follows : T → T → Type 0) (cell : TableId) (id : ℕ) (views : List (View T)) (spare_cell : TableId) (spare : List (View T)) (number : ℕ) (value : T) (readers noted ready : ℕ) : Type 0 where
  pub publishing : Publishing T
  pub views_are : views ≡ Publishes publishing ∷ []
  pub first : id ≡ 0
  pub how : publishing.how ≡ Probing 0
  pub whole : publishing.share ≡ None
  pub none_left : publishing.left ≡ 0
  pub name_is : publishing.name ≡ cell.views_name
  pub history : IsHistory begins follows publishing.published
  pub last : length publishing.published ≡ number + 1
  pub value_is : slice_get publishing.published number ≡ Some value
  pub spare_fits : spare_cell ≡ cell
  pub readers_are : publishing.readers ≡ readers + 1
  pub rest : Reading T
  pub spare_is : spare ≡ Reads rest ∷ []
  pub spare_whole : rest.share ≡ None
  pub noted_is : publishing.noted ≡ noted
  pub few : noted ≤ notes
  pub found : 0 < ready → Falls slots publishing.found × (ready ≤ length publishing.found)

-- the publisher's token of a new cell, off which so many readers have gone, each with so many grants (own)
pub record IsDealing {T : Type 0} (value : T) (name count each : ℕ) (views : List (View T)) : Type 0 where
  pub publishing : Publishing T
  pub views_are : views ≡ Publishes publishing ∷ []
  pub published : publishing.published ≡ value ∷ []
  pub how : publishing.how ≡ Probing 0
  pub whole : publishing.share ≡ None
  pub left : publishing.left + count * each ≡ grants
  pub noted : publishing.noted ≡ 0
  pub readers_are : publishing.readers ≡ count
  pub name_is : publishing.name ≡ name

-- a reader of a new cell (own)
abbrev pub first_reader : {T : Type 0} → TableId → T → ReaderState T
first_reader cell value = record { cell = cell; seen = value ∷ []; left = dealt_grants; gone = [] }

-- a reader of a new cell whose readers have so many grants (own)
abbrev pub limited_reader : {T : Type 0} → ℕ → TableId → T → ReaderState T
limited_reader grants cell value = record { cell = cell; seen = value ∷ []; left = grants; gone = [] }

-- the publisher of a new cell with so many readers (own)
abbrev pub first_publisher : {T : Type 0} → TableId → T → ℕ → PublisherState T
first_publisher cell value readers = record { cell = cell; published = value ∷ []; number = 0; value = value; readers = readers; noted = 0; ready = 0 }

-- the version is the last of these values (own)
abbrev pub IsLastOf : {T : Type 0} → List T → Version T → Type 0
IsLastOf published version = (length published ≡ version.number + 1) × (slice_get published version.number ≡ Some version.value)

-- a load: the owner's version is the last of the values that the reader has then seen, which may have been published and begin with
-- those that it had seen; and it has one grant less, and has seen no number more buried (own)
pub record IsLoad {T : Type 0} (begins : T → Type 0) (follows : T → T → Type 0) (before after : ReaderState T) (version : Version T) : Type 0 where
  pub cell : after.cell ≡ before.cell
  pub begun : Begins before.seen after.seen
  pub history : IsHistory begins follows after.seen
  pub last : IsLastOf after.seen version
  pub left : before.left ≡ after.left + 1
  pub gone : after.gone ≡ before.gone

-- an upgrade: an owner of the weak owner's very version, for a grant; or none, and the reader has then seen its number buried, for a grant or
-- for none (own)
abbrev pub IsUpgraded : {T : Type 0} → ReaderState T → ReaderState T → Version T → Option (Version T) → Type 0
IsUpgraded before after version (Some found) = (found ≡ version) × (after ≡ record before { left = before.left - 1 })
IsUpgraded before after version None = (after ≡ record before { gone = version.number ∷ before.gone }) ⊎ (after ≡ record before { left = before.left - 1; gone = version.number ∷ before.gone })

-- a publication: one value more is published, with the next number, in one of the free slots if some were counted (own)
abbrev pub published_next : {T : Type 0} → PublisherState T → T → PublisherState T
published_next state value = record { cell = state.cell; published = state.published ++ value ∷ []; number = state.number + 1; value = value; readers = state.readers; noted = state.noted; ready = state.ready - 1 }

-- a weak owner more is given (own)
abbrev pub noted_next : {T : Type 0} → PublisherState T → PublisherState T
noted_next state = record { cell = state.cell; published = state.published; number = state.number; value = state.value; readers = state.readers; noted = state.noted + 1; ready = state.ready }

-- so many free slots are counted (own)
abbrev pub ready_for : {T : Type 0} → PublisherState T → ℕ → PublisherState T
ready_for state count = record state { ready = count }

-- the publisher's token at the cell's end, with so many readers about (own)
pub record IsClosing {T : Type 0} (p : Publishing T) (count : ℕ) (views : List (View T)) : Type 0 where
  pub views_are : views ≡ Publishes p ∷ []
  pub how : p.how ≡ Probing 0
  pub whole : p.share ≡ None
  pub readers : p.readers ≡ count

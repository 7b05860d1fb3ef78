-- What an engine holds (own).
use Rattle.std.specs.Prelude.{◌≡◌, ℕ, ◌-◌, ◌^◌, List, [], ◌∷◌, ◌++◌, length, drop, min}
use Rattle.dns_rdata.specs.Record.{Record}
use Rattle.zone_tree.specs.Version.{Version}
use Rattle.cell_core.specs.Words.{notes}
use Rattle.counted_handles.specs.History.{IsHistory}
use Rattle.dns_engine.specs.Versions.{IsFirst, IsNext}
pub use Rattle.transfer_core.specs.declared.kept.TheConstants.{KEPT}

-- the versions published, the first one first, the last of them, and how many versions before it are kept, with those, the oldest first
pub record Held : Type 0 where
  pub published : List Version
  pub last : Version
  pub keep : ℕ
  pub older : List Version

-- an engine: what it holds, the grants that its reader has left, and how many versions it is sure to publish, whatever else happens
pub record EngineState : Type 0 where
  pub held : Held
  pub left : ℕ
  pub free : ℕ

-- how many versions are sure to be published: so many free slots are counted, and grants, weak owners and numbers are left
abbrev pub free_of : ℕ → ℕ → ℕ → ℕ → ℕ
free_of ready left noted number = min (min ready (min left (notes - noted))) (2 ^ 64 - 1 - number)

-- the last of a list, at most so many
abbrev pub newest : {T : Type 0} → ℕ → List T → List T
newest most values = drop (length values - most) values

-- a version is the last of those published, and as many were published before it as its number
pub record IsLatest (first : List Record) (published : List Version) (version : Version) : Type 0 where
  pub before : List Version
  pub history : IsHistory (IsFirst first) IsNext published
  pub ends : published ≡ before ++ version ∷ []
  pub number : length before ≡ version.number

-- what is held is the newest that were published: at most so many as are kept older than the last, and all of them where there are no more
pub record IsNewest (first : List Record) (held : Held) : Type 0 where
  pub before : List Version
  pub history : IsHistory (IsFirst first) IsNext held.published
  pub ends : held.published ≡ (before ++ held.older) ++ held.last ∷ []
  pub number : length (before ++ held.older) ≡ held.last.number
  pub most : length held.older ≡ min held.keep held.last.number

-- what is held once a version is published after the last one
abbrev pub held_with : Held → Version → Held
held_with held version =
    record held { published = held.published ++ version ∷ []; last = version; older = newest held.keep (held.older ++ held.last ∷ []) }

-- the versions that are held, the oldest first
abbrev pub all_held : Held → List Version
all_held held = held.older ++ held.last ∷ []

-- what is held where none older than the last of those published is kept, of so many that may be
abbrev pub held_alone : List Version → Version → ℕ → Held
held_alone published last keep = record { published = published; last = last; keep = keep; older = [] }

-- what is held once versions are published one after another after the last one
abbrev pub held_through : Held → List Version → Held
held_through held [] = held
held_through held (version ∷ later) = held_through (held_with held version) later

-- an engine once it has published a version, for which its reader has loaded it
abbrev pub state_with : EngineState → Version → EngineState
state_with state version = record { held = held_with state.held version; left = state.left - 1; free = state.free - 1 }

-- an engine that has counted how many versions it is sure to publish
abbrev pub state_for : EngineState → ℕ → EngineState
state_for state count = record state { free = count }

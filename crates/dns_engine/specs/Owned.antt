-- The versions of owners (own).
use Rattle.std.specs.Prelude.{List, [], ◌∷◌}
use Rattle.zone_tree.specs.Version.{Version}
use Rattle.cell_core.specs.declared.words.Version.{Version as Numbered}

-- the versions of owners
abbrev pub versions_of : List (Numbered Version) → List Version
versions_of [] = []
versions_of (owner ∷ owners) = owner.value ∷ versions_of owners

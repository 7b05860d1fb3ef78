-- The last of versions.
use Rattle.std.proofs.Common.{List, [], ◌∷◌, ◌++◌, refl, sym, ap, ◌∙◌, append_assoc}
use Rattle.std.proofs.lemmas.List.{append-nil}
use Rattle.zone_tree.specs.Version.{Version}
use Rattle.update_batches.specs.Engine.{IsLast}
use Rattle.update_batches.specs.Batch.{newest_of}

-- the last of versions after which others are
newest_last : (first : Version) (versions : List Version) → IsLast (first ∷ versions) (newest_of first versions)
newest_last first [] = ([], refl)
newest_last first (version ∷ versions) =
    let rest = newest_last version versions in
    (first ∷ rest.0, ap (λ (vs : List Version). first ∷ vs) rest.1)

pub last_more : (old : List Version) (first : Version) (versions : List Version) → IsLast old first → IsLast (old ++ versions) (newest_of first versions)
last_more old first [] last = (last.0, append-nil old ∙ last.1)
last_more old first (version ∷ versions) last =
    let rest = newest_last version versions in
    (old ++ rest.0, ap (λ (vs : List Version). old ++ vs) rest.1 ∙ sym (append_assoc old rest.0 (newest_of version versions ∷ [])))

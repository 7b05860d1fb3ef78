-- Families that are put one after another.
use Rattle.std.proofs.Common.{◌≡◌, List, [], ◌∷◌, ◌++◌, ap, ◌∙◌}
use Rattle.std.proofs.lemmas.List.{append_assoc}
use Rattle.metrics_text.specs.Families.{FamilyOf}

-- one family, which is known
pub first : (start : List FamilyOf) {next : List FamilyOf} {family named : FamilyOf} → next ≡ start ++ family ∷ [] → family ≡ named → next ≡ start ++ named ∷ []
first start put is = put ∙ ap (λ (f : FamilyOf). start ++ f ∷ []) is

-- and one after others
pub after : (start told : List FamilyOf) {middle next : List FamilyOf} {family named : FamilyOf} → middle ≡ start ++ told → next ≡ middle ++ family ∷ [] → family ≡ named → next ≡ start ++ (told ++ named ∷ [])
after start told {middle = middle} {named = named} before put is = first middle put is ∙ (ap (λ (fs : List FamilyOf). fs ++ named ∷ []) before ∙ append_assoc start told (named ∷ []))

-- several after others
pub joined : (start told more : List FamilyOf) {middle next : List FamilyOf} → middle ≡ start ++ told → next ≡ middle ++ more → next ≡ start ++ (told ++ more)
joined start told more before put = put ∙ (ap (λ (fs : List FamilyOf). fs ++ more) before ∙ append_assoc start told more)

-- Reasons why updates are refused (own).
use Rattle.std.specs.Prelude.{ℕ, List, [], ◌∷◌, codes}
use Rattle.counters.specs.declared.refusal.Refusal.{Refusal}
use Rattle.counters.specs.declared.refusal.Refusal.TheVariants.{Permission, Signature, Prerequisite, Form, Failure}

-- all, in the order of their places
abbrev pub all_refusals : List Refusal
all_refusals = Permission ∷ (Signature ∷ (Prerequisite ∷ (Form ∷ (Failure ∷ []))))

-- the place of each
abbrev pub refusal_index : Refusal → ℕ
refusal_index Permission = 0
refusal_index Signature = 1
refusal_index Prerequisite = 2
refusal_index Form = 3
refusal_index Failure = 4

-- the word of each in a label
abbrev pub refusal_word : Refusal → List ℕ
refusal_word Permission = codes "permission"
refusal_word Signature = codes "signature"
refusal_word Prerequisite = codes "prerequisite"
refusal_word Form = codes "form"
refusal_word Failure = codes "failure"

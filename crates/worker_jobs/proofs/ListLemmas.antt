-- Lists that grow at their end, and what is taken off their front.
use Rattle.std.proofs.Common.{◌≡◌, Bool, true, false, not, if◌then◌else◌, List, [], ◌∷◌, ◌++◌, length, map, append_assoc, sym, ap, ◌∙◌}
use Rattle.std.proofs.lemmas.List.{map_push, length-map}

-- one more of a list, of which each has something
pub map_more : {A B : Type 0} (f : A → B) (xs more : List A) (x : A) (ys : List B) (y : B) → more ≡ xs ++ x ∷ [] → map f xs ≡ ys → f x ≡ y → map f more ≡ ys ++ y ∷ []
map_more f xs more x ys y pushed before last = ap (map f) pushed ∙ map_push f xs x ∙ ap (λ l. l ++ f x ∷ []) before ∙ ap (λ z. ys ++ z ∷ []) last

-- one more of a list, of which each has something that is taken off the front of another
pub map_taken : {A B : Type 0} (f : A → B) (xs more : List A) (x : A) (before rest all : List B) → more ≡ xs ++ x ∷ [] → map f xs ++ before ≡ all → before ≡ f x ∷ rest → map f more ++ rest ≡ all
map_taken f xs more x before rest all pushed whole taken =
    ap (λ l. map f l ++ rest) pushed ∙ ap (λ l. l ++ rest) (map_push f xs x) ∙ append_assoc (map f xs) (f x ∷ []) rest ∙ ap (λ l. map f xs ++ l) (sym taken) ∙ whole

-- what was put where that went well
pub put_well : {A : Type 0} (well failed : Bool) (more longer same : List A) → more ≡ (if well then longer else same) → well ≡ not failed → failed ≡ false → more ≡ longer
put_well true failed more longer same put is well = put
put_well false true more longer same put is well = absurd (cc)
put_well false false more longer same put is well = absurd (cc)

-- lists of which each has the same have one length
pub length_alike : {A B : Type 0} (f : A → B) (xs ys : List A) → map f xs ≡ map f ys → length xs ≡ length ys
length_alike f xs ys same = sym (length-map xs f) ∙ ap length same ∙ length-map ys f

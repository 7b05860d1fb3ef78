-- A family to which a sample is put for each of a list.
use Rattle.std.proofs.Common.{◌≡◌, ℕ, ◌+◌, ◌<◌, ◌≤◌, List, [], ◌∷◌, ◌++◌, map, flat_map, drop, length, get_or, ap, ◌∙◌, sym}
use Rattle.std.proofs.lemmas.List.{append_assoc, append-nil, drop_more, drop_all}
use Rattle.metrics_text.specs.Families.{FamilyOf, with_sample, with_samples}
use Rattle.metrics_text.specs.Samples.{SampleOf}

-- two samples after one another are one list
appended : (family : FamilyOf) (sample : SampleOf) (more : List SampleOf) → with_samples (with_sample family sample) more ≡ with_samples family (sample ∷ more)
appended family sample more =
    let of_samples : List SampleOf → FamilyOf = λ samples. record { name = family.name; help = family.help; kind = family.kind; samples = samples } in
    ap of_samples (append_assoc family.samples (sample ∷ []) more)

-- once the sample of the next is put, what is there, with what is left, is still all
pub one_more : {A : Type 0} (f : A → SampleOf) (family next whole : FamilyOf) (all : List A) (i : ℕ) (a : A) → i < length all → next ≡ with_sample family (f (get_or all i a))
    → with_samples family (map f (drop i all)) ≡ whole → with_samples next (map f (drop (i + 1) all)) ≡ whole
one_more f family next whole all i a within put before =
    let left = map f (drop (i + 1) all) in
    ap (λ (it : FamilyOf). with_samples it left) put
    ∙ (appended family (f (get_or all i a)) left ∙ (sym (ap (λ ls. with_samples family (map f ls)) (drop_more all i a within)) ∙ before))

-- three samples after one another are one list
pub three : (family one two all : FamilyOf) (a b c : SampleOf) → one ≡ with_sample family a → two ≡ with_sample one b → all ≡ with_sample two c → all ≡ with_samples family (a ∷ (b ∷ (c ∷ [])))
three family one two all a b c first second third =
    third ∙ (ap (λ (it : FamilyOf). with_sample it c) (second ∙ ap (λ (it : FamilyOf). with_sample it b) first)
    ∙ (appended (with_sample family a) b (c ∷ []) ∙ appended family a (b ∷ (c ∷ []))))

-- the samples of two lists after one another are one list
joined : (family : FamilyOf) (some more : List SampleOf) → with_samples (with_samples family some) more ≡ with_samples family (some ++ more)
joined family some more =
    let of_samples : List SampleOf → FamilyOf = λ samples. record { name = family.name; help = family.help; kind = family.kind; samples = samples } in
    ap of_samples (append_assoc family.samples some more)

-- once the samples of the next are put, what is there, with what is left, is still all
pub several_more : {A : Type 0} (f : A → List SampleOf) (family next whole : FamilyOf) (all : List A) (i : ℕ) (a : A) → i < length all → next ≡ with_samples family (f (get_or all i a))
    → with_samples family (flat_map f (drop i all)) ≡ whole → with_samples next (flat_map f (drop (i + 1) all)) ≡ whole
several_more f family next whole all i a within put before =
    let left = flat_map f (drop (i + 1) all) in
    ap (λ (it : FamilyOf). with_samples it left) put
    ∙ (joined family (f (get_or all i a)) left ∙ (sym (ap (λ ls. with_samples family (flat_map f ls)) (drop_more all i a within)) ∙ before))

-- no sample more changes nothing
pub none_put : (family : FamilyOf) → family ≡ with_samples family []
none_put family =
    let of_samples : List SampleOf → FamilyOf = λ samples. record { name = family.name; help = family.help; kind = family.kind; samples = samples } in
    ap of_samples (sym (append-nil family.samples))

-- once none is left, what is there is all
pub one_done : {A : Type 0} (f : A → SampleOf) (family whole : FamilyOf) (all : List A) (i : ℕ) → length all ≤ i → with_samples family (map f (drop i all)) ≡ whole → family ≡ whole
one_done f family whole all i past before = none_put family ∙ (ap (λ ls. with_samples family (map f ls)) (sym (drop_all i all past)) ∙ before)

-- so where each has several
pub several_done : {A : Type 0} (f : A → List SampleOf) (family whole : FamilyOf) (all : List A) (i : ℕ) → length all ≤ i → with_samples family (flat_map f (drop i all)) ≡ whole → family ≡ whole
several_done f family whole all i past before = none_put family ∙ (ap (λ ls. with_samples family (flat_map f ls)) (sym (drop_all i all past)) ∙ before)

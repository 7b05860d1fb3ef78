-- The apex and the names above it: they exist, and none of them is a zone cut.
use Rattle.std.proofs.Common.{◌≡◌, ℕ, Bool, true, false, ◌&&◌, ◌==◌, List, [], ◌∷◌, ◌++◌, length, map, reverse, drop, filter, get_or, None, Some, cond, All, refl, sym, ap, ◌∙◌, arith, append_assoc, length-append, append-nil, true≢false, not}
use Rattle.std.specs.Char.{to_ascii_lowercase}
use Rattle.std.specs.List.{find}
use Rattle.std.specs.Option.{option_or}
use Rattle.std.proofs.lemmas.List.{reverse-append}
use Rattle.std.proofs.lemmas.List.Elements.{All-tail}
use Rattle.std.proofs.lemmas.List.Folds.{find-append, list_any_at}
use Rattle.dns_name.specs.Name.{is_same, is_under, fold_name, self_and_ancestors, parent_of}
use Rattle.dns_name.specs.Order.{is_same_Decides}
use Rattle.dns_name.proofs.LawLemmas.{ending_from_under, under_from_ending}
use Rattle.dns_rdata.specs.Numbers.{type_NS}
use Rattle.dns_rdata.specs.Record.{Record}
use Rattle.zone_tree.specs.Zone.{IsZone, apex_of, soa_of, exists, is_of, rrset_of}
use Rattle.lookup_core.specs.Place.{is_cut, is_none_of, cut_of}

-- what no element passes keeps none
pub filter_none : {X : Type 0} (p : X → Bool) (xs : List X) → All (λ x. p x ≡ false) xs → filter p xs ≡ []
filter_none p [] none = refl
filter_none p (x ∷ xs) none = let here : p x ≡ false = none 0 x (omega arith) in rw here (filter_none p xs (All-tail (λ y. p y ≡ false) x xs none))

not_true : (b : Bool) → (b ≡ true → ⊥) → b ≡ false
not_true true f = absurd (f refl)
not_true false f = refl

no_labels : (xs : List (List ℕ)) → length xs ≡ 0 → xs ≡ []
no_labels [] e = refl
no_labels (x ∷ xs) e = absurd (omega arith)

-- names that are under one another are the same
same_both_ways : (name other : List (List ℕ)) → is_under name other ≡ true → is_under other name ≡ true → is_same name other ≡ true
same_both_ways name other under over =
    let front = ending_from_under name other under in
    let back = ending_from_under other name over in
    let none : front.0 ≡ [] =
    no_labels front.0 (omega (arith, ap length front.1, ap length back.1, length-append front.0 (fold_name other), length-append back.0 (fold_name name)))
    in
    (is_same_Decides name other).1 (front.1 ∙ ap (λ labels. labels ++ fold_name other) none)

-- what is the same as a name is under what it is under
under_same : (owner name apex : List (List ℕ)) → is_same owner name ≡ true → is_under owner apex ≡ true → is_under name apex ≡ true
under_same owner name apex same under =
    let front = ending_from_under owner apex under in under_from_ending name apex front.0 (sym ((is_same_Decides owner name).0 same) ∙ front.1)

-- what is under a name is under the names above it
pub under_above : (owner apex name : List (List ℕ)) → is_under owner apex ≡ true → is_under apex name ≡ true → is_under owner name ≡ true
under_above owner apex name under above =
    let front = ending_from_under owner apex under in
    let back = ending_from_under apex name above in
    under_from_ending owner name (front.0 ++ back.0) (front.1 ∙ ap (λ labels. front.0 ++ labels) back.1 ∙ sym (append_assoc front.0 back.0 (fold_name name)))

-- and under the parent
under_parent : (apex : List (List ℕ)) (label : List ℕ) (name : List (List ℕ)) → is_under apex (label ∷ name) ≡ true → is_under apex name ≡ true
under_parent apex label name above =
    let front = ending_from_under apex (label ∷ name) above in
    let own = map to_ascii_lowercase label ∷ [] in
    under_from_ending apex name (front.0 ++ own) (front.1 ∙ sym (append_assoc front.0 own (fold_name name)))

-- no owner at or below the apex is a name above the apex
apart : (apex name owner : List (List ℕ)) → is_under apex name ≡ true → is_same name apex ≡ false → is_under owner apex ≡ true → is_same owner name ≡ false
apart apex name owner above other under =
    not_true (is_same owner name) (λ same. true≢false (sym (same_both_ways name apex (under_same owner name apex same under) above) ∙ other))

-- so a name above the apex owns nothing
none_above : (zone : List Record) → IsZone zone → (name : List (List ℕ)) (t : ℕ) → is_under (apex_of zone) name ≡ true → is_same name (apex_of zone) ≡ false → rrset_of zone name t ≡ []
none_above zone is name t above other =
    filter_none (is_of name t) zone
    (λ k d below. ap (λ b. b && (get_or zone k d).rtype == t) (apart (apex_of zone) name (get_or zone k d).owner above other (is.rules.under_apex k d below)))

-- neither the apex nor a name above it is a zone cut
not_cut_by : (zone : List Record) → IsZone zone → (name : List (List ℕ)) → is_under (apex_of zone) name ≡ true → (b : Bool) → is_same name (apex_of zone) ≡ b → is_cut zone name ≡ false
not_cut_by zone is name above true same = rw same refl
not_cut_by zone is name above false other = rw (other, none_above zone is name type_NS above other) refl

pub not_cut : (zone : List Record) → IsZone zone → (name : List (List ℕ)) → is_under (apex_of zone) name ≡ true → is_cut zone name ≡ false
not_cut zone is name above = not_cut_by zone is name above (is_same name (apex_of zone)) refl

-- the first zone cut on the way down to a name is the first on the way to its parent, else the name itself
pub cut_of-step : (zone : List Record) (name : List (List ℕ)) → cut_of zone name ≡ option_or (find (is_cut zone) (reverse (drop 1 (self_and_ancestors name)))) (cond (is_cut zone name) (Some name) None)
cut_of-step zone [] = refl
cut_of-step zone (label ∷ name) =
    ap (find (is_cut zone)) (reverse-append ((label ∷ name) ∷ []) (self_and_ancestors name))
    ∙ find-append (is_cut zone) (reverse (self_and_ancestors name)) ((label ∷ name) ∷ [])

pub cut_of-parent : (zone : List Record) (name above : List (List ℕ)) → parent_of name ≡ Some above → cut_of zone name ≡ option_or (cut_of zone above) (cond (is_cut zone name) (Some name) None)
cut_of-parent zone [] above e = absurd (cc)
cut_of-parent zone (label ∷ name) above e =
    let same : name ≡ above = cc in
    cut_of-step zone (label ∷ name) ∙ ap (λ n. option_or (cut_of zone n) (cond (is_cut zone (label ∷ name)) (Some (label ∷ name)) None)) same

-- a name that isn't above the apex is a zone cut where it owns NS
not_apex : (apex name : List (List ℕ)) → is_under apex name ≡ false → is_same name apex ≡ false
not_apex apex name below =
    not_true (is_same name apex) (λ same. true≢false (sym (under_from_ending apex name [] (sym ((is_same_Decides name apex).0 same))) ∙ below))

pub is_cut-below : (zone : List Record) (name : List (List ℕ)) → is_under (apex_of zone) name ≡ false → is_cut zone name ≡ not (is_none_of (rrset_of zone name type_NS))
is_cut-below zone name below = ap (λ b. not b && not (is_none_of (rrset_of zone name type_NS))) (not_apex (apex_of zone) name below)

-- there is none at the apex or above it
pub no_cut_above : (zone : List Record) → IsZone zone → (name : List (List ℕ)) → is_under (apex_of zone) name ≡ true → cut_of zone name ≡ None
no_cut_above zone is [] above = ap (λ b. cond b (Some []) None) (not_cut zone is [] above)
no_cut_above zone is (label ∷ name) above =
    cut_of-step zone (label ∷ name)
    ∙ ap (λ o. option_or o (cond (is_cut zone (label ∷ name)) (Some (label ∷ name)) None)) (no_cut_above zone is name (under_parent (apex_of zone) label name above))
    ∙ ap (λ b. cond b (Some (label ∷ name)) None) (not_cut zone is (label ∷ name) above)

-- the apex and the names above it exist
exists_by : (zone : List Record) → length (soa_of zone) ≡ 1 → (apex name : List (List ℕ)) → All (λ r. is_under r.owner apex ≡ true) zone → is_under apex name ≡ true → exists zone name ≡ true
exists_by [] one apex name under above = absurd (omega (arith, one))
exists_by (r ∷ rs) one apex name under above =
    list_any_at (λ s. is_under s.owner name) (r ∷ rs) 0 r (omega arith) (under_above r.owner apex name (under 0 r (omega arith)) above)

pub exists_above : (zone : List Record) → IsZone zone → (name : List (List ℕ)) → is_under (apex_of zone) name ≡ true → exists zone name ≡ true
exists_above zone is name above = exists_by zone is.rules.one_soa (apex_of zone) name is.rules.under_apex above

-- and there is none at the root
under_root : (name : List (List ℕ)) → is_under name [] ≡ true
under_root name = under_from_ending name [] (fold_name name) (sym (append-nil (fold_name name)))

pub no_cut_at_root : (zone : List Record) → IsZone zone → (name : List (List ℕ)) → parent_of name ≡ None → cut_of zone name ≡ None
no_cut_at_root zone is [] e = no_cut_above zone is [] (under_root (apex_of zone))
no_cut_at_root zone is (label ∷ name) e = absurd (cc)

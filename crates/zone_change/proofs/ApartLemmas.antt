-- Sets that are passed by a walk over two zones.
use Rattle.std.proofs.Common.{◌≡◌, refl, sym, ap, ◌∙◌, subst, Bool, true, false, ◌||◌, not, ◌==◌, List, [], ◌∷◌, ◌++◌, All, true≢false, Option, None, Some, MatchOption, Bor}
use Rattle.std.specs.Option.{option_copied}
use Rattle.std.specs.List.{list_any}
use Rattle.std.proofs.lemmas.List.Elements.{filter-append, recursion_from_All}
use Rattle.std.proofs.lemmas.List.Folds.{list_any-append}
use Rattle.dns_name.specs.Name.{Name, is_same}
use Rattle.dns_name.specs.Order.{is_same_equiv}
use Rattle.dns_rdata.specs.Numbers.{type_SOA}
use Rattle.dns_rdata.specs.Record.{Record}
use Rattle.zone_tree.specs.Zone.{stands_at, rrsets_of}
use Rattle.zone_tree.specs.Delta.{other_than_soa, DifferOnlyAt}
use Rattle.zone_tree.specs.Sets.{records_in}
use Rattle.zone_change.specs.Apart.{sets_left, records_left}
use Rattle.zone_change.proofs.Lists.{none_kept}
use Rattle.zone_tree.proofs.Rising.{each_weaker}

split : (a b : Bool) → (a || b) ≡ false → (a ≡ false) × (b ≡ false)
split true b e = absurd (true≢false e)
split false b e = (refl, e)

or_false : (b : Bool) → (b || false) ≡ b
or_false true = refl
or_false false = refl

-- names that are noted are all names that were, and one more
noted : (owners : List Name) (owner name : Name) → list_any (is_same name) (owners ++ owner ∷ []) ≡ false → (list_any (is_same name) owners ≡ false) × (is_same name owner ≡ false)
noted owners owner name e =
    let parts = split (list_any (is_same name) owners) (list_any (is_same name) (owner ∷ [])) (sym (list_any-append (is_same name) owners (owner ∷ [])) ∙ e) in
    (parts.0, sym (or_false (is_same name owner)) ∙ parts.1)

-- no record of another owner stands at a name
none_at : (set : List Record) (owner name : Name) → All (λ r. r.owner ≡ owner) set → is_same name owner ≡ false → rrsets_of set name ≡ []
none_at set owner name shared e =
    none_kept (stands_at name) set
    (each_weaker (λ r. r.owner ≡ owner) (λ r. stands_at name r ≡ false) (λ r o. ap (λ n. is_same n name) o ∙ is_same_equiv.symm owner name ∙ e) set (recursion_from_All (λ r. r.owner ≡ owner) set shared))

abbrev at : Name → List Record → List Record
at name zone = other_than_soa (rrsets_of zone name)

at-append : (name : Name) (xs ys : List Record) → at name (xs ++ ys) ≡ at name xs ++ at name ys
at-append name xs ys = ap other_than_soa (filter-append (stands_at name) xs ys) ∙ filter-append (λ r. not (r.rtype == type_SOA)) (rrsets_of xs name) (rrsets_of ys name)

nil : (xs : List Record) → xs ++ [] ≡ xs
nil [] = refl
nil (x ∷ xs) = ap (λ l. x ∷ l) (nil xs)

-- a set whose owner is noted may be left out, or put in
pub passed : (owners : List Name) (owner : Name) (front set behind other : List Record) → All (λ r. r.owner ≡ owner) set
    → DifferOnlyAt owners (front ++ (set ++ behind)) other → DifferOnlyAt (owners ++ owner ∷ []) (front ++ behind) other
passed owners owner front set behind other shared h name e =
    let parts = noted owners owner name e in
    let none : at name set ≡ [] = ap other_than_soa (none_at set owner name shared parts.1) in
    at-append name front behind
    ∙ ap (λ l. at name front ++ l) (ap (λ l. l ++ at name behind) (sym none) ∙ sym (at-append name set behind))
    ∙ sym (at-append name front (set ++ behind))
    ∙ h name parts.0

pub joined : (owners : List Name) (owner : Name) (front set behind other : List Record) → All (λ r. r.owner ≡ owner) set
    → DifferOnlyAt owners (front ++ behind) other → DifferOnlyAt (owners ++ owner ∷ []) ((front ++ set) ++ behind) other
joined owners owner front set behind other shared h name e =
    let parts = noted owners owner name e in
    let none : at name set ≡ [] = ap other_than_soa (none_at set owner name shared parts.1) in
    at-append name (front ++ set) behind
    ∙ ap (λ l. l ++ at name behind) (at-append name front set ∙ ap (λ l. at name front ++ l) none ∙ nil (at name front))
    ∙ sym (at-append name front behind)
    ∙ h name parts.0

-- what a walk has left with the set that it gave is what it had
pub next_left : (s t : List (List Record)) (r : Option (Bor (List Record))) → MatchOption r ((s ≡ []) × (t ≡ [])) (λ x. s ≡ x.now ∷ t) → sets_left (option_copied r) t ≡ s
next_left s t None h = h.1 ∙ sym h.0
next_left s t (Some x) h = sym h

-- a set that was taken from a walk is passed, and the next one is taken from it
pub passed_next : (owners news : List Name) (owner : Name) (set : List Record) (s t : List (List Record)) (r : Option (Bor (List Record))) → All (λ r. r.owner ≡ owner) set → news ≡ owners ++ owner ∷ []
    → MatchOption r ((s ≡ []) × (t ≡ [])) (λ x. s ≡ x.now ∷ t) → (front other : List Record) → DifferOnlyAt owners (front ++ (set ++ records_in s)) other → DifferOnlyAt news (front ++ records_left (option_copied r) t) other
passed_next owners news owner set s t r shared are steps front other h =
    subst (λ os. DifferOnlyAt os (front ++ records_left (option_copied r) t) other) (sym are)
    (subst (λ ss. DifferOnlyAt (owners ++ owner ∷ []) (front ++ records_in ss) other) (sym (next_left s t r steps)) (passed owners owner front set (records_in s) other shared h))

-- a set that a walk gives is passed
pub passed_given : (owners news : List Name) (owner : Name) (set : List Record) (s t : List (List Record)) → All (λ r. r.owner ≡ owner) set → news ≡ owners ++ owner ∷ [] → s ≡ set ∷ t
    → (front other : List Record) → DifferOnlyAt owners (front ++ records_in s) other → DifferOnlyAt news (front ++ records_in t) other
passed_given owners news owner set s t shared are steps front other h =
    subst (λ os. DifferOnlyAt os (front ++ records_in t) other) (sym are)
    (passed owners owner front set (records_in t) other shared (subst (λ ss. DifferOnlyAt owners (front ++ records_in ss) other) steps h))

pub none_left : (owners : List Name) (s : List (List Record)) → s ≡ [] → (front other : List Record) → DifferOnlyAt owners (front ++ records_in s) other → DifferOnlyAt owners front other
none_left owners s e front other h = subst (λ rs. DifferOnlyAt owners rs other) (nil front) (subst (λ ss. DifferOnlyAt owners (front ++ records_in ss) other) e h)

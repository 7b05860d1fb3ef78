-- The laws of zones.
use Rattle.std.proofs.Common.{◌≡◌, refl, sym, ap, ◌∙◌, subst, ℕ, zero, suc, Bool, true, false, ◌&&◌, ◌||◌, cond, List, [], ◌∷◌, ◌++◌, length, arith, true≢false, ⊎_elim, ◌⊎◌, inl, inr, append_assoc}
use Rattle.std.specs.Prelude.{◌↔◌, ◌==◌, Contains}
use Rattle.std.specs.List.{filter, list_any, AllByRecursion}
use Rattle.std.specs.Ordering.{is_lt}
use Rattle.std.proofs.lemmas.Cmp.{tied_itself}
use Rattle.dns_name.specs.Name.{is_same, is_under, fold_name}
use Rattle.dns_rdata.specs.Numbers.{type_SOA}
use Rattle.dns_rdata.specs.Record.{Record, record_cmp, owner_of}
use Rattle.zone_tree.specs.Zone.{IsZone, IsBefore, exists, rrset_of, soa_of, apex_of}
use Rattle.zone_tree.proofs.NameOrder.{front_from_under, under_from_front, same_from_folds}
use Rattle.zone_tree.proofs.Rising.{Rises, rises_from_pairs}
use Rattle.zone_tree.proofs.SetLemmas.{record_total, less}

-- an element of a list is its first or behind it
first_or_behind : {X : Type 0} (x : X) (xs : List X) (y : X) → Contains (x ∷ xs) y → (x ≡ y) ⊎ Contains xs y
first_or_behind x xs y (zero, l, e) = inl e
first_or_behind x xs y (suc k, l, e) = inr (k, omega arith, e)

is_first : {X : Type 0} (x : X) (xs : List X) → Contains (x ∷ xs) x
is_first x xs = (0, omega arith, refl)

is_behind : {X : Type 0} (x : X) (xs : List X) (y : X) → Contains xs y → Contains (x ∷ xs) y
is_behind x xs y h = (suc h.0, omega (arith, h.1), h.2)

pub each_contained : {X : Type 0} (P : X → Type 0) (xs : List X) (y : X) → AllByRecursion P xs → Contains xs y → P y
each_contained P [] y h k = absurd (omega (arith, k.1))
each_contained P (x ∷ xs) y h k = ⊎_elim (λ e. subst P e h.0) (λ m. each_contained P xs y h.1 m) (first_or_behind x xs y k)

-- no record is before itself, and no two are before each other
not_itself : (r : Record) → IsBefore r r → ⊥
not_itself r h = true≢false (sym h ∙ ap is_lt (tied_itself record_total r))

not_each_other : (r s : Record) → IsBefore r s → IsBefore s r → ⊥
not_each_other r s h k = not_itself r (ap is_lt (record_total.trans r s r (less (record_cmp r s) h) (less (record_cmp s r) k)))

-- lists of the same records in ascending order are equal
pub same_lists : (xs ys : List Record) → Rises IsBefore xs → Rises IsBefore ys → ((r : Record) → Contains xs r ↔ Contains ys r) → xs ≡ ys
same_lists [] [] h k same = refl
same_lists [] (y ∷ ys) h k same = let none = (same y).1 (is_first y ys) in absurd (omega (arith, none.1))
same_lists (x ∷ xs) [] h k same = let none = (same x).0 (is_first x xs) in absurd (omega (arith, none.1))
same_lists (x ∷ xs) (y ∷ ys) h k same =
    let first : x ≡ y =
    ⊎_elim (λ e. sym e) (λ behind. ⊎_elim (λ e. e) (λ also. absurd (not_each_other x y (each_contained (IsBefore x) xs y h.0 also) (each_contained (IsBefore y) ys x k.0 behind))) (first_or_behind x xs y ((same y).1 (is_first y ys)))) (first_or_behind y ys x ((same x).0 (is_first x xs))) in
    let rest = same_lists xs ys h.1 k.1
    (λ r. (
      λ m. ⊎_elim (λ e. absurd (not_itself r (subst (λ z. IsBefore z r) (first ∙ e) (each_contained (IsBefore x) xs r h.0 m)))) (λ n. n) (first_or_behind y ys r ((same r).0 (is_behind x xs r m))),
      λ m. ⊎_elim (λ e. absurd (not_itself r (subst (λ z. IsBefore z r) (sym first ∙ e) (each_contained (IsBefore y) ys r k.0 m)))) (λ n. n) (first_or_behind x xs r ((same r).1 (is_behind y ys r m))),
    )) in
    λ i. first i ∷ rest i

pub same_zones : (zone other : List Record) → IsZone zone → IsZone other → ((r : Record) → Contains zone r ↔ Contains other r) → zone ≡ other
same_zones zone other h k same = same_lists zone other (rises_from_pairs IsBefore zone h.rules.ascending) (rises_from_pairs IsBefore other k.rules.ascending) same

-- a name is under itself, and under what its ancestor is under
pub under_itself : (name : List (List ℕ)) → is_under name name ≡ true
under_itself name = under_from_front name name [] refl

pub under_chains : (name middle far : List (List ℕ)) → is_under name middle ≡ true → is_under middle far ≡ true → is_under name far ≡ true
under_chains name middle far h k =
    let a = front_from_under name middle h in
    let b = front_from_under middle far k in
    under_from_front name far (a.0 ++ b.0) (a.1 ∙ ap (λ l. a.0 ++ l) b.1 ∙ sym (append_assoc a.0 b.0 (fold_name far)))

-- where one record's test implies another's of it, so does any
any_weaker : {X : Type 0} (p q : X → Bool) → ((x : X) → p x ≡ true → q x ≡ true) → (xs : List X) → list_any p xs ≡ true → list_any q xs ≡ true
any_weaker p q f [] h = h
any_weaker p q f (x ∷ xs) h = by (p x) refl h (any_weaker p q f xs)
  where
    right : (b c : Bool) → c ≡ true → b || c ≡ true
    right true c e = refl
    right false c e = e

    by : (b : Bool) → p x ≡ b → b || list_any p xs ≡ true → (list_any p xs ≡ true → list_any q xs ≡ true) → q x || list_any q xs ≡ true
    by true e k more = rw (f x e) refl
    by false e k more = right (q x) (list_any q xs) (more k)

pub ancestors_exist : (zone : List Record) (name ancestor : List (List ℕ)) → exists zone name ≡ true → is_under name ancestor ≡ true → exists zone ancestor ≡ true
ancestors_exist zone name ancestor h k = any_weaker (λ r. is_under r.owner name) (λ r. is_under r.owner ancestor) (λ r m. under_chains r.owner name ancestor m k) zone h

-- what two tests keep, in either order
pub filter_twice : {X : Type 0} (p q : X → Bool) (xs : List X) → filter (λ x. p x && q x) xs ≡ filter p (filter q xs)
filter_twice p q [] = refl
filter_twice {X} p q (x ∷ xs) = by (q x) (filter_twice p q xs)
  where
    and_false : (b : Bool) → b && false ≡ false
    and_false true = refl
    and_false false = refl

    and_true : (b : Bool) → b && true ≡ b
    and_true true = refl
    and_true false = refl

    by : (b : Bool) → filter (λ y. p y && q y) xs ≡ filter p (filter q xs) → cond (p x && b) (x ∷ filter (λ y. p y && q y) xs) (filter (λ y. p y && q y) xs) ≡ filter p (cond b (x ∷ filter q xs) (filter q xs))
    by true e = rw (and_true (p x)) (ap (λ l. cond (p x) (x ∷ l) l) e)
    by false e = rw (and_false (p x)) e

-- a list of one record keeps it, by its owner
own_kept : (records : List Record) → length records ≡ 1 → filter (λ r. is_same r.owner (owner_of records)) records ≡ records
own_kept [] e = absurd (omega arith)
own_kept (r ∷ []) e = rw (same_from_folds r.owner r.owner refl) refl
own_kept (r ∷ s ∷ more) e = absurd (omega arith)

-- the one SOA stands at the apex
pub soa_is_at_apex : (zone : List Record) → IsZone zone → rrset_of zone (apex_of zone) type_SOA ≡ soa_of zone
soa_is_at_apex zone h = filter_twice (λ r. is_same r.owner (apex_of zone)) (λ r. r.rtype == type_SOA) zone ∙ own_kept (soa_of zone) h.rules.one_soa

-- Conflicts and owners outside the apex, by counts of the records read.
use Rattle.std.proofs.Common.{◌≡◌, refl, sym, ap, ◌∙◌, ℕ, suc, ◌+◌, ◌<◌, ◌≤◌, Bool, true, false, cond, not, ◌&&◌, ◌||◌, ◌==◌, nat_lt, List, [], ◌∷◌, map, length, arith, true≢false, Option, Some}
use Rattle.std.specs.Prelude.{bytes_eq}
use Rattle.std.specs.Char.{to_ascii_lowercase}
use Rattle.std.specs.Cmp.Lexicographic.{pointwise}
use Rattle.std.specs.List.{filter, list_any}
use Rattle.std.specs.Ordering.{is_eq, nat_cmp}
use Rattle.std.specs.declared.cmp.Ordering.TheVariants.{Equal}
use Rattle.std.specs.Cmp.{tied_then, unsigned_tied}
use Rattle.std.proofs.lemmas.Bool.Decides.{Decides-eqb, nat_tests}
use Rattle.dns_name.specs.Name.{is_same, is_under, fold_name, canonical_cmp}
use Rattle.dns_name.specs.Order.{is_same_equiv, is_same_Decides, is_same_tied}
use Rattle.dns_name.proofs.LawLemmas.{ending_from_under, under_from_ending}
use Rattle.dns_rdata.specs.Numbers.{type_NS, type_CNAME}
use Rattle.dns_rdata.specs.Record.{Record, record_cmp}
use Rattle.zone_tree.specs.Zone.{stands_at, is_of, rrset_of, rrsets_of, is_wild}
use Rattle.zone_tree.proofs.SetLemmas.{record_total}
use Rattle.master_file.specs.declared.record_entry.RecordEntry.{RecordEntry}
use Rattle.master_file.specs.ZoneText.{record_in, with_one, first_line, is_new, is_beside_alias, is_conflict, outside_line}
use Rattle.master_file.proofs.InsertLemmas.{some_tied}
use Rattle.master_file.proofs.KeptLemmas.{one, count_cons, same_set}
use Rattle.master_file.proofs.JudgeLemmas.{Ascends, Judges, count_with}

-- records that tie have one owner but for case, and one type
pub tied_parts : (r s : Record) → record_cmp r s ≡ Equal → (fold_name r.owner ≡ fold_name s.owner) × (r.rtype ≡ s.rtype)
tied_parts r s e =
    let tie : is_eq (record_cmp r s) ≡ true = ap is_eq e in
    let first = both_true (is_eq (canonical_cmp r.owner s.owner)) _ (tied_then (canonical_cmp r.owner s.owner) _ ∙ tie) in
    let more = both_true (is_eq (nat_cmp r.rtype s.rtype)) _ (tied_then (nat_cmp r.rtype s.rtype) _ ∙ first.1) in
    ((is_same_Decides r.owner s.owner).0 (is_same_tied r.owner s.owner ∙ first.0), (Decides-eqb r.rtype s.rtype).0 (sym (unsigned_tied r.rtype s.rtype) ∙ more.0))
  where
    both_true : (a b : Bool) → (a && b) ≡ true → (a ≡ true) × (b ≡ true)
    both_true true b e = (refl, e)
    both_true false b e = absurd (true≢false (sym e))

-- whether a name's first label is `*`, and whether it is under another, doesn't rest on case
same_bool : (a b : Bool) → (a ≡ true → b ≡ true) → (b ≡ true → a ≡ true) → a ≡ b
same_bool true b f g = sym (f refl)
same_bool false true f g = g refl
same_bool false false f g = refl

pub under_folded : (name other apex : List (List ℕ)) → fold_name name ≡ fold_name other → is_under name apex ≡ is_under other apex
under_folded name other apex e = same_bool (is_under name apex) (is_under other apex)
    (λ h. let front = ending_from_under name apex h in under_from_ending other apex front.0 (sym e ∙ front.1))
    (λ h. let front = ending_from_under other apex h in under_from_ending name apex front.0 (e ∙ front.1))

star_by : (a b : Bool) (c : ℕ) → nat_lt c 65 ≡ a → (cond a c (cond b (c + 32) c) == 42) ≡ (c == 42)
star_by true b c e = refl
star_by false true c e = not_star (c + 32) c (grind (arith, nat_tests)) (grind (arith, nat_tests))
  where
    not_star : (m n : ℕ) → (m == 42) ≡ false → (n == 42) ≡ false → (m == 42) ≡ (n == 42)
    not_star m n h k = h ∙ sym k
star_by false false c e = refl

star_lower : (c : ℕ) → (to_ascii_lowercase c == 42) ≡ (c == 42)
star_lower c = star_by (nat_lt c 65) (nat_lt c 91) c refl

and_false : (a b : Bool) → (a && false) ≡ (b && false)
and_false true true = refl
and_false true false = refl
and_false false true = refl
and_false false false = refl

label_wild : (label : List ℕ) → bytes_eq (map to_ascii_lowercase label) (42 ∷ []) ≡ bytes_eq label (42 ∷ [])
label_wild [] = refl
label_wild (c ∷ []) = ap (λ (b : Bool). b && true) (star_lower c)
label_wild (c ∷ d ∷ label) = and_false (to_ascii_lowercase c == 42) (c == 42)

wild_lower : (name : List (List ℕ)) → is_wild (fold_name name) ≡ is_wild name
wild_lower [] = refl
wild_lower (label ∷ name) = label_wild label

pub wild_folded : (name other : List (List ℕ)) → fold_name name ≡ fold_name other → is_wild name ≡ is_wild other
wild_folded name other e = sym (wild_lower name) ∙ ap is_wild e ∙ wild_lower other

-- whether any passes, by how many do
some_more : (n : ℕ) → true ≡ nat_lt 0 (suc n)
some_more n = grind (arith, nat_tests)

pub any_count : {X : Type 0} (q : X → Bool) (xs : List X) → list_any q xs ≡ nat_lt 0 (length (filter q xs))
any_count q [] = refl
any_count q (x ∷ xs) = elim (q x) as (λ b. (b || list_any q xs) ≡ nat_lt 0 (length (cond b (x ∷ filter q xs) (filter q xs)))) [ true ↦ some_more (length (filter q xs)) | false ↦ any_count q xs ]

-- both tests show no more than the first does
fewer_by : (a b : Bool) (m n : ℕ) → m ≤ n → one (a && b) + m ≤ one a + n
fewer_by true true m n h = omega arith
fewer_by true false m n h = omega arith
fewer_by false b m n h = omega arith

pub fewer : {X : Type 0} (p q : X → Bool) (xs : List X) → length (filter (λ x. p x && q x) xs) ≤ length (filter p xs)
fewer p q [] = omega arith
fewer p q (x ∷ xs) =
    let both = count_cons (λ y. p y && q y) x xs in
    let first = count_cons p x xs in
    let more = fewer_by (p x) (q x) (length (filter (λ y. p y && q y) xs)) (length (filter p xs)) (fewer p q xs) in
    omega arith

-- an alias stands alone at its owner, and no NS at an owner whose first label is `*`
abbrev pub is_wild_cut : Record → Bool
is_wild_cut r = is_wild r.owner && r.rtype == type_NS

pub record AreApart (kept : List Record) : Type 0 where
  pub alone : (owner : List (List ℕ)) → 0 < length (rrset_of kept owner type_CNAME) → length (rrsets_of kept owner) ≤ 1
  pub cuts : length (filter is_wild_cut kept) ≤ 0

alone_keeps : (b s c : Bool) (a m aliases more at all : ℕ) → aliases ≡ one (b && (s && c)) + a → more ≡ one (b && s) + m → (s ≡ true → at ≡ a) → (s ≡ true → all ≡ m) → (0 < a → m ≤ 1) → (b && ((c && nat_lt 0 all) || nat_lt 0 at)) ≡ false → 0 < aliases → more ≤ 1
alone_keeps false s c a m aliases more at all e f g k h none some = let l = h (omega arith) in omega arith
alone_keeps true false c a m aliases more at all e f g k h none some = let l = h (omega arith) in omega arith
alone_keeps true true true a m aliases more at all e f g k h none some = let x = k refl in grind (arith, nat_tests)
alone_keeps true true false a m aliases more at all e f g k h none some = let x = g refl in grind (arith, nat_tests)

alone_told : (b c : Bool) (aliases more at all : ℕ) → aliases ≡ one (b && c) + at → more ≡ one (b && true) + all → at ≤ all → (0 < aliases → more ≤ 1) → (b && ((c && nat_lt 0 all) || nat_lt 0 at)) ≡ true → ⊥
alone_told false c aliases more at all e f g h shows = true≢false (sym shows)
alone_told true true aliases more at all e f g h shows = let k = h (omega arith) in let none : all ≡ 0 = omega arith in let too : at ≡ 0 = omega arith in grind (arith, nat_tests)
alone_told true false aliases more at all e f g h shows = let some : 0 < at = grind (arith, nat_tests) in omega (arith, h (omega arith))

pub same_at : (kept : List Record) (owner other : List (List ℕ)) → is_same owner other ≡ true → length (rrsets_of kept owner) ≡ length (rrsets_of kept other)
same_at kept owner other e = ap (λ (f : List (List ℕ)). length (filter (λ (r : Record). pointwise bytes_eq (fold_name r.owner) f) kept)) ((is_same_Decides owner other).0 e)

same_alias : (kept : List Record) (owner other : List (List ℕ)) → is_same owner other ≡ true → length (rrset_of kept owner type_CNAME) ≡ length (rrset_of kept other type_CNAME)
same_alias kept owner other e = same_set kept owner other type_CNAME type_CNAME (rw e refl)

beside : (kept : List Record) (p : RecordEntry) → is_beside_alias kept p ≡ (is_new kept p && ((p.rdata.rtype == type_CNAME && nat_lt 0 (length (rrsets_of kept p.owner))) || nat_lt 0 (length (rrset_of kept p.owner type_CNAME))))
beside kept p = ap (λ (b : Bool). is_new kept p && ((p.rdata.rtype == type_CNAME && b) || nat_lt 0 (length (rrset_of kept p.owner type_CNAME)))) (any_count (stands_at p.owner) kept)

neither : (a b : Bool) → (a || b) ≡ false → (a ≡ false) × (b ≡ false)
neither true b e = absurd (true≢false e)
neither false b e = (refl, e)

either : (P : Type 0) (a b : Bool) → (a || b) ≡ true → (a ≡ true → P) → (b ≡ true → P) → P
either P true b e f g = f refl
either P false b e f g = g e

none_more : (b q : Bool) (n more : ℕ) → more ≡ one (b && q) + n → n ≤ 0 → q ≡ false → more ≤ 0
none_more true true n more e h none = absurd (true≢false none)
none_more true false n more e h none = omega arith
none_more false q n more e h none = omega arith

-- a test that ties pass alike shows none of the records with one more: then it doesn't show that one
shown_none : (q : Record → Bool) → ((r s : Record) → record_cmp r s ≡ Equal → q r ≡ q s) → (kept : List Record) (p : RecordEntry) → Ascends kept → length (filter q (with_one kept p)) ≤ 0 → q (record_in p) ≡ true → ⊥
shown_none q same kept p h none shows = by (is_new kept p) refl
  where
    by : (b : Bool) → is_new kept p ≡ b → ⊥
    by true e =
        let more = count_with q kept p h in
        let first : one (is_new kept p && q (record_in p)) ≡ 1 = rw (e, shows) refl in
        omega arith
    by false e =
        let there : list_any (λ r. is_eq (record_cmp (record_in p) r)) kept ≡ true = not_new (list_any (λ r. is_eq (record_cmp (record_in p) r)) kept) e in
        let more = count_with q kept p h in
        let some = some_tied record_total q same (record_in p) kept shows there in
        omega arith
      where
        not_new : (a : Bool) → not a ≡ false → a ≡ true
        not_new true e = refl
        not_new false e = absurd (true≢false e)

cuts_tied : (r s : Record) → record_cmp r s ≡ Equal → is_wild_cut r ≡ is_wild_cut s
cuts_tied r s e =
    let parts = tied_parts r s e in
    ap (λ (b : Bool). b && r.rtype == type_NS) (wild_folded r.owner s.owner parts.0) ∙ ap (λ (t : ℕ). is_wild s.owner && t == type_NS) parts.1

own : (owner : List (List ℕ)) → is_same owner owner ≡ true
own owner = is_same_equiv.refl owner

pub conflicts_judge : Judges is_conflict AreApart
conflicts_judge = record {
  keeps = λ kept p h q none.
      let parts = neither (is_beside_alias kept p) (is_wild p.owner && p.rdata.rtype == type_NS) none in
      record {
        alone = λ owner. alone_keeps (is_new kept p) (is_same p.owner owner) (p.rdata.rtype == type_CNAME) (length (rrset_of kept owner type_CNAME)) (length (rrsets_of kept owner)) (length (rrset_of (with_one kept p) owner type_CNAME)) (length (rrsets_of (with_one kept p) owner))
            (length (rrset_of kept p.owner type_CNAME)) (length (rrsets_of kept p.owner))
            (count_with (is_of owner type_CNAME) kept p h) (count_with (stands_at owner) kept p h) (same_alias kept p.owner owner) (same_at kept p.owner owner) (q.alone owner) (sym (beside kept p) ∙ parts.0);
        cuts = none_more (is_new kept p) (is_wild p.owner && p.rdata.rtype == type_NS) (length (filter is_wild_cut kept)) (length (filter is_wild_cut (with_one kept p))) (count_with is_wild_cut kept p h) q.cuts parts.1;
      };
  reported = λ kept p h q shows. either ⊥ (is_beside_alias kept p) (is_wild p.owner && p.rdata.rtype == type_NS) shows
      (λ e. alone_told (is_new kept p) (p.rdata.rtype == type_CNAME) (length (rrset_of (with_one kept p) p.owner type_CNAME)) (length (rrsets_of (with_one kept p) p.owner)) (length (rrset_of kept p.owner type_CNAME)) (length (rrsets_of kept p.owner))
      (count_with (is_of p.owner type_CNAME) kept p h ∙ ap (λ (b : Bool). one (is_new kept p && (b && p.rdata.rtype == type_CNAME)) + length (rrset_of kept p.owner type_CNAME)) (own p.owner))
      (count_with (stands_at p.owner) kept p h ∙ ap (λ (b : Bool). one (is_new kept p && b) + length (rrsets_of kept p.owner)) (own p.owner))
      (fewer (stands_at p.owner) (λ (r : Record). r.rtype == type_CNAME) kept) (q.alone p.owner) (sym (beside kept p) ∙ e))
      (λ e. shown_none is_wild_cut cuts_tied kept p h q.cuts e);
  before = λ kept p h q. record {
    alone = λ owner some.
        let a = count_with (is_of owner type_CNAME) kept p h in
        let m = count_with (stands_at owner) kept p h in
        let l = q.alone owner (omega arith) in
        omega arith;
    cuts = let l = count_with is_wild_cut kept p h in let k = q.cuts in omega arith;
  };
}

-- owners outside the apex
abbrev pub is_outside : List (List ℕ) → Record → Bool
is_outside apex r = not (is_under r.owner apex)

abbrev pub AreInside : List (List ℕ) → List Record → Type 0
AreInside apex kept = length (filter (is_outside apex) kept) ≤ 0

abbrev pub shows_outside : List (List ℕ) → List Record → RecordEntry → Bool
shows_outside apex kept p = not (is_under p.owner apex)

outside_tied : (apex : List (List ℕ)) (r s : Record) → record_cmp r s ≡ Equal → is_outside apex r ≡ is_outside apex s
outside_tied apex r s e = ap not (under_folded r.owner s.owner apex (tied_parts r s e).0)

pub outside_judges : (apex : List (List ℕ)) → Judges (shows_outside apex) (AreInside apex)
outside_judges apex = record {
  keeps = λ kept p h q none. none_more (is_new kept p) (is_outside apex (record_in p)) (length (filter (is_outside apex) kept)) (length (filter (is_outside apex) (with_one kept p))) (count_with (is_outside apex) kept p h) q none;
  reported = λ kept p h q shows. shown_none (is_outside apex) (outside_tied apex) kept p h q shows;
  before = λ kept p h q. let l = count_with (is_outside apex) kept p h in omega arith;
}

turn : (b : Bool) (line : ℕ) (o : Option ℕ) → cond b o (Some line) ≡ cond (not b) (Some line) o
turn true line o = refl
turn false line o = refl

pub outside_first : (apex : List (List ℕ)) (kept : List Record) (ps : List RecordEntry) → outside_line apex ps ≡ first_line (shows_outside apex) kept ps
outside_first apex kept [] = refl
outside_first apex kept (p ∷ ps) = turn (is_under p.owner apex) p.line (outside_line apex ps) ∙ ap (λ (o : Option ℕ). cond (not (is_under p.owner apex)) (Some p.line) o) (outside_first apex (with_one kept p) ps)

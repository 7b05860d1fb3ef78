-- A set of too many records, and sets of which no two are of one owner and type.
use Rattle.std.proofs.Common.{◌≡◌, refl, sym, ap, ◌∙◌, subst, ℕ, ◌+◌, ◌<◌, ◌≤◌, Bool, true, false, cond, ◌&&◌, ◌||◌, ◌==◌, List, [], ◌∷◌, ◌++◌, map, length, take, drop, get_or, arith, true≢false, append_assoc, bytes_eq, None}
use Rattle.std.specs.Cmp.Lexicographic.{slice_cmp}
use Rattle.std.specs.List.{filter, list_any, AllByRecursion}
use Rattle.std.specs.Ordering.{is_eq, is_lt, nat_cmp}
use Rattle.std.proofs.lemmas.Bool.Decides.{nat_tests}
use Rattle.std.proofs.lemmas.List.{length-append, length-map, drop_more, take-append-drop}
use Rattle.std.proofs.lemmas.List.Elements.{filter-append}
use Rattle.std.proofs.lemmas.Map.Text.{is_eq-slice_cmp}
use Rattle.dns_name.specs.Name.{is_same}
use Rattle.dns_rdata.specs.Record.{Record, owner_of, rtype_of, with_record, has_data}
use Rattle.zone_tree.specs.Zone.{is_of, rrset_of}
use Rattle.zone_tree.specs.Sets.{records_in, IsSetBefore, AreUnsplit}
use Rattle.zone_tree.proofs.Rising.{Rises, each_weaker, filter_alike, rises_weaker, pairs_from_rises}
use Rattle.zone_tree.proofs.SetLemmas.{less}
use Rattle.master_file.specs.declared.record_entry.RecordEntry.{RecordEntry}
use Rattle.master_file.specs.ZoneText.{record_in, in_lower, with_all, with_one, first_line, is_too_many, zone_records}
use Rattle.master_file.specs.SetOrder.{joined, put_last, sets_with, is_over, HasOver}
use Rattle.master_file.proofs.JudgeLemmas.{Ascends, ascends_all, ascends_with, count_with, holds_of_all, limits_judge}
use Rattle.master_file.proofs.IsZoneLemmas.{set_count, few_none}
use Rattle.master_file.proofs.PutLemmas.{IsUniform, IsUpTo, Tied, head, by_set, same_by_set, put_behind, lower_set, sets_of_zone}

or_right : (a b : Bool) → b ≡ true → (a || b) ≡ true
or_right true b e = refl
or_right false b e = e

neither : (a b : Bool) → (a || b) ≡ false → (a ≡ false) × (b ≡ false)
neither true b e = absurd (true≢false e)
neither false b e = (refl, e)

any_last : (front : List (List Record)) (set : List Record) → is_over set ≡ true → list_any is_over (front ++ set ∷ []) ≡ true
any_last [] set e = ap (λ (b : Bool). b || false) e
any_last (x ∷ front) set e = or_right (is_over x) (list_any is_over (front ++ set ∷ [])) (any_last front set e)

-- data that a set doesn't have is one more record
len_chosen : (a : Bool) (r s : Record) (ss more : List Record) → length more ≡ length ss + 1 → length (cond a (r ∷ s ∷ ss) (s ∷ more)) ≡ length (s ∷ ss) + 1
len_chosen true r s ss more e = omega arith
len_chosen false r s ss more e = omega arith

with_len : (r : Record) (ss : List Record) → has_data ss r.rdata ≡ false → length (with_record r ss) ≡ length ss + 1
with_len r [] e = omega arith
with_len r (s ∷ ss) e =
    let parts = neither (bytes_eq r.rdata s.rdata) (has_data ss r.rdata) e in
    ap (λ (b : Bool). length (cond (is_lt (slice_cmp nat_cmp r.rdata s.rdata)) (r ∷ s ∷ ss) (cond b (s ∷ ss) (s ∷ with_record r ss)))) (is_eq-slice_cmp r.rdata s.rdata ∙ parts.0)
    ∙ len_chosen (is_lt (slice_cmp nat_cmp r.rdata s.rdata)) r s ss (with_record r ss) (with_len r ss parts.1)

over_joined : (last : List Record) (r : Record) → length last ≡ 256 → has_data last r.rdata ≡ false → is_over (joined last r) ≡ true
over_joined last r e new =
    let l = length-map (with_record r last) (λ (s : Record). record s { ttl = r.ttl }) in
    let m = with_len r last new in
    grind (arith, nat_tests)

pub put_full : (old front : List (List Record)) (last : List Record) (p : RecordEntry) → old ≡ front ++ last ∷ [] → (is_same (owner_of last) p.owner && rtype_of last == p.rdata.rtype) ≡ true → length last ≡ 256 → has_data last p.rdata.octets ≡ false → list_any is_over (put_last old (in_lower (record_in p))) ≡ true
put_full old front last p e of full new =
    let r = in_lower (record_in p) in
    ap (λ (sets : List (List Record)). list_any is_over (put_last sets r)) e ∙ ap (list_any is_over) (put_behind front last r ∙ ap (λ (b : Bool). cond b (front ++ joined last r ∷ []) (front ++ last ∷ (r ∷ []) ∷ [])) (lower_set last p ∙ of))
    ∙ any_last front (joined last r) (over_joined last r full new)

-- where no owner and type has too many records, no set has
count_append : (q : Record → Bool) (xs ys : List Record) → length (filter q (xs ++ ys)) ≡ length (filter q xs) + length (filter q ys)
count_append q xs ys = ap length (filter-append q xs ys) ∙ length-append (filter q xs) (filter q ys)

own_count : (set : List Record) → IsUniform set → length (rrset_of set (owner_of set) (rtype_of set)) ≡ length set
own_count set u =
    ap length (filter_alike (is_of (owner_of set) (rtype_of set)) true set
    (each_weaker (λ r. Tied r (head set)) (λ r. is_of (owner_of set) (rtype_of set) r ≡ true) (λ r t. sym (same_by_set r (head set)) ∙ ap is_eq t) set u.shared))

over_none : (sets : List (List Record)) → AllByRecursion IsUniform sets → ((owner : List (List ℕ)) (rtype : ℕ) → length (rrset_of (records_in sets) owner rtype) ≤ 256) → list_any is_over sets ≡ false
over_none [] u few = refl
over_none (set ∷ sets) u few =
    let own = own_count set u.0 in
    let all = count_append (is_of (owner_of set) (rtype_of set)) set (records_in sets) in
    let here = few (owner_of set) (rtype_of set) in
    let first : is_over set ≡ false = grind (arith, nat_tests) in
    ap (λ (b : Bool). b || list_any is_over sets) first
    ∙ over_none sets u.1 (λ owner rtype. let more = count_append (is_of owner rtype) set (records_in sets) in let most = few owner rtype in omega arith)

-- one more record makes no set smaller
grows : (q : Record → Bool) (kept : List Record) (ps : List RecordEntry) → Ascends kept → length (filter q kept) ≤ length (filter q (with_all kept ps))
grows q kept [] h = omega arith
grows q kept (p ∷ ps) h =
    let more = count_with q kept p h in
    let rest = grows q (with_one kept p) ps (ascends_with kept p h) in
    omega arith

all_joined : (kept : List Record) (done rest : List RecordEntry) → with_all kept (done ++ rest) ≡ with_all (with_all kept done) rest
all_joined kept [] rest = refl
all_joined kept (p ∷ done) rest = all_joined (with_one kept p) done rest

each_front : {X : Type 0} (P : X → Type 0) (xs ys : List X) → AllByRecursion P (xs ++ ys) → AllByRecursion P xs
each_front P [] ys h = tt
each_front P (x ∷ xs) ys h = (h.0, each_front P xs ys h.1)

rises_front : (done rest : List RecordEntry) → Rises IsUpTo (done ++ rest) → Rises IsUpTo done
rises_front [] rest h = tt
rises_front (p ∷ done) rest h = (each_front (IsUpTo p) done rest h.0, rises_front done rest h.1)

-- of a text none of whose records is one too many, no set has too many
pub none_over : (ps all : List RecordEntry) → Rises IsUpTo all → zone_records all ≡ zone_records ps → HasOver all → first_line is_too_many [] ps ≡ None → ⊥
none_over ps all rises same has none =
    let few = holds_of_all limits_judge [] ps tt few_none none in
    let parts = rises_front has.done has.rest (subst (λ (l : List RecordEntry). Rises IsUpTo l) has.parts rises) in
    let are = sets_of_zone has.done parts in
    true≢false (sym has.over ∙ over_none (sets_with [] has.done) are.uniform (λ owner rtype.
    let a = set_count ps owner rtype in
    let b = set_count all owner rtype in
    let c = set_count has.done owner rtype in
    let d = ap (λ (zone : List Record). length (rrset_of zone owner rtype)) same in
    let e = ap (λ (zone : List Record). length (rrset_of zone owner rtype)) are.records in
    let f = ap (λ (l : List RecordEntry). length (rrset_of (with_all [] l) owner rtype)) has.parts in
    let g = ap (λ (kept : List Record). length (rrset_of kept owner rtype)) (all_joined [] has.done has.rest) in
    let h = grows (is_of owner rtype) (with_all [] has.done) has.rest (ascends_all [] has.done tt) in
    let m = few.each owner rtype in
    omega arith))

-- sets in ascending order are unsplit
pub unsplit_rising : (sets : List (List Record)) → Rises IsSetBefore sets → AreUnsplit sets
unsplit_rising sets h =
    pairs_from_rises (λ set other. is_same (owner_of set) (owner_of other) && rtype_of set == rtype_of other ≡ false) sets
    (rises_weaker IsSetBefore (λ set other. is_same (owner_of set) (owner_of other) && rtype_of set == rtype_of other ≡ false)
    (λ set other b. sym (same_by_set (head set) (head other)) ∙ ap is_eq (less (by_set (head set) (head other)) b)) sets h)

-- the items so far, the next one and those behind are all
same_items : {X : Type 0} (xs : List X) → map (λ (x : X). x) xs ≡ xs
same_items [] = refl
same_items (x ∷ xs) = λ i. x ∷ same_items xs i

pub parts_of : (all done : List RecordEntry) (p : RecordEntry) → map (λ (x : RecordEntry). x) done ≡ take (length done) all → length done < length all → p ≡ get_or all (length done) p → all ≡ (done ++ p ∷ []) ++ drop (length done + 1) all
parts_of all done p so within is =
    sym (take-append-drop (length done) all)
    ∙ (λ i. (sym so ∙ same_items done) i ++ (drop_more all (length done) p within ∙ (λ j. sym is j ∷ drop (length done + 1) all)) i)
    ∙ sym (append_assoc done (p ∷ []) (drop (length done + 1) all))

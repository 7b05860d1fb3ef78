-- Sets put together from records in the order of their sets are those of the zone.
use Rattle.std.proofs.Common.{◌≡◌, refl, sym, ap, ◌∙◌, subst, ℕ, ◌<◌, Bool, true, false, cond, ◌&&◌, ◌==◌, List, [], ◌∷◌, ◌++◌, map, length, arith, true≢false, append_assoc}
use Rattle.std.specs.Prelude.{bytes_eq, reverse}
use Rattle.std.specs.declared.cmp.Ordering.{Ordering}
use Rattle.std.specs.declared.cmp.Ordering.TheVariants.{Less, Equal, Greater}
use Rattle.std.specs.BTreeSet.{insert_key}
use Rattle.std.specs.Cmp.{IsTotalOrder, tied_then, unsigned_tied}
use Rattle.std.specs.Cmp.Lexicographic.{pointwise, slice_cmp}
use Rattle.std.specs.List.{AllByRecursion}
use Rattle.std.specs.Ordering.{is_eq, is_lt, is_gt, match_ordering, nat_cmp, ordering_reverse, ordering_then}
use Rattle.std.proofs.lemmas.Cmp.{on_total, then_total, nat_cmp_total, tied_itself, tied_back, alike_right}
use Rattle.std.proofs.lemmas.List.{append-nil}
use Rattle.dns_name.specs.Name.{is_same, fold_name, canonical_cmp}
use Rattle.dns_name.specs.Order.{canonical_total, is_same_tied}
use Rattle.dns_rdata.specs.Record.{Record, record_cmp, owner_of, rtype_of, ttl_of, with_record}
use Rattle.dns_rdata.proofs.NameLemmas.{fold_name-fold_name}
use Rattle.zone_tree.specs.Zone.{is_of}
use Rattle.zone_tree.specs.Sets.{records_in, IsSetBefore}
use Rattle.zone_tree.proofs.Rising.{Rises, each_weaker, each_map}
use Rattle.zone_tree.proofs.SetLemmas.{less}
use Rattle.master_file.specs.declared.record_entry.RecordEntry.{RecordEntry}
use Rattle.master_file.specs.ZoneText.{record_in, with_one, with_all, timed, in_lower, zone_records}
use Rattle.master_file.specs.SetOrder.{set_order, is_set_of, joined, put_last, sets_with}
use Rattle.master_file.proofs.ShownLemmas.{shown, shown_owner, shown_folds, timed_rtype, timed_rdata, each_of_all, order_shown}

then_assoc : (a b c : Ordering) → ordering_then a (ordering_then b c) ≡ ordering_then (ordering_then a b) c
then_assoc Less b c = refl
then_assoc Equal b c = refl
then_assoc Greater b c = refl

-- the order of records by owner and type
abbrev pub by_set : Record → Record → Ordering
by_set r s = ordering_then (canonical_cmp r.owner s.owner) (nat_cmp r.rtype s.rtype)

pub by_set_total : IsTotalOrder by_set
by_set_total = then_total (on_total (λ (r : Record). r.owner) canonical_total) (on_total (λ (r : Record). r.rtype) nat_cmp_total)

data_last : (r s : Record) → record_cmp r s ≡ ordering_then (by_set r s) (slice_cmp nat_cmp r.rdata s.rdata)
data_last r s = then_assoc (canonical_cmp r.owner s.owner) (nat_cmp r.rtype s.rtype) (slice_cmp nat_cmp r.rdata s.rdata)

-- a record stands in a set before another's, or not in one behind it
abbrev Before : Record → Record → Type 0
Before r e = by_set r e ≡ Less

abbrev pub NotBehind : Record → Record → Type 0
NotBehind r e = is_gt (by_set r e) ≡ false

abbrev pub Tied : Record → Record → Type 0
Tied r e = by_set r e ≡ Equal

turned : (r e : Record) → Before r e → by_set e r ≡ Greater
turned r e h = by_set_total.antisymm e r ∙ ap ordering_reverse h

before_upto : (o : Ordering) (r s e : Record) → by_set s e ≡ o → is_gt o ≡ false → Before r s → Before r e
before_upto Less r s e k h b = by_set_total.trans r s e b k
before_upto Equal r s e k h b = sym (alike_right by_set_total s e r k) ∙ b
before_upto Greater r s e k h b = absurd (true≢false h)

pub same_by_set : (r s : Record) → is_eq (by_set r s) ≡ (is_same r.owner s.owner && r.rtype == s.rtype)
same_by_set r s =
    sym (tied_then (canonical_cmp r.owner s.owner) (nat_cmp r.rtype s.rtype))
    ∙ ap (λ (b : Bool). b && is_eq (nat_cmp r.rtype s.rtype)) (sym (is_same_tied r.owner s.owner))
    ∙ ap (λ (b : Bool). is_same r.owner s.owner && b) (unsigned_tied r.rtype s.rtype)

-- a record with the TTL of another, where they are of one set
abbrev renewed : Record → Record → Record
renewed e r = cond (is_of r.owner r.rtype e) (record r { ttl = e.ttl }) r

renewed_tied : (e r : Record) → by_set e r ≡ Equal → renewed e r ≡ record r { ttl = e.ttl }
renewed_tied e r h = ap (λ (b : Bool). cond b (record r { ttl = e.ttl }) r) (sym (same_by_set e r) ∙ ap is_eq h)

renewed_before : (e r : Record) → Before r e → renewed e r ≡ r
renewed_before e r h = ap (λ (b : Bool). cond b (record r { ttl = e.ttl }) r) (sym (same_by_set e r) ∙ ap is_eq (turned r e h))

map_before : (e : Record) (rs : List Record) → AllByRecursion (λ r. Before r e) rs → map (renewed e) rs ≡ rs
map_before e [] h = refl
map_before e (r ∷ rs) h = λ i. renewed_before e r h.0 i ∷ map_before e rs h.1 i

map_tied : (e : Record) (rs : List Record) → AllByRecursion (λ r. by_set e r ≡ Equal) rs → map (renewed e) rs ≡ map (λ (s : Record). record s { ttl = e.ttl }) rs
map_tied e [] h = refl
map_tied e (r ∷ rs) h = λ i. renewed_tied e r h.0 i ∷ map_tied e rs h.1 i

map_append : (f : Record → Record) (xs ys : List Record) → map f (xs ++ ys) ≡ map f xs ++ map f ys
map_append f [] ys = refl
map_append f (x ∷ xs) ys = ap (λ (l : List Record). f x ∷ l) (map_append f xs ys)

-- a record goes behind those of sets before its own
insert_past : (e : Record) (xs ys : List Record) → AllByRecursion (λ r. Before r e) xs → insert_key record_cmp (xs ++ ys) e ≡ xs ++ insert_key record_cmp ys e
insert_past e [] ys h = refl
insert_past e (x ∷ xs) ys h =
    ap (λ (o : Ordering). match_ordering o (e ∷ x ∷ (xs ++ ys)) (x ∷ (xs ++ ys)) (x ∷ insert_key record_cmp (xs ++ ys) e))
    (data_last e x ∙ ap (λ (o : Ordering). ordering_then o (slice_cmp nat_cmp e.rdata x.rdata)) (turned x e h.0))
    ∙ ap (λ (l : List Record). x ∷ l) (insert_past e xs ys h.1)

past : (e : Record) (xs ys : List Record) → AllByRecursion (λ r. Before r e) xs → map (renewed e) (insert_key record_cmp (xs ++ ys) e) ≡ xs ++ map (renewed e) (insert_key record_cmp ys e)
past e xs ys h =
    ap (map (renewed e)) (insert_past e xs ys h) ∙ map_append (renewed e) xs (insert_key record_cmp ys e)
    ∙ ap (λ (l : List Record). l ++ map (renewed e) (insert_key record_cmp ys e)) (map_before e xs h)

-- and among those of its own it goes by its data
by_data : (o : Ordering) (e x : Record) (xs more : List Record) → match_ordering o (e ∷ x ∷ xs) (x ∷ xs) (x ∷ more) ≡ cond (is_lt o) (e ∷ x ∷ xs) (cond (is_eq o) (x ∷ xs) (x ∷ more))
by_data Less e x xs more = refl
by_data Equal e x xs more = refl
by_data Greater e x xs more = refl

insert_tied : (e : Record) (xs : List Record) → AllByRecursion (λ r. by_set e r ≡ Equal) xs → insert_key record_cmp xs e ≡ with_record e xs
insert_tied e [] h = refl
insert_tied e (x ∷ xs) h =
    ap (λ (o : Ordering). match_ordering o (e ∷ x ∷ xs) (x ∷ xs) (x ∷ insert_key record_cmp xs e))
    (data_last e x ∙ ap (λ (o : Ordering). ordering_then o (slice_cmp nat_cmp e.rdata x.rdata)) h.0)
    ∙ ap (λ (l : List Record). match_ordering (slice_cmp nat_cmp e.rdata x.rdata) (e ∷ x ∷ xs) (x ∷ xs) (x ∷ l)) (insert_tied e xs h.1)
    ∙ by_data (slice_cmp nat_cmp e.rdata x.rdata) e x xs (with_record e xs)

each_chosen : (P : Record → Type 0) (a b : Bool) (e x : Record) (xs more : List Record) → P e → P x → AllByRecursion P xs → AllByRecursion P more → AllByRecursion P (cond a (e ∷ x ∷ xs) (cond b (x ∷ xs) (x ∷ more)))
each_chosen P true b e x xs more pe px h m = (pe, (px, h))
each_chosen P false true e x xs more pe px h m = (px, h)
each_chosen P false false e x xs more pe px h m = (px, m)

each_with : (P : Record → Type 0) (e : Record) (xs : List Record) → P e → AllByRecursion P xs → AllByRecursion P (with_record e xs)
each_with P e [] pe h = (pe, tt)
each_with P e (x ∷ xs) pe h = each_chosen P (is_lt (slice_cmp nat_cmp e.rdata x.rdata)) (is_eq (slice_cmp nat_cmp e.rdata x.rdata)) e x xs (with_record e xs) pe h.0 h.1 (each_with P e xs pe h.1)

some_chosen : (a b : Bool) (e x : Record) (xs more : List Record) → 0 < length (cond a (e ∷ x ∷ xs) (cond b (x ∷ xs) (x ∷ more)))
some_chosen true b e x xs more = omega arith
some_chosen false true e x xs more = omega arith
some_chosen false false e x xs more = omega arith

some_with : (e : Record) (xs : List Record) → 0 < length (with_record e xs)
some_with e [] = omega arith
some_with e (x ∷ xs) = some_chosen (is_lt (slice_cmp nat_cmp e.rdata x.rdata)) (is_eq (slice_cmp nat_cmp e.rdata x.rdata)) e x xs (with_record e xs)

-- a set's owner and type
abbrev pub head : List Record → Record
head set = record { owner = owner_of set; rtype = rtype_of set; ttl = 0; rdata = [] }

-- a set: records of one owner and type
pub record IsUniform (set : List Record) : Type 0 where
  pub some : 0 < length set
  pub shared : AllByRecursion (λ r. Tied r (head set)) set

-- of a record's owner and type
abbrev AreTied : Record → List Record → Type 0
AreTied e set = AllByRecursion (λ r. Tied r e) set

head_tied : (e : Record) (set : List Record) → 0 < length set → AreTied e set → Tied (head set) e
head_tied e [] some h = absurd (omega arith)
head_tied e (r ∷ rs) some h = h.0

uniform_tied : (e : Record) (set : List Record) → 0 < length set → AreTied e set → IsUniform set
uniform_tied e set some h = record {
  some = some;
  shared = each_weaker (λ r. Tied r e) (λ r. Tied r (head set)) (λ r t. alike_right by_set_total (head set) e r (head_tied e set some h) ∙ t) set h;
}

head_not_behind : (e : Record) (set : List Record) → 0 < length set → AllByRecursion (λ r. NotBehind r e) set → NotBehind (head set) e
head_not_behind e [] some h = absurd (omega arith)
head_not_behind e (r ∷ rs) some h = h.0

all_before : (e : Record) (set : List Record) → IsUniform set → Before (head set) e → AllByRecursion (λ r. Before r e) set
all_before e set u b = each_weaker (λ r. Tied r (head set)) (λ r. Before r e) (λ r t. by_set_total.congr r (head set) e t ∙ b) set u.shared

all_tied : (e : Record) (set : List Record) → IsUniform set → Tied (head set) e → AreTied e set
all_tied e set u b = each_weaker (λ r. Tied r (head set)) (λ r. Tied r e) (λ r t. by_set_total.congr r (head set) e t ∙ b) set u.shared

back_tied : (e : Record) (set : List Record) → AreTied e set → AllByRecursion (λ r. by_set e r ≡ Equal) set
back_tied e set h = each_weaker (λ r. Tied r e) (λ r. by_set e r ≡ Equal) (λ r t. tied_back by_set_total r e t) set h

joined_tied : (e : Record) (set : List Record) → AreTied e set → AreTied e (joined set e)
joined_tied e set h = each_map (λ r. Tied r e) (λ (s : Record). record s { ttl = e.ttl }) (with_record e set) (each_with (λ r. Tied r e) e set (tied_itself by_set_total e) h)

some_map : (f : Record → Record) (rs : List Record) → 0 < length rs → 0 < length (map f rs)
some_map f [] h = h
some_map f (r ∷ rs) h = omega arith

some_joined : (e : Record) (set : List Record) → 0 < length (joined set e)
some_joined e set = some_map (λ (s : Record). record s { ttl = e.ttl }) (with_record e set) (some_with e set)

-- a set that is not behind a record's is of it or before it
tied_by : (o : Ordering) → is_eq o ≡ true → o ≡ Equal
tied_by Less h = absurd (true≢false (sym h))
tied_by Equal h = refl
tied_by Greater h = absurd (true≢false (sym h))

before_by : (o : Ordering) → is_eq o ≡ false → is_gt o ≡ false → o ≡ Less
before_by Less h k = refl
before_by Equal h k = absurd (true≢false h)
before_by Greater h k = absurd (true≢false k)

alone : (e : Record) → map (renewed e) (insert_key record_cmp [] e) ≡ e ∷ []
alone e = ap (λ (r : Record). r ∷ []) (renewed_tied e e (tied_itself by_set_total e))

each_front : {X : Type 0} (P : X → Type 0) (xs ys : List X) → AllByRecursion P (xs ++ ys) → AllByRecursion P xs
each_front P [] ys h = tt
each_front P (x ∷ xs) ys h = (h.0, each_front P xs ys h.1)

each_back : {X : Type 0} (P : X → Type 0) (xs ys : List X) → AllByRecursion P (xs ++ ys) → AllByRecursion P ys
each_back P [] ys h = h
each_back P (x ∷ xs) ys h = each_back P xs ys h.1

-- a set before the next, which isn't behind a record's, is before the record's
first_before : (e : Record) (set next : List Record) → IsSetBefore set next → NotBehind (head next) e → Before (head set) e
first_before e set next b n = before_upto (by_set (head next) e) (head set) (head next) e refl n (less (by_set (head set) (head next)) b)

put_one : (e : Record) (set : List Record) → IsUniform set → NotBehind (head set) e → (b : Bool) → is_set_of e set ≡ b → records_in (cond b (joined set e ∷ []) (set ∷ (e ∷ []) ∷ [])) ≡ map (renewed e) (insert_key record_cmp set e)
put_one e set u n true same =
    let tie = tied_by (by_set (head set) e) (same_by_set (head set) e ∙ same) in
    let each = back_tied e set (all_tied e set u tie) in
    let more = back_tied e (with_record e set) (each_with (λ r. Tied r e) e set (tied_itself by_set_total e) (all_tied e set u tie)) in
    append-nil (joined set e) ∙ sym (map_tied e (with_record e set) more) ∙ ap (map (renewed e)) (sym (insert_tied e set each))
put_one e set u n false same =
    let b = before_by (by_set (head set) e) (same_by_set (head set) e ∙ same) n in
    sym (ap (λ (l : List Record). map (renewed e) (insert_key record_cmp l e)) (sym (append-nil set)) ∙ past e set [] (all_before e set u b) ∙ ap (λ (l : List Record). set ++ l) (alone e))

-- the records of sets with one more
put_records : (e : Record) (sets : List (List Record)) → AllByRecursion IsUniform sets → Rises IsSetBefore sets → AllByRecursion (λ r. NotBehind r e) (records_in sets) → records_in (put_last sets e) ≡ map (renewed e) (insert_key record_cmp (records_in sets) e)
put_records e [] u h n = sym (alone e)
put_records e (set ∷ []) u h n =
    put_one e set u.0 (head_not_behind e set u.0.some (each_front (λ r. NotBehind r e) set [] n)) (is_set_of e set) refl
    ∙ ap (λ (l : List Record). map (renewed e) (insert_key record_cmp l e)) (sym (append-nil set))
put_records e (set ∷ next ∷ sets) u h n =
    let behind = each_back (λ r. NotBehind r e) set (records_in (next ∷ sets)) n in
    let last = head_not_behind e next u.1.0.some (each_front (λ r. NotBehind r e) next (records_in sets) behind) in
    ap (λ (l : List Record). set ++ l) (put_records e (next ∷ sets) u.1 h.1 behind)
    ∙ sym (past e set (records_in (next ∷ sets)) (all_before e set u.0 (first_before e set next h.0.0 last)))

-- what holds of each set, and of each of a record's owner and type, holds of each with that record put
each_put_one : (P : List Record → Type 0) (e : Record) (set : List Record) → P set → ((s : List Record) → 0 < length s → AreTied e s → P s) → IsUniform set → (b : Bool) → is_set_of e set ≡ b → AllByRecursion P (cond b (joined set e ∷ []) (set ∷ (e ∷ []) ∷ []))
each_put_one P e set p f u true same =
    let tie = tied_by (by_set (head set) e) (same_by_set (head set) e ∙ same) in
    (f (joined set e) (some_joined e set) (joined_tied e set (all_tied e set u tie)), tt)
each_put_one P e set p f u false same = (p, (f (e ∷ []) (omega arith) (tied_itself by_set_total e, tt), tt))

each_put : (P : List Record → Type 0) (e : Record) (sets : List (List Record)) → AllByRecursion P sets → ((s : List Record) → 0 < length s → AreTied e s → P s) → AllByRecursion IsUniform sets → AllByRecursion P (put_last sets e)
each_put P e [] p f u = (f (e ∷ []) (omega arith) (tied_itself by_set_total e, tt), tt)
each_put P e (set ∷ []) p f u = each_put_one P e set p.0 f u.0 (is_set_of e set) refl
each_put P e (set ∷ next ∷ sets) p f u = (p.0, each_put P e (next ∷ sets) p.1 f u.1)

uniform_put : (e : Record) (sets : List (List Record)) → AllByRecursion IsUniform sets → AllByRecursion IsUniform (put_last sets e)
uniform_put e sets u = each_put IsUniform e sets u (λ s some t. uniform_tied e s some t) u

set_before : (e : Record) (set s : List Record) → Before (head set) e → 0 < length s → AreTied e s → IsSetBefore set s
set_before e set s b some t = ap is_lt (alike_right by_set_total (head s) e (head set) (head_tied e s some t) ∙ b)

rises_put_one : (e : Record) (set : List Record) → IsUniform set → NotBehind (head set) e → (b : Bool) → is_set_of e set ≡ b → Rises IsSetBefore (cond b (joined set e ∷ []) (set ∷ (e ∷ []) ∷ []))
rises_put_one e set u n true same = (tt, tt)
rises_put_one e set u n false same =
    let b = before_by (by_set (head set) e) (same_by_set (head set) e ∙ same) n in
    ((set_before e set (e ∷ []) b (omega arith) (tied_itself by_set_total e, tt), tt), (tt, tt))

rises_put : (e : Record) (sets : List (List Record)) → AllByRecursion IsUniform sets → Rises IsSetBefore sets → AllByRecursion (λ r. NotBehind r e) (records_in sets) → Rises IsSetBefore (put_last sets e)
rises_put e [] u h n = (tt, tt)
rises_put e (set ∷ []) u h n = rises_put_one e set u.0 (head_not_behind e set u.0.some (each_front (λ r. NotBehind r e) set [] n)) (is_set_of e set) refl
rises_put e (set ∷ next ∷ sets) u h n =
    let behind = each_back (λ r. NotBehind r e) set (records_in (next ∷ sets)) n in
    let last = head_not_behind e next u.1.0.some (each_front (λ r. NotBehind r e) next (records_in sets) behind) in
    let b = first_before e set next h.0.0 last in
    (each_put (IsSetBefore set) e (next ∷ sets) h.0 (λ s some t. set_before e set s b some t) u.1, rises_put e (next ∷ sets) u.1 h.1 behind)

-- the zone's records with one more behind the others
all_append : (kept : List Record) (done : List RecordEntry) (p : RecordEntry) → with_all kept (done ++ p ∷ []) ≡ with_one (with_all kept done) p
all_append kept [] p = refl
all_append kept (q ∷ done) p = all_append (with_one kept q) done p

abbrev last_ttl : RecordEntry → Record → Record
last_ttl p r = cond (is_of r.owner r.rtype (record_in p)) (record r { ttl = p.ttl.0 }) r

timed_append : (done : List RecordEntry) (p : RecordEntry) (r : Record) → timed (done ++ p ∷ []) r ≡ last_ttl p (timed done r)
timed_append [] p r = refl
timed_append (q ∷ done) p r = timed_append done p (cond (is_of r.owner r.rtype (record_in q)) (record r { ttl = q.ttl.0 }) r)

lower_cond : (b : Bool) (ttl : ℕ) (r : Record) → in_lower (cond b (record r { ttl = ttl }) r) ≡ cond b (record (in_lower r) { ttl = ttl }) (in_lower r)
lower_cond true ttl r = refl
lower_cond false ttl r = refl

lower_ttl : (p : RecordEntry) (r : Record) → in_lower (last_ttl p r) ≡ renewed (in_lower (record_in p)) (in_lower r)
lower_ttl p r =
    lower_cond (is_of r.owner r.rtype (record_in p)) p.ttl.0 r
    ∙ ap (λ (f : List (List ℕ)). cond (pointwise bytes_eq f (fold_name r.owner) && p.rdata.rtype == r.rtype) (record (in_lower r) { ttl = p.ttl.0 }) (in_lower r)) (sym (fold_name-fold_name p.owner))
    ∙ ap (λ (f : List (List ℕ)). cond (pointwise bytes_eq (fold_name (fold_name p.owner)) f && p.rdata.rtype == r.rtype) (record (in_lower r) { ttl = p.ttl.0 }) (in_lower r)) (sym (fold_name-fold_name r.owner))

map_with : (f g h : Record → Record) → ((r : Record) → f r ≡ g (h r)) → (rs : List Record) → map f rs ≡ map g (map h rs)
map_with f g h same [] = refl
map_with f g h same (r ∷ rs) = λ i. same r i ∷ map_with f g h same rs i

-- through what keeps the order
map_placed : (f : Record → Record) (o : Ordering) (k x : Record) (xs more : List Record) → map f (match_ordering o (k ∷ x ∷ xs) (x ∷ xs) (x ∷ more)) ≡ match_ordering o (f k ∷ f x ∷ map f xs) (f x ∷ map f xs) (f x ∷ map f more)
map_placed f Less k x xs more = refl
map_placed f Equal k x xs more = refl
map_placed f Greater k x xs more = refl

map_insert : (f : Record → Record) → ((r s : Record) → record_cmp (f r) (f s) ≡ record_cmp r s) → (k : Record) (xs : List Record) → map f (insert_key record_cmp xs k) ≡ insert_key record_cmp (map f xs) (f k)
map_insert f same k [] = refl
map_insert f same k (x ∷ xs) =
    map_placed f (record_cmp k x) k x xs (insert_key record_cmp xs k)
    ∙ ap (λ (l : List Record). match_ordering (record_cmp k x) (f k ∷ f x ∷ map f xs) (f x ∷ map f xs) (f x ∷ l)) (map_insert f same k xs)
    ∙ ap (λ (o : Ordering). match_ordering o (f k ∷ f x ∷ map f xs) (f x ∷ map f xs) (f x ∷ insert_key record_cmp (map f xs) (f k))) (sym (same k x))

-- and a key may stand for another that it ties with
other_key : (g : Record → Record) (k l : Record) → ((x : Record) → record_cmp k x ≡ record_cmp l x) → g k ≡ g l → (xs : List Record) → map g (insert_key record_cmp xs k) ≡ map g (insert_key record_cmp xs l)
other_key g k l alike same [] = λ i. same i ∷ []
other_key g k l alike same (x ∷ xs) =
    map_placed g (record_cmp k x) k x xs (insert_key record_cmp xs k)
    ∙ ap (λ (r : Record). match_ordering (record_cmp k x) (r ∷ g x ∷ map g xs) (g x ∷ map g xs) (g x ∷ map g (insert_key record_cmp xs k))) same
    ∙ ap (λ (m : List Record). match_ordering (record_cmp k x) (g l ∷ g x ∷ map g xs) (g x ∷ map g xs) (g x ∷ m)) (other_key g k l alike same xs)
    ∙ ap (λ (o : Ordering). match_ordering o (g l ∷ g x ∷ map g xs) (g x ∷ map g xs) (g x ∷ map g (insert_key record_cmp xs l))) (alike x)
    ∙ sym (map_placed g (record_cmp l x) l x xs (insert_key record_cmp xs l))

-- a record as a zone has it, but for its TTL
lower_but_ttl : (done : List RecordEntry) (p : RecordEntry) → record (shown done (record_in p)) { ttl = p.ttl.0 } ≡ in_lower (record_in p)
lower_but_ttl done p = λ i. record { owner = shown_owner done (record_in p) i; rtype = timed_rtype done (record_in p) i; ttl = p.ttl.0; rdata = timed_rdata done (record_in p) i }

lower_tied : (done : List RecordEntry) (p : RecordEntry) → by_set (in_lower (record_in p)) (shown done (record_in p)) ≡ Equal
lower_tied done p =
    let e = in_lower (record_in p) in
    ap (λ (r : Record). by_set e r) (lower_but_ttl done p) ∙ tied_itself by_set_total e

lower_alike : (done : List RecordEntry) (p : RecordEntry) (x : Record) → record_cmp (shown done (record_in p)) x ≡ record_cmp (in_lower (record_in p)) x
lower_alike done p x = ap (λ (r : Record). record_cmp r x) (lower_but_ttl done p)

pub zone_append : (done : List RecordEntry) (p : RecordEntry) → zone_records (done ++ p ∷ []) ≡ map (renewed (in_lower (record_in p))) (insert_key record_cmp (zone_records done) (in_lower (record_in p)))
zone_append done p =
    let e = in_lower (record_in p) in
    let k = shown done (record_in p) in
    let kept = with_all [] done in
    ap (map (λ (r : Record). in_lower (timed (done ++ p ∷ []) r))) (all_append [] done p)
    ∙ map_with (λ (r : Record). in_lower (timed (done ++ p ∷ []) r)) (renewed e) (shown done) (λ r. ap in_lower (timed_append done p r) ∙ lower_ttl p (timed done r)) (with_one kept p)
    ∙ ap (map (renewed e)) (map_insert (shown done) (order_shown done) (record_in p) kept)
    ∙ other_key (renewed e) k e (lower_alike done p) (renewed_tied e k (lower_tied done p) ∙ lower_but_ttl done p ∙ sym (renewed_tied e e (tied_itself by_set_total e))) (map (shown done) kept)

-- sets are those of the records put so far
pub record AreSetsOf (done : List RecordEntry) (sets : List (List Record)) : Type 0 where
  pub records : records_in sets ≡ zone_records done
  pub uniform : AllByRecursion IsUniform sets
  pub rises : Rises IsSetBefore sets

-- a record is in no set behind another's
abbrev pub IsUpTo : RecordEntry → RecordEntry → Type 0
IsUpTo q p = is_gt (set_order q p) ≡ false

shown_by_set : (done : List RecordEntry) (r s : Record) → by_set (shown done r) (in_lower s) ≡ by_set r s
shown_by_set done r s =
    ap (λ (f : List (List ℕ)). ordering_then (slice_cmp (slice_cmp nat_cmp) (reverse f) (reverse (fold_name (fold_name s.owner)))) (nat_cmp (timed done r).rtype s.rtype)) (shown_folds done r)
    ∙ ap (λ (f : List (List ℕ)). ordering_then (slice_cmp (slice_cmp nat_cmp) (reverse (fold_name r.owner)) (reverse f)) (nat_cmp (timed done r).rtype s.rtype)) (fold_name-fold_name s.owner)
    ∙ ap (λ (t : ℕ). ordering_then (canonical_cmp r.owner s.owner) (nat_cmp t s.rtype)) (timed_rtype done r)

step : (done : List RecordEntry) (sets : List (List Record)) (p : RecordEntry) → AreSetsOf done sets → AllByRecursion (λ q. IsUpTo q p) done → AreSetsOf (done ++ p ∷ []) (put_last sets (in_lower (record_in p)))
step done sets p are up =
    let e = in_lower (record_in p) in
    let kept = each_of_all (λ r. NotBehind r (record_in p)) [] done tt up in
    let each = each_map (λ r. NotBehind r e) (shown done) (with_all [] done) (each_weaker (λ r. NotBehind r (record_in p)) (λ r. NotBehind (shown done r) e) (λ r n. ap is_gt (shown_by_set done r (record_in p)) ∙ n) (with_all [] done) kept) in
    let behind = subst (λ (rs : List Record). AllByRecursion (λ r. NotBehind r e) rs) (sym are.records) each in
    record {
      records = put_records e sets are.uniform are.rises behind ∙ ap (λ (rs : List Record). map (renewed e) (insert_key record_cmp rs e)) are.records ∙ sym (zone_append done p);
      uniform = uniform_put e sets are.uniform;
      rises = rises_put e sets are.uniform are.rises behind;
    }

up_to_last : (done : List RecordEntry) (p : RecordEntry) (rest : List RecordEntry) → Rises IsUpTo (done ++ p ∷ rest) → AllByRecursion (λ q. IsUpTo q p) done
up_to_last [] p rest h = tt
up_to_last (q ∷ done) p rest h = ((each_back (IsUpTo q) done (p ∷ rest) h.0).0, up_to_last done p rest h.1)

sets_are : (done : List RecordEntry) (sets : List (List Record)) (rest : List RecordEntry) → AreSetsOf done sets → Rises IsUpTo (done ++ rest) → AreSetsOf (done ++ rest) (sets_with sets rest)
sets_are done sets [] are h = subst (λ (all : List RecordEntry). AreSetsOf all sets) (sym (append-nil done)) are
sets_are done sets (p ∷ rest) are h =
    let same = append_assoc done (p ∷ []) rest in
    subst (λ (all : List RecordEntry). AreSetsOf all (sets_with (put_last sets (in_lower (record_in p))) rest)) same
    (sets_are (done ++ p ∷ []) (put_last sets (in_lower (record_in p))) rest (step done sets p are (up_to_last done p rest h)) (subst (λ (all : List RecordEntry). Rises IsUpTo all) (sym same) h))

-- the sets of records in the order of their sets are those of the zone
pub sets_of_zone : (all : List RecordEntry) → Rises IsUpTo all → AreSetsOf all (sets_with [] all)
sets_of_zone all h = sets_are [] [] all (record { records = refl; uniform = tt; rises = tt }) h

pub sets_append : (sets : List (List Record)) (done : List RecordEntry) (p : RecordEntry) → sets_with sets (done ++ p ∷ []) ≡ put_last (sets_with sets done) (in_lower (record_in p))
sets_append sets [] p = refl
sets_append sets (q ∷ done) p = sets_append (put_last sets (in_lower (record_in q))) done p

-- what is put in code, where the last set is taken out first
put_first : (b : Bool) (x : List Record) (xs ys : List (List Record)) → x ∷ cond b xs ys ≡ cond b (x ∷ xs) (x ∷ ys)
put_first true x xs ys = refl
put_first false x xs ys = refl

pub put_behind : (front : List (List Record)) (last : List Record) (r : Record) → put_last (front ++ last ∷ []) r ≡ cond (is_set_of r last) (front ++ joined last r ∷ []) (front ++ last ∷ (r ∷ []) ∷ [])
put_behind [] last r = refl
put_behind (x ∷ []) last r = put_first (is_set_of r last) x (joined last r ∷ []) (last ∷ (r ∷ []) ∷ [])
put_behind (x ∷ y ∷ front) last r =
    ap (λ (sets : List (List Record)). x ∷ sets) (put_behind (y ∷ front) last r)
    ∙ put_first (is_set_of r last) x ((y ∷ front) ++ joined last r ∷ []) ((y ∷ front) ++ last ∷ (r ∷ []) ∷ [])

pub lower_set : (set : List Record) (p : RecordEntry) → is_set_of (in_lower (record_in p)) set ≡ (is_same (owner_of set) p.owner && rtype_of set == p.rdata.rtype)
lower_set set p = ap (λ (f : List (List ℕ)). pointwise bytes_eq (fold_name (owner_of set)) f && rtype_of set == p.rdata.rtype) (fold_name-fold_name p.owner)

map_chosen : (f : Record → Record) (a b : Bool) (e d x : Record) (xs more most : List Record) → f e ≡ f d → map f more ≡ map f most → map f (cond a (e ∷ x ∷ xs) (cond b (x ∷ xs) (x ∷ more))) ≡ map f (cond a (d ∷ x ∷ xs) (cond b (x ∷ xs) (x ∷ most)))
map_chosen f true b e d x xs more most same so = λ i. same i ∷ f x ∷ map f xs
map_chosen f false true e d x xs more most same so = refl
map_chosen f false false e d x xs more most same so = λ i. f x ∷ so i

any_ttl : (ttl m n : ℕ) (r : Record) (set : List Record) → map (λ (s : Record). record s { ttl = ttl }) (with_record (record r { ttl = m }) set) ≡ map (λ (s : Record). record s { ttl = ttl }) (with_record (record r { ttl = n }) set)
any_ttl ttl m n r [] = refl
any_ttl ttl m n r (s ∷ set) =
    map_chosen (λ (s : Record). record s { ttl = ttl }) (is_lt (slice_cmp nat_cmp r.rdata s.rdata)) (is_eq (slice_cmp nat_cmp r.rdata s.rdata)) (record r { ttl = m }) (record r { ttl = n }) s set
    (with_record (record r { ttl = m }) set) (with_record (record r { ttl = n }) set) refl (any_ttl ttl m n r set)

pub put_in : (old front : List (List Record)) (last set : List Record) (p : RecordEntry) → old ≡ front ++ last ∷ [] → (is_same (owner_of last) p.owner && rtype_of last == p.rdata.rtype) ≡ true → owner_of last ≡ fold_name p.owner → set ≡ map (λ (s : Record). record s { ttl = p.ttl.0 }) (with_record (record { owner = owner_of last; rtype = p.rdata.rtype; ttl = ttl_of last; rdata = p.rdata.octets }) last) → front ++ set ∷ [] ≡ put_last old (in_lower (record_in p))
put_in old front last set p e of owner made =
    let r = in_lower (record_in p) in
    let is : set ≡ joined last r =
    made ∙ ap (λ (o : List (List ℕ)). map (λ (s : Record). record s { ttl = p.ttl.0 }) (with_record (record { owner = o; rtype = p.rdata.rtype; ttl = ttl_of last; rdata = p.rdata.octets }) last)) owner
    ∙ any_ttl p.ttl.0 (ttl_of last) p.ttl.0 r last in
    ap (λ (s : List Record). front ++ s ∷ []) is
    ∙ sym (ap (λ (sets : List (List Record)). put_last sets r) e ∙ put_behind front last r ∙ ap (λ (b : Bool). cond b (front ++ joined last r ∷ []) (front ++ last ∷ (r ∷ []) ∷ [])) (lower_set last p ∙ of))

pub put_out : (old front : List (List Record)) (last set : List Record) (p : RecordEntry) → old ≡ front ++ last ∷ [] → (is_same (owner_of last) p.owner && rtype_of last == p.rdata.rtype) ≡ false → set ≡ in_lower (record_in p) ∷ [] → (front ++ last ∷ []) ++ set ∷ [] ≡ put_last old (in_lower (record_in p))
put_out old front last set p e of made =
    let r = in_lower (record_in p) in
    append_assoc front (last ∷ []) (set ∷ []) ∙ ap (λ (s : List Record). front ++ last ∷ s ∷ []) made
    ∙ sym (ap (λ (sets : List (List Record)). put_last sets r) e ∙ put_behind front last r ∙ ap (λ (b : Bool). cond b (front ++ joined last r ∷ []) (front ++ last ∷ (r ∷ []) ∷ [])) (lower_set last p ∙ of))

pub nil_from : {X : Type 0} (xs : List X) → length xs ≡ 0 → xs ≡ []
nil_from [] e = refl
nil_from (x ∷ xs) e = absurd (omega arith)

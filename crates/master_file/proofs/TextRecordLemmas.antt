-- A zone has the records of its text, each with the TTL of the last of its set.
use Rattle.std.proofs.Common.{◌≡◌, ◌↔◌, refl, sym, ap, ◌∙◌, subst, ℕ, Bool, true, false, cond, ◌||◌, bytes_eq, List, [], ◌∷◌, map, codes, Option, Some, None, unwrap_or, Result, Ok, Err, ok_or, true≢false}
use Rattle.std.specs.Prelude.{IfSome}
use Rattle.std.specs.declared.cmp.Ordering.{Ordering}
use Rattle.std.specs.declared.cmp.Ordering.TheVariants.{Less, Equal, Greater}
use Rattle.std.specs.BTreeMap.{is_at}
use Rattle.std.specs.BTreeSet.{insert_key}
use Rattle.std.specs.List.{AllByRecursion, Contains, list_any}
use Rattle.std.specs.Ordering.{is_eq, match_ordering, nat_cmp, ordering_then}
use Rattle.std.specs.Cmp.Lexicographic.{slice_cmp}
use Rattle.std.proofs.lemmas.Cmp.{tied_itself}
use Rattle.std.proofs.lemmas.List.Elements.{All-contains, All-from_recursion, Contains-append_left, Contains-append_right, Contains-push}
use Rattle.std.proofs.lemmas.Map.Lookups.{exact_unsigned, exact_bytes}
use Rattle.dns_name.specs.Name.{fold_name, canonical_cmp}
use Rattle.dns_name.specs.Order.{is_same_Decides, is_same_tied}
use Rattle.dns_rdata.proofs.NameLemmas.{fold_name-fold_name}
use Rattle.dns_rdata.specs.Record.{Record, record_cmp}
use Rattle.zone_tree.specs.Zone.{is_of}
use Rattle.zone_tree.proofs.Rising.{each_weaker, each_map, each_both}
use Rattle.zone_tree.proofs.SetLemmas.{record_total}
use Rattle.zone_lexing.specs.Entries.{Entry, entries_of}
use Rattle.zone_lexing.specs.Word.{Written}
use Rattle.record_text.specs.declared.cause.Cause.{Cause}
use Rattle.record_text.specs.declared.cause.Cause.TheVariants.{Directive, NoOwner, Limit}
use Rattle.record_text.specs.Data.{data_of_words}
use Rattle.record_text.specs.Front.{Front, ttl_of, front_of}
use Rattle.record_text.specs.NameWord.{owner_of}
use Rattle.record_text.specs.Reading.{on_ok, and_then}
use Rattle.master_file.specs.declared.context.Context.{Context}
use Rattle.master_file.specs.declared.fault.FileFault.{FileFault}
use Rattle.master_file.specs.declared.record_entry.RecordEntry.{RecordEntry}
use Rattle.master_file.specs.Records.{argument_of, directed, directive_of, owned_of, ttl_in, rr_of, record_of, behind, judged, words_of, fault_at, Read, faulty, in_front, records_from, start, records_of}
use Rattle.master_file.specs.TextLaws.{IsRead, rrs_of, last_ttl}
use Rattle.master_file.specs.ZoneText.{record_in, with_one, with_all, timed, first_line, is_too_many, reported, zone_of_all, zone_of_read, zone_of_text, zone_records}
use Rattle.master_file.proofs.IsZoneLemmas.{of_zone}
use Rattle.master_file.proofs.ShownLemmas.{shown, timed_owner, timed_rtype, timed_rdata, is_read, each_read, each_of_all}

-- each owner that is read is in lower case
abbrev IsFolded : List (List ℕ) → Type 0
IsFolded owner = owner ≡ fold_name owner

abbrev GivesFolded : Result RecordEntry Cause → Type 0
GivesFolded (Ok rr) = IsFolded rr.owner
GivesFolded (Err cause) = Unit {0}

then_folded : {A : Type 0} (r : Result A Cause) (h : A → Result RecordEntry Cause) → ((x : A) → GivesFolded (h x)) → GivesFolded (and_then r h)
then_folded (Ok x) h k = k x
then_folded (Err cause) h k = tt

on_folded : {A : Type 0} (g : A → RecordEntry) (r : Result A Cause) → ((x : A) → IsFolded (g x).owner) → GivesFolded (on_ok g r)
on_folded g (Ok x) k = k x
on_folded g (Err cause) k = tt

rr_folded : (context : Context) (line : ℕ) (owner : List (List ℕ)) (words : List Written) → IsFolded owner → GivesFolded (rr_of context line owner words)
rr_folded context line owner words h =
    then_folded (front_of words) _ (λ (front : Front). then_folded (ttl_in context front.ttl) _ (λ ttl.
    on_folded (λ (octets : List ℕ). record { line = line; owner = owner; ttl = ttl; rdata = record { rtype = front.rtype; octets = octets } }) (data_of_words front.rtype context.origin front.words) (λ octets. h)))

abbrev GivesOwned : Result (List (List ℕ) × List Written) Cause → Type 0
GivesOwned (Ok owned) = IsFolded owned.0
GivesOwned (Err cause) = Unit {0}

left_out : (owner : Option (List (List ℕ))) (words : List Written) → IfSome owner IsFolded → GivesOwned (on_ok (λ (o : List (List ℕ)). (o, words)) (ok_or owner NoOwner))
left_out None words h = tt
left_out (Some owner) words h = h

written_owner : (r : Result (List (List ℕ)) Cause) (words : List Written) → GivesOwned (on_ok (λ (o : List (List ℕ)). (fold_name o, words)) r)
written_owner (Ok name) words = sym (fold_name-fold_name name)
written_owner (Err cause) words = tt

owned_folded : (context : Context) (indented : Bool) (words : List Written) → IfSome context.owner IsFolded → GivesOwned (owned_of context indented words)
owned_folded context true words h = left_out context.owner words h
owned_folded context false [] h = tt
owned_folded context false (word ∷ words) h = written_owner (owner_of context.origin word) words

record_folded : (context : Context) (line : ℕ) (o : Result (List (List ℕ) × List Written) Cause) → GivesOwned o → GivesFolded (and_then o (λ owned. rr_of context line owned.0 owned.1))
record_folded context line (Ok owned) h = rr_folded context line owned.0 owned.1 h
record_folded context line (Err cause) h = tt

abbrev GivesContext : Result Context Cause → Type 0
GivesContext (Ok context) = IfSome context.owner IsFolded
GivesContext (Err cause) = Unit {0}

on_context : {A : Type 0} (g : A → Context) (r : Result A Cause) → ((x : A) → IfSome (g x).owner IsFolded) → GivesContext (on_ok g r)
on_context g (Ok x) k = k x
on_context g (Err cause) k = tt

either_context : (b : Bool) (r s : Result Context Cause) → GivesContext r → GivesContext s → GivesContext (cond b r s)
either_context true r s h k = h
either_context false r s h k = k

directed_folded : (context : Context) (directive : List ℕ) (arguments : List Written) → IfSome context.owner IsFolded → GivesContext (directed context directive arguments)
unfolding directed
directed_folded context directive arguments h =
    either_context (bytes_eq directive (codes "$ORIGIN")) (on_ok (λ name. record context { origin = name }) (argument_of (owner_of context.origin) arguments)) (cond (bytes_eq directive (codes "$TTL")) (on_ok (λ ttl. record context { default_ttl = Some ttl }) (argument_of ttl_of arguments)) (Err Directive))
    (on_context (λ name. record context { origin = name }) (argument_of (owner_of context.origin) arguments) (λ name. h))
    (either_context (bytes_eq directive (codes "$TTL")) (on_ok (λ ttl. record context { default_ttl = Some ttl }) (argument_of ttl_of arguments)) (Err Directive) (on_context (λ ttl. record context { default_ttl = Some ttl }) (argument_of ttl_of arguments) (λ ttl. h)) tt)

abbrev GivesEntry : Result (Context × Option RecordEntry) Cause → Type 0
GivesEntry (Ok judged) = IfSome judged.0.owner IsFolded × IfSome judged.1 (λ rr. IsFolded rr.owner)
GivesEntry (Err cause) = Unit {0}

put_in_force : (r : Result Context Cause) → GivesContext r → GivesEntry (on_ok (λ (next : Context). (next, None)) r)
put_in_force (Ok context) h = (h, tt)
put_in_force (Err cause) h = tt

record_read : (context : Context) (r : Result RecordEntry Cause) → GivesFolded r → GivesEntry (on_ok (λ (p : RecordEntry). (behind context p, Some p)) r)
record_read context (Err cause) h = tt
record_read context (Ok rr) h = (h, h)

entry_by : (context : Context) (d : Option (List ℕ × List Written)) (r : Result RecordEntry Cause) → IfSome context.owner IsFolded → GivesFolded r → GivesEntry (elim d as (λ _. Result (Context × Option RecordEntry) Cause) [
  | Some directive ↦ on_ok (λ next. (next, None)) (directed context directive.0 directive.1)
  | None ↦ on_ok (λ rr. (behind context rr, Some rr)) r
])
entry_by context None r h k = record_read context r k
entry_by context (Some directive) r h k = put_in_force (directed context directive.0 directive.1) (directed_folded context directive.0 directive.1 h)

abbrev EachFolded : List RecordEntry → Type 0
EachFolded rrs = AllByRecursion (λ rr. IsFolded rr.owner) rrs

then_each : (line : ℕ) (unclosed : Option ℕ) (entries : List Entry) (r : Result (Context × Option RecordEntry) Cause) → GivesEntry r → ((next : Context) → IfSome next.owner IsFolded → EachFolded (records_from next entries).rrs) → EachFolded (elim r as (λ _. Read) [
  | Err cause ↦ faulty (fault_at line unclosed cause)
  | Ok (next, None) ↦ records_from next entries
  | Ok (next, Some rr) ↦ in_front rr (records_from next entries)
]).rrs
then_each line unclosed entries (Err cause) h k = tt
then_each line unclosed entries (Ok (next, None)) h k = k next h.0
then_each line unclosed entries (Ok (next, Some rr)) h k = (h.1, k next h.0)

each_folded : (context : Context) (entries : List Entry) → IfSome context.owner IsFolded → EachFolded (records_from context entries).rrs
each_folded context [] h = tt
each_folded context (entry ∷ entries) h =
    then_each entry.line entry.unclosed entries (judged context entry.line entry.indented (words_of entry))
    (entry_by context (directive_of entry.indented (words_of entry)) (record_of context entry.line entry.indented (words_of entry)) h (record_folded context entry.line (owned_of context entry.indented (words_of entry)) (owned_folded context entry.indented (words_of entry) h)))
    (λ next l. each_folded next entries l)

-- each of a list is in it
each_contained : {X : Type 0} (xs : List X) → AllByRecursion (Contains xs) xs
each_contained [] = tt
each_contained (x ∷ xs) =
    (Contains-append_left (x ∷ []) xs x (Contains-push [] x), each_weaker (Contains xs) (Contains (x ∷ xs)) (λ y h. Contains-append_right (x ∷ []) xs y h) xs (each_contained xs))

-- one that a test shows
record IsFound {X : Type 0} (p : X → Bool) (xs : List X) : Type 0 where
  x : X
  contained : Contains xs x
  shows : p x ≡ true

found_behind : {X : Type 0} (p : X → Bool) (x : X) (xs : List X) → IsFound p xs → IsFound p (x ∷ xs)
found_behind p x xs h = record { x = h.x; contained = Contains-append_right (x ∷ []) xs h.x h.contained; shows = h.shows }

any_found : {X : Type 0} (p : X → Bool) (xs : List X) → list_any p xs ≡ true → IsFound p xs
any_found p [] e = absurd (true≢false (sym e))
any_found {X} p (x ∷ xs) e = by (p x) refl e (any_found p xs)
  where
    by : (b : Bool) → p x ≡ b → (b || list_any p xs) ≡ true → (list_any p xs ≡ true → IsFound p xs) → IsFound p (x ∷ xs)
    by true shows any more = record { x = x; contained = Contains-append_left (x ∷ []) xs x (Contains-push [] x); shows = shows }
    by false shows any more = found_behind p x xs (more any)

contained_map : {X Y : Type 0} (f : X → Y) (xs : List X) (x : X) → Contains xs x → Contains (map f xs) (f x)
contained_map f xs x h = All-contains (λ y. Contains (map f xs) (f y)) xs x (All-from_recursion (λ y. Contains (map f xs) (f y)) xs (each_image f xs)) h
  where
    each_image : {X Y : Type 0} (f : X → Y) (xs : List X) → AllByRecursion (λ y. Contains (map f xs) (f y)) xs
    each_image f [] = tt
    each_image f (y ∷ ys) = (Contains-append_left (f y ∷ []) (map f ys) (f y) (Contains-push [] (f y)), each_weaker (λ z. Contains (map f ys) (f z)) (λ z. Contains (f y ∷ map f ys) (f z)) (λ z k. Contains-append_right (f y ∷ []) (map f ys) (f z) k) ys (each_image f ys))

-- a record that is read is kept, or one that ties with it
or_right : (a b : Bool) → b ≡ true → (a || b) ≡ true
or_right true b e = refl
or_right false b e = e

kept_placed : (p : Record → Bool) (k x : Record) (xs more : List Record) (o : Ordering) → list_any p (x ∷ xs) ≡ true → (list_any p xs ≡ true → list_any p more ≡ true) → list_any p (match_ordering o (k ∷ x ∷ xs) (x ∷ xs) (x ∷ more)) ≡ true
kept_placed p k x xs more Less e h = or_right (p k) (list_any p (x ∷ xs)) e
kept_placed p k x xs more Equal e h = e
kept_placed p k x xs more Greater e h = by (p x) e
  where
    by : (b : Bool) → (b || list_any p xs) ≡ true → (b || list_any p more) ≡ true
    by true f = refl
    by false f = h f

any_kept : (p : Record → Bool) (k : Record) (xs : List Record) → list_any p xs ≡ true → list_any p (insert_key record_cmp xs k) ≡ true
any_kept p k [] e = absurd (true≢false (sym e))
any_kept p k (x ∷ xs) e = kept_placed p k x xs (insert_key record_cmp xs k) (record_cmp k x) e (any_kept p k xs)

any_all : (p : Record → Bool) (kept : List Record) (rrs : List RecordEntry) → list_any p kept ≡ true → list_any p (with_all kept rrs) ≡ true
any_all p kept [] e = e
any_all p kept (rr ∷ rrs) e = any_all p (with_one kept rr) rrs (any_kept p (record_in rr) kept e)

itself : (k : Record) → is_at (record_cmp k) k ≡ true
itself k = ap is_eq (tied_itself record_total k)

one_placed : (k x : Record) (xs more : List Record) (o : Ordering) → record_cmp k x ≡ o → list_any (is_at (record_cmp k)) more ≡ true → list_any (is_at (record_cmp k)) (match_ordering o (k ∷ x ∷ xs) (x ∷ xs) (x ∷ more)) ≡ true
one_placed k x xs more Less e h = ap (λ (b : Bool). b || list_any (is_at (record_cmp k)) (x ∷ xs)) (itself k)
one_placed k x xs more Equal e h = ap (λ (o : Ordering). is_eq o || list_any (is_at (record_cmp k)) xs) e
one_placed k x xs more Greater e h = or_right (is_at (record_cmp k) x) (list_any (is_at (record_cmp k)) more) h

one_kept : (k : Record) (xs : List Record) → list_any (is_at (record_cmp k)) (insert_key record_cmp xs k) ≡ true
one_kept k [] = ap (λ (b : Bool). b || false) (itself k)
one_kept k (x ∷ xs) = one_placed k x xs (insert_key record_cmp xs k) (record_cmp k x) refl (one_kept k xs)

each_tied : (kept : List Record) (rrs : List RecordEntry) → AllByRecursion (λ rr. list_any (is_at (record_cmp (record_in rr))) (with_all kept rrs) ≡ true) rrs
each_tied kept [] = tt
each_tied kept (rr ∷ rrs) = (any_all (is_at (record_cmp (record_in rr))) (with_one kept rr) rrs (one_kept (record_in rr) kept), each_tied (with_one kept rr) rrs)

-- records that tie
record AreTied (r s : Record) : Type 0 where
  owner : fold_name r.owner ≡ fold_name s.owner
  rtype : r.rtype ≡ s.rtype
  rdata : r.rdata ≡ s.rdata

then_equal : (a b : Ordering) → is_eq (ordering_then a b) ≡ true → (is_eq a ≡ true) × (is_eq b ≡ true)
then_equal Less b e = absurd (true≢false (sym e))
then_equal Equal b e = (refl, e)
then_equal Greater b e = absurd (true≢false (sym e))

equal : (o : Ordering) → is_eq o ≡ true → o ≡ Equal
equal Less e = absurd (true≢false (sym e))
equal Equal e = refl
equal Greater e = absurd (true≢false (sym e))

AreTied-from : (r s : Record) → is_at (record_cmp r) s ≡ true → AreTied r s
AreTied-from r s e =
    let first = then_equal (canonical_cmp r.owner s.owner) (ordering_then (nat_cmp r.rtype s.rtype) (slice_cmp nat_cmp r.rdata s.rdata)) e in
    let second = then_equal (nat_cmp r.rtype s.rtype) (slice_cmp nat_cmp r.rdata s.rdata) first.1 in
    record {
      owner = (is_same_Decides r.owner s.owner).0 (is_same_tied r.owner s.owner ∙ first.0);
      rtype = exact_unsigned r.rtype s.rtype (equal (nat_cmp r.rtype s.rtype) second.0);
      rdata = exact_bytes r.rdata s.rdata (equal (slice_cmp nat_cmp r.rdata s.rdata) second.1);
    }

-- the TTL of a set
last_more : (rr : RecordEntry) (rrs : List RecordEntry) → last_ttl (rr ∷ rrs) ≡ Some (unwrap_or (last_ttl rrs) rr.ttl.0)
last_more rr [] = refl
last_more rr (next ∷ rrs) = last_more next rrs ∙ ap (λ (o : Option ℕ). Some (unwrap_or o rr.ttl.0)) (sym (last_more next rrs))

abbrev shows : Record → RecordEntry → Bool
shows r rr = is_of r.owner r.rtype (record_in rr)

timed_by : (rr : RecordEntry) (rrs : List RecordEntry) (r : Record) (b : Bool) → ((s : Record) → (timed rrs s).ttl ≡ unwrap_or (last_ttl (rrs_of s.owner s.rtype rrs)) s.ttl) → (timed rrs (cond b (record r { ttl = rr.ttl.0 }) r)).ttl ≡ unwrap_or (last_ttl (cond b (rr ∷ rrs_of r.owner r.rtype rrs) (rrs_of r.owner r.rtype rrs))) r.ttl
timed_by rr rrs r true more = more (record r { ttl = rr.ttl.0 }) ∙ ap (λ (o : Option ℕ). unwrap_or o r.ttl) (sym (last_more rr (rrs_of r.owner r.rtype rrs)))
timed_by rr rrs r false more = more r

timed_ttl : (rrs : List RecordEntry) (r : Record) → (timed rrs r).ttl ≡ unwrap_or (last_ttl (rrs_of r.owner r.rtype rrs)) r.ttl
timed_ttl [] r = refl
timed_ttl (rr ∷ rrs) r = timed_by rr rrs r (shows r rr) (timed_ttl rrs)

some_by : (rr : RecordEntry) (rest : List RecordEntry) (d : ℕ) (read b : Bool) → (b || read) ≡ true → (read ≡ true → last_ttl rest ≡ Some (unwrap_or (last_ttl rest) d)) → last_ttl (cond b (rr ∷ rest) rest) ≡ Some (unwrap_or (last_ttl (cond b (rr ∷ rest) rest)) d)
some_by rr rest d read true f more = last_more rr rest ∙ ap (λ (o : Option ℕ). Some (unwrap_or o d)) (sym (last_more rr rest))
some_by rr rest d read false f more = more f

some_last : (rrs : List RecordEntry) (r : Record) (d : ℕ) → is_read rrs r ≡ true → last_ttl (rrs_of r.owner r.rtype rrs) ≡ Some (unwrap_or (last_ttl (rrs_of r.owner r.rtype rrs)) d)
some_last [] r d e = absurd (true≢false (sym e))
some_last (rr ∷ rrs) r d e = some_by rr (rrs_of r.owner r.rtype rrs) d (is_read rrs r) (shows r rr) e (some_last rrs r d)

last_timed : (rrs : List RecordEntry) (r : Record) → is_read rrs r ≡ true → last_ttl (rrs_of r.owner r.rtype rrs) ≡ Some (timed rrs r).ttl
last_timed rrs r e = some_last rrs r r.ttl e ∙ ap Some (sym (timed_ttl rrs r))

-- a record that is kept
record IsKept (rrs : List RecordEntry) (s : Record) : Type 0 where
  read : IsRead rrs s
  folded : IsFolded s.owner
  of : is_read rrs s ≡ true

each_is_read : (rrs : List RecordEntry) → AllByRecursion (λ rr. IsRead rrs (record_in rr)) rrs
each_is_read rrs = each_weaker (Contains rrs) (λ rr. IsRead rrs (record_in rr)) (λ rr h. record { rr = rr; read = h; owner = refl; rtype = refl; rdata = refl }) rrs (each_contained rrs)

each_kept : (rrs : List RecordEntry) → EachFolded rrs → AllByRecursion (IsKept rrs) (with_all [] rrs)
each_kept rrs folded =
    let kept = with_all [] rrs in
    let read = each_of_all (IsRead rrs) [] rrs tt (each_is_read rrs) in
    let lower = each_of_all (λ s. IsFolded s.owner) [] rrs tt folded in
    each_weaker (λ s. (IsRead rrs s × IsFolded s.owner) × (is_read rrs s ≡ true)) (IsKept rrs) (λ s h. record { read = h.0.0; folded = h.0.1; of = h.1 }) kept
    (each_both (λ s. IsRead rrs s × IsFolded s.owner) (λ s. is_read rrs s ≡ true) kept (each_both (IsRead rrs) (λ s. IsFolded s.owner) kept read lower) (each_read rrs))

-- what is known of a record of the zone
abbrev IsOfText : List RecordEntry → Record → Type 0
IsOfText rrs r = IsRead rrs r × (last_ttl (rrs_of r.owner r.rtype rrs) ≡ Some r.ttl)

shown_owner : (rrs : List RecordEntry) (s : Record) → IsFolded s.owner → (shown rrs s).owner ≡ s.owner
shown_owner rrs s folded = ap fold_name (timed_owner rrs s) ∙ sym folded

shown_of_text : (rrs : List RecordEntry) (s : Record) → IsKept rrs s → IsOfText rrs (shown rrs s)
shown_of_text rrs s h =
    let owner = shown_owner rrs s h.folded in
    let rtype = timed_rtype rrs s in (
      record { rr = h.read.rr; read = h.read.read; owner = h.read.owner ∙ sym owner; rtype = h.read.rtype ∙ sym rtype; rdata = h.read.rdata ∙ sym (timed_rdata rrs s) },
      ap (λ (o : List (List ℕ)). last_ttl (rrs_of o (timed rrs s).rtype rrs)) owner ∙ ap (λ (t : ℕ). last_ttl (rrs_of s.owner t rrs)) rtype ∙ last_timed rrs s h.of,
    )

zone_of_text-has : (rrs : List RecordEntry) → EachFolded rrs → (r : Record) → Contains (zone_records rrs) r → IsOfText rrs r
zone_of_text-has rrs folded r h =
    let kept = with_all [] rrs in
    All-contains (IsOfText rrs) (zone_records rrs) r
    (All-from_recursion (IsOfText rrs) (zone_records rrs) (each_map (IsOfText rrs) (shown rrs) kept (each_weaker (IsKept rrs) (λ s. IsOfText rrs (shown rrs s)) (λ s k. shown_of_text rrs s k) kept (each_kept rrs folded))))
    h

same_some : (a b : ℕ) → Some a ≡ Some b → a ≡ b
same_some a b e = cc

same_record : (r s : Record) → r.owner ≡ s.owner → r.rtype ≡ s.rtype → r.ttl ≡ s.ttl → r.rdata ≡ s.rdata → r ≡ s
same_record r s a b c d =
    ap (λ (x : List (List ℕ)). record r { owner = x }) a ∙ ap (λ (x : ℕ). record r { owner = s.owner; rtype = x }) b
    ∙ ap (λ (x : ℕ). record r { owner = s.owner; rtype = s.rtype; ttl = x }) c ∙ ap (λ (x : List ℕ). record { owner = s.owner; rtype = s.rtype; ttl = s.ttl; rdata = x }) d

kept_is : (rrs : List RecordEntry) (s r : Record) → IsKept rrs s → s.owner ≡ r.owner → s.rtype ≡ r.rtype → s.rdata ≡ r.rdata → last_ttl (rrs_of r.owner r.rtype rrs) ≡ Some r.ttl → shown rrs s ≡ r
kept_is rrs s r h owner rtype rdata last =
    let reported = sym (last_timed rrs s h.of) ∙ ap (λ (o : List (List ℕ)). last_ttl (rrs_of o s.rtype rrs)) owner ∙ ap (λ (t : ℕ). last_ttl (rrs_of r.owner t rrs)) rtype ∙ last in
    same_record (shown rrs s) r (shown_owner rrs s h.folded ∙ owner) (timed_rtype rrs s ∙ rtype) (same_some (timed rrs s).ttl r.ttl reported) (timed_rdata rrs s ∙ rdata)

has-zone_of_text : (rrs : List RecordEntry) → EachFolded rrs → (r : Record) → IsOfText rrs r → Contains (zone_records rrs) r
has-zone_of_text rrs folded r h =
    let kept = with_all [] rrs in
    let rr = h.0.rr in
    let tied = All-contains (λ p. list_any (is_at (record_cmp (record_in p))) kept ≡ true) rrs rr (All-from_recursion (λ p. list_any (is_at (record_cmp (record_in p))) kept ≡ true) rrs (each_tied [] rrs)) h.0.read in
    let lower = All-contains (λ p. IsFolded p.owner) rrs rr (All-from_recursion (λ p. IsFolded p.owner) rrs folded) h.0.read in
    let found = any_found (is_at (record_cmp (record_in rr))) kept tied in
    let is = AreTied-from (record_in rr) found.x found.shows in
    let s = All-contains (IsKept rrs) kept found.x (All-from_recursion (IsKept rrs) kept (each_kept rrs folded)) found.contained in
    subst (Contains (zone_records rrs))
    (kept_is rrs found.x r s (s.folded ∙ sym is.owner ∙ sym lower ∙ h.0.owner) (sym is.rtype ∙ h.0.rtype) (sym is.rdata ∙ h.0.rdata) h.1)
    (contained_map (shown rrs) kept found.x found.contained)

-- the zone of a text
told_ok : (cause : Cause) (o : Option ℕ) (next : Result (List Record) FileFault) (zone : List Record) → reported cause o next ≡ Ok zone → (o ≡ None) × (next ≡ Ok zone)
told_ok cause None next zone e = (refl, e)
told_ok cause (Some line) next zone e = let no : ⊥ = cc in absurd no

abbrev after_limit : List RecordEntry → Option FileFault → Result (List Record) FileFault
after_limit rrs fault = elim fault as (λ _. Result (List Record) FileFault) [ Some f ↦ Err f | None ↦ zone_of_all rrs ]

without_fault : (rrs : List RecordEntry) (fault : Option FileFault) (zone : List Record) → after_limit rrs fault ≡ Ok zone → zone_of_all rrs ≡ Ok zone
without_fault rrs None zone e = e
without_fault rrs (Some f) zone e = let no : ⊥ = cc in absurd no

read_zone_is : (read : Read) (zone : List Record) → zone_of_read read ≡ Ok zone → zone ≡ zone_records read.rrs
read_zone_is read zone e =
    let parts = told_ok Limit (first_line is_too_many [] read.rrs) (after_limit read.rrs read.fault) zone e in
    (of_zone read.rrs zone parts.0 (without_fault read.rrs read.fault zone parts.1)).1

pub zone_has : (origin : List (List ℕ)) (text : List ℕ) (zone : List Record) → zone_of_text origin text ≡ Ok zone → (r : Record) → Contains zone r ↔ (IsRead (records_of origin text).rrs r × (last_ttl (rrs_of r.owner r.rtype (records_of origin text).rrs) ≡ Some r.ttl))
zone_has origin text zone e r =
    let rrs = (records_of origin text).rrs in
    let is = read_zone_is (records_of origin text) zone e in
    let folded = each_folded (start origin) (entries_of text) tt in (
      λ h. zone_of_text-has rrs folded r (subst (λ (z : List Record). Contains z r) is h),
      λ h. subst (λ (z : List Record). Contains z r) (sym is) (has-zone_of_text rrs folded r h),
    )

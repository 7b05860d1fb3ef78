-- Held records in a set in order, and how many each set of them has.
use Rattle.std.proofs.Common.{◌≡◌, refl, sym, ap, ◌∙◌, subst, ℕ, ◌+◌, ◌<◌, ◌≤◌, Bool, true, false, ◌&&◌, ◌||◌, not, ◌==◌, cond, List, [], ◌∷◌, length, filter, arith, ◌⊎◌, inl, inr, true≢false, eq-eqb, Some, unwrap_or, ◌-◌}
use Rattle.std.specs.List.{AllByRecursion}
use Rattle.std.specs.List.Sorted.{IsStrictlySortedBy}
use Rattle.std.specs.Set.{remove_key}
use Rattle.std.specs.BTreeSet.{insert_key}
use Rattle.std.specs.Ordering.{MatchOrdering, nat_cmp, ordering_then, is_lt, is_eq, match_ordering}
use Rattle.std.specs.declared.cmp.Ordering.{Ordering}
use Rattle.std.specs.declared.cmp.Ordering.TheVariants.{Less, Equal, Greater}
use Rattle.std.specs.Cmp.Lexicographic.{pointwise}
use Rattle.std.specs.Prelude.{bytes_eq}
use Rattle.std.proofs.lemmas.Bool.{eqb-true}
use Rattle.std.proofs.lemmas.Cmp.{ranked, tied_itself, nat_cmp_total}
use Rattle.std.proofs.lemmas.List.Sums.{length-filter, count_by-le-length}
use Rattle.std.proofs.lemmas.Map.Keys.{sorted_head, sorted_tail}
use Rattle.dns_name.specs.Name.{Name, canonical_cmp, fold_name, is_same}
use Rattle.dns_name.specs.Order.{is_same_Decides, is_same_tied}
use Rattle.dns_rdata.specs.Record.{Record, record_cmp}
use Rattle.zone_tree.specs.Zone.{is_of, rrset_of}
use Rattle.zone_tree.specs.Change.{is_same_record}
use Rattle.transfer_core.specs.Take.{held_cmp, is_among, inserted, removed}
use Rattle.std.specs.BTreeMap.{BTreeMap, get}
use Rattle.transfer_in.specs.Held.{SetKey, key_cmp, held_total, size_in, AreSizes}
use Rattle.transfer_core.proofs.RecordLemmas.{both, either}

-- numbers tie where they are equal
tie_of : (m n : ℕ) (o : Ordering) → nat_cmp m n ≡ o → (m == n) ≡ is_eq o
tie_of m n Equal e = eq-eqb m n (by (nat_cmp m n) e (ranked m n (nat_cmp m n) refl))
  where
    by : (o : Ordering) → o ≡ Equal → MatchOrdering o (m < n) (m ≡ n) (n < m) → m ≡ n
    by Equal e is = is
    by Less e is = absurd (cc)
    by Greater e is = absurd (cc)
tie_of m n Less e = apart (m == n) refl
  where
    apart : (b : Bool) → (m == n) ≡ b → b ≡ false
    apart false f = refl
    apart true f =
        let same : m ≡ n = eqb-true m n f in
        let tied : nat_cmp m n ≡ Equal = subst (λ k. nat_cmp m k ≡ Equal) same (tied_itself nat_cmp_total m) in
        absurd (cc)
tie_of m n Greater e = apart (m == n) refl
  where
    apart : (b : Bool) → (m == n) ≡ b → b ≡ false
    apart false f = refl
    apart true f =
        let same : m ≡ n = eqb-true m n f in
        let tied : nat_cmp m n ≡ Equal = subst (λ k. nat_cmp m k ≡ Equal) same (tied_itself nat_cmp_total m) in
        absurd (cc)

pub tie : (m n : ℕ) → (m == n) ≡ is_eq (nat_cmp m n)
tie m n = tie_of m n (nat_cmp m n) refl

pub then_tied : (o p : Ordering) → is_eq (ordering_then o p) ≡ (is_eq o && is_eq p)
then_tied Less p = refl
then_tied Equal p = refl
then_tied Greater p = refl

-- records are the same where they tie
pub same_tied : (r s : Record) → is_same_record r s ≡ is_eq (held_cmp r s)
same_tied r s = ap (λ b. is_eq (record_cmp r s) && b) (tie r.ttl s.ttl) ∙ sym (then_tied (record_cmp r s) (nat_cmp r.ttl s.ttl))

equal : (o : Ordering) → is_eq o ≡ true → o ≡ Equal
equal Equal e = refl
equal Less e = cc
equal Greater e = cc

neither : (a b : Bool) → (a || b) ≡ false → (a ≡ false) × (b ≡ false)
neither true b e = cc
neither false b e = (refl, e)

-- a record that isn't among others goes into its place
pub inserted_key : (r : Record) (zs : List Record) → is_among zs r ≡ false → insert_key held_cmp zs r ≡ inserted r zs
inserted_key r [] e = refl
inserted_key r (z ∷ zs) e =
    let parts = neither (is_same_record r z) (is_among zs r) e in
    by (held_cmp r z) (sym (same_tied r z) ∙ parts.0) (inserted_key r zs parts.1)
  where
    by : (o : Ordering) → is_eq o ≡ false → insert_key held_cmp zs r ≡ inserted r zs → match_ordering o (r ∷ z ∷ zs) (z ∷ zs) (z ∷ insert_key held_cmp zs r) ≡ cond (is_lt o) (r ∷ z ∷ zs) (z ∷ inserted r zs)
    by Less f rest = refl
    by Equal f rest = absurd (true≢false f)
    by Greater f rest = ap (λ l. z ∷ l) rest

-- records in order, of which one goes
ordered_apart : (r z : Record) (zs : List Record) → is_same_record r z ≡ true → AllByRecursion (λ y. held_cmp z y ≡ Less) zs → filter (λ s. not (is_same_record r s)) zs ≡ zs
ordered_apart r z [] e h = refl
ordered_apart r z (y ∷ zs) e h =
    let tied : held_cmp r z ≡ Equal = equal (held_cmp r z) (sym (same_tied r z) ∙ e) in
    let before : held_cmp r y ≡ Less = held_total.congr r z y tied ∙ h.0 in
    let apart : is_same_record r y ≡ false = same_tied r y ∙ ap is_eq before in
    rw apart (ap (λ l. y ∷ l) (ordered_apart r z zs e h.1))

pub removed_key : (r : Record) (zs : List Record) → IsStrictlySortedBy held_cmp zs → remove_key (λ z. is_eq (held_cmp r z)) zs ≡ removed r zs
removed_key r [] h = refl
removed_key r (z ∷ zs) h =
    by (is_same_record r z) refl (removed_key r zs (sorted_tail held_cmp z zs h))
  where
    by : (b : Bool) → is_same_record r z ≡ b → remove_key (λ s. is_eq (held_cmp r s)) zs ≡ removed r zs → cond (is_eq (held_cmp r z)) zs (z ∷ remove_key (λ s. is_eq (held_cmp r s)) zs) ≡ cond (not (is_same_record r z)) (z ∷ removed r zs) (removed r zs)
    by true e rest = rw (sym (same_tied r z) ∙ e, e) (sym (ordered_apart r z zs e (sorted_head held_cmp z zs h)))
    by false e rest = rw (sym (same_tied r z) ∙ e, e) (ap (λ l. z ∷ l) rest)

-- how many records pass a test, with one more and without one
pub counted_in : (p : Record → Bool) (r : Record) (zs : List Record) → length (filter p (inserted r zs)) ≡ length (filter p zs) + cond (p r) 1 0
counted_in p r [] = by (p r)
  where
    by : (b : Bool) → length (cond b (r ∷ []) []) ≡ 0 + cond b 1 0
    by true = omega arith
    by false = omega arith
counted_in p r (z ∷ zs) = by (is_lt (held_cmp r z)) (p r) (p z) (counted_in p r zs)
  where
    by : (b c d : Bool) → length (filter p (inserted r zs)) ≡ length (filter p zs) + cond (p r) 1 0 → length (filter p (cond b (r ∷ z ∷ zs) (z ∷ inserted r zs))) ≡ length (cond (p z) (z ∷ filter p zs) (filter p zs)) + cond (p r) 1 0
    by true c d rest = front (p r) (p z)
      where
        front : (c d : Bool) → length (cond c (r ∷ cond d (z ∷ filter p zs) (filter p zs)) (cond d (z ∷ filter p zs) (filter p zs))) ≡ length (cond d (z ∷ filter p zs) (filter p zs)) + cond c 1 0
        front true d = omega arith
        front false d = omega arith
    by false c d rest = behind (p z)
      where
        behind : (d : Bool) → length (cond d (z ∷ filter p (inserted r zs)) (filter p (inserted r zs))) ≡ length (cond d (z ∷ filter p zs) (filter p zs)) + cond (p r) 1 0
        behind true = omega (arith, rest)
        behind false = rest

pub counted_out : (p : Record → Bool) (r : Record) (zs : List Record) → ((s : Record) → is_same_record r s ≡ true → p s ≡ p r) → is_among zs r ≡ true → length (filter p (remove_key (λ z. is_eq (held_cmp r z)) zs)) + cond (p r) 1 0 ≡ length (filter p zs)
counted_out p r [] h e = absurd (true≢false (sym e))
counted_out p r (z ∷ zs) h e = by (is_same_record r z) refl (either (is_same_record r z) (is_among zs r) e) (counted_out p r zs h)
  where
    first : (d : Bool) → length (filter p zs) + cond d 1 0 ≡ length (cond d (z ∷ filter p zs) (filter p zs))
    first true = omega arith
    first false = omega arith

    other : (d : Bool) → length (filter p (remove_key (λ s. is_eq (held_cmp r s)) zs)) + cond (p r) 1 0 ≡ length (filter p zs) → length (cond d (z ∷ filter p (remove_key (λ s. is_eq (held_cmp r s)) zs)) (filter p (remove_key (λ s. is_eq (held_cmp r s)) zs))) + cond (p r) 1 0 ≡ length (cond d (z ∷ filter p zs) (filter p zs))
    other true rest = omega (arith, rest)
    other false rest = rest

    by : (b : Bool) → is_same_record r z ≡ b → (b ≡ true) ⊎ (is_among zs r ≡ true) → (is_among zs r ≡ true → length (filter p (remove_key (λ s. is_eq (held_cmp r s)) zs)) + cond (p r) 1 0 ≡ length (filter p zs)) → length (filter p (cond (is_eq (held_cmp r z)) zs (z ∷ remove_key (λ s. is_eq (held_cmp r s)) zs))) + cond (p r) 1 0 ≡ length (cond (p z) (z ∷ filter p zs) (filter p zs))
    by true m k again = rw (sym (same_tied r z) ∙ m) (ap (λ d. length (filter p zs) + cond d 1 0) (sym (h z m)) ∙ first (p z))
    by false m (inl k) again = absurd (true≢false (sym k))
    by false m (inr k) again = rw (sym (same_tied r z) ∙ m) (other (p z) (again k))

-- names that are the same stand alike to all others
alike : (a b n : Name) → fold_name a ≡ fold_name b → is_same n a ≡ is_same n b
alike a b n e = ap (λ f. pointwise bytes_eq (fold_name n) f) e

pub keyed : (r : Record) (key : SetKey) → is_of key.owner key.rtype r ≡ is_eq (key_cmp (record { owner = r.owner; rtype = r.rtype }) key)
keyed r key =
    ap (λ b. b && r.rtype == key.rtype) (is_same_tied r.owner key.owner)
    ∙ ap (λ b. is_eq (canonical_cmp r.owner key.owner) && b) (tie r.rtype key.rtype)
    ∙ sym (then_tied (canonical_cmp r.owner key.owner) (nat_cmp r.rtype key.rtype))

-- keys that tie have the same records
pub same_sets : (a b : SetKey) (zs : List Record) → is_eq (key_cmp a b) ≡ true → rrset_of zs a.owner a.rtype ≡ rrset_of zs b.owner b.rtype
same_sets a b zs e =
    let parts = both (is_eq (canonical_cmp a.owner b.owner)) (is_eq (nat_cmp a.rtype b.rtype)) (sym (then_tied (canonical_cmp a.owner b.owner) (nat_cmp a.rtype b.rtype)) ∙ e) in
    let owners : fold_name a.owner ≡ fold_name b.owner = (is_same_Decides a.owner b.owner).0 (is_same_tied a.owner b.owner ∙ parts.0) in
    let types : a.rtype ≡ b.rtype = eqb-true a.rtype b.rtype (tie a.rtype b.rtype ∙ parts.1) in
    λ i. filter (λ r. pointwise bytes_eq (fold_name r.owner) (owners i) && r.rtype == types i) zs

-- a record that is the same as another is of the same sets
pub same_is_of : (r s : Record) (owner : Name) (rtype : ℕ) → is_same_record r s ≡ true → is_of owner rtype s ≡ is_of owner rtype r
same_is_of r s owner rtype e =
    let parts = both (is_eq (record_cmp r s)) (r.ttl == s.ttl) e in
    let more = both (is_eq (canonical_cmp r.owner s.owner)) _ (sym (then_tied (canonical_cmp r.owner s.owner) _) ∙ parts.0) in
    let least = both (is_eq (nat_cmp r.rtype s.rtype)) _ (sym (then_tied (nat_cmp r.rtype s.rtype) _) ∙ more.1) in
    let owners : fold_name r.owner ≡ fold_name s.owner = (is_same_Decides r.owner s.owner).0 (is_same_tied r.owner s.owner ∙ more.0) in
    let types : r.rtype ≡ s.rtype = eqb-true r.rtype s.rtype (tie r.rtype s.rtype ∙ least.0) in
    λ i. pointwise bytes_eq (sym owners i) (fold_name owner) && (sym types i) == rtype

-- the set of a record, by another name and type of which it is
pub alike_sets : (r : Record) (owner : Name) (rtype : ℕ) (zs : List Record) → is_of owner rtype r ≡ true → rrset_of zs r.owner r.rtype ≡ rrset_of zs owner rtype
alike_sets r owner rtype zs e =
    let own : SetKey = record { owner = r.owner; rtype = r.rtype } in
    let key : SetKey = record { owner = owner; rtype = rtype } in
    same_sets own key zs (sym (keyed r key) ∙ e)

pub no_more : (p : Record → Bool) (zs : List Record) → length (filter p zs) ≤ length zs
no_more p zs = omega (arith, length-filter p zs, count_by-le-length p zs)

-- a record goes into its place, or goes
pub in_place : (r : Record) (zs viewed after : List Record) → zs ≡ viewed → is_among viewed r ≡ false → after ≡ insert_key held_cmp zs r → after ≡ inserted r viewed
in_place r zs viewed after is apart e = e ∙ ap (λ l. insert_key held_cmp l r) is ∙ inserted_key r viewed apart

pub out_of_place : (r : Record) (zs viewed after : List Record) → zs ≡ viewed → IsStrictlySortedBy held_cmp zs → after ≡ remove_key (λ z. is_eq (held_cmp r z)) zs → after ≡ removed r viewed
out_of_place r zs viewed after is rises e = e ∙ removed_key r zs rises ∙ ap (removed r) is

-- the numbers that a map has, with another for one set
abbrev pub IsUpdated : BTreeMap SetKey ℕ → BTreeMap SetKey ℕ → SetKey → ℕ → Type 0
IsUpdated old new key size = (q : SetKey) → get key_cmp new q ≡ cond (is_eq (key_cmp key q)) (Some size) (get key_cmp old q)

module _ (old new : BTreeMap SetKey ℕ) (r : Record) (key : SetKey) (key_is : key ≡ record { owner = r.owner; rtype = r.rtype }) (size : ℕ) (updates : IsUpdated old new key size) where
  is_key : (q : SetKey) → is_of q.owner q.rtype r ≡ is_eq (key_cmp key q)
  is_key q = keyed r q ∙ ap (λ k. is_eq (key_cmp k q)) (sym key_is)

  of_key : (q : SetKey) (zs : List Record) → is_eq (key_cmp key q) ≡ true → length (rrset_of zs key.owner key.rtype) ≡ length (rrset_of zs q.owner q.rtype)
  of_key q zs e = ap length (same_sets key q zs e)

  pub sizes_in : (zs viewed after : List Record) (count : ℕ) → AreSizes old zs → zs ≡ viewed → after ≡ inserted r viewed → count ≡ length (rrset_of viewed key.owner key.rtype) → size ≡ count + 1 → AreSizes new after
  sizes_in zs viewed after count sizes is e counts more q = by (is_eq (key_cmp key q)) refl
    where
      own : size_in old q ≡ length (rrset_of viewed q.owner q.rtype)
      own = sizes q ∙ ap (λ l. length (rrset_of l q.owner q.rtype)) is

      counted : length (rrset_of after q.owner q.rtype) ≡ length (rrset_of viewed q.owner q.rtype) + cond (is_eq (key_cmp key q)) 1 0
      counted = ap (λ l. length (rrset_of l q.owner q.rtype)) e ∙ counted_in (is_of q.owner q.rtype) r viewed ∙ ap (λ b. length (rrset_of viewed q.owner q.rtype) + cond b 1 0) (is_key q)

      by : (b : Bool) → is_eq (key_cmp key q) ≡ b → size_in new q ≡ length (rrset_of after q.owner q.rtype)
      by true f =
          let reported : size_in new q ≡ size = ap (λ o. unwrap_or o 0) (updates q) ∙ ap (λ b. unwrap_or (cond b (Some size) (get key_cmp old q)) 0) f in
          let there : length (rrset_of after q.owner q.rtype) ≡ length (rrset_of viewed q.owner q.rtype) + 1 = counted ∙ ap (λ b. length (rrset_of viewed q.owner q.rtype) + cond b 1 0) f in
          let same = of_key q viewed f in
          omega (arith, reported, there, same, counts, more)
      by false f =
          let reported : size_in new q ≡ size_in old q = ap (λ o. unwrap_or o 0) (updates q) ∙ ap (λ b. unwrap_or (cond b (Some size) (get key_cmp old q)) 0) f in
          let there : length (rrset_of after q.owner q.rtype) ≡ length (rrset_of viewed q.owner q.rtype) + 0 = counted ∙ ap (λ b. length (rrset_of viewed q.owner q.rtype) + cond b 1 0) f in
          omega (arith, reported, there, own)

  pub sizes_out : (zs viewed after : List Record) (count : ℕ) → AreSizes old zs → zs ≡ viewed → is_among viewed r ≡ true → after ≡ remove_key (λ z. is_eq (held_cmp r z)) zs → count ≡ length (rrset_of viewed key.owner key.rtype) → size ≡ count - 1 → AreSizes new after
  sizes_out zs viewed after count sizes is there e counts less q = by (is_eq (key_cmp key q)) refl
    where
      own : size_in old q ≡ length (rrset_of viewed q.owner q.rtype)
      own = sizes q ∙ ap (λ l. length (rrset_of l q.owner q.rtype)) is

      counted : length (rrset_of after q.owner q.rtype) + cond (is_eq (key_cmp key q)) 1 0 ≡ length (rrset_of viewed q.owner q.rtype)
      counted =
          ap (λ l. length (rrset_of l q.owner q.rtype) + cond (is_eq (key_cmp key q)) 1 0) (e ∙ ap (remove_key (λ z. is_eq (held_cmp r z))) is)
          ∙ ap (λ b. length (filter (is_of q.owner q.rtype) (remove_key (λ z. is_eq (held_cmp r z)) viewed)) + cond b 1 0) (sym (is_key q))
          ∙ counted_out (is_of q.owner q.rtype) r viewed (λ s same. same_is_of r s q.owner q.rtype same) there

      by : (b : Bool) → is_eq (key_cmp key q) ≡ b → size_in new q ≡ length (rrset_of after q.owner q.rtype)
      by true f =
          let reported : size_in new q ≡ size = ap (λ o. unwrap_or o 0) (updates q) ∙ ap (λ b. unwrap_or (cond b (Some size) (get key_cmp old q)) 0) f in
          let left : length (rrset_of after q.owner q.rtype) + 1 ≡ length (rrset_of viewed q.owner q.rtype) = ap (λ b. length (rrset_of after q.owner q.rtype) + cond b 1 0) (sym f) ∙ counted in
          let same = of_key q viewed f in
          omega (arith, reported, left, same, counts, less)
      by false f =
          let reported : size_in new q ≡ size_in old q = ap (λ o. unwrap_or o 0) (updates q) ∙ ap (λ b. unwrap_or (cond b (Some size) (get key_cmp old q)) 0) f in
          let left : length (rrset_of after q.owner q.rtype) + 0 ≡ length (rrset_of viewed q.owner q.rtype) = ap (λ b. length (rrset_of after q.owner q.rtype) + cond b 1 0) (sym f) ∙ counted in
          omega (arith, reported, left, own)

-- and so many records the record's own set has
pub size_at : (sizes : BTreeMap SetKey ℕ) (r : Record) (key : SetKey) (size : ℕ) (after records : List Record) → AreSizes sizes after → get key_cmp sizes key ≡ Some size → key ≡ record { owner = r.owner; rtype = r.rtype } → after ≡ records → size ≡ length (rrset_of records r.owner r.rtype)
size_at sizes r key size after records are reported key_is is =
    ap (λ o. unwrap_or o 0) (sym reported) ∙ are key ∙ (λ i. length (rrset_of (is i) (key_is i).owner (key_is i).rtype))

-- What is shown among all records is shown among those at some owners, where none is shown at the others.
use Rattle.std.proofs.Common.{◌≡◌, refl, sym, ap, ◌∙◌, subst, ℕ, ◌≤◌, Bool, true, false, cond, not, ◌&&◌, ◌||◌, ◌==◌, nat_lt, List, [], ◌∷◌, ◌++◌, map, length, All, arith, true≢false, Option, Some, None}
use Rattle.std.specs.Prelude.{bytes_eq}
use Rattle.std.specs.BTreeMap.{is_at}
use Rattle.std.specs.Cmp.Lexicographic.{pointwise}
use Rattle.std.specs.List.{filter, list_any, AllByRecursion}
use Rattle.std.specs.Ordering.{is_eq}
use Rattle.std.specs.declared.cmp.Ordering.{Ordering}
use Rattle.std.specs.declared.cmp.Ordering.TheVariants.{Less, Equal, Greater}
use Rattle.std.proofs.lemmas.List.Elements.{filter-append, recursion_from_All}
use Rattle.std.proofs.lemmas.Map.Views.{any-filter_same}
use Rattle.dns_name.specs.Name.{is_same, fold_name, canonical_cmp}
use Rattle.dns_name.specs.Order.{is_same_Decides, is_same_tied}
use Rattle.dns_rdata.specs.Numbers.{type_NS, type_CNAME}
use Rattle.dns_rdata.specs.Record.{Record, record_cmp, owner_of}
use Rattle.zone_tree.specs.Sets.{records_in, IsOf, IsRRset}
use Rattle.zone_tree.specs.Zone.{stands_at, is_of, is_alone, is_wild}
use Rattle.zone_tree.proofs.Rising.{each_weaker}
use Rattle.zone_tree.proofs.RuleLemmas.{each_from_none, none_passes}
use Rattle.zone_tree.proofs.SetLemmas.{record_total}
use Rattle.master_file.specs.declared.record_entry.RecordEntry.{RecordEntry}
use Rattle.master_file.specs.FaultyLine.{is_among}
use Rattle.master_file.specs.ZoneText.{record_in, with_one, with_all, first_line, is_new, is_too_many, is_conflict, zone_records}
use Rattle.master_file.proofs.InsertLemmas.{filter_inserted}
use Rattle.master_file.proofs.IsZoneLemmas.{few_none, apart_of, apart_shown_so}
use Rattle.master_file.proofs.JudgeLemmas.{Ascends, ascends_with, holds_of_all, no_line, AreFew, limits_judge}
use Rattle.master_file.proofs.KeptLemmas.{count_cons}
use Rattle.master_file.proofs.RuleLemmas.{tied_parts, conflicts_judge, AreApart}
use Rattle.master_file.proofs.ShownLemmas.{shown, shown_folds, filter_shown}

-- a test of names that doesn't rest on case
abbrev pub IsCaseless : (List (List ℕ) → Bool) → Type 0
IsCaseless P = (name other : List (List ℕ)) → fold_name name ≡ fold_name other → P name ≡ P other

-- filters, one within another
filter_within : (t p : Record → Bool) → ((r : Record) → t r ≡ true → p r ≡ true) → (rs : List Record) → filter t (filter p rs) ≡ filter t rs
filter_within t p within [] = refl
filter_within t p within (r ∷ rs) = by (p r) (t r) (within r) refl (filter_within t p within rs)
  where
    by : (b c : Bool) → (c ≡ true → b ≡ true) → t r ≡ c → filter t (filter p rs) ≡ filter t rs → filter t (cond b (r ∷ filter p rs) (filter p rs)) ≡ cond (t r) (r ∷ filter t rs) (filter t rs)
    by true c h e more = ap (λ (ys : List Record). cond (t r) (r ∷ ys) ys) more
    by false true h e more = absurd (true≢false (sym (h refl)))
    by false false h e more = more ∙ ap (λ (d : Bool). cond d (r ∷ filter t rs) (filter t rs)) (sym e)

fewer_within : (t p : Record → Bool) (rs : List Record) → length (filter t (filter p rs)) ≤ length (filter t rs)
fewer_within t p [] = omega arith
fewer_within t p (r ∷ rs) = by (p r) (fewer_within t p rs)
  where
    by : (b : Bool) → length (filter t (filter p rs)) ≤ length (filter t rs) → length (filter t (cond b (r ∷ filter p rs) (filter p rs))) ≤ length (filter t (r ∷ rs))
    by true more = let a = count_cons t r (filter p rs) in let b = count_cons t r rs in omega arith
    by false more = let b = count_cons t r rs in omega arith

no_longer : (p : Record → Bool) (rs : List Record) → length (filter p rs) ≤ length rs
no_longer p [] = omega arith
no_longer p (r ∷ rs) = by (p r) (no_longer p rs)
  where
    by : (b : Bool) → length (filter p rs) ≤ length rs → length (cond b (r ∷ filter p rs) (filter p rs)) ≤ length (r ∷ rs)
    by true more = omega arith
    by false more = omega arith

equal_by : (o : Ordering) → is_eq o ≡ true → o ≡ Equal
equal_by Less e = absurd (true≢false (sym e))
equal_by Equal e = refl
equal_by Greater e = absurd (true≢false (sym e))

both_true : (a b : Bool) → (a && b) ≡ true → (a ≡ true) × (b ≡ true)
both_true true b e = (refl, e)
both_true false b e = absurd (true≢false (sym e))

module _ (P : List (List ℕ) → Bool) (same : IsCaseless P) where
  abbrev pub owned : Record → Bool
  owned r = P r.owner

  abbrev pub read_owned : RecordEntry → Bool
  read_owned p = P p.owner

  tied : (r s : Record) → record_cmp r s ≡ Equal → owned r ≡ owned s
  tied r s e = same r.owner s.owner (tied_parts r s e).0

  -- those of the records kept, with one more and with all of a text
  one_owned : (kept : List Record) (p : RecordEntry) → Ascends kept → filter owned (with_one kept p) ≡ cond (P p.owner) (with_one (filter owned kept) p) (filter owned kept)
  one_owned kept p h = filter_inserted record_total owned tied (record_in p) kept h

  with_chosen : (b : Bool) (kept : List Record) (p : RecordEntry) (ps : List RecordEntry) → with_all (cond b (with_one kept p) kept) ps ≡ with_all kept (cond b (p ∷ ps) ps)
  with_chosen true kept p ps = refl
  with_chosen false kept p ps = refl

  pub all_owned : (kept : List Record) (ps : List RecordEntry) → Ascends kept → filter owned (with_all kept ps) ≡ with_all (filter owned kept) (filter read_owned ps)
  all_owned kept [] h = refl
  all_owned kept (p ∷ ps) h =
      all_owned (with_one kept p) ps (ascends_with kept p h)
      ∙ ap (λ (rs : List Record). with_all rs (filter read_owned ps)) (one_owned kept p h)
      ∙ with_chosen (P p.owner) (filter owned kept) p (filter read_owned ps)

  -- a conflict rests on the records at its own owner
  of_owner : (name other : List (List ℕ)) → P other ≡ true → is_same name other ≡ true → P name ≡ true
  of_owner name other h e = same name other ((is_same_Decides name other).0 e) ∙ h

  new_owned : (kept : List Record) (p : RecordEntry) → P p.owner ≡ true → is_new (filter owned kept) p ≡ is_new kept p
  new_owned kept p h = ap not (any-filter_same (λ r. is_eq (record_cmp (record_in p) r)) owned true (λ r e. sym (tied (record_in p) r (equal_by (record_cmp (record_in p) r) e)) ∙ h) kept)

  pub conflict_owned : (kept : List Record) (p : RecordEntry) → P p.owner ≡ true → is_conflict (filter owned kept) p ≡ is_conflict kept p
  conflict_owned kept p h = λ i.
      ((new_owned kept p h i)
      && ((p.rdata.rtype == type_CNAME && any-filter_same (stands_at p.owner) owned true (λ r e. of_owner r.owner p.owner h e) kept i)
      || nat_lt 0 (length (filter_within (is_of p.owner type_CNAME) owned (λ r e. of_owner r.owner p.owner h (both_true (is_same r.owner p.owner) (r.rtype == type_CNAME) e).0) kept i))))
      || (is_wild p.owner && p.rdata.rtype == type_NS)

  -- none is too many of those that are few
  pub few_owned : (ps : List RecordEntry) → first_line is_too_many [] ps ≡ None → first_line is_too_many [] (filter read_owned ps) ≡ None
  few_owned ps none =
      let few = holds_of_all limits_judge [] ps tt few_none none in
      let kept = with_all [] ps in
      let owned_few : AreFew (filter owned kept) = record {
        all = let a = few.all in let b = no_longer owned kept in omega arith;
        each = λ owner rtype. let a = few.each owner rtype in let b = fewer_within (is_of owner rtype) owned kept in omega arith;
      } in
      (no_line limits_judge [] (filter read_owned ps) tt (subst (λ (rs : List Record). AreFew rs) (all_owned [] ps tt) owned_few)).0

  -- the records of sets, and those of the sets at the owners
  none_chosen : (b : Bool) → filter owned [] ≡ cond b [] []
  none_chosen true = refl
  none_chosen false = refl

  one_set : (set : List Record) (owner : List (List ℕ)) → AllByRecursion (λ r. r.owner ≡ owner) set → filter owned set ≡ cond (P owner) set []
  one_set [] owner h = none_chosen (P owner)
  one_set (r ∷ set) owner h = ap (λ (b : Bool). cond b (r ∷ filter owned set) (filter owned set)) (ap P h.0) ∙ by (P owner) (one_set set owner h.1)
    where
      by : (b : Bool) → filter owned set ≡ cond b set [] → cond b (r ∷ filter owned set) (filter owned set) ≡ cond b (r ∷ set) []
      by true more = ap (λ (rs : List Record). r ∷ rs) more
      by false more = more

  sets_chosen : (b : Bool) (set : List Record) (sets : List (List Record)) → cond b set [] ++ records_in sets ≡ records_in (cond b (set ∷ sets) sets)
  sets_chosen true set sets = refl
  sets_chosen false set sets = refl

  owned_sets : (sets : List (List Record)) → AllByRecursion IsRRset sets → filter owned (records_in sets) ≡ records_in (filter (λ set. P (owner_of set)) sets)
  owned_sets [] h = refl
  owned_sets (set ∷ sets) h =
      let shared = each_weaker (IsOf set) (λ (r : Record). r.owner ≡ owner_of set) (λ r of. of.owner) set (recursion_from_All (IsOf set) set h.0.shared) in
      filter-append owned set (records_in sets)
      ∙ ap (λ (rs : List Record). rs ++ filter owned (records_in sets)) (one_set set (owner_of set) shared)
      ∙ ap (λ (rs : List Record). cond (P (owner_of set)) set [] ++ rs) (owned_sets sets h.1)
      ∙ sets_chosen (P (owner_of set)) set (filter (λ s. P (owner_of s)) sets)

  neither : (a b : Bool) → (a || b) ≡ false → (a ≡ false) × (b ≡ false)
  neither true b e = absurd (true≢false e)
  neither false b e = (refl, e)

  -- where the sets at the owners have no conflict, no record there shows one
  pub none_owned : (ps : List RecordEntry) (sets : List (List Record)) → records_in sets ≡ zone_records ps → All IsRRset sets
      → (let zone = records_in (filter (λ set. P (owner_of set)) sets) in (list_any (λ r. not (is_alone zone r)) zone || list_any (λ r. is_wild r.owner && r.rtype == type_NS) zone) ≡ false)
      → first_line is_conflict [] (filter read_owned ps) ≡ None
  none_owned ps sets is each none =
      let kept = with_all [] ps in
      let zone = records_in (filter (λ set. P (owner_of set)) sets) in
      let parts = neither (list_any (λ r. not (is_alone zone r)) zone) (list_any (λ r. is_wild r.owner && r.rtype == type_NS) zone) none in
      let apart = apart_of zone (each_from_none (is_alone zone) zone parts.0) (none_passes (λ r. is_wild r.owner && r.rtype == type_NS) zone parts.1) in
      let shown_so : zone ≡ map (shown ps) (filter owned kept) =
      sym (owned_sets sets (recursion_from_All IsRRset sets each)) ∙ ap (filter owned) is ∙ filter_shown owned (shown ps) (λ r. same (shown ps r).owner r.owner (shown_folds ps r)) kept in
      let of_kept = apart_shown_so ps (filter owned kept) (subst (λ (rs : List Record). AreApart rs) shown_so apart) in
      (no_line conflicts_judge [] (filter read_owned ps) tt (subst (λ (rs : List Record). AreApart rs) (all_owned [] ps tt) of_kept)).0

-- the names that a test doesn't pass
abbrev pub others : (List (List ℕ) → Bool) → List (List ℕ) → Bool
others P name = not (P name)

pub others_caseless : (P : List (List ℕ) → Bool) → IsCaseless P → IsCaseless (others P)
others_caseless P same name other e = ap not (same name other e)

not_told : (b : Bool) (line : ℕ) (o : Option ℕ) → cond b (Some line) o ≡ None → (b ≡ false) × (o ≡ None)
not_told true line o e = let no : ⊥ = cc in absurd no
not_told false line o e = (refl, e)

-- where the others show no conflict, the first of all is the first of those at the owners
module _ (P : List (List ℕ) → Bool) (same : IsCaseless P) where
  abbrev kept_there : List Record → List Record
  kept_there kept = filter (λ r. P r.owner) kept

  abbrev kept_else : List Record → List Record
  kept_else kept = filter (λ r. not (P r.owner)) kept

  abbrev read_there : List RecordEntry → List RecordEntry
  read_there ps = filter (λ p. P p.owner) ps

  abbrev read_else : List RecordEntry → List RecordEntry
  read_else ps = filter (λ p. not (P p.owner)) ps

  -- one record more, which stands at the owners or not
  there : (kept : List Record) (p : RecordEntry) (ps : List RecordEntry) → Ascends kept → P p.owner ≡ true
      → (first_line is_conflict (kept_else (with_one kept p)) (read_else ps) ≡ None → first_line is_conflict (with_one kept p) ps ≡ first_line is_conflict (kept_there (with_one kept p)) (read_there ps))
      → first_line is_conflict (kept_else kept) (read_else (p ∷ ps)) ≡ None → first_line is_conflict kept (p ∷ ps) ≡ first_line is_conflict (kept_there kept) (read_there (p ∷ ps))
  there kept p ps h e more none =
      let else_same : kept_else (with_one kept p) ≡ kept_else kept = one_owned (others P) (others_caseless P same) kept p h ∙ ap (λ (b : Bool). cond (not b) (with_one (kept_else kept) p) (kept_else kept)) e in
      let there_more : kept_there (with_one kept p) ≡ with_one (kept_there kept) p = one_owned P same kept p h ∙ ap (λ (b : Bool). cond b (with_one (kept_there kept) p) (kept_there kept)) e in
      let rest_none : first_line is_conflict (kept_else kept) (read_else ps) ≡ None = ap (λ (b : Bool). first_line is_conflict (kept_else kept) (cond (not b) (p ∷ read_else ps) (read_else ps))) (sym e) ∙ none in
      ap (λ (o : Option ℕ). cond (is_conflict kept p) (Some p.line) o) (more (ap (λ (rs : List Record). first_line is_conflict rs (read_else ps)) else_same ∙ rest_none))
      ∙ ap (λ (rs : List Record). cond (is_conflict kept p) (Some p.line) (first_line is_conflict rs (read_there ps))) there_more
      ∙ ap (λ (b : Bool). cond b (Some p.line) (first_line is_conflict (with_one (kept_there kept) p) (read_there ps))) (sym (conflict_owned P same kept p e))
      ∙ ap (λ (b : Bool). first_line is_conflict (kept_there kept) (cond b (p ∷ read_there ps) (read_there ps))) (sym e)

  elsewhere : (kept : List Record) (p : RecordEntry) (ps : List RecordEntry) → Ascends kept → P p.owner ≡ false
      → (first_line is_conflict (kept_else (with_one kept p)) (read_else ps) ≡ None → first_line is_conflict (with_one kept p) ps ≡ first_line is_conflict (kept_there (with_one kept p)) (read_there ps))
      → first_line is_conflict (kept_else kept) (read_else (p ∷ ps)) ≡ None → first_line is_conflict kept (p ∷ ps) ≡ first_line is_conflict (kept_there kept) (read_there (p ∷ ps))
  elsewhere kept p ps h e more none =
      let else_more : kept_else (with_one kept p) ≡ with_one (kept_else kept) p = one_owned (others P) (others_caseless P same) kept p h ∙ ap (λ (b : Bool). cond (not b) (with_one (kept_else kept) p) (kept_else kept)) e in
      let there_same : kept_there (with_one kept p) ≡ kept_there kept = one_owned P same kept p h ∙ ap (λ (b : Bool). cond b (with_one (kept_there kept) p) (kept_there kept)) e in
      let all_none : first_line is_conflict (kept_else kept) (p ∷ read_else ps) ≡ None = ap (λ (b : Bool). first_line is_conflict (kept_else kept) (cond (not b) (p ∷ read_else ps) (read_else ps))) (sym e) ∙ none in
      let parts = not_told (is_conflict (kept_else kept) p) p.line (first_line is_conflict (with_one (kept_else kept) p) (read_else ps)) all_none in
      let shows_none : is_conflict kept p ≡ false = sym (conflict_owned (others P) (others_caseless P same) kept p (ap not e)) ∙ parts.0 in
      ap (λ (b : Bool). cond b (Some p.line) (first_line is_conflict (with_one kept p) ps)) shows_none
      ∙ more (ap (λ (rs : List Record). first_line is_conflict rs (read_else ps)) else_more ∙ parts.1)
      ∙ ap (λ (rs : List Record). first_line is_conflict rs (read_there ps)) there_same
      ∙ ap (λ (b : Bool). first_line is_conflict (kept_there kept) (cond b (p ∷ read_there ps) (read_there ps))) (sym e)

  pub first_there : (kept : List Record) (ps : List RecordEntry) → Ascends kept → first_line is_conflict (kept_else kept) (read_else ps) ≡ None → first_line is_conflict kept ps ≡ first_line is_conflict (kept_there kept) (read_there ps)
  first_there kept [] h none = refl
  first_there kept (p ∷ ps) h none = by (P p.owner) refl (first_there (with_one kept p) ps (ascends_with kept p h))
    where
      by : (b : Bool) → P p.owner ≡ b → (first_line is_conflict (kept_else (with_one kept p)) (read_else ps) ≡ None → first_line is_conflict (with_one kept p) ps ≡ first_line is_conflict (kept_there (with_one kept p)) (read_there ps))
          → first_line is_conflict kept (p ∷ ps) ≡ first_line is_conflict (kept_there kept) (read_there (p ∷ ps))
      by true e more = there kept p ps h e more none
      by false e more = elsewhere kept p ps h e more none

-- to be among names doesn't rest on case
pub among_caseless : (names : List (List (List ℕ))) → IsCaseless (is_among names)
among_caseless names name other e = ap (λ (f : List (List ℕ)). list_any (λ (n : List (List ℕ)). pointwise bytes_eq f (fold_name n)) names) e

-- a name is among keys where the set of them has it
pub among_keys : (names : List (List (List ℕ))) (name : List (List ℕ)) → list_any (is_at (canonical_cmp name)) names ≡ is_among names name
among_keys names name = ap (λ (test : List (List ℕ) → Bool). list_any test names) (λ i n. sym (is_same_tied name n) i)

-- the records at some names: none is too many, and the first conflict is there where the sets of all others have none
pub few_among : (names : List (List (List ℕ))) (ps : List RecordEntry) → first_line is_too_many [] ps ≡ None → first_line is_too_many [] (filter (λ p. is_among names p.owner) ps) ≡ None
few_among names ps none = few_owned (is_among names) (among_caseless names) ps none

pub first_among : (names : List (List (List ℕ))) (ps : List RecordEntry) (sets rest : List (List Record)) → records_in sets ≡ zone_records ps → All IsRRset sets → rest ≡ filter (λ set. not (is_among names (owner_of set))) sets
    → (list_any (λ r. not (is_alone (records_in rest) r)) (records_in rest) || list_any (λ r. is_wild r.owner && r.rtype == type_NS) (records_in rest)) ≡ false
    → first_line is_conflict [] ps ≡ first_line is_conflict [] (filter (λ p. is_among names p.owner) ps)
first_among names ps sets rest is each others_are none =
    first_there (is_among names) (among_caseless names) [] ps tt
    (none_owned (others (is_among names)) (others_caseless (is_among names) (among_caseless names)) ps sets is each
    (subst (λ (left : List (List Record)). (list_any (λ r. not (is_alone (records_in left) r)) (records_in left) || list_any (λ r. is_wild r.owner && r.rtype == type_NS) (records_in left)) ≡ false) others_are none))

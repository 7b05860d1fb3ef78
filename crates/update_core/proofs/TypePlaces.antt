-- Where the set of a type stands among an owner's sets, whose types ascend.
use Rattle.std.proofs.Common.{◌≡◌, ◌≢◌, ℕ, zero, suc, ◌<◌, ◌≤◌, Bool, true, false, not, ◌==◌, cond, get_or, take, drop, List, [], ◌∷◌, ◌++◌, length, filter, None, Some, refl, sym, ap, ◌∙◌, arith, eqb-true}
use Rattle.std.specs.List.{find, AllByRecursion, AllWithin}
use Rattle.std.specs.Option.{IfSome}
use Rattle.std.specs.Ordering.{nat_cmp, is_lt, is_eq, ordering_reverse}
use Rattle.std.specs.declared.cmp.Ordering.{Ordering}
use Rattle.std.specs.declared.cmp.Ordering.TheVariants.{Less, Equal, Greater}
use Rattle.std.proofs.lemmas.Cmp.{nat_cmp_total}
use Rattle.dns_rdata.specs.Record.{Record, rtype_of}
use Rattle.zone_tree.specs.Sets.{IsRRset}
use Rattle.zone_tree.proofs.Rising.{Rises}
use Rattle.update_core.proofs.OwnSets.{types_tie}

module _ (t : ℕ) where
  abbrev low : List Record → Bool
  low s = is_lt (nat_cmp (rtype_of s) t)

  abbrev own : List Record → Bool
  own s = rtype_of s == t

  abbrev Lower : List Record → List Record → Type 0
  Lower s u = is_lt (nat_cmp (rtype_of s) (rtype_of u)) ≡ true

  is_less : (o : Ordering) → is_lt o ≡ true → o ≡ Less
  is_less Less e = refl
  is_less Equal e = cc
  is_less Greater e = cc

  low_other : (s : List Record) → low s ≡ true → own s ≡ false
  low_other s e = sym (types_tie (rtype_of s) t) ∙ ap is_eq (is_less (nat_cmp (rtype_of s) t) e)

  behind_other : (s u : List Record) → low s ≡ false → Lower s u → own u ≡ false
  behind_other s u high lower = sym (types_tie (rtype_of u) t) ∙ ap is_eq (nat_cmp_total.antisymm (rtype_of u) t ∙ ap ordering_reverse (above (nat_cmp (rtype_of s) t) refl))
    where
      up : nat_cmp (rtype_of s) (rtype_of u) ≡ Less
      up = is_less (nat_cmp (rtype_of s) (rtype_of u)) lower

      above : (o : Ordering) → nat_cmp (rtype_of s) t ≡ o → nat_cmp t (rtype_of u) ≡ Less
      above Less e = absurd (let no = sym high ∙ ap is_lt e in cc)
      above Equal e = sym (nat_cmp_total.congr (rtype_of s) t (rtype_of u) e) ∙ up
      above Greater e = nat_cmp_total.trans t (rtype_of s) (rtype_of u) (nat_cmp_total.antisymm t (rtype_of s) ∙ ap ordering_reverse e) up

  others_behind : (s : List Record) (us : List (List Record)) → low s ≡ false → AllByRecursion (Lower s) us → AllByRecursion (λ u. own u ≡ false) us
  others_behind s [] high h = tt
  others_behind s (u ∷ us) high h = (behind_other s u high h.0, others_behind s us high h.1)

  find_none : (us : List (List Record)) → AllByRecursion (λ u. own u ≡ false) us → find own us ≡ None
  find_none [] h = refl
  find_none (u ∷ us) h = ap (λ b. cond b (Some u) (find own us)) h.0 ∙ find_none us h.1

  all_left : (us : List (List Record)) → AllByRecursion (λ u. own u ≡ false) us → filter (λ u. not (own u)) us ≡ us
  all_left [] h = refl
  all_left (u ∷ us) h = ap (λ b. cond (not b) (u ∷ filter (λ u. not (own u)) us) (filter (λ u. not (own u)) us)) h.0 ∙ ap (λ l. u ∷ l) (all_left us h.1)

  -- it is the set at the place, or none is
  pub find_there : (sets : List (List Record)) (at : ℕ) (x : List Record) → Rises Lower sets → at < length sets → AllWithin (λ s. low s ≡ true) sets 0 at → AllWithin (λ s. low s ≡ false) sets at (length sets) → x ≡ get_or sets at x
      → find own sets ≡ cond (own x) (Some x) None
  find_there [] at x h within l g is = absurd (omega arith)
  find_there (s ∷ ss) zero x h within l g is =
      ap (cond (own s) (Some s)) (find_none ss (others_behind s ss (g 0 s (omega arith) (omega arith)) h.0)) ∙ ap (λ s. cond (own s) (Some s) None) (sym is)
  find_there (s ∷ ss) (suc at) x h within l g is =
      ap (λ b. cond b (Some s) (find own ss)) (low_other s (l 0 s (omega arith) (omega arith)))
      ∙ find_there ss at x h.1 (omega arith) (λ i d a b. l (suc i) d (omega arith) (omega arith)) (λ i d a b. g (suc i) d (omega arith) (omega arith)) is

  pub find_past : (sets : List (List Record)) (at : ℕ) → length sets ≤ at → AllWithin (λ s. low s ≡ true) sets 0 at → find own sets ≡ None
  find_past [] at within l = refl
  find_past (s ∷ ss) zero within l = absurd (omega arith)
  find_past (s ∷ ss) (suc at) within l =
      ap (λ b. cond b (Some s) (find own ss)) (low_other s (l 0 s (omega arith) (omega arith))) ∙ find_past ss at (omega arith) (λ i d a b. l (suc i) d (omega arith) (omega arith))

  -- the sets without it
  pub removed_there : (sets : List (List Record)) (at : ℕ) (x : List Record) → Rises Lower sets → at < length sets → AllWithin (λ s. low s ≡ true) sets 0 at → AllWithin (λ s. low s ≡ false) sets at (length sets) → x ≡ get_or sets at x
      → own x ≡ true → take at sets ++ drop (suc at) sets ≡ filter (λ s. not (own s)) sets
  removed_there [] at x h within l g is here = absurd (omega arith)
  removed_there (s ∷ ss) zero x h within l g is here =
      let first : own s ≡ true = ap own (sym is) ∙ here in
      sym (ap (λ b. cond (not b) (s ∷ filter (λ u. not (own u)) ss) (filter (λ u. not (own u)) ss)) first ∙ all_left ss (others_behind s ss (g 0 s (omega arith) (omega arith)) h.0))
  removed_there (s ∷ ss) (suc at) x h within l g is here =
      ap (λ l. s ∷ l) (removed_there ss at x h.1 (omega arith) (λ i d a b. l (suc i) d (omega arith) (omega arith)) (λ i d a b. g (suc i) d (omega arith) (omega arith)) is here)
      ∙ ap (λ b. cond (not b) (s ∷ filter (λ u. not (own u)) ss) (filter (λ u. not (own u)) ss)) (sym (low_other s (l 0 s (omega arith) (omega arith))))

  pub nothing_removed : (sets : List (List Record)) → find own sets ≡ None → filter (λ s. not (own s)) sets ≡ sets
  nothing_removed sets none = all_left sets (each sets none)
    where
      step : (s : List Record) (ss : List (List Record)) (b : Bool) → own s ≡ b → (find own ss ≡ None → AllByRecursion (λ u. own u ≡ false) ss) → cond b (Some s) (find own ss) ≡ None → AllByRecursion (λ u. own u ≡ false) (s ∷ ss)
      step s ss true e more none = absurd (cc)
      step s ss false e more none = (e, more none)

      each : (sets : List (List Record)) → find own sets ≡ None → AllByRecursion (λ u. own u ≡ false) sets
      each [] none = tt
      each (s ∷ ss) none = step s ss (own s) refl (each ss) none

  -- a set that is found is one of its type
  pub found_of : (sets : List (List Record)) → AllByRecursion IsRRset sets → IfSome (find own sets) (λ set. (set ≢ []) × (rtype_of set ≡ t))
  found_of [] h = tt
  found_of (s ∷ ss) h = step (own s) refl (found_of ss h.1)
    where
      some : (s : List Record) → 0 < length s → s ≢ []
      some s l e = let none = ap length e in absurd (omega arith)

      step : (b : Bool) → own s ≡ b → IfSome (find own ss) (λ set. (set ≢ []) × (rtype_of set ≡ t)) → IfSome (cond b (Some s) (find own ss)) (λ set. (set ≢ []) × (rtype_of set ≡ t))
      step true e more = (some s h.0.some, eqb-true (rtype_of s) t e)
      step false e more = more

-- an item that is read twice is the same
pub same_item : (sets : List (List Record)) (at : ℕ) (x y : List Record) → at < length sets → x ≡ get_or sets at x → y ≡ get_or sets at y → x ≡ y
same_item [] at x y within a b = absurd (omega arith)
same_item (s ∷ ss) zero x y within a b = a ∙ sym b
same_item (s ∷ ss) (suc at) x y within a b = same_item ss at x y (omega arith) a b

-- The parts of an update's rows, as the code asks for them.
use Rattle.std.proofs.Common.{◌≡◌, ◌≢◌, ℕ, zero, suc, ◌+◌, ◌<◌, Bool, true, false, not, ◌&&◌, ◌||◌, ◌==◌, cond, MatchBool, IfOk, Result, Ok, Err, List, [], ◌∷◌, map, length, get_or, filter, bytes_eq, All, refl, sym, ap, ◌∙◌, arith}
use Rattle.std.specs.List.{list_any, flat_map}
use Rattle.std.specs.Ordering.{nat_cmp, is_eq}
use Rattle.std.specs.declared.cmp.Ordering.{Ordering}
use Rattle.std.specs.declared.cmp.Ordering.TheVariants.{Less, Equal, Greater}
use Rattle.std.specs.Cmp.Lexicographic.{slice_cmp}
use Rattle.std.proofs.lemmas.Bool.Decides.{nat_tests, Decides-eqb}
use Rattle.std.proofs.lemmas.List.Elements.{All-head, All-tail}
use Rattle.std.proofs.lemmas.Map.Text.{is_eq-slice_cmp}
use Rattle.dns_name.specs.Name.{Name, is_same}
use Rattle.dns_name.specs.Order.{is_same_equiv}
use Rattle.dns_rdata.specs.Numbers.{type_CNAME, type_SOA}
use Rattle.dns_rdata.specs.Data.{Data, with_serial}
use Rattle.dns_rdata.specs.Record.{Record, records_with, with_record, has_data, owner_of, rtype_of}
use Rattle.zone_tree.specs.Zone.{KeepsRules, is_alone, stands_at, is_of, rrsets_of}
use Rattle.zone_tree.specs.Sets.{AreWhole, sets_in}
use Rattle.zone_tree.proofs.WalkLemmas.{sets_from_whole}
use Rattle.update_core.specs.Verdict.{is_in_use, has_rrset}
use Rattle.update_core.specs.Act.{has_other_than_alias, at_serial}
use Rattle.update_core.specs.Applied.{joined}
use Rattle.update_core.proofs.ListLemmas.{by_test}

-- whether what stands at a name differs, by its sets
pub sets_differ : (zone after : List Record) (name : Name) (xs ys : List (List Record)) → flat_map (λ set. set) xs ≡ rrsets_of zone name → AreWhole zone xs → flat_map (λ set. set) ys ≡ rrsets_of after name → AreWhole after ys
    → (b : Bool) → MatchBool b (xs ≡ ys) (xs ≢ ys) → MatchBool (not b) (rrsets_of zone name ≢ rrsets_of after name) (rrsets_of zone name ≡ rrsets_of after name)
sets_differ zone after name xs ys own whole other also true h = sym own ∙ ap (flat_map (λ set. set)) h ∙ other
sets_differ zone after name xs ys own whole other also false h = λ e. h (sym (sets_from_whole zone xs whole) ∙ ap sets_in (own ∙ e ∙ sym other) ∙ sets_from_whole after ys also)

-- one more record in a set that hasn't its data
by_order : (P : List Record → Type 0) (x r : Record) (rs : List Record) (o : Ordering) → slice_cmp nat_cmp x.rdata r.rdata ≡ o → is_eq o ≡ false → P (x ∷ r ∷ rs) → P (r ∷ with_record x rs) → P (with_record x (r ∷ rs))
by_order P x r rs Less e apart less greater = rw e less
by_order P x r rs Equal e apart less greater = cc
by_order P x r rs Greater e apart less greater = rw e greater

neither : (a b : Bool) → (a || b) ≡ false → (a ≡ false) × (b ≡ false)
neither true b e = cc
neither false b e = (refl, e)

longer : (x : Record) (rs : List Record) → has_data rs x.rdata ≡ false → length (with_record x rs) ≡ length rs + 1
longer x [] e = refl
longer x (r ∷ rs) e =
    let parts = neither (bytes_eq x.rdata r.rdata) (has_data rs x.rdata) e in
    let more = longer x rs parts.1 in
    by_order (λ (l : List Record). length l ≡ length (r ∷ rs) + 1) x r rs (slice_cmp nat_cmp x.rdata r.rdata) refl (is_eq-slice_cmp x.rdata r.rdata ∙ parts.0) (omega arith) (omega arith)

pub joined_long : (own old : List Record) (ttl : ℕ) (octets : List ℕ) → old ≡ map (λ (s : Record). record s { ttl = ttl }) own → length old ≡ 256 → has_data old octets ≡ false → 256 < length (joined own ttl octets)
joined_long own old ttl octets is long apart =
    let x : Record = record { owner = owner_of own; rtype = rtype_of own; ttl = ttl; rdata = octets } in
    let kept = map (λ (s : Record). record s { ttl = ttl }) own in
    let more = longer x kept (ap (λ rs. has_data rs octets) (sym is) ∙ apart) in
    let len = ap length is in
    omega arith

-- whether other data than an alias stands at a name: an alias stands alone
filter_both : (p q : Record → Bool) (zs : List Record) → filter q (filter p zs) ≡ filter (λ s. p s && q s) zs
filter_both p q [] = refl
filter_both p q (z ∷ zs) = by (p z) ∙ ap (λ l. cond (p z && q z) (z ∷ l) l) (filter_both p q zs)
  where
    by : (b : Bool) → filter q (cond b (z ∷ filter p zs) (filter p zs)) ≡ cond (b && q z) (z ∷ filter q (filter p zs)) (filter q (filter p zs))
    by true = refl
    by false = refl

pub any_among : (p q : Record → Bool) (zs : List Record) → list_any (λ s. p s && q s) zs ≡ list_any q (filter p zs)
any_among p q [] = refl
any_among p q (z ∷ zs) = ap (λ b. (p z && q z) || b) (any_among p q zs) ∙ by (p z)
  where
    by : (b : Bool) → ((b && q z) || list_any q (filter p zs)) ≡ list_any q (cond b (z ∷ filter p zs) (filter p zs))
    by true = refl
    by false = refl

abbrev is_alias : Record → Bool
is_alias s = s.rtype == type_CNAME

first_other : (a b : Bool) (m n : ℕ) → (0 < n → m ≡ 0) → (a ≡ true → 0 < n) → 0 < m → a ≡ false
first_other false b m n alone some more = refl
first_other true b m n alone some more = let k = alone (some refl) in absurd (omega arith)

-- of the records at a name, either one is an alias and it is alone, or none is
others_are : (rs : List Record) → (0 < length (filter is_alias rs) → length rs ≡ 1) → list_any (λ s. not (is_alias s)) rs ≡ (not (length rs == 0) && not (not (length (filter is_alias rs) == 0)))
others_are [] alone = refl
others_are (r ∷ []) alone = by (is_alias r)
  where
    by : (b : Bool) → (not b || false) ≡ not (not (length (cond b (r ∷ []) []) == 0))
    by true = refl
    by false = refl
others_are (r ∷ s ∷ rs) alone =
    let kept = length (filter is_alias (r ∷ s ∷ rs)) in
    let none : kept ≡ 0 = nothing kept (λ some. let one = alone some in omega arith) in
    let first : list_any (λ s. not (is_alias s)) (r ∷ s ∷ rs) ≡ true =
    by_test (λ (n : ℕ). list_any (λ s. not (is_alias s)) (r ∷ s ∷ rs) ≡ true) (is_alias r) 0 0
    (λ alias. absurd (let some : 0 < kept = rw alias (omega arith) in let one = alone some in omega arith))
    (λ alias. rw alias refl) in
    let filled : (length (r ∷ s ∷ rs) == 0) ≡ false = grind (arith, nat_tests) in
    first ∙ sym ((λ i. not (filled i) && not (not (none i == 0))))
  where
    nothing : (n : ℕ) → (0 < n → ⊥) → n ≡ 0
    nothing zero h = refl
    nothing (suc n) h = absurd (h (omega arith))

alone_at : (zone : List Record) (name : Name) (zs : List Record) → All (λ r. is_alone zone r ≡ true) zs → 0 < length (filter (is_of name type_CNAME) zs) → length (rrsets_of zone name) ≡ 1
alone_at zone name [] alone some = absurd (omega arith)
alone_at zone name (z ∷ zs) alone some = by (is_of name type_CNAME z) refl some (λ more. alone_at zone name zs (All-tail (λ r. is_alone zone r ≡ true) z zs alone) more)
  where
    halves : (a b : Bool) → (a && b) ≡ true → (a ≡ true) × (b ≡ true)
    halves true true e = (refl, refl)
    halves true false e = cc
    halves false b e = cc

    same_names : (s : Record) → is_same z.owner name ≡ true → stands_at z.owner s ≡ stands_at name s
    same_names s same = is_same_equiv.symm s.owner z.owner ∙ is_same_equiv.congr z.owner name s.owner same ∙ is_same_equiv.symm name s.owner

    alike : (zs : List Record) → is_same z.owner name ≡ true → rrsets_of zs z.owner ≡ rrsets_of zs name
    alike [] same = refl
    alike (s ∷ ss) same = ap (λ b. cond b (s ∷ rrsets_of ss z.owner) (rrsets_of ss z.owner)) (same_names s same) ∙ ap (λ l. cond (stands_at name s) (s ∷ l) l) (alike ss same)

    by : (b : Bool) → is_of name type_CNAME z ≡ b → 0 < length (cond b (z ∷ filter (is_of name type_CNAME) zs) (filter (is_of name type_CNAME) zs)) → (0 < length (filter (is_of name type_CNAME) zs) → length (rrsets_of zone name) ≡ 1) → length (rrsets_of zone name) ≡ 1
    by true e some more =
        let both = halves (is_same z.owner name) (is_alias z) e in
        let one : (not true || length (rrsets_of zone z.owner) == 1) ≡ true = ap (λ b. not b || length (rrsets_of zone z.owner) == 1) (sym both.1) ∙ All-head (λ r. is_alone zone r ≡ true) z zs alone in
        ap length (sym (alike zone both.0)) ∙ (Decides-eqb (length (rrsets_of zone z.owner)) 1).0 one
    by false e some more = more some

pub other_is : (zone : List Record) (name : Name) → KeepsRules zone → has_other_than_alias zone name ≡ (is_in_use zone name && not (has_rrset zone name type_CNAME))
other_is zone name h =
    let own = filter_both (stands_at name) is_alias zone in
    any_among (stands_at name) (λ s. not (is_alias s)) zone
    ∙ others_are (rrsets_of zone name) (λ some. alone_at zone name zone h.aliases_alone (let len = ap length own in omega arith))
    ∙ ap (λ rs. is_in_use zone name && not (not (length rs == 0))) own

-- a result by what it is equal to
pub if_ok_is : {A E : Type 0} (r : Result A E) (x y : A) → x ≡ y → IfOk r (λ s. s ≡ x) → IfOk r (λ s. s ≡ y)
if_ok_is (Ok s) x y e h = h ∙ e
if_ok_is (Err f) x y e h = tt

-- the SOA's set with another serial
pub soa_with : (n : ℕ) (soa : List Record) (owner : Name) (rtype ttl : ℕ) (ds : List Data) (d : Data) → soa ≡ records_with owner rtype ttl ds → length soa ≡ 1 → d ≡ get_or ds 0 d → rtype ≡ type_SOA
    → at_serial n soa ≡ record { owner = owner; rtype = rtype; ttl = ttl; rdata = with_serial n d.octets } ∷ []
soa_with n soa owner rtype ttl [] d is one first typed = absurd (omega (arith, ap length is))
soa_with n soa owner rtype ttl (e ∷ []) d is one first typed =
    let test : (rtype == type_SOA) ≡ true = (Decides-eqb rtype type_SOA).1 typed in
    ap (at_serial n) is ∙ rw (test, first) refl
soa_with n soa owner rtype ttl (e ∷ f ∷ ds) d is one first typed = absurd (omega (arith, ap length is))

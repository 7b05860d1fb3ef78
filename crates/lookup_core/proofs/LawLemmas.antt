-- Laws of what is found at a name, and of chains.
use Rattle.std.proofs.Common.{◌≡◌, ◌↔◌, ℕ, zero, suc, ◌+◌, ◌≤◌, Bool, true, false, not, ◌==◌, get_or, cond, ◌&&◌, if◌then◌else◌, List, [], ◌∷◌, ◌++◌, length, filter, ◌||◌, Option, None, Some, All, refl, sym, ap, ◌∙◌, inl, inr, arith, subst, length-append, append_assoc}
use Rattle.std.proofs.lemmas.List.{length-map, get_or-append-add}
use Rattle.std.proofs.lemmas.Bool.{eqb-true}
use Rattle.std.proofs.lemmas.List.Elements.{All-append, All-map, All-filter, filter_passes}
use Rattle.dns_name.specs.Name.{is_same}
use Rattle.dns_name.specs.Order.{is_same_equiv}
use Rattle.dns_rdata.specs.Numbers.{type_CNAME}
use Rattle.dns_rdata.specs.Record.{Record, rtype_of, shown_as}
use Rattle.zone_tree.specs.Zone.{rrset_of, rrsets_of, exists, is_of, stands_at, is_alone, IsZone}
use Rattle.lookup_core.specs.declared.aliases.TheConstants.{MOST_ALIASES}
use Rattle.lookup_core.specs.declared.matched.Place.{Place}
use Rattle.lookup_core.specs.declared.matched.Place.TheVariants as place
use Rattle.lookup_core.specs.Place.{cut_of, source_of, is_none_of}
use Rattle.lookup_core.specs.Look.{Look, Cut, Alias, Data, NoData, NoName, look, found_at, owned_by, follows_aliases, data_at}
use Rattle.lookup_core.specs.Chain.{Chain, Found, Stop, target, is_final, onto, chain_from, chain}
use Rattle.lookup_core.specs.Sections.{sections, data_of_end}
use Rattle.lookup_core.specs.Laws.{is_synthesized, HasSingleAliases, IsReached}

-- a choice by a test
pub by_test : {A : Type 0} (P : A → Type 0) (b : Bool) (x y : A) → (b ≡ true → P x) → (b ≡ false → P y) → P (cond b x y)
by_test P true x y on_true on_false = on_true refl
by_test P false x y on_true on_false = on_false refl

-- whether there is no name
abbrev is_no_name : Look → Bool
is_no_name NoName = true
is_no_name _ = false

-- what is found at a name that answers is never that there is no name
is_no_name-found_at : (zone : List Record) (at name : List (List ℕ)) (rtype : ℕ) → is_no_name (found_at zone at name rtype) ≡ false
is_no_name-found_at zone at name rtype =
    by_test (λ l. is_no_name l ≡ false) (follows_aliases rtype && not (is_none_of (rrset_of zone at type_CNAME))) (Alias (owned_by name (rrset_of zone at type_CNAME)))
    (if is_none_of (data_at zone at rtype) then NoData else Data (owned_by name (data_at zone at rtype))) (λ _. refl)
    (λ _. by_test (λ l. is_no_name l ≡ false) (is_none_of (data_at zone at rtype)) NoData (Data (owned_by name (data_at zone at rtype))) (λ _. refl) (λ _. refl))

-- what is found, by where the name stands
abbrev pub look_by : List Record → List (List ℕ) → ℕ → Place → Look
look_by zone name rtype p =
    elim p [
      | place.Cut cut ↦ Cut cut
      | place.Exact ↦ found_at zone name name rtype
      | place.Wild source ↦ found_at zone source name rtype
      | place.Missing ↦ NoName
      | place.Outside ↦ NoName
    ]

-- where a name stands that doesn't exist, and one that may exist
abbrev pub by_source : List Record → Option (List (List ℕ)) → Place
by_source zone source = elim source [ None ↦ place.Missing | Some s ↦ if exists zone s then place.Wild s else place.Missing ]

abbrev pub by_name : List Record → Bool → Option (List (List ℕ)) → Place
by_name zone b source = if b then place.Exact else by_source zone source

-- there is no name exactly where neither the name nor the source of synthesis exists
no_source : (zone : List Record) (name source : List (List ℕ)) (rtype : ℕ) (e : Bool) → (look_by zone name rtype (cond e (place.Wild source) place.Missing) ≡ NoName) ↔ (e ≡ false)
no_source zone name source rtype true = (λ h. absurd (cc (is_no_name-found_at zone source name rtype)), λ h. absurd (cc))
no_source zone name source rtype false = (λ _. refl, λ _. refl)

no_name_by : (zone : List Record) (name : List (List ℕ)) (rtype : ℕ) (b : Bool) (source : Option (List (List ℕ)))
    → (look_by zone name rtype (by_name zone b source) ≡ NoName) ↔ ((b ≡ false) × ((not b && elim source [ None ↦ false | Some s ↦ exists zone s ]) ≡ false))
no_name_by zone name rtype true source = (λ h. absurd (cc (is_no_name-found_at zone name name rtype)), λ h. absurd (cc (h.0)))
no_name_by zone name rtype false None = (λ _. (refl, refl), λ _. refl)
no_name_by zone name rtype false (Some s) = (λ h. (refl, (no_source zone name s rtype (exists zone s)).0 h), λ h. (no_source zone name s rtype (exists zone s)).1 h.1)

pub no_name : (zone : List Record) (name : List (List ℕ)) (rtype : ℕ) → cut_of zone name ≡ None
    → (look zone name rtype ≡ NoName) ↔ ((exists zone name ≡ false) × (is_synthesized zone name ≡ false))
no_name zone name rtype uncut =
    let is : look zone name rtype ≡ look_by zone name rtype (by_name zone (exists zone name) (source_of zone name)) =
    ap (λ o. look_by zone name rtype (elim o [ Some cut ↦ place.Cut cut | None ↦ by_name zone (exists zone name) (source_of zone name) ])) uncut
    in (
      λ h. (no_name_by zone name rtype (exists zone name) (source_of zone name)).0 (sym is ∙ h),
      λ h. is ∙ (no_name_by zone name rtype (exists zone name) (source_of zone name)).1 h,
    )

-- what an alias found is: the set of an owner, under the name searched
pub record IsAliasOf (zone : List Record) (name : List (List ℕ)) (rs : List Record) : Type 0 where
  pub at : List (List ℕ)
  pub is : rs ≡ owned_by name (rrset_of zone at type_CNAME)
  pub some : is_none_of (rrset_of zone at type_CNAME) ≡ false

-- what is found is under the name searched
abbrev IsUnder : List Record → List (List ℕ) → Look → Type 0
IsUnder zone name (Alias rs) = IsAliasOf zone name rs
IsUnder zone name (Data rs) = (xs : List Record) × (rs ≡ owned_by name xs)
IsUnder zone name _ = Unit {0}

pub and_not : (a b : Bool) → (a && not b) ≡ true → b ≡ false
and_not true true h = absurd (cc)
and_not true false h = refl
and_not false b h = absurd (cc)

found_at-under : (zone : List Record) (at name : List (List ℕ)) (rtype : ℕ) → IsUnder zone name (found_at zone at name rtype)
found_at-under zone at name rtype =
    by_test (IsUnder zone name) (follows_aliases rtype && not (is_none_of (rrset_of zone at type_CNAME))) (Alias (owned_by name (rrset_of zone at type_CNAME)))
    (if is_none_of (data_at zone at rtype) then NoData else Data (owned_by name (data_at zone at rtype)))
    (λ h. record { at = at; is = refl; some = and_not (follows_aliases rtype) (is_none_of (rrset_of zone at type_CNAME)) h })
    (λ _. by_test (IsUnder zone name) (is_none_of (data_at zone at rtype)) NoData (Data (owned_by name (data_at zone at rtype))) (λ _. tt) (λ _. (data_at zone at rtype, refl)))

source-under : (zone : List Record) (name : List (List ℕ)) (rtype : ℕ) (source : Option (List (List ℕ))) → IsUnder zone name (look_by zone name rtype (by_source zone source))
source-under zone name rtype None = tt
source-under zone name rtype (Some s) =
    by_test (λ p. IsUnder zone name (look_by zone name rtype p)) (exists zone s) (place.Wild s) place.Missing (λ _. found_at-under zone s name rtype) (λ _. tt)

look-under : (zone : List Record) (name : List (List ℕ)) (rtype : ℕ) → IsUnder zone name (look zone name rtype)
look-under zone name rtype =
    elim (cut_of zone name) as (λ o. IsUnder zone name (look_by zone name rtype (elim o [ Some cut ↦ place.Cut cut | None ↦ by_name zone (exists zone name) (source_of zone name) ]))) [
      | Some cut ↦ tt
      | None ↦
          by_test (λ p. IsUnder zone name (look_by zone name rtype p)) (exists zone name) place.Exact (by_source zone (source_of zone name)) (λ _. found_at-under zone name name rtype)
          (λ _. source-under zone name rtype (source_of zone name))
    ]

-- the chain from a name on, by what is found there
abbrev chain_at : List Record → ℕ → List (List (List ℕ)) → List (List ℕ) → ℕ → Look → Chain
chain_at zone more searched name rtype found =
    elim found [
      | Alias alias ↦
          onto alias
          (if is_final zone (name ∷ searched) (target alias) then record { aliases = []; end = Stop }
          else chain_from zone more (name ∷ searched) (target alias) rtype)
      | Cut cut ↦ record { aliases = []; end = Found (Cut cut) }
      | Data rs ↦ record { aliases = []; end = Found (Data rs) }
      | NoData ↦ record { aliases = []; end = Found NoData }
      | NoName ↦ record { aliases = []; end = Found NoName }
    ]

-- a chain of single aliases has no more of them than may follow
short_at : (zone : List Record) (more : ℕ) (searched : List (List (List ℕ))) (name : List (List ℕ)) (rtype : ℕ) (found : Look) → HasSingleAliases zone → IsUnder zone name found
    → ((before : List (List (List ℕ))) (next : List (List ℕ)) → length (chain_from zone more before next rtype).aliases ≤ more)
    → length (chain_at zone more searched name rtype found).aliases ≤ suc more
short_at zone more searched name rtype (Alias rs) single under rest =
    let here : length rs ≤ 1 = subst (λ n. n ≤ 1) (sym (ap length under.is ∙ length-map (rrset_of zone under.at type_CNAME) (shown_as name None))) (single under.at) in
    let behind : length (cond (is_final zone (name ∷ searched) (target rs)) (record { aliases = []; end = Stop }) (chain_from zone more (name ∷ searched) (target rs) rtype)).aliases ≤ more =
    by_test (λ (c : Chain). length c.aliases ≤ more) (is_final zone (name ∷ searched) (target rs)) (record { aliases = []; end = Stop }) (chain_from zone more (name ∷ searched) (target rs) rtype) (λ _. omega arith)
    (λ _. rest (name ∷ searched) (target rs))
    in
    omega (arith, length-append rs (cond (is_final zone (name ∷ searched) (target rs)) (record { aliases = []; end = Stop }) (chain_from zone more (name ∷ searched) (target rs) rtype)).aliases)
short_at zone more searched name rtype (Cut cut) single under rest = omega arith
short_at zone more searched name rtype (Data rs) single under rest = omega arith
short_at zone more searched name rtype NoData single under rest = omega arith
short_at zone more searched name rtype NoName single under rest = omega arith

short_from : (zone : List Record) (more : ℕ) (searched : List (List (List ℕ))) (name : List (List ℕ)) (rtype : ℕ) → HasSingleAliases zone → length (chain_from zone more searched name rtype).aliases ≤ more
short_from zone zero searched name rtype single = omega arith
short_from zone (suc more) searched name rtype single =
    short_at zone more searched name rtype (look zone name rtype) single (look-under zone name rtype) (λ before next. short_from zone more before next rtype single)

pub short : (zone : List Record) (name : List (List ℕ)) (rtype : ℕ) → HasSingleAliases zone → length (chain zone name rtype).aliases ≤ 16
unfolding chain
short zone name rtype single = short_from zone MOST_ALIASES [] name rtype single

-- each record that a chain shows stands at the name asked or at an alias's target
abbrev IsTold : List (List ℕ) → Chain → Type 0
IsTold name c = All (IsReached name c.aliases) (c.aliases ++ data_of_end c.end)

-- nothing is shown
nothing_told : (P : Record → Type 0) → All P []
nothing_told P = λ k r below. absurd (omega arith)

-- records under a name stand at it
owned_by-owner : (name : List (List ℕ)) (aliases xs : List Record) → All (IsReached name aliases) (owned_by name xs)
owned_by-owner name aliases xs = All-map (IsReached name aliases) _ xs (λ k r below. inl refl)

-- what is reached from an alias's target is reached from the alias
reached_behind : (name : List (List ℕ)) (a : Record) (rs aliases : List Record) (r : Record) → IsReached (target (a ∷ rs)) aliases r → IsReached name ((a ∷ rs) ++ aliases) r
reached_behind name a rs aliases r (inl at) = inr (0, a, omega arith, refl, sym at)
reached_behind name a rs aliases r (inr (k, x, below, is, aims)) =
    inr (length (a ∷ rs) + k, x, omega (arith, length-append rs aliases, below), get_or-append-add (a ∷ rs) aliases k x ∙ is, aims)

-- a chain behind an alias
told_onto : (name : List (List ℕ)) (rs : List Record) (c : Chain) → All (IsReached name (rs ++ c.aliases)) rs → (is_none_of rs ≡ false) → IsTold (target rs) c → IsTold name (onto rs c)
told_onto name [] c here some behind = absurd (cc)
told_onto name (a ∷ rs) c here some behind =
    subst (All (IsReached name ((a ∷ rs) ++ c.aliases))) (sym (append_assoc (a ∷ rs) c.aliases (data_of_end c.end)))
    (All-append (IsReached name ((a ∷ rs) ++ c.aliases)) (a ∷ rs) (c.aliases ++ data_of_end c.end) here (λ k r below. reached_behind name a rs c.aliases (get_or (c.aliases ++ data_of_end c.end) k r) (behind k r below)))

-- as many records under another owner
is_none_of-owned_by : (name : List (List ℕ)) (xs : List Record) → is_none_of (owned_by name xs) ≡ is_none_of xs
is_none_of-owned_by name xs = ap (λ n. n == 0) (length-map xs (shown_as name None))

told_at : (zone : List Record) (more : ℕ) (searched : List (List (List ℕ))) (name : List (List ℕ)) (rtype : ℕ) (found : Look) → IsUnder zone name found
    → ((before : List (List (List ℕ))) (next : List (List ℕ)) → IsTold next (chain_from zone more before next rtype)) → IsTold name (chain_at zone more searched name rtype found)
told_at zone more searched name rtype (Alias rs) under rest =
    let behind : IsTold (target rs) (cond (is_final zone (name ∷ searched) (target rs)) (record { aliases = []; end = Stop }) (chain_from zone more (name ∷ searched) (target rs) rtype)) =
    by_test (IsTold (target rs)) (is_final zone (name ∷ searched) (target rs)) (record { aliases = []; end = Stop }) (chain_from zone more (name ∷ searched) (target rs) rtype)
    (λ _. nothing_told (IsReached (target rs) [])) (λ _. rest (name ∷ searched) (target rs))
    in
    told_onto name rs (cond (is_final zone (name ∷ searched) (target rs)) (record { aliases = []; end = Stop }) (chain_from zone more (name ∷ searched) (target rs) rtype))
    (subst (All (IsReached name (rs ++ (cond (is_final zone (name ∷ searched) (target rs)) (record { aliases = []; end = Stop }) (chain_from zone more (name ∷ searched) (target rs) rtype)).aliases))) (sym under.is)
    (owned_by-owner name _ (rrset_of zone under.at type_CNAME)))
    (ap is_none_of under.is ∙ is_none_of-owned_by name (rrset_of zone under.at type_CNAME) ∙ under.some) behind
told_at zone more searched name rtype (Cut cut) under rest = nothing_told (IsReached name [])
told_at zone more searched name rtype (Data rs) under rest = subst (All (IsReached name [])) (sym under.1) (owned_by-owner name [] under.0)
told_at zone more searched name rtype NoData under rest = nothing_told (IsReached name [])
told_at zone more searched name rtype NoName under rest = nothing_told (IsReached name [])

told_from : (zone : List Record) (more : ℕ) (searched : List (List (List ℕ))) (name : List (List ℕ)) (rtype : ℕ) → IsTold name (chain_from zone more searched name rtype)
told_from zone zero searched name rtype = nothing_told (IsReached name [])
told_from zone (suc more) searched name rtype =
    told_at zone more searched name rtype (look zone name rtype) (look-under zone name rtype) (λ before next. told_from zone more before next rtype)

pub reached : (zone : List Record) (name : List (List ℕ)) (rtype : ℕ) → All (IsReached name (chain zone name rtype).aliases) (sections zone name rtype).answer
unfolding chain
reached zone name rtype = told_from zone MOST_ALIASES [] name rtype

-- what passes one test only where it passes another is no more
filter_more : {X : Type 0} (p q : X → Bool) → ((x : X) → p x ≡ true → q x ≡ true) → (xs : List X) → length (filter p xs) ≤ length (filter q xs)
filter_more p q sub [] = omega arith
filter_more p q sub (x ∷ xs) =
    let rest : length (filter p xs) ≤ length (filter q xs) = filter_more p q sub xs in
    by_test (λ l. length l ≤ length (filter q (x ∷ xs))) (p x) (x ∷ filter p xs) (filter p xs)
    (λ h. subst (λ b. length (x ∷ filter p xs) ≤ length (cond b (x ∷ filter q xs) (filter q xs))) (sym (sub x h)) (omega arith))
    (λ _. by_test (λ l. length (filter p xs) ≤ length l) (q x) (x ∷ filter q xs) (filter q xs) (λ _. omega arith) (λ _. rest))

pub and_left : (a b : Bool) → (a && b) ≡ true → a ≡ true
and_left true b h = refl
and_left false b h = absurd (cc)

pub and_right : (a b : Bool) → (a && b) ≡ true → b ≡ true
and_right true b h = h
and_right false b h = absurd (cc)

unless : (a b : Bool) → (not a || b) ≡ true → a ≡ true → b ≡ true
unless true b h a = h
unless false b h a = absurd (cc)

-- in a zone an alias stands alone, so no owner has two
single_by : (zone : List Record) (owner : List (List ℕ)) (rs : List Record) → IsZone zone → rs ≡ rrset_of zone owner type_CNAME → length rs ≤ 1
single_by zone owner [] is of = omega arith
single_by zone owner (r ∷ rs) is of =
    let passes : is_of owner type_CNAME r ≡ true = subst (All (λ x. is_of owner type_CNAME x ≡ true)) (sym of) (filter_passes (is_of owner type_CNAME) zone) 0 r (omega arith) in
    let alone : is_alone zone r ≡ true = subst (All (λ x. is_alone zone x ≡ true)) (sym of) (All-filter (is_of owner type_CNAME) (λ x. is_alone zone x ≡ true) zone is.rules.aliases_alone) 0 r (omega arith) in
    let same : is_same r.owner owner ≡ true = and_left (is_same r.owner owner) (r.rtype == type_CNAME) passes in
    let one : length (rrsets_of zone r.owner) ≡ 1 = eqb-true _ _ (unless (r.rtype == type_CNAME) (length (rrsets_of zone r.owner) == 1) alone (and_right (is_same r.owner owner) (r.rtype == type_CNAME) passes)) in
    let fewer : length (rrset_of zone owner type_CNAME) ≤ length (rrsets_of zone r.owner) =
    filter_more (is_of owner type_CNAME) (stands_at r.owner)
    (λ x h. is_same_equiv.congr x.owner owner r.owner (and_left (is_same x.owner owner) (x.rtype == type_CNAME) h) ∙ is_same_equiv.symm owner r.owner ∙ same) zone
    in
    omega (arith, ap length of)

pub single_aliases : (zone : List Record) → IsZone zone → HasSingleAliases zone
single_aliases zone is owner = single_by zone owner (rrset_of zone owner type_CNAME) is refl

-- the type of a set doesn't depend on the name that it is shown under
rtype_of-owned_by : (name : List (List ℕ)) (rs : List Record) → rtype_of (owned_by name rs) ≡ rtype_of rs
rtype_of-owned_by name [] = refl
rtype_of-owned_by name (r ∷ rs) = refl

rtype_of-rrset_of : (owner : List (List ℕ)) (rtype : ℕ) (rs : List Record) → is_none_of rs ≡ false → All (λ r. is_of owner rtype r ≡ true) rs → rtype_of rs ≡ rtype
rtype_of-rrset_of owner rtype [] some of = absurd (cc)
rtype_of-rrset_of owner rtype (r ∷ rs) some of = eqb-true r.rtype rtype (and_right (is_same r.owner owner) (r.rtype == rtype) (of 0 r (omega arith)))

-- a set that is found as an alias is of type CNAME
pub rtype_of-alias : (zone : List Record) (name : List (List ℕ)) (rtype : ℕ) (set : List Record) → look zone name rtype ≡ Alias (owned_by name set) → rtype_of set ≡ type_CNAME
rtype_of-alias zone name rtype set found =
    let under : IsAliasOf zone name (owned_by name set) = subst (IsUnder zone name) found (look-under zone name rtype) in
    let aliases = rrset_of zone under.at type_CNAME in
    sym (rtype_of-owned_by name set) ∙ ap rtype_of under.is ∙ rtype_of-owned_by name aliases
    ∙ rtype_of-rrset_of under.at type_CNAME aliases under.some (filter_passes (is_of under.at type_CNAME) zone)

-- an alias that is found has a record
pub some-alias : (zone : List Record) (name : List (List ℕ)) (rtype : ℕ) (rs : List Record) → look zone name rtype ≡ Alias rs → is_none_of rs ≡ false
some-alias zone name rtype rs found =
    let under : IsAliasOf zone name rs = subst (IsUnder zone name) found (look-under zone name rtype) in
    ap is_none_of under.is ∙ is_none_of-owned_by name (rrset_of zone under.at type_CNAME) ∙ under.some

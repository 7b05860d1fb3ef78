-- Steps along a chain of aliases.
use Rattle.std.proofs.Common.{IsTrue, ◌↔◌, Bor, ◌≡◌, ℕ, suc, Bool, true, false, ◌||◌, not, ◌==◌, List, [], ◌∷◌, ◌++◌, length, map, reverse, bytes_eq, refl, sym, ap, subst, ◌∙◌, arith, append_assoc, append-nil}
use Rattle.std.specs.List.{list_any, flat_map}
use Rattle.std.proofs.lemmas.List.{reverse-append, map-append}
use Rattle.std.proofs.lemmas.Bool.Decides.{same_from_decides}
use Rattle.std.proofs.lemmas.Grind.{flat_map-append}
use Rattle.std.proofs.lemmas.Slice.Eq.{bytes_eq-Decides}
use Rattle.std.specs.Cmp.Lexicographic.{pointwise, pointwise_decides}
use Rattle.dns_name.specs.Name.{IsName, wire_of, fold_name, is_same}
use Rattle.dns_name.proofs.SameLemmas.{wire_of_injective}
use Rattle.dns_rdata.specs.declared.rrset.RRset.{RRset}
use Rattle.dns_rdata.specs.declared.shown.Shown.{Shown}
use Rattle.dns_rdata.specs.Record.{Record}
use Rattle.dns_rdata.specs.Shown.{records_shown}
use Rattle.lookup_core.specs.declared.aliases.TheConstants.{MOST_ALIASES}
use Rattle.lookup_core.specs.declared.look.Look as code
use Rattle.lookup_core.specs.declared.look.Look.TheVariants as seen
use Rattle.lookup_core.specs.Place.{is_none_of}
use Rattle.lookup_core.specs.Look.{Look, Cut, Alias, Data, NoData, NoName, look, owned_by}
use Rattle.lookup_core.specs.Chain.{Chain, End, Found, Stop, onto, target, is_final, chain_from, chain, end_at}
pub use Rattle.lookup_core.specs.Shown.{IsOnTheWay}
use Rattle.lookup_core.specs.Shown.{section_shown, searched_before, look_shown}
use Rattle.lookup_core.proofs.WalkLemmas.{list_any-reverse}

-- whether a name is among those searched doesn't depend on their order
list_any-owners : (name : List (List ℕ)) (aliases : List Shown) → list_any (λ before. is_same before name) (map (λ alias. alias.owner) aliases) ≡ list_any (λ alias. is_same alias.owner name) aliases
list_any-owners name [] = refl
list_any-owners name (alias ∷ aliases) = ap (λ rest. is_same alias.owner name || rest) (list_any-owners name aliases)

pub list_any-searched_before : (name : List (List ℕ)) (aliases : List Shown) → list_any (λ before. is_same before name) (searched_before aliases) ≡ list_any (λ alias. is_same alias.owner name) aliases
list_any-searched_before name aliases = list_any-reverse (λ before. is_same before name) (map (λ alias. alias.owner) aliases) ∙ list_any-owners name aliases

-- the last alias's owner is the name searched last
pub searched_before-append : (aliases : List Shown) (alias : Shown) → searched_before (aliases ++ alias ∷ []) ≡ alias.owner ∷ searched_before aliases
searched_before-append aliases alias = ap reverse (map-append (λ a. a.owner) aliases (alias ∷ [])) ∙ reverse-append (map (λ a. a.owner) aliases) (alias.owner ∷ [])

-- an alias's target is the same under another owner
pub target-owned_by : (name : List (List ℕ)) (rs : List Record) → target (owned_by name rs) ≡ target rs
target-owned_by name [] = refl
target-owned_by name (r ∷ rs) = refl

-- a chain begins at the name asked
begins_with : (zone : List Record) (name : List (List ℕ)) (rtype : ℕ) → IsOnTheWay zone name rtype [] MOST_ALIASES name
unfolding chain
begins_with zone name rtype = record { chain = refl; some = refl }

pub begins : (zone : List Record) (name : List (List ℕ)) (rtype more : ℕ) → more ≡ MOST_ALIASES → IsOnTheWay zone name rtype [] more name
begins zone name rtype more all = subst (λ n. IsOnTheWay zone name rtype [] n name) (sym all) (begins_with zone name rtype)

-- a chain with its aliases and its end
pub record Ends (zone : List Record) (name : List (List ℕ)) (rtype : ℕ) (aliases : List Shown) (end : End) : Type 0 where
  pub chain : chain zone name rtype ≡ record { aliases = section_shown aliases; end = end }
  pub some : is_none_of (section_shown aliases) ≡ (length aliases == 0)

-- no more aliases may follow
pub runs_out : (zone : List Record) (name : List (List ℕ)) (rtype : ℕ) (aliases : List Shown) (at : List (List ℕ)) → IsOnTheWay zone name rtype aliases 0 at → Ends zone name rtype aliases Stop
runs_out zone name rtype aliases at way = record {
  chain = way.chain ∙ ap (λ rs. record { aliases = rs; end = Stop }) (append-nil (section_shown aliases));
  some = way.some;
}

-- one step of a chain at an alias
chain_from-alias : (zone : List Record) (more : ℕ) (searched : List (List (List ℕ))) (at : List (List ℕ)) (rtype : ℕ) (alias : List Record)
    → look zone at rtype ≡ Alias alias → is_final zone (at ∷ searched) (target alias) ≡ false
    → chain_from zone (suc more) searched at rtype ≡ onto alias (chain_from zone more (at ∷ searched) (target alias) rtype)
chain_from-alias zone more searched at rtype alias found final = rw (found, final, chain_from) refl

chain_from-final : (zone : List Record) (more : ℕ) (searched : List (List (List ℕ))) (at : List (List ℕ)) (rtype : ℕ) (alias : List Record)
    → look zone at rtype ≡ Alias alias → is_final zone (at ∷ searched) (target alias) ≡ true
    → chain_from zone (suc more) searched at rtype ≡ onto alias (record { aliases = []; end = Stop })
chain_from-final zone more searched at rtype alias found final = rw (found, final, chain_from) refl

-- aliases in front of aliases
onto-onto : (front back : List Record) (rest : Chain) → onto front (onto back rest) ≡ onto (front ++ back) rest
onto-onto front back rest = ap (λ rs. record { aliases = rs; end = rest.end }) (sym (append_assoc front back rest.aliases))

-- one alias more, as it is shown, searched and aimed
pub record IsNext (at : List (List ℕ)) (shown : Shown) (alias : List Record) : Type 0 where
  pub owner : shown.owner ≡ at
  pub records : records_shown shown ≡ alias
  pub some : is_none_of alias ≡ false

-- a set found at a name, shown alone under that name
pub shown_alone : (at : List (List ℕ)) (shown : Shown) (sets : List (List Record)) (set : List Record) → shown.owner ≡ at → records_shown shown ≡ owned_by at (flat_map (λ s. s) sets) → sets ≡ set ∷ []
    → is_none_of (owned_by at set) ≡ false → IsNext at shown (owned_by at set)
shown_alone at shown sets set owner records alone some = record {
  owner = owner;
  records = records ∙ ap (λ all. owned_by at (flat_map (λ s. s) all)) alone ∙ ap (owned_by at) (append-nil set);
  some = some;
}

shown-next : (aliases : List Shown) (at : List (List ℕ)) (shown : Shown) (alias : List Record) → IsNext at shown alias → section_shown (aliases ++ shown ∷ []) ≡ section_shown aliases ++ alias
shown-next aliases at shown alias next = flat_map-append records_shown aliases (shown ∷ []) ∙ ap (λ rs. section_shown aliases ++ rs) (append-nil (records_shown shown) ∙ next.records)

searched-next : (aliases : List Shown) (at : List (List ℕ)) (shown : Shown) (alias : List Record) → IsNext at shown alias → searched_before (aliases ++ shown ∷ []) ≡ at ∷ searched_before aliases
searched-next aliases at shown alias next = searched_before-append aliases shown ∙ ap (λ owner. owner ∷ searched_before aliases) next.owner

-- records behind records are some where the latter are
some-append : (front back : List Record) → is_none_of back ≡ false → is_none_of (front ++ back) ≡ false
some-append [] back some = some
some-append (r ∷ front) back some = grind arith

last-append : (aliases : List Shown) (shown : Shown) → (length (aliases ++ shown ∷ []) == 0) ≡ false
last-append [] shown = refl
last-append (alias ∷ aliases) shown = grind arith

some-next : (aliases : List Shown) (at : List (List ℕ)) (shown : Shown) (alias : List Record) → IsNext at shown alias → is_none_of (section_shown (aliases ++ shown ∷ [])) ≡ (length (aliases ++ shown ∷ []) == 0)
some-next aliases at shown alias next =
    ap is_none_of (shown-next aliases at shown alias next) ∙ some-append (section_shown aliases) alias next.some ∙ sym (last-append aliases shown)

-- an alias whose target is searched
pub goes_on : (zone : List Record) (name : List (List ℕ)) (rtype : ℕ) (aliases : List Shown) (more : ℕ) (at : List (List ℕ)) (shown : Shown) (alias : List Record) (aim : List (List ℕ))
    → IsOnTheWay zone name rtype aliases (suc more) at → look zone at rtype ≡ Alias alias → IsNext at shown alias → aim ≡ target alias
    → is_final zone (searched_before (aliases ++ shown ∷ [])) aim ≡ false → IsOnTheWay zone name rtype (aliases ++ shown ∷ []) more aim
goes_on zone name rtype aliases more at shown alias aim way seen next aims searched =
    let front = section_shown aliases in
    let before = searched_before aliases in
    let final : is_final zone (at ∷ before) (target alias) ≡ false = ap (is_final zone (at ∷ before)) (sym aims) ∙ ap (λ names. is_final zone names aim) (sym (searched-next aliases at shown alias next)) ∙ searched in
    record {
      chain =
          way.chain ∙ ap (onto front) (chain_from-alias zone more before at rtype alias seen final)
          ∙ onto-onto front alias (chain_from zone more (at ∷ before) (target alias) rtype)
          ∙ ap (λ rs. onto rs (chain_from zone more (at ∷ before) (target alias) rtype)) (sym (shown-next aliases at shown alias next))
          ∙ ap (λ names. onto (section_shown (aliases ++ shown ∷ [])) (chain_from zone more names (target alias) rtype)) (sym (searched-next aliases at shown alias next))
          ∙ ap (λ to. onto (section_shown (aliases ++ shown ∷ [])) (chain_from zone more (searched_before (aliases ++ shown ∷ [])) to rtype)) (sym aims);
      some = some-next aliases at shown alias next;
    }

-- an alias whose target isn't searched
pub stops : (zone : List Record) (name : List (List ℕ)) (rtype : ℕ) (aliases : List Shown) (more : ℕ) (at : List (List ℕ)) (shown : Shown) (alias : List Record) (aim : List (List ℕ))
    → IsOnTheWay zone name rtype aliases (suc more) at → look zone at rtype ≡ Alias alias → IsNext at shown alias → aim ≡ target alias
    → is_final zone (searched_before (aliases ++ shown ∷ [])) aim ≡ true → Ends zone name rtype (aliases ++ shown ∷ []) Stop
stops zone name rtype aliases more at shown alias aim way seen next aims searched =
    let front = section_shown aliases in
    let before = searched_before aliases in
    let final : is_final zone (at ∷ before) (target alias) ≡ true = ap (is_final zone (at ∷ before)) (sym aims) ∙ ap (λ names. is_final zone names aim) (sym (searched-next aliases at shown alias next)) ∙ searched in
    record {
      chain =
          way.chain ∙ ap (onto front) (chain_from-final zone more before at rtype alias seen final)
          ∙ ap (λ rs. record { aliases = rs; end = Stop }) (ap (λ rs. front ++ rs) (append-nil alias) ∙ sym (shown-next aliases at shown alias next));
      some = some-next aliases at shown alias next;
    }

-- whether an alias is found
abbrev pub is_alias : Look → Bool
is_alias (Alias rs) = true
is_alias _ = false

-- something else than an alias is found
chain_from-other : (zone : List Record) (more : ℕ) (searched : List (List (List ℕ))) (at : List (List ℕ)) (rtype : ℕ) (found : Look)
    → look zone at rtype ≡ found → is_alias found ≡ false → chain_from zone (suc more) searched at rtype ≡ record { aliases = []; end = Found found }
chain_from-other zone more searched at rtype (Cut cut) is other = rw (is, chain_from) refl
chain_from-other zone more searched at rtype (Alias rs) is other = absurd (cc)
chain_from-other zone more searched at rtype (Data rs) is other = rw (is, chain_from) refl
chain_from-other zone more searched at rtype NoData is other = rw (is, chain_from) refl
chain_from-other zone more searched at rtype NoName is other = rw (is, chain_from) refl

pub ends : (zone : List Record) (name : List (List ℕ)) (rtype : ℕ) (aliases : List Shown) (more : ℕ) (at : List (List ℕ)) (found : Look) (end : End)
    → IsOnTheWay zone name rtype aliases (suc more) at → look zone at rtype ≡ found → is_alias found ≡ false → end ≡ Found found → Ends zone name rtype aliases end
ends zone name rtype aliases more at found end way seen other reported = record {
  chain =
      way.chain ∙ ap (onto (section_shown aliases)) (chain_from-other zone more (searched_before aliases) at rtype found seen other)
      ∙ ap (λ rs. record { aliases = rs; end = Found found }) (append-nil (section_shown aliases))
      ∙ ap (λ e. record { aliases = section_shown aliases; end = e }) (sym reported);
  some = way.some;
}

-- where none of two tests holds, a name isn't outside
pub not_outside : (under searched : Bool) → (not under || searched) ≡ false → under ≡ true
not_outside true searched e = refl
not_outside false searched e = cc

-- what isn't an alias ends a chain
found_end : (found : Look) → is_alias found ≡ false → end_at found ≡ Found found
found_end (Cut cut) other = refl
found_end (Alias rs) other = absurd (cc)
found_end (Data rs) other = refl
found_end NoData other = refl
found_end NoName other = refl

pub ends_there : (zone : List Record) (name : List (List ℕ)) (rtype : ℕ) (aliases : List Shown) (more : ℕ) (at : List (List ℕ)) (found : Look) (end : End)
    → IsOnTheWay zone name rtype aliases (suc more) at → found ≡ look zone at rtype → is_alias found ≡ false → end ≡ end_at found → Ends zone name rtype aliases end
ends_there zone name rtype aliases more at found end way seen other reported = ends zone name rtype aliases more at found end way (sym seen) other (reported ∙ found_end found other)

-- names are spelt the same where they have the same octets
pub spelt_test : (name other : List (List ℕ)) (octets others : List ℕ) (r : Bool) → IsName name → IsName other → octets ≡ wire_of name → others ≡ wire_of other → (IsTrue r ↔ (octets ≡ others))
    → r ≡ pointwise bytes_eq name other
spelt_test name other octets others r h k own theirs test =
    let names = pointwise_decides bytes_eq-Decides name other in
    same_from_decides r (pointwise bytes_eq name other) test
    (λ e. own ∙ ap wire_of (names.0 e) ∙ sym theirs, λ e. names.1 (wire_of_injective name other h.labels k.labels (sym own ∙ e ∙ theirs)))

-- one alias more, whose owner is kept in lower case
pub folded-next : (aliases : List Shown) (shown : Shown) (names : List (List (List ℕ))) (folded at : List (List ℕ)) → names ≡ map (λ alias. fold_name alias.owner) aliases
    → folded ≡ fold_name at → shown.owner ≡ at → names ++ folded ∷ [] ≡ map (λ alias. fold_name alias.owner) (aliases ++ shown ∷ [])
folded-next aliases shown names folded at kept lower owner =
    ap (λ ns. ns ++ folded ∷ []) kept ∙ ap (λ n. map (λ (alias : Shown). fold_name alias.owner) aliases ++ n ∷ []) (lower ∙ ap fold_name (sym owner))
    ∙ sym (map-append (λ (alias : Shown). fold_name alias.owner) aliases (shown ∷ []))

among_folded : (name : List (List ℕ)) (aliases : List Shown) → list_any (λ other. pointwise bytes_eq other (fold_name name)) (map (λ alias. fold_name alias.owner) aliases) ≡ list_any (λ alias. is_same alias.owner name) aliases
among_folded name [] = refl
among_folded name (alias ∷ aliases) = ap (λ rest. is_same alias.owner name || rest) (among_folded name aliases)

-- a name was searched where it is among the owners in lower case
pub among_searched : (name folded : List (List ℕ)) (names : List (List (List ℕ))) (aliases : List Shown) → folded ≡ fold_name name → names ≡ map (λ alias. fold_name alias.owner) aliases
    → list_any (λ other. pointwise bytes_eq other folded) names ≡ list_any (λ before. is_same before name) (searched_before aliases)
among_searched name folded names aliases lower kept =
    ap (λ (n : List (List ℕ)). list_any (λ other. pointwise bytes_eq other n) names) lower ∙ ap (list_any (λ other. pointwise bytes_eq other (fold_name name))) kept
    ∙ among_folded name aliases ∙ sym (list_any-searched_before name aliases)

-- whether a name that is under another was searched is all that decides
pub inside : (under searched : Bool) → under ≡ true → searched ≡ (not under || searched)
inside true searched e = refl
inside false searched e = cc

-- something else than an alias is found
pub no_alias : (at : List (List ℕ)) (found : code.Look) → ((alias : Bor RRset) → found ≡ seen.Alias alias → ⊥) → is_alias (look_shown at found) ≡ false
no_alias at (seen.Cut servers) other = refl
no_alias at (seen.Alias alias) other = absurd (other alias refl)
no_alias at (seen.Data sets) other = refl
no_alias at seen.NoData other = refl
no_alias at seen.NoName other = refl

owners_folded : (aliases : List Shown) → map fold_name (map (λ alias. alias.owner) aliases) ≡ map (λ alias. fold_name alias.owner) aliases
owners_folded [] = refl
owners_folded (alias ∷ aliases) = ap (λ (names : List (List (List ℕ))). fold_name alias.owner ∷ names) (owners_folded aliases)

-- one alias alone, whose owner is kept in lower case
pub folded-first : (aliases : List Shown) (name folded : List (List ℕ)) (names : List (List (List ℕ))) → map (λ alias. alias.owner) aliases ≡ name ∷ [] → names ≡ [] → folded ≡ fold_name name
    → names ++ folded ∷ [] ≡ map (λ alias. fold_name alias.owner) aliases
folded-first aliases name folded names one none lower =
    ap (λ (ns : List (List (List ℕ))). ns ++ folded ∷ []) none ∙ ap (λ (n : List (List ℕ)). n ∷ []) lower ∙ ap (map fold_name) (sym one) ∙ owners_folded aliases

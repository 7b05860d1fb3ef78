-- Sets that are the same have the same parts.
use Rattle.std.proofs.Common.{◌≡◌, ◌≢◌, ℕ, ◌<◌, Bool, true, false, not, ◌==◌, MatchBool, All, List, [], ◌∷◌, length, refl, sym, ap, subst, ◌∙◌, arith, eq-eqb}
use Rattle.std.proofs.lemmas.Bool.{eqb-true}
use Rattle.std.proofs.lemmas.List.Elements.{All-head, All-tail}
use Rattle.dns_name.specs.Name.{is_same, fold_name}
use Rattle.dns_name.specs.Order.{is_same_Decides, is_same_equiv}
use Rattle.dns_rdata.specs.Data.{Data}
use Rattle.dns_rdata.specs.Record.{Record, records_with, owner_of, rtype_of, ttl_of, IsSet}
use Rattle.dns_rdata.proofs.SetLemmas.{owner_of-records_with, rtype_of-records_with, ttl_of-records_with}

pub same_owner : (o p : List (List ℕ)) (t u k l : ℕ) (ds es : List Data) → 0 < length ds → 0 < length es → records_with o t k ds ≡ records_with p u l es → o ≡ p
same_owner o p t u k l ds es some more e = sym (owner_of-records_with o t k ds some) ∙ ap owner_of e ∙ owner_of-records_with p u l es more

pub same_rtype : (o p : List (List ℕ)) (t u k l : ℕ) (ds es : List Data) → 0 < length ds → 0 < length es → records_with o t k ds ≡ records_with p u l es → t ≡ u
same_rtype o p t u k l ds es some more e = sym (rtype_of-records_with o t k ds some) ∙ ap rtype_of e ∙ rtype_of-records_with p u l es more

pub same_ttl : (o p : List (List ℕ)) (t u k l : ℕ) (ds es : List Data) → 0 < length ds → 0 < length es → records_with o t k ds ≡ records_with p u l es → k ≡ l
same_ttl o p t u k l ds es some more e = sym (ttl_of-records_with o t k ds some) ∙ ap ttl_of e ∙ ttl_of-records_with p u l es more

datum_is : (c d : Data) → c.rtype ≡ d.rtype → c.octets ≡ d.octets → c ≡ d
datum_is c d e f = λ i. record { rtype = e i; octets = f i }

-- a list's first item, and those behind it
first_of : List Record → List ℕ → List ℕ
first_of [] octets = octets
first_of (r ∷ rs) octets = r.rdata

rest_of : List Record → List Record
rest_of [] = []
rest_of (r ∷ rs) = rs

pub same_data : (o p : List (List ℕ)) (t u k l : ℕ) (ds es : List Data) → All (λ d. d.rtype ≡ t) ds → All (λ d. d.rtype ≡ t) es → records_with o t k ds ≡ records_with p u l es → ds ≡ es
unfolding first_of rest_of
same_data o p t u k l [] [] typed also e = refl
same_data o p t u k l [] (d ∷ es) typed also e = absurd (omega (arith, ap length e))
same_data o p t u k l (d ∷ ds) [] typed also e = absurd (omega (arith, ap length e))
same_data o p t u k l (c ∷ ds) (d ∷ es) typed also e =
    let first = datum_is c d (All-head (λ d. d.rtype ≡ t) c ds typed ∙ sym (All-head (λ d. d.rtype ≡ t) d es also)) (ap (λ rs. first_of rs []) e) in
    let rest = same_data o p t u k l ds es (All-tail (λ d. d.rtype ≡ t) c ds typed) (All-tail (λ d. d.rtype ≡ t) d es also) (ap rest_of e) in
    λ i. first i ∷ rest i

-- names in lower case that are the same are equal
pub names_same : (o p : List (List ℕ)) → is_same o p ≡ true → o ≡ fold_name o → p ≡ fold_name p → o ≡ p
names_same o p same first second = first ∙ (is_same_Decides o p).0 same ∙ sym second

apart : (b : Bool) → true ≡ not b → b ≡ true → ⊥
apart true e is = cc
apart false e is = cc

holds : (b : Bool) → false ≡ not b → b ≡ true
holds true e = refl
holds false e = cc

-- sets whose parts differ are two
module _ (o p : List (List ℕ)) (t u k l : ℕ) (ds es : List Data) (set other : List Record) (own : records_with o t k ds ≡ set) (others : records_with p u l es ≡ other) (is : IsSet o t k ds) (also : IsSet p u l es) where
  pub owners_differ : true ≡ not (is_same o p) → set ≡ other → ⊥
  owners_differ ne e = apart (is_same o p) ne (ap (is_same o) (sym (same_owner o p t u k l ds es is.some also.some (own ∙ e ∙ sym others))) ∙ is_same_equiv.refl o)

  pub rtypes_differ : true ≡ not (t == u) → set ≡ other → ⊥
  rtypes_differ ne e = apart (t == u) ne (eq-eqb t u (same_rtype o p t u k l ds es is.some also.some (own ∙ e ∙ sym others)))

  pub ttls_differ : true ≡ not (k == l) → set ≡ other → ⊥
  ttls_differ ne e = apart (k == l) ne (eq-eqb k l (same_ttl o p t u k l ds es is.some also.some (own ∙ e ∙ sym others)))

  -- the data decide where the other parts are the same
  pub data_decide : false ≡ not (is_same o p) → false ≡ not (t == u) → false ≡ not (k == l) → (b : Bool) → MatchBool b (ds ≡ es) (ds ≢ es) → MatchBool b (set ≡ other) (set ≢ other)
  data_decide owner rtype ttl true h =
      let name = names_same o p (holds (is_same o p) owner) is.folded also.folded in
      let typed = eqb-true t u (holds (t == u) rtype) in
      let lasts = eqb-true k l (holds (k == l) ttl) in
      sym own ∙ (λ i. records_with (name i) (typed i) (lasts i) (h i)) ∙ others
  data_decide owner rtype ttl false h = λ e. h (same_data o p t u k l ds es is.typed (subst (λ v. All (λ d. d.rtype ≡ v) es) (sym (eqb-true t u (holds (t == u) rtype))) also.typed) (own ∙ e ∙ sym others))

-- What is looked up by tagged names, and how octets make a number.
use Rattle.std.proofs.Common.{◌≡◌, ℕ, Bool, true, false, ◌==◌, List, refl, sym, ◌∙◌}
use Rattle.std.specs.Map.{lookup}
use Rattle.std.specs.BTreeMap.{is_at}
use Rattle.std.proofs.lemmas.Bool.Decides.{Decides-eqb}
use Rattle.dns_name.specs.Name.{Name, canonical_cmp, is_same}
use Rattle.zone_tree.proofs.NameOrder.{tie_from_same}
use Rattle.update_core.specs.Tagged.{tag_of, tagged_cmp, same_tag, same_at}

-- what is looked up is the same
pub same_lookup : {X : Type 0} (name : Name) (entries : List (Name × X)) → lookup (is_at (tagged_cmp name)) entries ≡ lookup (is_at (canonical_cmp name)) entries
same_lookup name entries = λ i. lookup (λ k. same_at name k i) entries

-- names whose numbers differ aren't the same
apart_test : (t u : ℕ) → (t ≡ u → ⊥) → (t == u) ≡ false
apart_test t u apart = by (t == u) (Decides-eqb t u).0
  where
    by : (b : Bool) → (b ≡ true → t ≡ u) → b ≡ false
    by false h = refl
    by true h = absurd (apart (h refl))

pub apart_by_tag : (a b : Name) (t u : ℕ) → t ≡ tag_of a → u ≡ tag_of b → (t ≡ u → ⊥) → (t == u) ≡ is_same a b
apart_by_tag a b t u e f apart = apart_test t u apart ∙ sym (by (is_same a b) refl)
  where
    by : (s : Bool) → is_same a b ≡ s → s ≡ false
    by false k = refl
    by true k = absurd (apart (e ∙ same_tag a b (tie_from_same a b k) ∙ sym f))

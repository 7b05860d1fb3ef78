-- The rows of an update that make another set of one, or take it away (RFC 2136, 3.4.2.2 to 3.4.2.4).
use Rattle.std.proofs.Common.{◌≡◌, ◌≢◌, ◌<◌, ◌≤◌, true, false, not, ◌&&◌, ◌==◌, cond, if◌then◌else◌, List, [], ◌∷◌, length, None, Some, refl, sym, ap, subst, ◌∙◌, arith}
use Rattle.dns_rdata.specs.Numbers.{class_IN, class_NONE, class_ANY, type_ANY, type_SOA}
use Rattle.dns_rdata.specs.Data.{Data}
use Rattle.dns_rdata.specs.Raw.{RawRecord}
use Rattle.dns_rdata.specs.Record.{Record, without_data}
use Rattle.zone_tree.specs.Zone.{IsZone, rrset_of}
use Rattle.zone_tree.specs.declared.change.Change.TheVariants.{Put, Remove}
use Rattle.update_core.specs.Verdict.{prescan_of}
use Rattle.update_core.specs.Act.{entered, effect, has_lesser_soa, is_apex_set, is_last_apex_record, IsSent}
use Rattle.update_core.specs.Applied.{AreOf, is_beside_alias, set_behind}
use Rattle.update_core.specs.Overlay.{set_left, change_for, IsOfOneSet}
use Rattle.update_core.proofs.RowEffects.{some_behind, addition_of, addition_too_many, set_of, record_of, last_of, after_is}

-- a record that changes nothing has no effect
pub nothing_from : (zone : List Record) (r : RawRecord) → IsZone zone → AreOf zone r [] → effect zone r ≡ Some zone
nothing_from zone r h of = after_is zone r [] zone of refl h.limits.few

module _ (zone : List Record) (r : RawRecord) (h : IsZone zone) where
  left_in : (r.class == class_IN) ≡ true → set_left zone r ≡ set_behind zone r
  left_in class = ap (λ b. cond b (set_behind zone r) (if r.class == class_NONE then without_data (rrset_of zone r.owner r.rtype) r.octets else [])) class

  left_none : r.class ≡ class_NONE → set_left zone r ≡ without_data (rrset_of zone r.owner r.rtype) r.octets
  left_none class = rw class refl

  left_any : r.class ≡ class_ANY → set_left zone r ≡ []
  left_any class = rw class refl

  put_change : (set : List Record) → 0 < length set → change_for r set ≡ Put set
  put_change [] some = absurd (omega arith)
  put_change (s ∷ set) some = refl

  pub addition_row : IsSent r → prescan_of zone r ≡ None → (r.class == class_IN) ≡ true → is_beside_alias zone r ≡ false → r.rtype == type_SOA && not (has_lesser_soa zone r) ≡ false → length r.octets ≤ 4096
      → (d : Data) → d.rtype ≡ r.rtype → d.octets ≡ (entered r).rdata → IsOfOneSet zone r (Some d)
  addition_row sent passed class apart greater short d rtype octets = record {
    given = (class, rtype, octets);
    of = λ lawful.
        let is = left_in class in
        let some : 0 < length (set_left zone r) = subst (λ (l : List Record). 0 < length l) (sym is) (some_behind zone r) in
        addition_of zone r h sent passed class apart greater short (set_left zone r) (lawful some).1 is (change_for r (set_left zone r) ∷ []) (ap (λ c. c ∷ []) (put_change (set_left zone r) some));
    limit = λ class many. addition_too_many zone r h.rules class apart greater (subst (λ (l : List Record). 256 < length l) (left_in class) many);
  }

  pub set_row : r.class ≡ class_ANY → (r.rtype == type_ANY) ≡ false → is_apex_set zone r.owner r.rtype ≡ false → IsOfOneSet zone r None
  set_row class other apart = record {
    given = rw class refl;
    of = λ lawful.
        subst (λ (set : List Record). AreOf zone r (change_for r set ∷ [])) (sym (left_any class))
        (set_of zone r h class other apart r.owner (record { 0 = r.rtype }) (Remove r.owner (record { 0 = r.rtype }) ∷ []) refl refl refl);
    limit = λ is many. absurd (omega (arith, ap length (left_any class), many));
  }

  pub record_row : r.class ≡ class_NONE → is_last_apex_record zone r.owner r.rtype ≡ false → IsOfOneSet zone r None
  record_row class last = record {
    given = rw class refl;
    of = λ lawful. by (set_left zone r) (left_none class);
    limit = λ is many. absurd (no_class is);
  }
    where
      by : (set : List Record) → set ≡ without_data (rrset_of zone r.owner r.rtype) r.octets → AreOf zone r (change_for r set ∷ [])
      by [] is = last_of zone r h class last (sym is) r.owner (record { 0 = r.rtype }) (Remove r.owner (record { 0 = r.rtype }) ∷ []) refl refl refl
      by (s ∷ set) is = record_of zone r h class last (s ∷ set) is (λ none. some s set (is ∙ none)) (Put (s ∷ set) ∷ []) refl
        where
          some : (s : Record) (set : List Record) → (s ∷ set) ≢ []
          some s set e = let none = ap length e in absurd (omega arith)

      no_class : (r.class == class_IN) ≡ true → ⊥
      no_class is = let no : (class_NONE == class_IN) ≡ true = ap (λ n. n == class_IN) (sym class) ∙ is in cc

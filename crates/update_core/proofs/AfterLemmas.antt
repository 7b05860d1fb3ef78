-- An update's records one after another, and whether they change a zone.
use Rattle.std.proofs.Common.{◌≡◌, ◌≢◌, ℕ, zero, suc, ◌+◌, ◌<◌, ◌≤◌, Bool, true, false, ◌&&◌, ◌==◌, cond, if◌then◌else◌, List, [], ◌∷◌, length, drop, get_or, filter, All, Option, None, Some, refl, sym, ap, subst, ◌∙◌, arith, eq-eqb, true≢false}
use Rattle.std.specs.Prelude.{Contains}
use Rattle.std.specs.Option.{IfSome, option_map, option_or, option_and_then}
use Rattle.std.specs.Ordering.{is_eq}
use Rattle.std.specs.declared.cmp.Ordering.{Ordering}
use Rattle.std.specs.declared.cmp.Ordering.TheVariants.{Less, Equal, Greater}
use Rattle.std.specs.Cmp.Lexicographic.{pointwise}
use Rattle.std.proofs.lemmas.Bool.{eqb-true}
use Rattle.std.proofs.lemmas.Cmp.{tied_itself}
use Rattle.std.proofs.lemmas.List.Elements.{All-head, All-tail}
use Rattle.dns_name.specs.Order.{is_same_Decides}
use Rattle.dns_rdata.specs.declared.numbers.Rcode.{Rcode}
use Rattle.dns_rdata.specs.Record.{Record, IsLawful, record_cmp}
use Rattle.dns_rdata.specs.Raw.{RawRecord}
use Rattle.dns_rdata.specs.SerialOrder.{serial_less, serial_next}
use Rattle.dns_rdata.proofs.SerialLemmas.{less-same}
use Rattle.dns_message.specs.declared.update.Update.{Update}
use Rattle.zone_tree.specs.Zone.{IsZone, apex_of}
use Rattle.zone_tree.specs.Change.{is_same_record}
use Rattle.zone_tree.specs.Version.{zone_serial}
use Rattle.zone_tree.proofs.SetLemmas.{record_total}
use Rattle.update_core.specs.Verdict.{prescan, prescan_of}
use Rattle.update_core.specs.Act.{effect, effects, act, completed, at_serial}
use Rattle.update_core.proofs.ListLemmas.{by_test}
use Rattle.update_core.proofs.BesideLemmas.{kept, is_beside, effects_beside}
use Rattle.update_core.proofs.EffectKeeps.{same_prescan}
use Rattle.update_core.proofs.OneMore.{tied}
use Rattle.update_core.proofs.SerialLaw.{next_serial_less}

-- some of an update's records made a zone of another, and the others are left
pub record IsOnTheWay (zone made : List Record) (all left : List RawRecord) : Type 0 where
  pub same : effects zone all ≡ effects made left
  pub scanned : prescan made left ≡ None

pub way_first : (zone : List Record) (all : List RawRecord) → prescan zone all ≡ None → IsOnTheWay zone zone all all
way_first zone all scanned = record { same = refl; scanned = scanned }

no_first : (o p : Option Rcode) → option_or o p ≡ None → (o ≡ None) × (p ≡ None)
no_first None p e = (refl, e)
no_first (Some code) p e = absurd (cc)

item_first : (all : List RawRecord) (i : ℕ) (r : RawRecord) → i < length all → r ≡ get_or all i r → drop i all ≡ r ∷ drop (i + 1) all
item_first [] i r within is = absurd (omega arith)
item_first (s ∷ ss) zero r within is = ap (λ q. q ∷ ss) (sym is)
item_first (s ∷ ss) (suc i) r within is = let more = item_first ss i r (omega arith) is in let e : suc i + 1 ≡ suc (i + 1) = omega arith in more ∙ sym (ap (λ k. r ∷ drop k (s ∷ ss)) e)

module _ (zone made : List Record) (all : List RawRecord) (i : ℕ) (r : RawRecord) (within : i < length all) (is : r ≡ get_or all i r) (way : IsOnTheWay zone made all (drop i all)) where
  parts : (prescan_of made r ≡ None) × (prescan made (drop (i + 1) all) ≡ None)
  parts = no_first (prescan_of made r) (prescan made (drop (i + 1) all)) (ap (prescan made) (sym (item_first all i r within is)) ∙ way.scanned)

  pub way_scanned : prescan_of made r ≡ None
  way_scanned = parts.0

  behind : effects zone all ≡ option_and_then (λ next. effects next (drop (i + 1) all)) (effect made r)
  behind = way.same ∙ ap (effects made) (item_first all i r within is)

  pub way_next : (next : List Record) → effect made r ≡ Some next → apex_of next ≡ apex_of made → IsOnTheWay zone next all (drop (i + 1) all)
  way_next next does apex = record {
    same = behind ∙ ap (option_and_then (λ next. effects next (drop (i + 1) all))) does;
    scanned = same_prescan made next (drop (i + 1) all) apex ∙ parts.1;
  }

  pub way_limit : effect made r ≡ None → effects zone all ≡ None
  way_limit does = behind ∙ ap (option_and_then (λ next. effects next (drop (i + 1) all))) does

past_end : (all : List RawRecord) (i : ℕ) → length all ≤ i → drop i all ≡ []
past_end [] i h = none i
  where
    none : (i : ℕ) → drop {A = RawRecord} i [] ≡ []
    none zero = refl
    none (suc i) = refl
past_end (s ∷ ss) zero h = absurd (omega arith)
past_end (s ∷ ss) (suc i) h = past_end ss i (omega arith)

pub way_end : (zone made : List Record) (all : List RawRecord) (i : ℕ) → length all ≤ i → IsOnTheWay zone made all (drop i all) → effects zone all ≡ Some made
way_end zone made all i end way = way.same ∙ ap (effects made) (past_end all i end)

-- what a filter keeps
pub kept_contains : (q : Record → Bool) (zs : List Record) (s : Record) → Contains (filter q zs) s → Contains zs s
kept_contains q [] s h = h
kept_contains q (z ∷ zs) s h = by (q z) (λ m. kept_contains q zs s m) h
  where
    behind : Contains zs s → Contains (z ∷ zs) s
    behind more = (suc more.0, omega (arith, more.1), more.2)

    by : (b : Bool) → (Contains (filter q zs) s → Contains zs s) → Contains (cond b (z ∷ filter q zs) (filter q zs)) s → Contains (z ∷ zs) s
    by true rest (zero, l, e) = (zero, omega arith, e)
    by true rest (suc k, l, e) = behind (rest (k, omega arith, e))
    by false rest m = behind (rest m)

pub contains_kept : (q : Record → Bool) (zs : List Record) (s : Record) → q s ≡ true → Contains zs s → Contains (filter q zs) s
contains_kept q [] s pass h = h
contains_kept q (z ∷ zs) s pass (zero, l, e) = let first : q z ≡ true = ap q e ∙ pass in rw first (zero, omega arith, e)
contains_kept q (z ∷ zs) s pass (suc k, l, e) = by (q z) (contains_kept q zs s pass (k, omega arith, e))
  where
    by : (b : Bool) → Contains (filter q zs) s → Contains (cond b (z ∷ filter q zs) (filter q zs)) s
    by true more = (suc more.0, omega (arith, more.1), more.2)
    by false more = more

-- what an update's records leave beside their owners
pub beside_of : (zone after : List Record) (rs : List RawRecord) → effects zone rs ≡ Some after → kept (is_beside rs) after ≡ kept (is_beside rs) zone
beside_of zone after rs does = subst (λ o. IfSome o (λ next. kept (is_beside rs) next ≡ kept (is_beside rs) zone)) does (effects_beside zone rs)

-- a zone and what is completed of another
same_itself : (zone : List Record) → pointwise is_same_record zone zone ≡ true
same_itself [] = refl
same_itself (s ∷ ss) = let tie : is_eq (record_cmp s s) ≡ true = ap is_eq (tied_itself record_total s) in let ttl = eq-eqb s.ttl s.ttl refl in rw (tie, ttl) (same_itself ss)

halves : (a b : Bool) → a && b ≡ true → (a ≡ true) × (b ≡ true)
halves true b e = (refl, e)
halves false b e = cc

equal_from : (o : Ordering) → is_eq o ≡ true → o ≡ Equal
equal_from Less e = cc
equal_from Equal e = refl
equal_from Greater e = cc

same_records : (zone after : List Record) → All IsLawful zone → All IsLawful after → pointwise is_same_record zone after ≡ true → zone ≡ after
same_records [] [] is also e = refl
same_records [] (t ∷ ts) is also e = cc
same_records (s ∷ ss) [] is also e = cc
same_records (s ∷ ss) (t ∷ ts) is also e =
    let parts = halves (is_same_record s t) (pointwise is_same_record ss ts) e in
    let first = halves (is_eq (record_cmp s t)) (s.ttl == t.ttl) parts.0 in
    let tie = tied s t (equal_from (record_cmp s t) first.0) in
    let owner = (All-head IsLawful s ss is).folded ∙ (is_same_Decides s.owner t.owner).0 tie.owner ∙ sym (All-head IsLawful t ts also).folded in
    let ttl = eqb-true s.ttl t.ttl first.1 in
    let rest = same_records ss ts (All-tail IsLawful s ss is) (All-tail IsLawful t ts also) parts.1 in
    λ i. let own : Record = record { owner = owner i; rtype = tie.rtype i; ttl = ttl i; rdata = tie.rdata i } in own ∷ rest i

pub act_same : (zone after : List Record) (update : Update) → effects zone update.updates ≡ Some after → zone ≡ after → act zone update ≡ Some zone
act_same zone after update does same =
    let test : pointwise is_same_record zone after ≡ true = ap (pointwise is_same_record zone) (sym same) ∙ same_itself zone in
    ap (option_map (completed zone)) does ∙ rw test refl

abbrev pub finished : List Record → List Record → List Record
finished zone after = if serial_less (zone_serial zone) (zone_serial after) then after else at_serial (serial_next (zone_serial zone)) after

pub act_other : (zone after : List Record) (update : Update) → IsZone zone → IsZone after → effects zone update.updates ≡ Some after → zone ≢ after → act zone update ≡ Some (finished zone after)
act_other zone after update is also does apart =
    ap (option_map (completed zone)) does ∙ by (pointwise is_same_record zone after) refl
  where
    by : (b : Bool) → pointwise is_same_record zone after ≡ b → Some (cond b zone (finished zone after)) ≡ Some (finished zone after)
    by true e = absurd (apart (same_records zone after is.rules.lawful also.rules.lawful e))
    by false e = refl

-- and it is another zone
pub finished_other : (zone after : List Record) → IsZone zone → IsZone after → zone ≢ after → finished zone after ≢ zone
finished_other zone after is also apart =
    by_test (λ (z : List Record). z ≢ zone) (serial_less (zone_serial zone) (zone_serial after)) after (at_serial (serial_next (zone_serial zone)) after)
    (λ _ e. apart (sym e))
    (λ _ e. true≢false (sym (next_serial_less zone after is also) ∙ ap (λ z. serial_less (zone_serial zone) (zone_serial z)) e ∙ less-same (zone_serial zone)))

pub act_limit : (zone : List Record) (update : Update) → effects zone update.updates ≡ None → act zone update ≡ None
act_limit zone update does = ap (option_map (completed zone)) does

-- The first record that shows a fault, by the sets of the records up to it.
use Rattle.std.proofs.Common.{◌≡◌, ◌≢◌, refl, sym, ap, ◌∙◌, subst, ℕ, zero, suc, ◌<◌, ◌≤◌, Bool, true, false, cond, not, ◌&&◌, ◌||◌, ◌==◌, nat_lt, List, [], ◌∷◌, ◌⊎◌, inl, inr, length, take, get_or, arith, true≢false, Option, Some, None, Result, Ok, Err, All}
use Rattle.std.specs.Prelude.{IfOk, is_some}
use Rattle.std.specs.Bool.{OnFalse, OnTrue}
use Rattle.std.specs.List.{list_any, AllPairs}
use Rattle.std.proofs.lemmas.Bool.Decides.{nat_tests}
use Rattle.dns_name.specs.Name.{is_under, fold_name}
use Rattle.dns_rdata.specs.Numbers.{type_NS}
use Rattle.dns_rdata.specs.Record.{Record}
use Rattle.zone_tree.specs.declared.fault.BrokenRule.{BrokenRule}
use Rattle.zone_tree.specs.declared.fault.BrokenRule.TheVariants as rule
use Rattle.zone_tree.specs.Fault.{IsFirstFault}
use Rattle.zone_tree.specs.Sets.{records_in, AreAscending, IsSetBefore}
use Rattle.zone_tree.specs.Zone.{soa_of, apex_of, rrset_of, is_alone, is_wild}
use Rattle.zone_tree.specs.Fault.{place_of_rule}
use Rattle.zone_tree.proofs.RuleLemmas.{each_from_none, not_each, none_passes, not_none}
use Rattle.zone_tree.proofs.ZoneLemmas.{records_few}
use Rattle.record_text.specs.declared.cause.Cause.TheVariants.{Limit, Apex, Outside, Conflict}
use Rattle.master_file.specs.declared.fault.FileFault.{FileFault}
use Rattle.master_file.specs.declared.record_entry.RecordEntry.{RecordEntry}
use Rattle.master_file.specs.declared.faulty.Sought.{Sought}
use Rattle.master_file.specs.declared.faulty.Sought.TheVariants as sought
use Rattle.master_file.specs.FaultyLine.{shows}
use Rattle.master_file.specs.Records.{Read}
use Rattle.master_file.specs.ZoneText.{with_one, with_all, first_line, is_too_many, is_second_soa, is_conflict, outside_line, reported, told_whole, zone_records, zone_of_all, zone_of_read}
use Rattle.master_file.proofs.IsZoneLemmas.{few_none, apart_none, are_few, are_apart, aliases_alone, no_wild_cuts, soa_count, len_zone, server_count, not_zero, not_nil}
use Rattle.master_file.proofs.JudgeLemmas.{holds_of_all, no_line, limits_judge, soa_judges}
use Rattle.master_file.proofs.RuleLemmas.{conflicts_judge}
use Rattle.master_file.proofs.ShownLemmas.{apex_folded, apex_shown}

-- a fact by a test
pub on_true : (P : Type 0) (b : Bool) → (b ≡ true → P) → OnTrue b P
on_true P true f = f refl
on_true P false f = tt

pub on_false : (P : Type 0) (b : Bool) → (b ≡ false → P) → OnFalse b P
on_false P true f = tt
on_false P false f = f refl

-- a text without a fault
pub none_left : (found fault : Option FileFault) → found ≡ fault → is_some found ≡ false → fault ≡ None
none_left None fault e none = sym e
none_left (Some f) fault e none = absurd (true≢false none)

-- where none of all shows a fault, none of the first does
none_first : (b : Bool) (line : ℕ) (o : Option ℕ) → cond b (Some line) o ≡ None → (b ≡ false) × (o ≡ None)
none_first true line o e = let no : ⊥ = cc in absurd no
none_first false line o e = (refl, e)

module _ (test : List Record → RecordEntry → Bool) where
  pub front_none : (kept : List Record) (n : ℕ) (ps : List RecordEntry) → first_line test kept ps ≡ None → first_line test kept (take n ps) ≡ None
  front_none kept zero [] e = refl
  front_none kept zero (p ∷ ps) e = refl
  front_none kept (suc n) [] e = refl
  front_none kept (suc n) (p ∷ ps) e =
      let parts = none_first (test kept p) p.line (first_line test (with_one kept p) ps) e in
      ap (λ (b : Bool). cond b (Some p.line) (first_line test (with_one kept p) (take n ps))) parts.0 ∙ front_none (with_one kept p) n ps parts.1

  -- the first is the one with which the first show it
  one_more : (b : Bool) (line : ℕ) → (cond b (Some line) None ≡ None → ⊥) → (o : Option ℕ) → cond b (Some line) o ≡ Some line
  one_more true line some o = refl
  one_more false line some o = absurd (some refl)

  none_in : (kept : List Record) (ps : List RecordEntry) → first_line test kept (take 0 ps) ≡ None
  none_in kept [] = refl
  none_in kept (p ∷ ps) = refl

  pub first_at : (kept : List Record) (n : ℕ) (ps : List RecordEntry) (d : RecordEntry) → first_line test kept (take n ps) ≡ None → (first_line test kept (take (suc n) ps) ≡ None → ⊥) → first_line test kept ps ≡ Some (get_or ps n d).line
  first_at kept zero [] d none some = absurd (some refl)
  first_at kept (suc n) [] d none some = absurd (some refl)
  first_at kept zero (p ∷ ps) d none some =
      one_more (test kept p) p.line (λ e. some (ap (λ (o : Option ℕ). cond (test kept p) (Some p.line) o) (none_in (with_one kept p) ps) ∙ e)) (first_line test (with_one kept p) ps)
  first_at kept (suc n) (p ∷ ps) d none some =
      let parts = none_first (test kept p) p.line (first_line test (with_one kept p) (take n ps)) none in
      ap (λ (b : Bool). cond b (Some p.line) (first_line test (with_one kept p) ps)) parts.0
      ∙ first_at (with_one kept p) n ps d parts.1 (λ e. some (ap (λ (b : Bool). cond b (Some p.line) (first_line test (with_one kept p) (take (suc n) ps))) parts.0 ∙ e))

-- its line is that of the first
pub line_shown : {E : Type 0} (test : List Record → RecordEntry → Bool) (ps : List RecordEntry) (n : ℕ) (line : Result ℕ E) → first_line test [] (take n ps) ≡ None → (first_line test [] (take (suc n) ps) ≡ None → ⊥) → IfOk line (λ l. (p : RecordEntry) → l ≡ (get_or ps n p).line) → n < length ps → IfOk line (λ l. first_line test [] ps ≡ Some l)
line_shown test [] n (Ok l) none some is within = absurd (omega arith)
line_shown test (p ∷ ps) n (Ok l) none some is within = first_at test [] n (p ∷ ps) p none some ∙ ap Some (sym (is p))
line_shown test ps n (Err e) none some is within = tt

-- whether sets are few, have one SOA, or a conflict
at_most : (n m : ℕ) → (m < n → ⊥) → n ≤ m
at_most n m h = by (nat_lt m n) refl
  where
    by : (b : Bool) → nat_lt m n ≡ b → n ≤ m
    by true e = absurd (h (grind (arith, nat_tests)))
    by false e = grind (arith, nat_tests)

module _ (ps : List RecordEntry) (sets : List (List Record)) (is : records_in sets ≡ zone_records ps) where
  pub few_shown : AreAscending sets → length (records_in sets) ≤ 1000000 → first_line is_too_many [] ps ≡ None
  few_shown rising few =
      (no_line limits_judge [] ps tt (are_few ps (subst (λ (zone : List Record). length zone ≤ 1000000) is few)
      (subst (λ (zone : List Record). All (λ r. length (rrset_of zone r.owner r.rtype) ≤ 256) zone) is (records_few sets rising)))).0

  pub many_shown : 1000000 < length (records_in sets) → first_line is_too_many [] ps ≡ None → ⊥
  many_shown many none =
      let few = holds_of_all limits_judge [] ps tt few_none none in
      let a = few.all in let b = len_zone ps in let c = ap length is in omega arith

  pub one_shown : length (soa_of (records_in sets)) ≤ 1 → first_line is_second_soa [] ps ≡ None
  one_shown one = (no_line soa_judges [] ps tt (let a = soa_count ps in let b = ap (λ (zone : List Record). length (soa_of zone)) is in omega arith)).0

  pub second_shown : 1 < length (soa_of (records_in sets)) → first_line is_second_soa [] ps ≡ None → ⊥
  second_shown two none =
      let one = holds_of_all soa_judges [] ps tt (omega arith) none in
      let a = soa_count ps in let b = ap (λ (zone : List Record). length (soa_of zone)) is in omega arith

  abbrev crowded : List Record → Bool
  crowded zone = list_any (λ r. not (is_alone zone r)) zone

  abbrev wild : List Record → Bool
  wild zone = list_any (λ r. is_wild r.owner && r.rtype == type_NS) zone

  neither : (a b : Bool) → (a || b) ≡ false → (a ≡ false) × (b ≡ false)
  neither true b e = absurd (true≢false e)
  neither false b e = (refl, e)

  either : (a b : Bool) → (a || b) ≡ true → (a ≡ true → ⊥) → (b ≡ true → ⊥) → ⊥
  either true b e f g = f refl
  either false b e f g = g e

  pub apart_shown : (crowded (records_in sets) || wild (records_in sets)) ≡ false → first_line is_conflict [] ps ≡ None
  apart_shown e =
      let parts = neither (crowded (zone_records ps)) (wild (zone_records ps)) (ap (λ (zone : List Record). crowded zone || wild zone) (sym is) ∙ e) in
      (no_line conflicts_judge [] ps tt (are_apart ps (each_from_none (is_alone (zone_records ps)) (zone_records ps) parts.0) (none_passes (λ r. is_wild r.owner && r.rtype == type_NS) (zone_records ps) parts.1))).0

  pub conflict_shown : (crowded (records_in sets) || wild (records_in sets)) ≡ true → first_line is_conflict [] ps ≡ None → ⊥
  conflict_shown e none =
      let apart = holds_of_all conflicts_judge [] ps tt apart_none none in
      either (crowded (zone_records ps)) (wild (zone_records ps)) (ap (λ (zone : List Record). crowded zone || wild zone) (sym is) ∙ e)
      (λ some. not_each (is_alone (zone_records ps)) (zone_records ps) some (aliases_alone ps apart))
      (λ some. not_none (λ r. is_wild r.owner && r.rtype == type_NS) (zone_records ps) some (no_wild_cuts ps apart))

-- which rule sets break first, of those that are told first
pub one_soa_by : (broken : BrokenRule) (sets : List (List Record)) → AllPairs IsSetBefore sets → length (records_in sets) ≤ 1000000 → IsFirstFault broken sets → (broken ≡ rule.SecondSoa → ⊥) → length (soa_of (records_in sets)) ≤ 1
one_soa_by rule.TooManyRecords sets rising few is other = let many = is.broken in absurd (omega arith)
one_soa_by rule.NotAscending sets rising few is other = absurd (is.broken rising)
one_soa_by rule.NoSoa sets rising few is other = let none = ap length is.broken in omega arith
one_soa_by rule.SecondSoa sets rising few is other = absurd (other refl)
one_soa_by rule.Outside sets rising few is other = at_most (length (soa_of (records_in sets))) 1 (is.first rule.SecondSoa (omega arith))
one_soa_by rule.NoNameServer sets rising few is other = at_most (length (soa_of (records_in sets))) 1 (is.first rule.SecondSoa (omega arith))
one_soa_by rule.AliasNotAlone sets rising few is other = at_most (length (soa_of (records_in sets))) 1 (is.first rule.SecondSoa (omega arith))
one_soa_by rule.WildCut sets rising few is other = at_most (length (soa_of (records_in sets))) 1 (is.first rule.SecondSoa (omega arith))

-- an apex in lower case has the same owners outside it
pub outside_folded : (apex : List (List ℕ)) (ps : List RecordEntry) → outside_line (fold_name apex) ps ≡ outside_line apex ps
outside_folded apex [] = refl
outside_folded apex (p ∷ ps) = ap (λ (b : Bool). cond b (outside_line (fold_name apex) ps) (Some p.line)) (apex_folded p.owner apex) ∙ ap (λ (o : Option ℕ). cond (is_under p.owner apex) o (Some p.line)) (outside_folded apex ps)

-- sets in order that break one of the first two rules are too many
pub many_by : (broken : BrokenRule) (sets : List (List Record)) → AllPairs IsSetBefore sets → (broken ≡ rule.TooManyRecords) ⊎ (broken ≡ rule.NotAscending) → IsFirstFault broken sets → 1000000 < length (records_in sets)
many_by broken sets rising (inl e) is = (subst (λ (b : BrokenRule). IsFirstFault b sets) e is).broken
many_by broken sets rising (inr e) is = absurd ((subst (λ (b : BrokenRule). IsFirstFault b sets) e is).broken rising)

-- where the first records are too many, what is sought is too many
pub many_first : (what : Sought) (n : ℕ) (all ps : List RecordEntry) → ps ≡ take n all → (what ≢ sought.Limit → first_line is_too_many [] all ≡ None) → (first_line is_too_many [] ps ≡ None → ⊥) → first_line (shows what) [] (take n all) ≡ None → ⊥
many_first sought.Limit n all ps is few many none = many (ap (first_line is_too_many []) is ∙ none)
many_first sought.SecondSoa n all ps is few many none = many (ap (first_line is_too_many []) is ∙ front_none is_too_many [] n all (few (λ e. cc)))
many_first sought.Conflict n all ps is few many none = many (ap (first_line is_too_many []) is ∙ front_none is_too_many [] n all (few (λ e. cc)))

pub none_at_all : (test : List Record → RecordEntry → Bool) (ps : List RecordEntry) → first_line test [] (take 0 ps) ≡ None
none_at_all test [] = refl
none_at_all test (p ∷ ps) = refl

-- the fault that is told after the whole of a text
abbrev zone_by : Option ℕ → Bool → Bool → Option ℕ → Option ℕ → List RecordEntry → Result (List Record) FileFault
zone_by second none unserved outside conflict ps = reported Apex second (told_whole none (told_whole unserved (reported Outside outside (reported Conflict conflict (Ok (zone_records ps))))))

pub none_by : (broken : BrokenRule) (sets : List (List Record)) → AllPairs IsSetBefore sets → length (records_in sets) ≤ 1000000 → IsFirstFault broken sets → place_of_rule broken ≤ 4 → length (soa_of (records_in sets)) ≤ 1 → length (soa_of (records_in sets)) ≡ 0
none_by rule.TooManyRecords sets rising few is early one = let many = is.broken in absurd (omega arith)
none_by rule.NotAscending sets rising few is early one = absurd (is.broken rising)
none_by rule.NoSoa sets rising few is early one = ap length is.broken
none_by rule.SecondSoa sets rising few is early one = let two = is.broken in absurd (omega arith)
none_by rule.Outside sets rising few is early one = absurd (omega arith)
none_by rule.NoNameServer sets rising few is early one = absurd (omega arith)
none_by rule.AliasNotAlone sets rising few is early one = absurd (omega arith)
none_by rule.WildCut sets rising few is early one = absurd (omega arith)

module _ (read : Read) (sets : List (List Record)) (is : records_in sets ≡ zone_records read.rrs) (whole : read.fault ≡ None) (few : first_line is_too_many [] read.rrs ≡ None) where
  abbrev all : List RecordEntry
  all = read.rrs

  abbrev kept : List Record
  kept = with_all [] read.rrs

  of_all : zone_of_read read ≡ zone_of_all all
  of_all =
      ap (λ (o : Option ℕ). reported Limit o (elim read.fault as (λ _. Result (List Record) FileFault) [ Some f ↦ Err f | None ↦ zone_of_all all ])) few
      ∙ ap (λ (f : Option FileFault). elim f as (λ _. Result (List Record) FileFault) [ Some g ↦ Err g | None ↦ zone_of_all all ]) whole

  abbrev none_there : Bool
  none_there = length (soa_of kept) == 0

  abbrev none_served : Bool
  none_served = length (rrset_of kept (apex_of kept) type_NS) == 0

  soas : length (soa_of (records_in sets)) ≡ length (soa_of kept)
  soas = ap (λ (zone : List Record). length (soa_of zone)) is ∙ soa_count all

  servers : length (rrset_of (records_in sets) (apex_of (records_in sets)) type_NS) ≡ length (rrset_of kept (apex_of kept) type_NS)
  servers = ap (λ (zone : List Record). length (rrset_of zone (apex_of zone) type_NS)) is ∙ server_count all

  pub told_second : (line : ℕ) → first_line is_second_soa [] all ≡ Some line → zone_of_read read ≡ Err (record { line = line; cause = Apex })
  told_second line e = of_all ∙ ap (λ (o : Option ℕ). zone_by o none_there none_served (outside_line (apex_of kept) all) (first_line is_conflict [] all) all) e

  pub told_none : length (soa_of (records_in sets)) ≡ 0 → zone_of_read read ≡ Err (record { line = 0; cause = Apex })
  told_none none =
      of_all ∙ (λ i. zone_by (one_shown all sets is (omega arith) i) (ap (λ (n : ℕ). n == 0) (sym soas ∙ none) i) none_served (outside_line (apex_of kept) all) (first_line is_conflict [] all) all)

  module _ (one : length (soa_of (records_in sets)) ≡ 1) where
    pub told_unserved : rrset_of (records_in sets) (apex_of (records_in sets)) type_NS ≡ [] → zone_of_read read ≡ Err (record { line = 0; cause = Apex })
    told_unserved none =
        of_all ∙ (λ i. zone_by (one_shown all sets is (omega arith) i) (ap (λ (n : ℕ). n == 0) (sym soas ∙ one) i) (ap (λ (n : ℕ). n == 0) (sym servers ∙ ap length none) i) (outside_line (apex_of kept) all) (first_line is_conflict [] all) all)

    module _ (some : rrset_of (records_in sets) (apex_of (records_in sets)) type_NS ≢ []) (apex : List (List ℕ)) (at : apex ≡ apex_of (records_in sets)) where
      outside : outside_line apex all ≡ outside_line (apex_of kept) all
      outside = ap (λ (a : List (List ℕ)). outside_line a all) (at ∙ ap apex_of is ∙ apex_shown all kept) ∙ outside_folded (apex_of kept) all

      served : none_served ≡ false
      served = not_zero (length (rrset_of kept (apex_of kept) type_NS)) (let a = servers in let b = not_nil (rrset_of (records_in sets) (apex_of (records_in sets)) type_NS) some in omega arith)

      pub told_outside : (line : ℕ) → Some line ≡ outside_line apex all → zone_of_read read ≡ Err (record { line = line; cause = Outside })
      told_outside line e =
          of_all ∙ (λ i. zone_by (one_shown all sets is (omega arith) i) (ap (λ (n : ℕ). n == 0) (sym soas ∙ one) i) (served i) ((sym outside ∙ sym e) i) (first_line is_conflict [] all) all)

      pub told_conflict : (line : Option ℕ) → first_line is_conflict [] all ≡ line → None ≡ outside_line apex all → zone_of_read read ≡ reported Conflict line (Ok (zone_records all))
      told_conflict line shown e =
          of_all ∙ (λ i. zone_by (one_shown all sets is (omega arith) i) (ap (λ (n : ℕ). n == 0) (sym soas ∙ one) i) (served i) ((sym outside ∙ sym e) i) (shown i) all)

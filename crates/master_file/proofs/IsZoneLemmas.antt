-- A text's records are a zone exactly where no fault is told of them.
use Rattle.std.proofs.Common.{◌≡◌, ◌≢◌, refl, sym, ap, ◌∙◌, subst, ℕ, ◌+◌, ◌<◌, ◌≤◌, ◌^◌, Bool, true, false, not, ◌&&◌, ◌||◌, ◌==◌, nat_lt, List, [], ◌∷◌, map, length, All, arith, true≢false, Option, Some, None, Result, Ok, Err}
use Rattle.std.specs.List.{filter, AllByRecursion}
use Rattle.std.proofs.lemmas.Bool.Decides.{Decides-eqb, nat_tests}
use Rattle.std.proofs.lemmas.List.{length-map}
use Rattle.std.proofs.lemmas.List.Elements.{All-from_recursion, recursion_from_All}
use Rattle.dns_name.specs.Name.{is_same, is_under, fold_name}
use Rattle.dns_name.specs.Order.{is_same_Decides}
use Rattle.dns_rdata.specs.Numbers.{type_NS, type_CNAME, type_SOA}
use Rattle.dns_rdata.specs.Record.{Record, IsLawful}
use Rattle.zone_tree.specs.Zone.{stands_at, is_of, rrset_of, rrsets_of, soa_of, apex_of, is_wild, is_alone, share_ttl, IsBefore, IsZone}
use Rattle.zone_tree.proofs.Rising.{each_weaker, each_map, each_always, each_both, pairs_from_rises}
use Rattle.master_file.specs.declared.record_entry.RecordEntry.{RecordEntry}
use Rattle.record_text.specs.declared.cause.Cause.{Cause}
use Rattle.record_text.specs.declared.cause.Cause.TheVariants.{Limit, Outside, Apex, Conflict}
use Rattle.master_file.specs.declared.fault.FileFault.{FileFault}
use Rattle.master_file.specs.ZoneText.{record_in, with_all, timed, first_line, is_too_many, is_second_soa, is_conflict, outside_line, reported, told_whole, zone_of_all, zone_of_read, zone_records}
use Rattle.master_file.specs.Records.{Read}
use Rattle.master_file.proofs.KeptLemmas.{one, count_cons, same_set}
use Rattle.master_file.proofs.JudgeLemmas.{ascends_all, holds_of_all, no_line, AreFew, limits_judge, HasOneSoa, soa_judges}
use Rattle.master_file.proofs.RuleLemmas.{AreApart, conflicts_judge, is_outside, AreInside, outside_judges, outside_first, is_wild_cut, same_at}
use Rattle.master_file.proofs.ShownLemmas.{shown, count_map, shown_at, shown_of, shown_soa, shown_cut, shown_outside, apex_folded, apex_shown, ascends_shown, share_shown, lawful_shown, is_read, each_read, each_of_all, timed_rdata}
use Rattle.dns_rdata.proofs.NameLemmas.{fold_name-fold_name}

-- what the records kept of a text hold where it is a zone's
pub record AreOfZone (kept : List Record) : Type 0 where
  pub few : AreFew kept
  pub one_soa : HasOneSoa kept
  pub apart : AreApart kept
  pub inside : AreInside (apex_of kept) kept
  pub soa : (length (soa_of kept) == 0) ≡ false
  pub servers : (length (rrset_of kept (apex_of kept) type_NS) == 0) ≡ false

-- a record that is read
pub record IsReadable (p : RecordEntry) : Type 0 where
  pub lawful : IsLawful (record_in p)
  pub short : length p.rdata.octets ≤ 4096

told_ok : (cause : Cause) (o : Option ℕ) (next : Result (List Record) FileFault) (zone : List Record) → reported cause o next ≡ Ok zone → (o ≡ None) × (next ≡ Ok zone)
told_ok cause None next zone e = (refl, e)
told_ok cause (Some line) next zone e = let no : ⊥ = cc in absurd no

whole_ok : (b : Bool) (next : Result (List Record) FileFault) (zone : List Record) → told_whole b next ≡ Ok zone → (b ≡ false) × (next ≡ Ok zone)
whole_ok true next zone e = let no : ⊥ = cc in absurd no
whole_ok false next zone e = (refl, e)

pub few_none : AreFew []
few_none = record { all = omega arith; each = λ owner rtype. omega arith }

pub apart_none : AreApart []
apart_none = record { alone = λ owner some. omega arith; cuts = omega arith }

abbrev kept_of : List RecordEntry → List Record
kept_of ps = with_all [] ps

-- where no fault is told, they hold it
pub of_zone : (ps : List RecordEntry) (zone : List Record) → first_line is_too_many [] ps ≡ None → zone_of_all ps ≡ Ok zone → AreOfZone (with_all [] ps) × (zone ≡ zone_records ps)
of_zone ps zone few e =
    let kept = with_all [] ps in
    let apex = apex_of kept in
    let fifth = reported Conflict (first_line is_conflict [] ps) (Ok (zone_records ps)) in
    let fourth = reported Outside (outside_line apex ps) fifth in
    let third = told_whole (length (rrset_of kept apex type_NS) == 0) fourth in
    let second = told_whole (length (soa_of kept) == 0) third in
    let a = told_ok Apex (first_line is_second_soa [] ps) second zone e in
    let b = whole_ok (length (soa_of kept) == 0) third zone a.1 in
    let c = whole_ok (length (rrset_of kept apex type_NS) == 0) fourth zone b.1 in
    let d = told_ok Outside (outside_line apex ps) fifth zone c.1 in
    let f = told_ok Conflict (first_line is_conflict [] ps) (Ok (zone_records ps)) zone d.1 in (
      record {
        few = holds_of_all limits_judge [] ps tt few_none few;
        one_soa = holds_of_all soa_judges [] ps tt (omega arith) a.0;
        apart = holds_of_all conflicts_judge [] ps tt apart_none f.0;
        inside = holds_of_all (outside_judges apex) [] ps tt (omega arith) (sym (outside_first apex [] ps) ∙ d.0);
        soa = b.0;
        servers = c.0;
      },
      cc (f.1),
    )

-- and where they hold it, none is told
pub ok_zone : (ps : List RecordEntry) → AreOfZone (with_all [] ps) → (first_line is_too_many [] ps ≡ None) × (zone_of_all ps ≡ Ok (zone_records ps))
ok_zone ps h =
    let kept = with_all [] ps in
    let apex = apex_of kept in
    let none = no_line limits_judge [] ps tt h.few in
    let second = no_line soa_judges [] ps tt h.one_soa in
    let outside = no_line (outside_judges apex) [] ps tt h.inside in
    let conflict = no_line conflicts_judge [] ps tt h.apart in (
      none.0,
      ap (λ (o : Option ℕ). reported Apex o (told_whole (length (soa_of kept) == 0) (told_whole (length (rrset_of kept apex type_NS) == 0) (reported Outside (outside_line apex ps) (reported Conflict (first_line is_conflict [] ps) (Ok (zone_records ps))))))) second.0
          ∙ ap (λ (b : Bool). told_whole b (told_whole (length (rrset_of kept apex type_NS) == 0) (reported Outside (outside_line apex ps) (reported Conflict (first_line is_conflict [] ps) (Ok (zone_records ps)))))) h.soa
          ∙ ap (λ (b : Bool). told_whole b (reported Outside (outside_line apex ps) (reported Conflict (first_line is_conflict [] ps) (Ok (zone_records ps))))) h.servers
          ∙ ap (λ (o : Option ℕ). reported Outside o (reported Conflict (first_line is_conflict [] ps) (Ok (zone_records ps)))) (outside_first apex [] ps ∙ outside.0)
          ∙ ap (λ (o : Option ℕ). reported Conflict o (Ok (zone_records ps))) conflict.0,
    )

-- what a test shows none of, and each of which it shows none
none_each : (q : Record → Bool) (rs : List Record) → length (filter q rs) ≤ 0 → AllByRecursion (λ r. q r ≡ false) rs
none_each q [] h = tt
none_each q (r ∷ rs) h = by (q r) refl (none_each q rs)
  where
    by : (b : Bool) → q r ≡ b → (length (filter q rs) ≤ 0 → AllByRecursion (λ s. q s ≡ false) rs) → AllByRecursion (λ s. q s ≡ false) (r ∷ rs)
    by true e more = let c = count_cons q r rs in let first : one (q r) ≡ 1 = ap one e in absurd (omega arith)
    by false e more = let c = count_cons q r rs in (e, more (omega arith))

each_none : (q : Record → Bool) (rs : List Record) → AllByRecursion (λ r. q r ≡ false) rs → length (filter q rs) ≤ 0
each_none q [] h = omega arith
each_none q (r ∷ rs) h = let c = count_cons q r rs in let first : one (q r) ≡ 0 = ap one h.0 in let more = each_none q rs h.1 in omega arith

-- each that its own test shows is counted by it
each_counted : (g : Record → Record → Bool) (rs : List Record) → AllByRecursion (λ r. g r r ≡ true → 0 < length (filter (g r) rs)) rs
each_counted g [] = tt
each_counted g (r ∷ rs) = (
  λ e. let c = count_cons (g r) r rs in let first : one (g r r) ≡ 1 = ap one e in omega arith,
  each_weaker (λ s. g s s ≡ true → 0 < length (filter (g s) rs)) (λ s. g s s ≡ true → 0 < length (filter (g s) (r ∷ rs))) (λ s k e. let c = count_cons (g s) r rs in let some = k e in omega arith) rs (each_counted g rs),
)

-- what holds of each holds of one that a test shows
from_counted : (P : Record → Type 0) (q : Record → Bool) (C : Type 0) → ((r : Record) → P r → q r ≡ true → C) → (rs : List Record) → AllByRecursion P rs → 0 < length (filter q rs) → C
from_counted P q C f [] h some = absurd (omega arith)
from_counted P q C f (r ∷ rs) h some = by (q r) refl (from_counted P q C f rs h.1)
  where
    by : (b : Bool) → q r ≡ b → (0 < length (filter q rs) → C) → C
    by true e more = f r h.0 e
    by false e more = let c = count_cons q r rs in let first : one (q r) ≡ 0 = ap one e in more (omega arith)

not_outside : (name apex : List (List ℕ)) → not (is_under name apex) ≡ false → is_under name apex ≡ true
not_outside name apex e = by (is_under name apex) e
  where
    by : (b : Bool) → not b ≡ false → b ≡ true
    by true k = refl
    by false k = absurd (true≢false k)

own_same : (owner : List (List ℕ)) → is_same owner owner ≡ true
own_same owner = (is_same_Decides owner owner).1 refl

eqb_own : (n : ℕ) → (n == n) ≡ true
eqb_own n = (Decides-eqb n n).1 refl

alone_by : (alias : Bool) (n aliases : ℕ) → (alias ≡ true → 0 < n) → (alias ≡ true → 0 < aliases) → (0 < aliases → n ≤ 1) → (not alias || n == 1) ≡ true
alone_by true n aliases some k f = let a = some refl in let b = f (k refl) in let e : n ≡ 1 = omega arith in ap (λ (m : ℕ). m == 1) e
alone_by false n aliases some k f = refl

all_from_each : (P : Record → Type 0) (rs : List Record) → AllByRecursion P rs → All P rs
all_from_each P rs h = All-from_recursion P rs h

both_true : (a b : Bool) → (a && b) ≡ true → (a ≡ true) × (b ≡ true)
both_true true b e = (refl, e)
both_true false b e = absurd (true≢false (sym e))

alias_alone : (a b : Bool) → a ≡ true → (not a || b) ≡ true → b ≡ true
alias_alone true b e h = h
alias_alone false b e h = absurd (true≢false (sym e))

pub not_zero : (n : ℕ) → 0 < n → (n == 0) ≡ false
not_zero n h = grind (arith, nat_tests)

pub not_nil : (rs : List Record) → rs ≢ [] → 0 < length rs
not_nil [] h = absurd (h refl)
not_nil (r ∷ rs) h = omega arith

-- where aliases stand alone and no cut at `*`, they are apart
alone_of : (zone : List Record) (owner : List (List ℕ)) → All (λ r. is_alone zone r ≡ true) zone → 0 < length (rrset_of zone owner type_CNAME) → length (rrsets_of zone owner) ≤ 1
alone_of zone owner each some =
    from_counted (λ (r : Record). is_alone zone r ≡ true) (is_of owner type_CNAME) (length (rrsets_of zone owner) ≤ 1)
    (λ r alone same.
    let parts = both_true (is_same r.owner owner) (r.rtype == type_CNAME) same in
    let n : (length (rrsets_of zone r.owner) == 1) ≡ true = alias_alone (r.rtype == type_CNAME) (length (rrsets_of zone r.owner) == 1) parts.1 alone in
    let a = same_at zone r.owner owner parts.0 in
    let b = (Decides-eqb (length (rrsets_of zone r.owner)) 1).0 n in
    omega arith)
    zone (recursion_from_All (λ (r : Record). is_alone zone r ≡ true) zone each) some

pub apart_of : (zone : List Record) → All (λ r. is_alone zone r ≡ true) zone → All (λ r. is_wild r.owner && r.rtype == type_NS ≡ false) zone → AreApart zone
apart_of zone each cuts = record {
  alone = λ owner some. alone_of zone owner each some;
  cuts = each_none is_wild_cut zone (recursion_from_All (λ (r : Record). is_wild r.owner && r.rtype == type_NS ≡ false) zone cuts);
}

-- and so are those that are shown so
pub apart_shown_so : (ps : List RecordEntry) (kept : List Record) → AreApart (map (shown ps) kept) → AreApart kept
apart_shown_so ps kept apart = record {
  alone = λ owner some.
      let a = count_map (is_of owner type_CNAME) (shown ps) (shown_of ps owner type_CNAME) kept in
      let b = count_map (stands_at owner) (shown ps) (shown_at ps owner) kept in
      let c = apart.alone owner (omega arith) in
      omega arith;
  cuts = let a = count_map is_wild_cut (shown ps) (shown_cut ps) kept in let b = apart.cuts in omega arith;
}

module _ (ps : List RecordEntry) where
  -- the zone's records
  abbrev zone : List Record
  zone = map (shown ps) (with_all [] ps)

  at_count : (owner : List (List ℕ)) → length (rrsets_of zone owner) ≡ length (rrsets_of (with_all [] ps) owner)
  at_count owner = count_map (stands_at owner) (shown ps) (shown_at ps owner) (with_all [] ps)

  pub set_count : (owner : List (List ℕ)) (rtype : ℕ) → length (rrset_of zone owner rtype) ≡ length (rrset_of (with_all [] ps) owner rtype)
  set_count owner rtype = count_map (is_of owner rtype) (shown ps) (shown_of ps owner rtype) (with_all [] ps)

  pub soa_count : length (soa_of zone) ≡ length (soa_of (with_all [] ps))
  soa_count = count_map (λ (r : Record). r.rtype == type_SOA) (shown ps) (shown_soa ps) (with_all [] ps)

  cut_count : length (filter is_wild_cut zone) ≡ length (filter is_wild_cut (with_all [] ps))
  cut_count = count_map is_wild_cut (shown ps) (shown_cut ps) (with_all [] ps)

  outside_count : length (filter (is_outside (apex_of zone)) zone) ≡ length (filter (is_outside (apex_of (with_all [] ps))) (with_all [] ps))
  outside_count =
      count_map (is_outside (apex_of zone)) (shown ps) (shown_outside ps (apex_of zone)) (with_all [] ps)
      ∙ ap (λ (apex : List (List ℕ)). length (filter (is_outside apex) (with_all [] ps))) (apex_shown ps (with_all [] ps))
      ∙ filter_alike_count (with_all [] ps)
    where
      filter_alike_count : (rs : List Record) → length (filter (is_outside (fold_name (apex_of (with_all [] ps)))) rs) ≡ length (filter (is_outside (apex_of (with_all [] ps))) rs)
      filter_alike_count [] = refl
      filter_alike_count (r ∷ rs) =
          let apex = apex_of (with_all [] ps) in
          count_cons (is_outside (fold_name apex)) r rs ∙ ap (λ (b : Bool). one (not b) + length (filter (is_outside (fold_name apex)) rs)) (apex_folded r.owner apex)
          ∙ ap (λ (n : ℕ). one (is_outside apex r) + n) (filter_alike_count rs) ∙ sym (count_cons (is_outside apex) r rs)

  pub server_count : length (rrset_of zone (apex_of zone) type_NS) ≡ length (rrset_of (with_all [] ps) (apex_of (with_all [] ps)) type_NS)
  server_count =
      ap (λ (apex : List (List ℕ)). length (rrset_of zone apex type_NS)) (apex_shown ps (with_all [] ps)) ∙ set_count (fold_name (apex_of (with_all [] ps))) type_NS
      ∙ same_set (with_all [] ps) (fold_name (apex_of (with_all [] ps))) (apex_of (with_all [] ps)) type_NS type_NS (let e = (is_same_Decides (fold_name (apex_of (with_all [] ps))) (apex_of (with_all [] ps))).1 (fold_name-fold_name (apex_of (with_all [] ps))) in rw e refl)

  pub len_zone : length zone ≡ length (with_all [] ps)
  len_zone = length-map (with_all [] ps) (shown ps)

  -- aliases alone and no wild cuts, from what they hold
  pub aliases_alone : AreApart (with_all [] ps) → All (λ r. is_alone zone r ≡ true) zone
  aliases_alone apart = all_from_each (λ (r : Record). is_alone zone r ≡ true) zone (each_weaker
      (λ (r : Record). (is_of r.owner type_CNAME r ≡ true → 0 < length (rrset_of zone r.owner type_CNAME)) × (stands_at r.owner r ≡ true → 0 < length (rrsets_of zone r.owner)))
      (λ (r : Record). is_alone zone r ≡ true)
      (λ r counted. alone_by (r.rtype == type_CNAME) (length (rrsets_of zone r.owner)) (length (rrset_of zone r.owner type_CNAME))
      (λ e. counted.1 (own_same r.owner)) (λ e. counted.0 (let o = own_same r.owner in rw (o, e) refl))
      (λ some. let a = set_count r.owner type_CNAME in let b = at_count r.owner in let c = apart.alone r.owner (omega arith) in omega arith))
      zone (each_both (λ (r : Record). is_of r.owner type_CNAME r ≡ true → 0 < length (rrset_of zone r.owner type_CNAME)) (λ (r : Record). stands_at r.owner r ≡ true → 0 < length (rrsets_of zone r.owner)) zone
      (each_counted (λ (r : Record). is_of r.owner type_CNAME) zone) (each_counted (λ (r : Record). stands_at r.owner) zone)))

  pub no_wild_cuts : AreApart (with_all [] ps) → All (λ r. is_wild r.owner && r.rtype == type_NS ≡ false) zone
  no_wild_cuts apart =
      let none = none_each is_wild_cut zone (let a = cut_count in let b = apart.cuts in omega arith) in
      all_from_each (λ (r : Record). is_wild r.owner && r.rtype == type_NS ≡ false) zone none

  -- a zone, from what they hold
  pub zone_is : AllByRecursion IsReadable ps → AreOfZone (with_all [] ps) → IsZone (zone_records ps)
  zone_is each h =
      let kept = with_all [] ps in
      let lasts = each_weaker IsReadable (λ (p : RecordEntry). p.ttl.0 < 2 ^ 31) (λ p r. r.lawful.lasts) ps each in
      let lawful = each_of_all IsLawful [] ps tt (each_weaker IsReadable (λ (p : RecordEntry). IsLawful (record_in p)) (λ p r. r.lawful) ps each) in
      let short = each_of_all (λ (r : Record). length r.rdata ≤ 4096) [] ps tt (each_weaker IsReadable (λ (p : RecordEntry). length p.rdata.octets ≤ 4096) (λ p r. r.short) ps each) in
      record {
        rules = record {
          lawful = all_from_each IsLawful zone (each_map IsLawful (shown ps) kept (each_weaker IsLawful (λ (r : Record). IsLawful (shown ps r)) (λ r l. lawful_shown ps r lasts l) kept lawful));
          ascending = pairs_from_rises IsBefore zone (ascends_shown ps kept (ascends_all [] ps tt));
          one_ttl = all_from_each (λ (r : Record). All (λ s. share_ttl r s ≡ true) zone) zone (each_map (λ (r : Record). All (λ s. share_ttl r s ≡ true) zone) (shown ps) kept
              (each_weaker (λ (r : Record). is_read ps r ≡ true) (λ (r : Record). All (λ s. share_ttl (shown ps r) s ≡ true) zone) (λ r read.
              all_from_each (λ (s : Record). share_ttl (shown ps r) s ≡ true) zone (each_map (λ (s : Record). share_ttl (shown ps r) s ≡ true) (shown ps) kept (each_always (λ (s : Record). share_ttl (shown ps r) (shown ps s) ≡ true) (λ s. share_shown ps r s read) kept)))
              kept (each_read ps)));
          one_soa = let a = soa_count in let b = h.one_soa in let some : 0 < length (soa_of kept) = let e = h.soa in grind (arith, nat_tests) in omega arith;
          under_apex = let none = none_each (is_outside (apex_of zone)) zone (let a = outside_count in let b = h.inside in omega arith) in
              all_from_each (λ (r : Record). is_under r.owner (apex_of zone) ≡ true) zone (each_weaker (λ (r : Record). is_outside (apex_of zone) r ≡ false) (λ (r : Record). is_under r.owner (apex_of zone) ≡ true) (λ r e. not_outside r.owner (apex_of zone) e) zone none);
          name_servers = λ e. let n : length (rrset_of zone (apex_of zone) type_NS) ≡ 0 = ap length e in let a = server_count in let k = h.servers in let some : 0 < length (rrset_of kept (apex_of kept) type_NS) = grind (arith, nat_tests) in omega arith;
          aliases_alone = aliases_alone h.apart;
          no_wild_cuts = no_wild_cuts h.apart;
        };
        limits = record {
          few = let a = len_zone in let b = h.few.all in omega arith;
          small_sets = all_from_each (λ (r : Record). length (rrset_of zone r.owner r.rtype) ≤ 256) zone (each_always (λ (r : Record). length (rrset_of zone r.owner r.rtype) ≤ 256) (λ r. let a = set_count r.owner r.rtype in let b = h.few.each r.owner r.rtype in omega arith) zone);
          short = all_from_each (λ (r : Record). length r.rdata ≤ 4096) zone (each_map (λ (r : Record). length r.rdata ≤ 4096) (shown ps) kept (each_weaker (λ (r : Record). length r.rdata ≤ 4096) (λ (r : Record). length (timed ps r).rdata ≤ 4096) (λ r l. subst (λ (os : List ℕ). length os ≤ 4096) (sym (timed_rdata ps r)) l) kept short));
        };
      }

  -- what a test shows of a zone
  few_of : (owner : List (List ℕ)) (rtype : ℕ) → All (λ r. length (rrset_of zone r.owner r.rtype) ≤ 256) zone → length (rrset_of zone owner rtype) ≤ 256
  few_of owner rtype small = by (nat_lt 0 (length (rrset_of zone owner rtype))) refl
    where
      by : (b : Bool) → nat_lt 0 (length (rrset_of zone owner rtype)) ≡ b → length (rrset_of zone owner rtype) ≤ 256
      by true e = from_counted (λ (r : Record). length (rrset_of zone r.owner r.rtype) ≤ 256) (is_of owner rtype) (length (rrset_of zone owner rtype) ≤ 256)
          (λ r few same. let a = same_set zone r.owner owner r.rtype rtype same in omega arith) zone (recursion_from_All (λ (r : Record). length (rrset_of zone r.owner r.rtype) ≤ 256) zone small) (grind (arith, nat_tests))
      by false e = let none : length (rrset_of zone owner rtype) ≡ 0 = grind (arith, nat_tests) in omega arith

  -- and what the records kept hold by it
  pub are_few : length zone ≤ 1000000 → All (λ r. length (rrset_of zone r.owner r.rtype) ≤ 256) zone → AreFew (with_all [] ps)
  are_few few small = record {
    all = let a = len_zone in omega arith;
    each = λ owner rtype. let a = set_count owner rtype in let b = few_of owner rtype small in omega arith;
  }

  pub are_apart : All (λ r. is_alone zone r ≡ true) zone → All (λ r. is_wild r.owner && r.rtype == type_NS ≡ false) zone → AreApart (with_all [] ps)
  are_apart each cuts = apart_shown_so ps (with_all [] ps) (apart_of zone each cuts)

  -- what the records kept hold of a zone
  pub of_is_zone : IsZone (zone_records ps) → AreOfZone (with_all [] ps)
  of_is_zone is = record {
    few = are_few is.limits.few is.limits.small_sets;
    one_soa = let a = soa_count in let b = is.rules.one_soa in omega arith;
    apart = are_apart is.rules.aliases_alone is.rules.no_wild_cuts;
    inside = let a = outside_count in let b = each_none (is_outside (apex_of zone)) zone (each_weaker (λ (r : Record). is_under r.owner (apex_of zone) ≡ true) (λ (r : Record). is_outside (apex_of zone) r ≡ false) (λ r e. ap not e) zone (recursion_from_All (λ (r : Record). is_under r.owner (apex_of zone) ≡ true) zone is.rules.under_apex)) in omega arith;
    soa = let a = soa_count in let b = is.rules.one_soa in not_zero (length (soa_of (with_all [] ps))) (omega arith);
    servers = let a = server_count in not_zero (length (rrset_of (with_all [] ps) (apex_of (with_all [] ps)) type_NS)) (let some = not_nil (rrset_of zone (apex_of zone) type_NS) is.rules.name_servers in omega arith);
  }

no_fault : (fault : Option FileFault) (ps : List RecordEntry) (zone : List Record) → (elim fault as (λ _. Result (List Record) FileFault) [ Some f ↦ Err f | None ↦ zone_of_all ps ]) ≡ Ok zone → zone_of_all ps ≡ Ok zone
no_fault None ps zone e = e
no_fault (Some f) ps zone e = let no : ⊥ = cc in absurd no

only_ok : (fault : Option FileFault) (ps : List RecordEntry) (zone : List Record) → (elim fault as (λ _. Result (List Record) FileFault) [ Some f ↦ Err f | None ↦ zone_of_all ps ]) ≡ Ok zone → fault ≡ None
only_ok None ps zone e = refl
only_ok (Some f) ps zone e = let no : ⊥ = cc in absurd no

-- where what is read is a zone, it has no fault and no record too many
pub read_whole : (read : Read) (zone : List Record) → zone_of_read read ≡ Ok zone → read.fault ≡ None
read_whole read zone e =
    only_ok read.fault read.rrs zone (told_ok Limit (first_line is_too_many [] read.rrs) (elim read.fault as (λ _. Result (List Record) FileFault) [ Some f ↦ Err f | None ↦ zone_of_all read.rrs ]) zone e).1

pub read_few : (read : Read) (zone : List Record) → zone_of_read read ≡ Ok zone → first_line is_too_many [] read.rrs ≡ None
read_few read zone e = (told_ok Limit (first_line is_too_many [] read.rrs) (elim read.fault as (λ _. Result (List Record) FileFault) [ Some f ↦ Err f | None ↦ zone_of_all read.rrs ]) zone e).0

-- and it is the zone of its records
pub read_records : (read : Read) (zone : List Record) → zone_of_read read ≡ Ok zone → zone ≡ zone_records read.rrs
read_records read zone e =
    let a = told_ok Limit (first_line is_too_many [] read.rrs) (elim read.fault as (λ _. Result (List Record) FileFault) [ Some f ↦ Err f | None ↦ zone_of_all read.rrs ]) zone e in
    (of_zone read.rrs zone a.0 (no_fault read.fault read.rrs zone a.1)).1

-- what is read without a fault is a zone
pub read_is_zone : (read : Read) (zone : List Record) → AllByRecursion IsReadable read.rrs → zone_of_read read ≡ Ok zone → IsZone zone
read_is_zone read found each e =
    let a = told_ok Limit (first_line is_too_many [] read.rrs) (elim read.fault as (λ _. Result (List Record) FileFault) [ Some f ↦ Err f | None ↦ zone_of_all read.rrs ]) found e in
    let of = of_zone read.rrs found a.0 (no_fault read.fault read.rrs found a.1) in
    subst (λ (z : List Record). IsZone z) (sym of.1) (zone_is read.rrs each of.0)

-- and a zone is read without a fault
pub zone_is_read : (read : Read) → read.fault ≡ None → IsZone (zone_records read.rrs) → zone_of_read read ≡ Ok (zone_records read.rrs)
zone_is_read read none is =
    let ok = ok_zone read.rrs (of_is_zone read.rrs is) in
    ap (λ (o : Option ℕ). reported Limit o (elim read.fault as (λ _. Result (List Record) FileFault) [ Some f ↦ Err f | None ↦ zone_of_all read.rrs ])) ok.0
    ∙ ap (λ (f : Option FileFault). elim f as (λ _. Result (List Record) FileFault) [ Some g ↦ Err g | None ↦ zone_of_all read.rrs ]) none ∙ ok.1

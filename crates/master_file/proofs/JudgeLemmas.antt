-- The first line that shows a fault, by what the records read hold when no line does.
use Rattle.std.proofs.Common.{◌≡◌, refl, sym, ap, ◌∙◌, ℕ, ◌+◌, ◌≤◌, Bool, true, false, cond, ◌&&◌, ◌||◌, ◌==◌, nat_lt, List, [], ◌∷◌, length, arith, true≢false, Option, Some, None}
use Rattle.std.specs.List.{filter}
use Rattle.std.specs.Ordering.{is_lt}
use Rattle.std.proofs.lemmas.Bool.Decides.{Decides-eqb, nat_tests}
use Rattle.dns_name.specs.Name.{is_same}
use Rattle.dns_name.specs.Order.{is_same_equiv}
use Rattle.dns_rdata.specs.Numbers.{type_SOA}
use Rattle.dns_rdata.specs.Record.{Record, record_cmp}
use Rattle.zone_tree.specs.Zone.{is_of, rrset_of, soa_of}
use Rattle.zone_tree.proofs.Rising.{Rises}
use Rattle.zone_tree.proofs.SetLemmas.{record_total}
use Rattle.master_file.specs.declared.record_entry.RecordEntry.{RecordEntry}
use Rattle.master_file.specs.ZoneText.{record_in, with_one, with_all, first_line, is_new, is_too_many, is_second_soa}
use Rattle.master_file.proofs.InsertLemmas.{count_inserted, rises_inserted}
use Rattle.master_file.proofs.KeptLemmas.{one, same_set}

-- records in strictly ascending order
abbrev pub Ascends : List Record → Type 0
Ascends kept = Rises (λ r s. is_lt (record_cmp r s) ≡ true) kept

pub ascends_with : (kept : List Record) (p : RecordEntry) → Ascends kept → Ascends (with_one kept p)
ascends_with kept p h = rises_inserted record_total (record_in p) kept h

pub ascends_all : (kept : List Record) (ps : List RecordEntry) → Ascends kept → Ascends (with_all kept ps)
ascends_all kept [] h = h
ascends_all kept (p ∷ ps) h = ascends_all (with_one kept p) ps (ascends_with kept p h)

-- how many a test shows, with one more record
pub count_with : (q : Record → Bool) (kept : List Record) (p : RecordEntry) → Ascends kept → length (filter q (with_one kept p)) ≡ one (is_new kept p && q (record_in p)) + length (filter q kept)
count_with q kept p h = count_inserted record_total q (record_in p) kept h

-- a test shows a record exactly where what held before it holds no more
pub record Judges (test : List Record → RecordEntry → Bool) (Q : List Record → Type 0) : Type 0 where
  pub keeps : (kept : List Record) (p : RecordEntry) → Ascends kept → Q kept → test kept p ≡ false → Q (with_one kept p)
  pub reported : (kept : List Record) (p : RecordEntry) → Ascends kept → Q (with_one kept p) → test kept p ≡ true → ⊥
  pub before : (kept : List Record) (p : RecordEntry) → Ascends kept → Q (with_one kept p) → Q kept

none_first : (b : Bool) (line : ℕ) (o : Option ℕ) → cond b (Some line) o ≡ None → (b ≡ false) × (o ≡ None)
none_first true line o e = let no : ⊥ = cc in absurd no
none_first false line o e = (refl, e)

first_none : (b : Bool) (line : ℕ) (o : Option ℕ) → (b ≡ true → ⊥) → o ≡ None → cond b (Some line) o ≡ None
first_none true line o never e = absurd (never refl)
first_none false line o never e = e

module _ {test : List Record → RecordEntry → Bool} {Q : List Record → Type 0} (judges : Judges test Q) where
  -- where no line shows a fault, it holds of all
  pub holds_of_all : (kept : List Record) (ps : List RecordEntry) → Ascends kept → Q kept → first_line test kept ps ≡ None → Q (with_all kept ps)
  holds_of_all kept [] h q none = q
  holds_of_all kept (p ∷ ps) h q none =
      let parts = none_first (test kept p) p.line (first_line test (with_one kept p) ps) none in
      holds_of_all (with_one kept p) ps (ascends_with kept p h) (judges.keeps kept p h q parts.0) parts.1

  -- and where it holds of all, no line shows one
  pub no_line : (kept : List Record) (ps : List RecordEntry) → Ascends kept → Q (with_all kept ps) → (first_line test kept ps ≡ None) × Q kept
  no_line kept [] h q = (refl, q)
  no_line kept (p ∷ ps) h q =
      let rest = no_line (with_one kept p) ps (ascends_with kept p h) q in
      (first_none (test kept p) p.line (first_line test (with_one kept p) ps) (judges.reported kept p h rest.1) rest.0, judges.before kept p h rest.1)

-- lengths
all_count : (xs : List Record) → length (filter (λ (r : Record). true) xs) ≡ length xs
all_count [] = refl
all_count (x ∷ xs) = let more = all_count xs in omega arith

and_true : (b : Bool) → (b && true) ≡ b
and_true true = refl
and_true false = refl

pub length_with : (kept : List Record) (p : RecordEntry) → Ascends kept → length (with_one kept p) ≡ one (is_new kept p) + length kept
length_with kept p h =
    sym (all_count (with_one kept p)) ∙ count_with (λ (r : Record). true) kept p h
    ∙ ap (λ (b : Bool). one b + length (filter (λ (r : Record). true) kept)) (and_true (is_new kept p))
    ∙ ap (λ (n : ℕ). one (is_new kept p) + n) (all_count kept)

own : (owner : List (List ℕ)) → is_same owner owner ≡ true
own owner = is_same_equiv.refl owner

eqb_own : (n : ℕ) → (n == n) ≡ true
eqb_own n = (Decides-eqb n n).1 refl

own_set : (p : RecordEntry) → is_of p.owner p.rdata.rtype (record_in p) ≡ true
own_set p = let o = own p.owner in let t = eqb_own p.rdata.rtype in rw (o, t) refl

-- the limits
pub record AreFew (kept : List Record) : Type 0 where
  pub all : length kept ≤ 1000000
  pub each : (owner : List (List ℕ)) (rtype : ℕ) → length (rrset_of kept owner rtype) ≤ 256

few_all : (b : Bool) (a n more : ℕ) → more ≡ one b + n → n ≤ 1000000 → (b && (a == 256 || n == 1000000)) ≡ false → more ≤ 1000000
few_all true a n more e h none = grind (arith, nat_tests)
few_all false a n more e h none = omega arith

few_each : (b q : Bool) (a n m more : ℕ) → more ≡ one (b && q) + m → (q ≡ true → a ≡ m) → m ≤ 256 → (b && (a == 256 || n == 1000000)) ≡ false → more ≤ 256
few_each true true a n m more e same h none = let s = same refl in grind (arith, nat_tests)
few_each true false a n m more e same h none = omega arith
few_each false q a n m more e same h none = omega arith

few_told : (b : Bool) (a n more most : ℕ) → more ≡ one (b && true) + a → most ≡ one b + n → more ≤ 256 → most ≤ 1000000 → (b && (a == 256 || n == 1000000)) ≡ true → ⊥
few_told true a n more most e f h k shows = grind (arith, nat_tests)
few_told false a n more most e f h k shows = true≢false (sym shows)

pub limits_judge : Judges is_too_many AreFew
limits_judge = record {
  keeps = λ kept p h q none. record {
    all = few_all (is_new kept p) (length (rrset_of kept p.owner p.rdata.rtype)) (length kept) (length (with_one kept p)) (length_with kept p h) q.all none;
    each = λ owner rtype. few_each (is_new kept p) (is_of owner rtype (record_in p)) (length (rrset_of kept p.owner p.rdata.rtype)) (length kept) (length (rrset_of kept owner rtype)) (length (rrset_of (with_one kept p) owner rtype))
        (count_with (is_of owner rtype) kept p h) (same_set kept p.owner owner p.rdata.rtype rtype) (q.each owner rtype) none;
  };
  reported = λ kept p h q shows. few_told (is_new kept p) (length (rrset_of kept p.owner p.rdata.rtype)) (length kept) (length (rrset_of (with_one kept p) p.owner p.rdata.rtype)) (length (with_one kept p))
      (count_with (is_of p.owner p.rdata.rtype) kept p h ∙ ap (λ (b : Bool). one (is_new kept p && b) + length (rrset_of kept p.owner p.rdata.rtype)) (own_set p)) (length_with kept p h) (q.each p.owner p.rdata.rtype) q.all shows;
  before = λ kept p h q. record {
    all = let l = length_with kept p h in let a = q.all in omega arith;
    each = λ owner rtype. let l = count_with (is_of owner rtype) kept p h in let a = q.each owner rtype in omega arith;
  };
}

-- the one SOA
abbrev pub HasOneSoa : List Record → Type 0
HasOneSoa kept = length (soa_of kept) ≤ 1

soa_keeps : (b s : Bool) (n more : ℕ) → more ≡ one (b && s) + n → n ≤ 1 → (b && (s && nat_lt 0 n)) ≡ false → more ≤ 1
soa_keeps true true n more e h none = grind (arith, nat_tests)
soa_keeps true false n more e h none = omega arith
soa_keeps false s n more e h none = omega arith

soa_told : (b s : Bool) (n more : ℕ) → more ≡ one (b && s) + n → more ≤ 1 → (b && (s && nat_lt 0 n)) ≡ true → ⊥
soa_told true true n more e h shows = grind (arith, nat_tests)
soa_told true false n more e h shows = true≢false (sym shows)
soa_told false s n more e h shows = true≢false (sym shows)

abbrev is_soa : Record → Bool
is_soa r = r.rtype == type_SOA

pub soa_judges : Judges is_second_soa HasOneSoa
soa_judges = record {
  keeps = λ kept p h q none. soa_keeps (is_new kept p) (p.rdata.rtype == type_SOA) (length (soa_of kept)) (length (soa_of (with_one kept p))) (count_with is_soa kept p h) q none;
  reported = λ kept p h q shows. soa_told (is_new kept p) (p.rdata.rtype == type_SOA) (length (soa_of kept)) (length (soa_of (with_one kept p))) (count_with is_soa kept p h) q shows;
  before = λ kept p h q. let l = count_with is_soa kept p h in omega arith;
}

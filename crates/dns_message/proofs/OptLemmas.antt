-- What the OPTs among records say, record by record.
use Rattle.std.proofs.Common.{◌≡◌, ◌==◌, ℕ, ◌+◌, ◌-◌, ◌<◌, ◌≤◌, Bool, true, false, not, cond, subst, Ok, Err, MatchOption, List, [], ◌∷◌, ◌++◌, append_assoc, Option, Some, None, refl, sym, ap, ◌∙◌, arith, option_map}
use Rattle.std.specs.List.{filter}
use Rattle.std.proofs.lemmas.List.{append-nil}
use Rattle.std.proofs.lemmas.List.Elements.{filter-append}
use Rattle.dns_rdata.specs.Numbers.{type_OPT}
use Rattle.dns_rdata.specs.declared.numbers.Rcode.TheVariants.{FormErr, BadVers}
use Rattle.dns_message.specs.Message.{Entry}
use Rattle.dns_message.specs.Opt.{opt_said, said_by, said_alone, refused, do_bit_of, refused_do, is_root, version_of, dnssec_ok_of}
use Rattle.dns_message.specs.Reads.{record_at, records_at, HearsAt}
use Rattle.dns_message.proofs.ReadLemmas.{Said, heard, behind_one, next_one, left, IsPassed}

-- records behind others
abbrev behind : List Entry → List Entry × ℕ → List Entry × ℕ
behind front r = (front ++ r.0, r.1)

-- some of the records were looked at: all are these and the others, and so much do their OPTs say
pub record IsHearing (count : ℕ) (msg : List ℕ) (at done place : ℕ) (said : Said) : Type 0 where
  pub front : List Entry
  pub is : records_at count msg at ≡ option_map (behind front) (records_at (count - done) msg place)
  pub says : said ≡ opt_said front

same_records : (o : Option (List Entry × ℕ)) → o ≡ option_map (behind []) o
same_records None = refl
same_records (Some r) = refl

-- no record says nothing
pub none_heard : (msg : List ℕ) (count at : ℕ) (said : Said) → count ≡ 0 → said ≡ opt_said [] → Some said ≡ option_map heard (records_at count msg at)
unfolding records_at
none_heard msg count at said none e = ap Some e ∙ sym (ap (λ n. option_map heard (records_at n msg at)) none)

pub IsHearing-start : (count : ℕ) (msg : List ℕ) (at : ℕ) (said : Said) → said ≡ opt_said [] → IsHearing count msg at 0 at said
IsHearing-start count msg at said e = record {
  front = [];
  is = same_records (records_at count msg at) ∙ ap (λ n. option_map (behind []) (records_at n msg at)) (omega arith);
  says = e;
}

behind_next : (front : List Entry) (e : Entry) (o : Option (List Entry × ℕ)) → option_map (behind front) (option_map (λ rest. (e ∷ rest.0, rest.1)) o) ≡ option_map (behind (front ++ e ∷ [])) o
behind_next front e None = refl
behind_next front e (Some r) = ap (λ (t : List Entry). Some (t, r.1)) (sym (append_assoc front (e ∷ []) r.0))

pub IsHearing-one : (count : ℕ) (msg : List ℕ) (at done place : ℕ) (said after : Said) (e : Entry) (next : ℕ) → IsHearing count msg at done place said → done < count → record_at msg place ≡ Some (e, next) → ((records : List Entry) → said ≡ opt_said records → after ≡ opt_said (records ++ e ∷ [])) → IsHearing count msg at (done + 1) next after
IsHearing-one count msg at done place said after e next on more is says = record {
  front = on.front ++ e ∷ [];
  is =
      on.is
      ∙ ap (λ n. option_map (behind on.front) (records_at n msg place)) (left count done more)
      ∙ ap (option_map (behind on.front)) (next_one (count - (done + 1)) msg place)
      ∙ ap (λ o. option_map (behind on.front) (behind_one (count - (done + 1)) msg o)) is
      ∙ behind_next on.front e (records_at (count - (done + 1)) msg next);
  says = says on.front on.says;
}

pub IsHearing-stop : (count : ℕ) (msg : List ℕ) (at done place : ℕ) (said : Said) → IsHearing count msg at done place said → done < count → record_at msg place ≡ None → option_map heard (records_at count msg at) ≡ None
IsHearing-stop count msg at done place said on more is =
    ap (option_map heard)
    (on.is
    ∙ ap (λ n. option_map (behind on.front) (records_at n msg place)) (left count done more)
    ∙ ap (option_map (behind on.front)) (next_one (count - (done + 1)) msg place)
    ∙ ap (λ o. option_map (behind on.front) (behind_one (count - (done + 1)) msg o)) is)

none_left : (msg : List ℕ) (place : ℕ) (front : List Entry) → option_map (behind front) (records_at 0 msg place) ≡ Some (front, place)
unfolding records_at
none_left msg place front = ap (λ (t : List Entry). Some (t, place)) (append-nil front)

pub IsHearing-end : (count : ℕ) (msg : List ℕ) (at done place : ℕ) (said : Said) → IsHearing count msg at done place said → count ≤ done → option_map heard (records_at count msg at) ≡ Some said
IsHearing-end count msg at done place said on all =
    ap (option_map heard) (on.is ∙ ap (λ n. option_map (behind on.front) (records_at n msg place)) (omega arith) ∙ none_left msg place on.front)
    ∙ ap (λ (s : Said). Some s) (sym on.says)

-- the OPTs among records
abbrev opts : List Entry → List Entry
opts records = filter (λ r. r.rtype == type_OPT) records

one_left : (b : Bool) (entry : Entry) → b ≡ false → cond b (entry ∷ []) [] ≡ []
one_left true entry e = cc
one_left false entry e = refl

one_kept : (b : Bool) (entry : Entry) → b ≡ true → cond b (entry ∷ []) [] ≡ entry ∷ []
one_kept true entry e = refl
one_kept false entry e = cc

-- a record that is no OPT says nothing
pub other_says : (entry : Entry) (records : List Entry) → (entry.rtype == type_OPT) ≡ false → opt_said records ≡ opt_said (records ++ entry ∷ [])
other_says entry records e =
    let parts = filter-append (λ (r : Entry). r.rtype == type_OPT) records (entry ∷ []) in
    let none : opts (entry ∷ []) ≡ [] = one_left (entry.rtype == type_OPT) entry e in
    sym (ap said_by (parts ∙ ap (λ (t : List Entry). opts records ++ t) none ∙ append-nil (opts records)))

opt_behind : (entry : Entry) (records : List Entry) → (entry.rtype == type_OPT) ≡ true → said_by (opts records ++ entry ∷ []) ≡ opt_said (records ++ entry ∷ [])
opt_behind entry records e =
    let parts = filter-append (λ (r : Entry). r.rtype == type_OPT) records (entry ∷ []) in
    let one : opts (entry ∷ []) ≡ entry ∷ [] = one_kept (entry.rtype == type_OPT) entry e in
    sym (ap said_by (parts ∙ ap (λ (t : List Entry). opts records ++ t) one))

-- the DO that OPTs tell
alone_tells : (named versioned : Bool) (opt : Entry) → do_bit_of (cond named (refused FormErr opt) (cond versioned (refused BadVers opt) (Ok (Some (record { size = opt.class; dnssec_ok = dnssec_ok_of opt }))))) ≡ Some (dnssec_ok_of opt)
alone_tells true versioned opt = refl
alone_tells false true opt = refl
alone_tells false false opt = refl

alone_told : (opt : Entry) → do_bit_of (said_alone opt) ≡ Some (dnssec_ok_of opt)
alone_told opt = alone_tells (not (is_root opt.owner)) (not (version_of opt == 0)) opt

one_do : (a b : Bool) → Some a ≡ Some b → a ≡ b
one_do a b e = cc

-- behind no OPT one is the only one
first_by : (xs : List Entry) (entry : Entry) → do_bit_of (said_by xs) ≡ None → said_alone entry ≡ said_by (xs ++ entry ∷ [])
first_by [] entry e = refl
first_by (opt ∷ []) entry e = let some = alone_told opt in absurd (cc)
first_by (opt ∷ other ∷ more) entry e = absurd (cc)

-- behind others it makes one too many, and the first tells DO
more_by : (xs : List Entry) (entry : Entry) (dnssec_ok : Bool) → do_bit_of (said_by xs) ≡ Some dnssec_ok → refused_do dnssec_ok ≡ said_by (xs ++ entry ∷ [])
more_by [] entry dnssec_ok e = absurd (cc)
more_by (opt ∷ []) entry dnssec_ok e = ap refused_do (one_do dnssec_ok (dnssec_ok_of opt) (sym e ∙ alone_told opt))
more_by (opt ∷ other ∷ more) entry dnssec_ok e = ap refused_do (one_do dnssec_ok (dnssec_ok_of opt) (sym e))

-- so much is heard at a record that was passed over
is_type : (rtype : ℕ) (b : Bool) → (rtype == type_OPT) ≡ b → (entry : Entry) → entry.rtype ≡ rtype → (entry.rtype == type_OPT) ≡ b
is_type rtype b e entry is = ap (λ n. n == type_OPT) is ∙ e

turned : (b c : Bool) → not b ≡ c → b ≡ not c
turned true c e = ap not e
turned false c e = ap not e

pub HearsAt-other : (msg : List ℕ) (at rtype next : ℕ) (said : Said) → IsPassed msg at rtype next → not (rtype == type_OPT) ≡ true → HearsAt msg at said said next
HearsAt-other msg at rtype next said one other = record {
  entry = one.entry;
  is_present = one.is_present;
  says = λ records e. e ∙ other_says one.entry records (is_type rtype false (turned (rtype == type_OPT) true other) one.entry one.rtype_is);
}

pub HearsAt-more : (msg : List ℕ) (at rtype next : ℕ) (said after : Said) (dnssec_ok : Bool) → IsPassed msg at rtype next → not (rtype == type_OPT) ≡ false → do_bit_of said ≡ Some dnssec_ok → after ≡ refused_do dnssec_ok → HearsAt msg at said after next
HearsAt-more msg at rtype next said after dnssec_ok one opt reported is = record {
  entry = one.entry;
  is_present = one.is_present;
  says = λ records e. is ∙ more_by (opts records) one.entry dnssec_ok (sym (ap do_bit_of e) ∙ reported) ∙ opt_behind one.entry records (is_type rtype true (turned (rtype == type_OPT) false opt) one.entry one.rtype_is);
}

abbrev alone_at : Entry × ℕ → Said × ℕ
alone_at r = (said_alone r.0, r.1)

same_found : (x y : Said × ℕ) → Some x ≡ Some y → x ≡ y
same_found x y e = cc

pub HearsAt-found : (msg : List ℕ) (at rtype next : ℕ) (said : Said) (found : Option (Said × ℕ)) → IsPassed msg at rtype next → not (rtype == type_OPT) ≡ false → do_bit_of said ≡ None → found ≡ option_map (λ r. (said_alone r.0, r.1)) (record_at msg at) → MatchOption found (record_at msg at ≡ None) (λ r. HearsAt msg at said r.0 r.1)
HearsAt-found msg at rtype next said found one opt none is = by found (is ∙ ap (option_map alone_at) one.is_present)
  where
    by : (o : Option (Said × ℕ)) → o ≡ Some (said_alone one.entry, next) → MatchOption o (record_at msg at ≡ None) (λ r. HearsAt msg at said r.0 r.1)
    by None e = absurd (cc)
    by (Some r) e =
        let both = same_found r (said_alone one.entry, next) e in
        let place : next ≡ r.1 = sym (ap (λ (t : Said × ℕ). t.1) both) in
        let alone : r.0 ≡ said_alone one.entry = ap (λ (t : Said × ℕ). t.0) both in
        record {
          entry = one.entry;
          is_present = one.is_present ∙ ap (λ (n : ℕ). Some (one.entry, n)) place;
          says = λ records f. alone ∙ first_by (opts records) one.entry (sym (ap do_bit_of f) ∙ none) ∙ opt_behind one.entry records (is_type rtype true (turned (rtype == type_OPT) false opt) one.entry one.rtype_is);
        }

pub IsHearing-heard : (count : ℕ) (msg : List ℕ) (at done place : ℕ) (said after : Said) (next : ℕ) → IsHearing count msg at done place said → done < count → HearsAt msg place said after next → IsHearing count msg at (done + 1) next after
IsHearing-heard count msg at done place said after next on more is = IsHearing-one count msg at done place said after is.entry next on more is.is_present is.says

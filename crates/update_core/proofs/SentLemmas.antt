-- What the prescan says of a record, and the record as it enters a zone.
use Rattle.std.proofs.Common.{◌≡◌, ℕ, ◌<◌, ◌+◌, ◌^◌, Bool, true, false, not, ◌&&◌, ◌==◌, cond, nat_lt, List, [], ◌∷◌, map, length, All, Option, Some, None, unwrap_or, refl, sym, ap, subst, ◌∙◌, arith, lit<}
use Rattle.std.specs.Prelude.{bytes_eq}
use Rattle.std.specs.Char.{to_ascii_lowercase}
use Rattle.std.specs.Option.{is_some, option_or}
use Rattle.std.specs.Cmp.Lexicographic.{pointwise}
use Rattle.std.proofs.lemmas.Bool.Decides.{nat_tests}
use Rattle.dns_name.specs.Name.{Name, is_same, is_under, fold_name}
use Rattle.dns_name.proofs.LabelLemmas.{AreOctets-fold}
use Rattle.dns_name.proofs.LawLemmas.{fold-IsName, ending_from_under, under_from_ending}
use Rattle.dns_rdata.specs.declared.numbers.Rcode.{Rcode}
use Rattle.dns_rdata.specs.Numbers.{type_NS, class_IN}
use Rattle.dns_rdata.specs.Data.{data_of}
use Rattle.dns_rdata.specs.Record.{Record, IsLawful}
use Rattle.dns_rdata.specs.Raw.{RawRecord, ttl_in_zone}
use Rattle.dns_rdata.proofs.DataLemmas.{IsRead-data, data_octets}
use Rattle.dns_rdata.proofs.NameLemmas.{fold_name-fold_name}
use Rattle.zone_tree.specs.Zone.{apex_of, is_wild, is_of, stands_at}
use Rattle.zone_tree.proofs.NameOrder.{same_from_folds}
use Rattle.update_core.specs.Verdict.{prescan_of, has_form}
use Rattle.update_core.specs.Act.{entered, IsSent}
use Rattle.update_core.proofs.ListLemmas.{by_test, is_so}

-- a rule that gives no code, and those behind it
pub skipped : (b : Bool) (code : Rcode) (rest : Option Rcode) → cond b (Some code) rest ≡ None → (b ≡ false) × (rest ≡ None)
skipped true code rest e = absurd (cc)
skipped false code rest e = (refl, e)

pub no_first : (o p : Option Rcode) → option_or o p ≡ None → (o ≡ None) × (p ≡ None)
no_first None p e = (refl, e)
no_first (Some code) p e = absurd (cc)

-- what the prescan says of a record of class IN
pub record IsPassed (apex : Name) (r : RawRecord) : Type 0 where
  pub under_apex : is_under r.owner apex ≡ true
  pub form : is_some (data_of r.rtype r.octets) ≡ true
  pub no_wild_cut : is_wild r.owner && r.rtype == type_NS ≡ false

form_by : (class form : Bool) → class && not form ≡ false → class ≡ true → form ≡ true
form_by true form e is = is_so form e
form_by false form e is = cc

wild_by : (class ns wild : Bool) → class && ns && wild ≡ false → class ≡ true → wild && ns ≡ false
wild_by true true true e is = cc
wild_by true true false e is = refl
wild_by true false true e is = refl
wild_by true false false e is = refl
wild_by false ns wild e is = cc

pub passed : (zone : List Record) (r : RawRecord) → prescan_of zone r ≡ None → (r.class == class_IN) ≡ true → IsPassed (apex_of zone) r
passed zone r e class =
    let under = skipped (not (is_under r.owner (apex_of zone))) _ _ e in
    let form = skipped (r.class == class_IN && not (has_form r)) _ _ under.1 in
    let wild = skipped (r.class == class_IN && r.rtype == type_NS && is_wild r.owner) _ _ form.1 in
    record {
      under_apex = is_so (is_under r.owner (apex_of zone)) under.0;
      form = form_by (r.class == class_IN) (has_form r) form.0 class;
      no_wild_cut = wild_by (r.class == class_IN) (r.rtype == type_NS) (is_wild r.owner) wild.0 class;
    }

-- whether a name's first label is `*`, and whether it is under another, doesn't rest on case
star_by : (a b : Bool) (c : ℕ) → nat_lt c 65 ≡ a → (cond a c (cond b (c + 32) c) == 42) ≡ (c == 42)
star_by true b c e = refl
star_by false true c e = no_star (c + 32) c (grind (arith, nat_tests)) (grind (arith, nat_tests))
  where
    no_star : (m n : ℕ) → (m == 42) ≡ false → (n == 42) ≡ false → (m == 42) ≡ (n == 42)
    no_star m n h k = h ∙ sym k
star_by false false c e = refl

false_behind : (a b : Bool) → (a && false) ≡ (b && false)
false_behind true true = refl
false_behind true false = refl
false_behind false true = refl
false_behind false false = refl

star_lower : (label : List ℕ) → bytes_eq (map to_ascii_lowercase label) (42 ∷ []) ≡ bytes_eq label (42 ∷ [])
star_lower [] = refl
star_lower (c ∷ []) = ap (λ (b : Bool). b && true) (star_by (nat_lt c 65) (nat_lt c 91) c refl)
star_lower (c ∷ d ∷ label) = false_behind (to_ascii_lowercase c == 42) (c == 42)

pub wild_lower : (name : Name) → is_wild (fold_name name) ≡ is_wild name
wild_lower [] = refl
wild_lower (label ∷ name) = star_lower label

pub under_lower : (name apex : Name) → is_under name apex ≡ true → is_under (fold_name name) apex ≡ true
under_lower name apex h = let front = ending_from_under name apex h in under_from_ending (fold_name name) apex front.0 (fold_name-fold_name name ∙ front.1)

-- nor does what stands at a name
pub same_lower : (name : Name) → is_same (fold_name name) name ≡ true
same_lower name = same_from_folds (fold_name name) name (fold_name-fold_name name)

pub stands_lower : (name : Name) (s : Record) → stands_at (fold_name name) s ≡ stands_at name s
stands_lower name s = ap (λ folded. pointwise bytes_eq (fold_name s.owner) folded) (fold_name-fold_name name)

pub of_lower : (name : Name) (rtype : ℕ) (s : Record) → is_of (fold_name name) rtype s ≡ is_of name rtype s
of_lower name rtype s = ap (λ b. b && s.rtype == rtype) (stands_lower name s)

-- a TTL that enters a zone has 31 bits
pub ttl_small : (ttl : ℕ) → ttl_in_zone ttl < 2 ^ 31
ttl_small ttl = by_test (λ (n : ℕ). n < 2 ^ 31) (nat_lt ttl (2 ^ 31)) ttl 0 (λ t. grind (arith, nat_tests)) (λ _. lit< tt)

-- a record that enters a zone is one that a zone may have
found : (o : Option (List ℕ)) → is_some o ≡ true → (x : List ℕ) × (o ≡ Some x)
found None h = cc
found (Some x) h = (x, refl)

-- its data are of its type's form, and as many octets as were sent
pub record IsEntered (r : RawRecord) : Type 0 where
  pub lawful : IsLawful (entered r)
  pub len : length (entered r).rdata ≡ length r.octets

pub entered_lawful : (r : RawRecord) → IsSent r → is_some (data_of r.rtype r.octets) ≡ true → IsEntered r
entered_lawful r sent form =
    let own = found (data_of r.rtype r.octets) form in
    let here : own.0 ≡ unwrap_or (data_of r.rtype r.octets) r.octets = sym (ap (λ o. unwrap_or o r.octets) own.1) in
    let read = IsRead-data r.rtype r.octets own.0 own.1 in
    record {
      lawful = record {
        name = (fold-IsName r.owner sent.name).0;
        owner_octets = AreOctets-fold r.owner sent.owner_octets;
        folded = sym (fold_name-fold_name r.owner);
        lasts = ttl_small r.ttl;
        form = subst (λ os. data_of r.rtype os ≡ Some os) here read.again;
        octets = subst (All (λ octet. octet < 256)) here (data_octets r.rtype r.octets own.0 own.1 sent.octets);
      };
      len = ap length (sym here) ∙ read.len;
    }

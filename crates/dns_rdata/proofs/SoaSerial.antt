-- An SOA's data with another serial.
use Rattle.std.proofs.Common.{◌≡◌, ℕ, suc, ◌+◌, ◌-◌, ◌^◌, ◌/◌, ◌%◌, ◌<◌, ◌==◌, nat_le, List, [], ◌∷◌, ◌++◌, length, take, drop, All, Some, None, Option, Bool, true, false, nat_lt, ◌≤◌, slice_index, refl, sym, ap, subst, ◌∙◌, cond, arith, append_assoc, length-append}
use Rattle.std.specs.Int.{from_be_bytes, to_be_bytes, w32}
use Rattle.std.proofs.Math.Nat.{mod-lt}
use Rattle.std.proofs.Math.Seq.{drop-append_seam, take-append_seam, take-length}
use Rattle.std.proofs.lemmas.Bool.Decides.{Decides-eqb, nat_tests}
use Rattle.std.proofs.lemmas.List.{get_or_past, drop-drop, length-drop, length-take-le}
use Rattle.std.proofs.lemmas.List.Elements.{All-nil, All-cons, All-drop, All-take, All-append}
use Rattle.std.proofs.lemmas.Nat.{from_be_bytes-to_be_bytes_4}
use Rattle.dns_name.specs.Name.{Name, IsName, wire_of, fold_name, name_in}
use Rattle.dns_name.proofs.LawLemmas.{name_in-is_present, name_in-wire_of, fold-IsName}
use Rattle.dns_rdata.specs.Layout.{layout_of}
use Rattle.dns_rdata.specs.Data.{names_then, data_of, behind_names, serial_of, with_serial}
use Rattle.dns_rdata.proofs.NameLemmas.{map_some, and_then_some, cond_some}

-- a choice by a test
by_test : {A : Type 0} (P : A → Type 0) (b : Bool) (x y : A) → (b ≡ true → P x) → (b ≡ false → P y) → P (cond b x y)
by_test P true x y on_true on_false = on_true refl
by_test P false x y on_true on_false = on_false refl

-- lists of two parts each, the first parts as long as one another
front_is : (a b c d : List ℕ) → length a ≡ length c → a ++ b ≡ c ++ d → a ≡ c
front_is a b c d long e =
    let front : take (length c) (a ++ b) ≡ a = ap (λ (n : ℕ). take n (a ++ b)) (sym long) ∙ take-append_seam a b in
    sym front ∙ ap (take (length c)) e ∙ take-append_seam c d

back_is : (a b c d : List ℕ) → length a ≡ length c → a ++ b ≡ c ++ d → b ≡ d
back_is a b c d long e =
    let back : drop (length c) (a ++ b) ≡ b = ap (λ (n : ℕ). drop n (a ++ b)) (sym long) ∙ drop-append_seam a b in
    sym back ∙ ap (drop (length c)) e ∙ drop-append_seam c d

-- the octets of two names in lower case, and twenty octets behind them
record IsTwoNames (octets : List ℕ) : Type 0 where
  pub first : Name
  pub second : Name
  pub numbers : List ℕ
  pub first_name : IsName first
  pub second_name : IsName second
  pub first_folded : wire_of (fold_name first) ≡ wire_of first
  pub second_folded : wire_of (fold_name second) ≡ wire_of second
  pub long : length numbers ≡ 20
  pub are : octets ≡ wire_of first ++ (wire_of second ++ numbers)

two_names : (octets : List ℕ) → names_then 2 20 octets ≡ Some octets → IsTwoNames octets
two_names octets e =
    let first = and_then_some _ (name_in octets) octets e in
    let after = drop (length (wire_of first.0)) octets in
    let behind = map_some _ (names_then 1 20 after) octets first.2 in
    let second = and_then_some _ (name_in after) behind.0 behind.1 in
    let numbers = drop (length (wire_of second.0)) after in
    let last = map_some _ (names_then 0 20 numbers) behind.0 second.2 in
    let test = cond_some _ (Some numbers) last.0 last.1 in
    let front = name_in-is_present octets first.0 first.1 in
    let middle = name_in-is_present after second.0 second.1 in
    let first_same = fold-IsName first.0 front.0 in
    let second_same = fold-IsName second.0 middle.0 in
    let seam : wire_of (fold_name first.0) ++ behind.0 ≡ wire_of first.0 ++ after = behind.2 ∙ front.1 in
    let inner : behind.0 ≡ after = back_is (wire_of (fold_name first.0)) behind.0 (wire_of first.0) after first_same.1 seam in
    let next : wire_of (fold_name second.0) ++ last.0 ≡ wire_of second.0 ++ numbers = last.2 ∙ inner ∙ middle.1 in
    record {
      first = first.0;
      second = second.0;
      numbers = numbers;
      first_name = front.0;
      second_name = middle.0;
      first_folded = front_is (wire_of (fold_name first.0)) behind.0 (wire_of first.0) after first_same.1 seam;
      second_folded = front_is (wire_of (fold_name second.0)) last.0 (wire_of second.0) numbers second_same.1 next;
      long = (Decides-eqb (length numbers) 20).0 test.0;
      are = front.1 ∙ ap (λ (os : List ℕ). wire_of first.0 ++ os) middle.1;
    }

soa_parts : (octets : List ℕ) → data_of 6 octets ≡ Some octets → IsTwoNames octets
unfolding data_of layout_of
soa_parts octets e =
    let test = cond_some (nat_le 0 (length octets)) _ octets e in
    let rest = map_some _ (names_then 2 20 (drop 0 octets)) octets test.1 in
    two_names octets (rest.1 ∙ ap Some rest.2)

-- behind a name in full
behind_wire : (names : ℕ) (name : Name) (rest : List ℕ) → IsName name → behind_names (suc names) (wire_of name ++ rest) ≡ behind_names names rest
behind_wire names name rest is =
    ap (λ (o : Option Name). elim o [ None ↦ [] | Some n ↦ behind_names names (drop (length (wire_of n)) (wire_of name ++ rest)) ]) (name_in-wire_of name rest is)
    ∙ ap (behind_names names) (drop-append_seam (wire_of name) rest)

-- the names stay in front of the number that is put in
front_stays : (a b rest : List ℕ) → length rest ≡ 20 → take (length (a ++ (b ++ rest)) - 20) (a ++ (b ++ rest)) ≡ a ++ b
front_stays a b rest long =
    let len : length (a ++ (b ++ rest)) - 20 ≡ length (a ++ b) = omega (arith, length-append a (b ++ rest), length-append b rest, length-append a b) in
    ap (λ (n : ℕ). take n (a ++ (b ++ rest))) len ∙ ap (take (length (a ++ b))) (sym (append_assoc a b rest)) ∙ take-append_seam (a ++ b) rest

-- the names, the serial that is put in, and the numbers behind it
number_in : (octets : List ℕ) (n : ℕ) (parts : IsTwoNames octets) → with_serial n octets ≡ wire_of parts.first ++ (wire_of parts.second ++ (to_be_bytes w32 n ++ drop (length octets - 16) octets))
number_in octets n parts =
    let a = wire_of parts.first in
    let b = wire_of parts.second in
    let number = to_be_bytes w32 n in
    let tail = drop (length octets - 16) octets in
    let front : take (length octets - 20) octets ≡ a ++ b =
    ap (λ (os : List ℕ). take (length os - 20) os) parts.are ∙ front_stays a b parts.numbers parts.long in
    ap (λ (os : List ℕ). (os ++ number) ++ tail) front ∙ append_assoc (a ++ b) number tail ∙ append_assoc a b (number ++ tail)

-- the serial that is put in is the one that is there
pub serial_of-with_serial : (octets : List ℕ) (n : ℕ) → data_of 6 octets ≡ Some octets → n < 2 ^ 32 → serial_of (with_serial n octets) ≡ n
serial_of-with_serial octets n form small =
    let parts = soa_parts octets form in
    let b = wire_of parts.second in
    let number = to_be_bytes w32 n in
    let tail = drop (length octets - 16) octets in
    let behind : behind_names 2 (with_serial n octets) ≡ number ++ tail =
    ap (behind_names 2) (number_in octets n parts) ∙ behind_wire 1 parts.first (b ++ (number ++ tail)) parts.first_name ∙ behind_wire 0 parts.second (number ++ tail) parts.second_name in
    ap (λ (os : List ℕ). from_be_bytes w32 (take 4 os)) behind ∙ from_be_bytes-to_be_bytes_4 n small

-- names in front of octets are read as they stand, where they are in lower case
name_then : (names back : ℕ) (name : Name) (rest : List ℕ) → IsName name → wire_of (fold_name name) ≡ wire_of name → names_then names back rest ≡ Some rest → names_then (suc names) back (wire_of name ++ rest) ≡ Some (wire_of name ++ rest)
name_then names back name rest is folded e =
    let reads = name_in-wire_of name rest is in
    let seam = drop-append_seam (wire_of name) rest in
    rw (reads, seam, e, folded) refl

twenty : (octets : List ℕ) → length octets ≡ 20 → names_then 0 20 octets ≡ Some octets
twenty octets e = let t : length octets == 20 ≡ true = (Decides-eqb (length octets) 20).1 e in rw t refl

tail_long : (octets : List ℕ) → 20 ≤ length octets → length (drop (length octets - 16) octets) ≡ 16
tail_long octets long = omega (arith, length-drop (length octets - 16) octets)

long_enough : (octets : List ℕ) (parts : IsTwoNames octets) → 20 ≤ length octets
long_enough octets parts =
    let a = wire_of parts.first in
    let b = wire_of parts.second in
    omega (arith, ap length parts.are, length-append a (b ++ parts.numbers), length-append b parts.numbers, parts.long)

-- the data with the serial that is put in have the form of an SOA's
pub form-with_serial : (octets : List ℕ) (n : ℕ) → data_of 6 octets ≡ Some octets → data_of 6 (with_serial n octets) ≡ Some (with_serial n octets)
unfolding data_of layout_of
form-with_serial octets n form =
    let parts = soa_parts octets form in
    let number = to_be_bytes w32 n in
    let tail = drop (length octets - 16) octets in
    let size : length (number ++ tail) ≡ 20 = omega (arith, length-append number tail, tail_long octets (long_enough octets parts)) in
    let own = with_serial n octets in
    let names : names_then 2 20 own ≡ Some own =
    rw (number_in octets n parts) (name_then 1 20 parts.first (wire_of parts.second ++ (number ++ tail)) parts.first_name parts.first_folded (name_then 0 20 parts.second (number ++ tail) parts.second_name parts.second_folded (twenty (number ++ tail) size))) in
    let some : nat_le 0 (length own) ≡ true = grind (arith, nat_tests) in
    rw (some, names) refl

-- and are as many octets
pub length-with_serial : (octets : List ℕ) (n : ℕ) → data_of 6 octets ≡ Some octets → length (with_serial n octets) ≡ length octets
length-with_serial octets n form =
    let long = long_enough octets (soa_parts octets form) in
    let front = take (length octets - 20) octets in
    let number = to_be_bytes w32 n in
    let tail = drop (length octets - 16) octets in
    let low : length octets - 20 ≤ length octets = omega arith in
    omega (arith, length-append (front ++ number) tail, length-append front number, length-take-le (length octets - 20) octets low, tail_long octets long)

pub octets-with_serial : (octets : List ℕ) (n : ℕ) → All (λ octet. octet < 256) octets → All (λ octet. octet < 256) (with_serial n octets)
octets-with_serial octets n h =
    let P = λ (octet : ℕ). octet < 256 in
    let octet = λ (k : ℕ). n / k % 256 in
    let number : All P (to_be_bytes w32 n) =
    All-cons P (octet 16777216) (octet 65536 ∷ octet 256 ∷ n % 256 ∷ []) (mod-lt (n / 16777216) (omega arith))
    (All-cons P (octet 65536) (octet 256 ∷ n % 256 ∷ []) (mod-lt (n / 65536) (omega arith))
    (All-cons P (octet 256) (n % 256 ∷ []) (mod-lt (n / 256) (omega arith))
    (All-cons P (n % 256) [] (mod-lt n (omega arith)) (All-nil P)))) in
    All-append P (take (length octets - 20) octets ++ to_be_bytes w32 n) (drop (length octets - 16) octets)
    (All-append P (take (length octets - 20) octets) (to_be_bytes w32 n) (All-take P (length octets - 20) octets h) number)
    (All-drop P (length octets - 16) octets h)

-- octets that are put together so
pub put_together : (n : ℕ) (octets o0 o1 o2 o3 names number numbers : List ℕ) → o0 ≡ [] → o1 ≡ o0 ++ names → o2 ≡ o1 ++ number → o3 ≡ o2 ++ take (length numbers - 4) (drop 4 numbers)
    → names ≡ take (length octets - 20) octets → numbers ≡ drop (length octets - 20) octets → number ≡ to_be_bytes w32 n → 20 ≤ length octets → o3 ≡ with_serial n octets
put_together n octets o0 o1 o2 o3 names number numbers e0 e1 e2 e3 front back four long =
    let place : length octets - 20 + 4 ≡ length octets - 16 = omega arith in
    let rest : take (length numbers - 4) (drop 4 numbers) ≡ drop 4 numbers = ap (λ (k : ℕ). take k (drop 4 numbers)) (sym (length-drop 4 numbers)) ∙ take-length (drop 4 numbers) in
    let tail : drop 4 numbers ≡ drop (length octets - 16) octets = ap (drop 4) back ∙ drop-drop 4 (length octets - 20) octets ∙ ap (λ (k : ℕ). drop k octets) place in
    let head : o2 ≡ take (length octets - 20) octets ++ to_be_bytes w32 n = e2 ∙ ap (λ (os : List ℕ). os ++ number) (e1 ∙ ap (λ (os : List ℕ). os ++ names) e0 ∙ front) ∙ ap (λ (os : List ℕ). take (length octets - 20) octets ++ os) four in
    e3 ∙ ap (λ (os : List ℕ). o2 ++ os) (rest ∙ tail) ∙ ap (λ (os : List ℕ). os ++ drop (length octets - 16) octets) head

-- a number of four octets has 32 bits
octet_at : (octets : List ℕ) → All (λ octet. octet < 256) octets → (i : ℕ) → slice_index octets i < 256
octet_at octets small i =
    by_test (λ (b : Bool). slice_index octets i < 256) (nat_lt i (length octets)) true true
    (λ t. let below : i < length octets = grind (arith, nat_tests) in small i 0 below)
    (λ t. let past : length octets ≤ i = grind (arith, nat_tests) in let none : slice_index octets i ≡ 0 = get_or_past octets i 0 past in omega arith)

four_octets : (octets : List ℕ) → All (λ octet. octet < 256) octets → from_be_bytes w32 octets < 2 ^ 32
four_octets octets small =
    let first = octet_at octets small 0 in
    let second = octet_at octets small 1 in
    let third = octet_at octets small 2 in
    let fourth = octet_at octets small 3 in
    omega arith

pub serial_of-small : (octets : List ℕ) → data_of 6 octets ≡ Some octets → All (λ octet. octet < 256) octets → serial_of octets < 2 ^ 32
serial_of-small octets form small =
    let parts = soa_parts octets form in
    let a = wire_of parts.first in
    let b = wire_of parts.second in
    let behind : behind_names 2 octets ≡ parts.numbers =
    ap (behind_names 2) parts.are ∙ behind_wire 1 parts.first (b ++ parts.numbers) parts.first_name ∙ behind_wire 0 parts.second parts.numbers parts.second_name in
    let last : drop (length (a ++ b)) octets ≡ parts.numbers = ap (drop (length (a ++ b))) (parts.are ∙ sym (append_assoc a b parts.numbers)) ∙ drop-append_seam (a ++ b) parts.numbers in
    let each : All (λ octet. octet < 256) parts.numbers = subst (All (λ octet. octet < 256)) last (All-drop (λ octet. octet < 256) (length (a ++ b)) octets small) in
    let whole : serial_of octets ≡ from_be_bytes w32 (take 4 parts.numbers) = ap (λ (os : List ℕ). from_be_bytes w32 (take 4 os)) behind in
    let fits = four_octets (take 4 parts.numbers) (All-take (λ octet. octet < 256) 4 parts.numbers each) in
    omega arith

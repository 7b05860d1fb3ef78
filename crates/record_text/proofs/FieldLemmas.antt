-- Fields that are written are read as the same octets.
use Rattle.std.proofs.Common.{◌≡◌, ℕ, zero, suc, ◌+◌, ◌*◌, ◌/◌, ◌%◌, ◌^◌, ◌<◌, ◌≤◌, inl, true, false, cond, ◌==◌, List, [], ◌∷◌, ◌++◌, flat_map, length, drop, take, get_or, All, Option, Some, None, Result, Ok, Err, decimal, refl, sym, ap, ◌∙◌, arith}
use Rattle.std.specs.Fmt.{digits, digits_onto, digit_glyph}
use Rattle.std.specs.Int.{from_be_bytes, to_be_bytes, w16, w32}
use Rattle.std.specs.Net.Addr.{segments_of, octets_of}
use Rattle.std.specs.Net.Grammar.{IsDotted, IsGroup, IsGroupsAfter, IsGroups, IsColonHex}
use Rattle.std.specs.Net.Text.{dotted_text}
use Rattle.std.proofs.Math.Nat.{pow-suc}
use Rattle.std.proofs.Math.Seq.{drop-append_seam}
use Rattle.std.proofs.lemmas.Bool.Decides.{nat_tests}
use Rattle.std.proofs.lemmas.Fmt.{digits_is_IsNumeral}
use Rattle.std.proofs.lemmas.List.{take-append-drop, length-take-le}
use Rattle.std.proofs.lemmas.List.Elements.{All-nil, All-cons, All-head, All-tail, All-get_or, All-take}
use Rattle.std.proofs.lemmas.Nat.{be_bytes_2, be_bytes_4}
use Rattle.dns_name.specs.Name.{wire_of, IsName}
use Rattle.dns_name.specs.Text.{text_of}
use Rattle.dns_name.proofs.LawLemmas.{name_in-wire_of}
use Rattle.dns_name.proofs.RoundLemmas.{name_of_text-text_of}
use Rattle.record_text.specs.declared.data.Field.{Field}
use Rattle.record_text.specs.declared.data.Field.TheVariants as field
use Rattle.record_text.specs.declared.cause.Cause.{Cause}
use Rattle.record_text.specs.declared.cause.Cause.TheVariants.{BadName}
use Rattle.dns_name.specs.declared.text.NameFault.{NameFault}
use Rattle.record_text.specs.Data.{field_of, fields_of}
use Rattle.record_text.specs.NameWord.{name_named}
use Rattle.record_text.specs.Text.{group_text, groups_text, word_at, words_at}
use Rattle.zone_lexing.specs.Word.{Written}
use Rattle.record_text.specs.Reading.{on_ok, and_then}
use Rattle.zone_lexing.specs.Word.Written.{Plain}
use Rattle.record_text.proofs.AddressLemmas.{IsDotted-dotted, IsColonHex-colon_hex}
use Rattle.record_text.proofs.BackLemmas.{AreOctets, number_back}
use Rattle.record_text.proofs.NumberLemmas.{by_test}
use Rattle.record_text.proofs.TextLemmas.{address6_word}

-- a field stands in front of the rest, and its word is read as its octets
pub record HasFront (f : Field) (octets rest : List ℕ) : Type 0 where
  pub front : List ℕ
  pub word : List ℕ
  pub is : octets ≡ front ++ rest
  pub at : word_at f (front ++ rest) ≡ Some (word, length front)
  pub read : (origin : List (List ℕ)) → field_of origin f (Plain word) ≡ Ok front

-- octets are these fields
abbrev pub HasFields : List Field → List ℕ → Type 0
HasFields [] octets = octets ≡ []
HasFields (f ∷ fs) octets = (rest : List ℕ) × HasFront f octets rest × HasFields fs rest

both : (first more : Result (List ℕ) Cause) (front rest : List ℕ) → first ≡ Ok front → more ≡ Ok rest → and_then first (λ (octets : List ℕ). on_ok (λ (behind : List ℕ). octets ++ behind) more) ≡ Ok (front ++ rest)
both first more front rest e k = rw (e, k) refl

-- fields that are written are read back
pub fields_back : (origin : List (List ℕ)) (fs : List Field) (octets : List ℕ) → HasFields fs octets → fields_of origin fs (words_at fs octets) ≡ Ok octets
fields_back origin [] octets e = ap Ok (sym e)
fields_back origin (f ∷ fs) octets h =
    let first = h.1 in
    let at = ap (word_at f) first.is ∙ first.at in
    let left : drop (length first.front) octets ≡ h.0 = ap (drop (length first.front)) first.is ∙ drop-append_seam first.front h.0 in
    let more = fields_back origin fs h.0 h.2 in
    let read = first.read origin in
    let words : words_at (f ∷ fs) octets ≡ Plain first.word ∷ words_at fs (drop (length first.front) octets) =
    ap (λ (o : Option (List ℕ × ℕ)). elim o as (λ _. List Written) [ None ↦ [] | Some word ↦ Plain word.0 ∷ words_at fs (drop word.1 octets) ]) at in
    let rest : fields_of origin fs (words_at fs (drop (length first.front) octets)) ≡ Ok h.0 = ap (λ (os : List ℕ). fields_of origin fs (words_at fs os)) left ∙ more in
    ap (fields_of origin (f ∷ fs)) words ∙ both (field_of origin f (Plain first.word)) _ first.front h.0 read rest ∙ ap Ok (sym first.is)

-- an address
pub address_front : (a b c d : ℕ) (rest : List ℕ) → AreOctets (a ∷ b ∷ c ∷ d ∷ rest) → HasFront field.Address (a ∷ b ∷ c ∷ d ∷ rest) rest
unfolding word_at
address_front a b c d rest h =
    let small = λ (i : ℕ) (l : i < length (a ∷ b ∷ c ∷ d ∷ rest)). All-get_or (λ (x : ℕ). x < 256) (a ∷ b ∷ c ∷ d ∷ rest) i 0 l h in
    let spelt : IsDotted (dotted_text a b c d) (a ∷ b ∷ c ∷ d ∷ []) = record {
      a = a;
      b = b;
      c = c;
      d = d;
      fit = (small 0 (omega arith), small 1 (omega arith), small 2 (omega arith), small 3 (omega arith));
      value = refl;
      spelled = refl;
    } in
    let read = IsDotted-dotted (dotted_text a b c d) (a ∷ b ∷ c ∷ d ∷ []) spelt in
    record {
      front = a ∷ b ∷ c ∷ d ∷ [];
      word = dotted_text a b c d;
      is = refl;
      at = refl;
      read = λ origin. rw read refl;
    }

-- each element of a short list
two : (a b : ℕ) → a < 256 → b < 256 → (i : ℕ) → get_or (a ∷ b ∷ []) i 0 < 256
two a b ha hb zero = ha
two a b ha hb (suc zero) = hb
two a b ha hb (suc (suc i)) = omega arith

four : (a b c d : ℕ) → a < 256 → b < 256 → c < 256 → d < 256 → (i : ℕ) → get_or (a ∷ b ∷ c ∷ d ∷ []) i 0 < 256
four a b c d ha hb hc hd zero = ha
four a b c d ha hb hc hd (suc zero) = hb
four a b c d ha hb hc hd (suc (suc zero)) = hc
four a b c d ha hb hc hd (suc (suc (suc zero))) = hd
four a b c d ha hb hc hd (suc (suc (suc (suc i)))) = omega arith

-- a number of two octets
pub short_front : (a b : ℕ) (rest : List ℕ) → AreOctets (a ∷ b ∷ rest) → HasFront field.Short (a ∷ b ∷ rest) rest
unfolding word_at
short_front a b rest h =
    let first = All-head (λ (x : ℕ). x < 256) a (b ∷ rest) h in
    let second = All-head (λ (x : ℕ). x < 256) b rest (All-tail (λ (x : ℕ). x < 256) a (b ∷ rest) h) in
    let n = from_be_bytes w16 (a ∷ b ∷ []) in
    let number = number_back 65535 n (omega arith) (omega arith) in
    let back = be_bytes_2 (a ∷ b ∷ []) n refl (two a b first second) refl in
    record {
      front = a ∷ b ∷ [];
      word = decimal n;
      is = refl;
      at = refl;
      read = λ origin. ap (on_ok (to_be_bytes w16)) number ∙ ap Ok back;
    }

-- and of four
pub long_front : (a b c d : ℕ) (rest : List ℕ) → AreOctets (a ∷ b ∷ c ∷ d ∷ rest) → HasFront field.Long (a ∷ b ∷ c ∷ d ∷ rest) rest
unfolding word_at
long_front a b c d rest h =
    let small = λ (i : ℕ) (l : i < length (a ∷ b ∷ c ∷ d ∷ rest)). All-get_or (λ (x : ℕ). x < 256) (a ∷ b ∷ c ∷ d ∷ rest) i 0 l h in
    let ha : a < 256 = small 0 (omega arith) in
    let hb : b < 256 = small 1 (omega arith) in
    let hc : c < 256 = small 2 (omega arith) in
    let hd : d < 256 = small 3 (omega arith) in
    let n = from_be_bytes w32 (a ∷ b ∷ c ∷ d ∷ []) in
    let number = number_back 4294967295 n (omega arith) (omega arith) in
    let back = be_bytes_4 (a ∷ b ∷ c ∷ d ∷ []) n refl (four a b c d ha hb hc hd) refl in
    record {
      front = a ∷ b ∷ c ∷ d ∷ [];
      word = decimal n;
      is = refl;
      at = refl;
      read = λ origin. ap (on_ok (to_be_bytes w32)) number ∙ ap Ok back;
    }

-- a name
pub name_read : (name origin : List (List ℕ)) → IsName name → All (All (λ c. c < 256)) name → name_named (text_of name) origin ≡ Ok name
unfolding name_named
name_read name origin is octets =
    let reported : Result (List (List ℕ)) NameFault → Result (List (List ℕ)) Cause = λ r. elim r [ Ok n ↦ Ok n | Err fault ↦ Err BadName ] in
    ap reported (name_of_text-text_of name origin is octets)

pub name_front : (name : List (List ℕ)) (rest : List ℕ) → IsName name → All (All (λ c. c < 256)) name → HasFront field.Name (wire_of name ++ rest) rest
unfolding word_at
name_front name rest is octets =
    let is_present = name_in-wire_of name rest is in
    record {
      front = wire_of name;
      word = text_of name;
      is = refl;
      at = rw is_present refl;
      read = λ origin. ap (on_ok wire_of) (name_read name origin is octets);
    }

-- a group has four digits at most, which are read as it
test_true : (n : ℕ) → n ≡ 0 → (n == 0) ≡ true
test_true n e = grind (arith, nat_tests)

abbrev digit_of : ℕ → ℕ
digit_of n = digit_glyph false (n % 16)

digits_few : (m k n : ℕ) (acc : List ℕ) → n < 16 ^ suc m → length (digits_onto k 16 false n acc) ≤ length acc + suc m
digits_few m zero n acc h = omega arith
digits_few zero (suc k) n acc h =
    let low : n / 16 ≡ 0 = omega arith in
    let t = test_true (n / 16) low in
    rw t (omega arith)
digits_few (suc m) (suc k) n acc h =
    let power = pow-suc 16 (suc m) in
    let less : n / 16 < 16 ^ suc m = omega arith in
    let more = digits_few m k (n / 16) (digit_of n ∷ acc) less in
    by_test (λ b. length (cond b (digit_of n ∷ acc) (digits_onto k 16 false (n / 16) (digit_of n ∷ acc))) ≤ length acc + suc (suc m)) (n / 16 == 0)
    (λ _. omega arith) (λ _. omega arith)

group_short : (n : ℕ) → n < 65536 → length (group_text n) ≤ 4
unfolding digits
group_short n h = let few = digits_few 3 64 n [] h in omega arith

small_group : (n : ℕ) → n < 65536 → n < 16 ^ 64
small_group n h = omega arith

group_is : (n : ℕ) → n < 65536 → IsGroup (group_text n) n
group_is n h = (digits_is_IsNumeral 16 false (omega arith) (omega arith) n (small_group n h), group_short n h)

groups_behind : (groups : List ℕ) → All (λ n. n < 65536) groups → IsGroupsAfter true (58 ∷ []) (flat_map (λ next. 58 ∷ group_text next) groups) groups
groups_behind [] h = refl
groups_behind (n ∷ groups) h = inl (group_text n, _, refl, group_is n (All-head (λ (x : ℕ). x < 65536) n groups h), groups_behind groups (All-tail (λ (x : ℕ). x < 65536) n groups h))

groups_are : (groups : List ℕ) → All (λ n. n < 65536) groups → IsGroups true (groups_text groups) groups
groups_are [] h = refl
groups_are (n ∷ groups) h = inl (group_text n, _, refl, group_is n (All-head (λ (x : ℕ). x < 65536) n groups h), groups_behind groups (All-tail (λ (x : ℕ). x < 65536) n groups h))

-- the octets of groups that octets are of
record ArePairs (k : ℕ) (octets : List ℕ) : Type 0 where
  back : octets_of (segments_of octets) ≡ octets
  count : length (segments_of octets) ≡ k
  small : All (λ n. n < 65536) (segments_of octets)

halves : (a b : ℕ) → b < 256 → ((a * 256 + b) / 256 ≡ a) × ((a * 256 + b) % 256 ≡ b)
halves a b h = (omega arith, omega arith)

ArePairs-from : (k : ℕ) (octets : List ℕ) → length octets ≡ k + k → AreOctets octets → ArePairs k octets
ArePairs-from zero [] e h = record { back = refl; count = refl; small = All-nil (λ (n : ℕ). n < 65536) }
ArePairs-from zero (a ∷ octets) e h = absurd (omega arith)
ArePairs-from (suc k) [] e h = absurd (omega arith)
ArePairs-from (suc k) (a ∷ []) e h = absurd (omega arith)
ArePairs-from (suc k) (a ∷ b ∷ octets) e h =
    let tail = All-tail (λ (x : ℕ). x < 256) a (b ∷ octets) h in
    let high = All-head (λ (x : ℕ). x < 256) a (b ∷ octets) h in
    let low = All-head (λ (x : ℕ). x < 256) b octets tail in
    let more = ArePairs-from k octets (omega arith) (All-tail (λ (x : ℕ). x < 256) b octets tail) in
    let parts = halves a b low in
    let first = parts.0 in
    let second = parts.1 in
    let back = more.back in
    let count = more.count in
    let fits : a * 256 + b < 65536 = omega arith in
    record {
      back = cc;
      count = omega arith;
      small = All-cons (λ (n : ℕ). n < 65536) (a * 256 + b) (segments_of octets) fits more.small;
    }

-- an address of version 6
pub address6_front : (octets : List ℕ) → 16 ≤ length octets → AreOctets octets → HasFront field.Address6 octets (drop 16 octets)
address6_front octets h all =
    let front = take 16 octets in
    let rest = drop 16 octets in
    let whole = take-append-drop 16 octets in
    let len = length-take-le 16 octets h in
    let pairs = ArePairs-from 8 front (omega arith) (All-take (λ (x : ℕ). x < 256) 16 octets all) in
    let groups = segments_of front in
    let spelt : IsColonHex (groups_text groups) groups = inl (groups_are groups pairs.small, pairs.count) in
    let read = IsColonHex-colon_hex (groups_text groups) groups spelt ∙ ap Some pairs.back in
    let word = address6_word octets h in
    record {
      front = front;
      word = groups_text groups;
      is = sym whole;
      at = ap (word_at field.Address6) whole ∙ word ∙ ap (λ (n : ℕ). Some (groups_text groups, n)) (sym len);
      read = λ origin. rw read refl;
    }

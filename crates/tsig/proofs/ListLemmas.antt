-- Octets that are written over others.
use Rattle.std.proofs.Common.{◌≡◌, ℕ, ◌+◌, ◌-◌, ◌<◌, ◌≤◌, List, [], ◌∷◌, ◌++◌, length, take, drop, refl, sym, ap, ◌∙◌, arith, length-append, append_assoc}
use Rattle.std.specs.Int.{from_be_bytes, to_be_bytes, w16}
use Rattle.std.proofs.lemmas.List.{take_at, drop_at, take-take, drop-take, drop-drop, length-take-le}
use Rattle.std.proofs.Math.Nat.{le-max_left, le-max_right}
use Rattle.std.proofs.Math.Seq.{take-add}
use Rattle.std.specs.Prelude.{max}
use Rattle.dns_message.specs.Message.{number_at}
use Rattle.tsig.specs.Signing.{with_record, cut_middle, cut_to}

-- what was written is in front of what stays
pub front_put : (o x : List ℕ) (at : ℕ) → at + length x ≤ length o → take (at + length x) (take at o ++ x ++ drop (at + length x) o) ≡ take at o ++ x
front_put o x at room = take_at (take at o ++ x) (drop (at + length x) o) (at + length x) (length-append (take at o) x ∙ ap (λ n. n + length x) (length-take-le at o (omega (arith, room))))

-- and what stays is behind it
pub behind_put : (o x : List ℕ) (at : ℕ) → at + length x ≤ length o → drop (at + length x) (take at o ++ x ++ drop (at + length x) o) ≡ drop (at + length x) o
behind_put o x at room = drop_at (take at o ++ x) (drop (at + length x) o) (at + length x) (length-append (take at o) x ∙ ap (λ n. n + length x) (length-take-le at o (omega (arith, room))))

apart : (n m : ℕ) → n ≤ m → m ≡ n + (m - n)
apart n m before = omega (arith, before)

-- what is the same behind a position is so behind a later one
pub same_behind : (a b : List ℕ) (n m : ℕ) → drop n a ≡ drop n b → n ≤ m → drop m a ≡ drop m b
same_behind a b n m same before =
    ap (λ k. drop k a) (apart n m before) ∙ sym (drop-drop (m - n) n a) ∙ ap (drop (m - n)) same ∙ drop-drop (m - n) n b ∙ ap (λ k. drop k b) (sym (apart n m before))

-- the first octets are the first of those, and then those that stand behind these
pub first_two : (o : List ℕ) (n m : ℕ) → n ≤ m → take m o ≡ take n o ++ take (m - n) (drop n o)
first_two o n m before = ap (λ k. take k o) (apart n m before) ∙ take-add n (m - n) o

-- what stands behind a position of the first octets
pub rest_of_first : (o : List ℕ) (n m : ℕ) → n ≤ m → drop n (take m o) ≡ take (m - n) (drop n o)
rest_of_first o n m before = ap (λ k. drop n (take k o)) (apart n m before) ∙ drop-take n (m - n) o

-- a number of the first octets is the one that stands there
pub number_of_first : (o : List ℕ) (at len : ℕ) → at + 2 ≤ len → number_at (take len o) at ≡ number_at o at
number_of_first o at len within =
    ap (λ l. from_be_bytes w16 (take 2 l)) (rest_of_first o at len (omega (arith, within)))
    ∙ ap (from_be_bytes w16) (take-take 2 (len - at) (drop at o) (omega (arith, within)))

-- the end of what was signed under a limit is before the limit, and so is the end of what there was
pub limit_before : (end size len limit own : ℕ) → size ≡ own → end + size ≤ limit → end + own ≤ max len limit
limit_before end size len limit own same fits = omega (arith, same, fits, le-max_right len limit)

pub len_before : (len limit : ℕ) → len ≤ max len limit
len_before len limit = le-max_left len limit

-- a message with another count, and a added behind it
pub appended : (o p q count added : List ℕ) (len next : ℕ) → 12 ≤ len → take 12 p ≡ take 10 o ++ count → drop 12 p ≡ drop 12 o → take next q ≡ take len p ++ added
    → take next q ≡ take 10 (take len o) ++ (count ++ (drop 12 (take len o) ++ added))
appended o p q count added len next header counted behind written =
    written
    ∙ ap (λ l. l ++ added) (
    first_two p 12 len header
    ∙ ap (λ l. l ++ take (len - 12) (drop 12 p)) counted
    ∙ ap (λ l. (take 10 o ++ count) ++ take (len - 12) l) behind
    ∙ ap (λ l. (l ++ count) ++ take (len - 12) (drop 12 o)) (sym (take-take 10 len o (omega (arith, header))))
    ∙ ap (λ l. (take 10 (take len o) ++ count) ++ l) (sym (rest_of_first o 12 len header)))
    ∙ append_assoc (take 10 (take len o) ++ count) (drop 12 (take len o)) added
    ∙ append_assoc (take 10 (take len o)) count (drop 12 (take len o) ++ added)

-- a reply that is cut
pub cut_octets : (o p middle : List ℕ) (len end : ℕ) → 12 ≤ end → end ≤ len → take 12 p ≡ take 2 o ++ middle → drop 12 p ≡ drop 12 o
    → take end p ≡ take 2 (take len o) ++ (middle ++ take (end - 12) (drop 12 (take len o)))
cut_octets o p middle len end header before written behind =
    first_two p 12 end header
    ∙ ap (λ l. l ++ take (end - 12) (drop 12 p)) written
    ∙ ap (λ l. (take 2 o ++ middle) ++ take (end - 12) l) behind
    ∙ ap (λ l. (l ++ middle) ++ take (end - 12) (drop 12 o)) (sym (take-take 2 len o (omega (arith, header, before))))
    ∙ ap (λ l. (take 2 (take len o) ++ middle) ++ l) (sym (take-take (end - 12) (len - 12) (drop 12 o) (omega (arith, header, before))) ∙ ap (take (end - 12)) (sym (rest_of_first o 12 len (omega (arith, header, before)))))
    ∙ append_assoc (take 2 (take len o)) middle (take (end - 12) (drop 12 (take len o)))

no_count : (o : List ℕ) (a b c : ℕ) → 2 ≤ length o → number_at (take 2 o ++ (a ∷ b ∷ 0 ∷ c ∷ 0 ∷ 0 ∷ 0 ∷ 0 ∷ 0 ∷ 0 ∷ [])) 10 ≡ 0
no_count [] a b c room = absurd (omega (arith, room))
no_count (x ∷ []) a b c room = absurd (omega (arith, room))
no_count (x ∷ y ∷ o) a b c room = refl

-- a message whose ARCOUNT was written as 0
pub no_additional : (o p middle : List ℕ) (a b c : ℕ) → 2 ≤ length o → take 12 p ≡ take 2 o ++ middle → middle ≡ a ∷ b ∷ 0 ∷ c ∷ 0 ∷ 0 ∷ 0 ∷ 0 ∷ 0 ∷ 0 ∷ [] → number_at p 10 ≡ 0
no_additional o p middle a b c room written is =
    sym (number_of_first p 10 12 (omega arith))
    ∙ ap (λ l. number_at l 10) (written ∙ ap (λ m. take 2 o ++ m) is)
    ∙ no_count o a b c room

-- two octets that were written at 10 end at 12
end_of_count : (bytes : List ℕ) (count at : ℕ) → bytes ≡ to_be_bytes w16 (count + 1) → at ≡ 10 + length bytes → at ≡ 12
end_of_count bytes count at is end = end ∙ ap (λ l. 10 + length l) is

-- a message behind which a record was put, as its count was written at 10 and the record at its end
pub record_appended : (o p q bytes added : List ℕ) (len count at next : ℕ) → 12 ≤ len → count ≡ number_at o 10 → bytes ≡ to_be_bytes w16 (count + 1) → at ≡ 10 + length bytes
    → take at p ≡ take 10 o ++ bytes → drop at p ≡ drop at o → take next q ≡ take len p ++ added → take next q ≡ with_record (take len o) added
record_appended o p q bytes added len count at next header counted is end front behind written =
    let twelve : at ≡ 12 = end_of_count bytes count at is end in
    appended o p q bytes added len next header (ap (λ n. take n p) (sym twelve) ∙ front) (ap (λ n. drop n p) (sym twelve) ∙ behind ∙ ap (λ n. drop n o) twelve) written
    ∙ ap (λ l. take 10 (take len o) ++ (l ++ (drop 12 (take len o) ++ added))) is
    ∙ ap (λ n. take 10 (take len o) ++ (to_be_bytes w16 (n + 1) ++ (drop 12 (take len o) ++ added))) (counted ∙ sym (number_of_first o 10 len header))

-- and what is behind that record
pub record_behind : (o p q bytes added : List ℕ) (len count at next : ℕ) → 12 ≤ len → bytes ≡ to_be_bytes w16 (count + 1) → at ≡ 10 + length bytes → next ≡ len + length added
    → drop at p ≡ drop at o → drop next q ≡ drop next p → drop next q ≡ drop next o
record_behind o p q bytes added len count at next header is end last behind written =
    let twelve : at ≡ 12 = end_of_count bytes count at is end in
    written ∙ same_behind p o at next behind (omega (arith, twelve, last, header))

-- ten octets that were written at 2 end at 12
end_of_middle : (o middle : List ℕ) (k asked at : ℕ) → middle ≡ cut_middle (take k o) asked → at ≡ 2 + length middle → at ≡ 12
end_of_middle o middle k asked at is end = end ∙ ap (λ l. 2 + length l) is

-- a reply that is cut, as what stands between its ID and its question was written at 2
pub reply_cut : (o p middle : List ℕ) (len k asked at end : ℕ) → k ≡ len → 12 ≤ end → end ≤ len → middle ≡ cut_middle (take k o) asked → at ≡ 2 + length middle
    → take at p ≡ take 2 o ++ middle → drop at p ≡ drop at o → take end p ≡ cut_to (take len o) asked end
reply_cut o p middle len k asked at end same header before is last front behind =
    let twelve : at ≡ 12 = end_of_middle o middle k asked at is last in
    cut_octets o p middle len end header before (ap (λ n. take n p) (sym twelve) ∙ front) (ap (λ n. drop n p) (sym twelve) ∙ behind ∙ ap (λ n. drop n o) twelve)
    ∙ ap (λ m. take 2 (take len o) ++ (m ++ take (end - 12) (drop 12 (take len o)))) (is ∙ ap (λ n. cut_middle (take n o) asked) same)

-- its ARCOUNT
pub cut_counted : (o p middle : List ℕ) (k asked at : ℕ) → 12 ≤ length o → middle ≡ cut_middle (take k o) asked → at ≡ 2 + length middle → take at p ≡ take 2 o ++ middle → number_at p 10 ≡ 0
cut_counted o p middle k asked at room is last front =
    let twelve : at ≡ 12 = end_of_middle o middle k asked at is last in
    no_additional o p middle _ _ asked (omega (arith, room)) (ap (λ n. take n p) (sym twelve) ∙ front) is

-- and what is behind it
pub cut_behind : (o p middle : List ℕ) (len k asked at : ℕ) → 12 ≤ len → middle ≡ cut_middle (take k o) asked → at ≡ 2 + length middle → drop at p ≡ drop at o → drop len p ≡ drop len o
cut_behind o p middle len k asked at header is last behind =
    let twelve : at ≡ 12 = end_of_middle o middle k asked at is last in
    same_behind p o at len behind (omega (arith, twelve, header))

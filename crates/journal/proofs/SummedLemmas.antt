-- What is read of octets that begin with what stands behind a frame's mark, and that they begin with no other.
use Rattle.std.proofs.Common.{◌≡◌, ℕ, ◌+◌, ◌^◌, ◌<◌, List, ◌++◌, length, take, drop, refl, sym, ap, ◌∙◌, subst, append_assoc, length-append, arith}
use Rattle.std.specs.Int.{w32, w64, to_be_bytes, from_be_bytes}
use Rattle.std.proofs.lemmas.List.{take_at, drop_at}
use Rattle.std.proofs.lemmas.Nat.{from_be_bytes-to_be_bytes_4, from_be_bytes-to_be_bytes_8}
use Rattle.sha2.specs.Sha256.{sha256}
use Rattle.sha2.proofs.Facts256.{length-sha256}
use Rattle.journal.specs.Frame.{body_limit, text_of, summed}
use Rattle.journal.specs.Private.{IsSummed}
use Rattle.journal.proofs.PartLemmas.{same_parts, parts_in_a_row, parts_long, same_number_4, same_number_8}

-- a frame's parts, one behind another
pub summed_parts : (salt : List ℕ) (number : ℕ) (body rest : List ℕ)
    → summed salt number body ++ rest ≡ to_be_bytes w32 (length body) ++ (to_be_bytes w64 number ++ (body ++ (sha256 (salt ++ text_of number body) ++ rest)))
unfolding summed text_of
summed_parts salt number body rest = parts_in_a_row (to_be_bytes w32 (length body)) (to_be_bytes w64 number) body (sha256 (salt ++ (to_be_bytes w32 (length body) ++ (to_be_bytes w64 number ++ body)))) rest

-- a frame has 44 octets more than its body
pub summed_long : (salt : List ℕ) (number : ℕ) (body : List ℕ) → length (summed salt number body) ≡ length body + 44
unfolding summed text_of
summed_long salt number body = parts_long (to_be_bytes w32 (length body)) (to_be_bytes w64 number) body _ refl refl (length-sha256 _)

-- its text has 12 more
pub text_long : (number : ℕ) (body : List ℕ) → length (text_of number body) ≡ 12 + length body
unfolding text_of
text_long number body = parts_text (to_be_bytes w32 (length body)) (to_be_bytes w64 number) body refl refl
  where
    parts_text : (a b c : List ℕ) → length a ≡ 4 → length b ≡ 8 → length (a ++ (b ++ c)) ≡ 12 + length c
    parts_text a b c four eight = simp length-append (omega arith)

-- its text and its sum, in front of what stands behind it
text_first : (salt : List ℕ) (number : ℕ) (body rest : List ℕ)
    → summed salt number body ++ rest ≡ text_of number body ++ (sha256 (salt ++ text_of number body) ++ rest)
unfolding summed
text_first salt number body rest = append_assoc (text_of number body) (sha256 (salt ++ text_of number body)) rest

-- what is read of octets that begin with a frame
pub record Shows (salt : List ℕ) (number : ℕ) (octets body rest : List ℕ) : Type 0 where
  pub size : from_be_bytes w32 (take 4 octets) ≡ length body
  pub counted : from_be_bytes w64 (take 8 (drop 4 octets)) ≡ number
  pub behind : drop 8 (drop 4 octets) ≡ body ++ (sha256 (salt ++ text_of number body) ++ rest)
  pub front : take (12 + length body) octets ≡ text_of number body
  pub long : length octets ≡ length body + 44 + length rest

pub summed_shows : (salt : List ℕ) (number : ℕ) (octets body rest : List ℕ) → IsSummed salt number octets body rest → Shows salt number octets body rest
summed_shows salt number octets body rest frame =
    let sum : List ℕ = sha256 (salt ++ text_of number body) in
    let four : List ℕ = to_be_bytes w32 (length body) in
    let eight : List ℕ = to_be_bytes w64 number in
    let all : octets ≡ four ++ (eight ++ (body ++ (sum ++ rest))) = frame.spelt ∙ summed_parts salt number body rest in
    let first : take 4 octets ≡ four = ap (λ (o : List ℕ). take 4 o) all ∙ take_at four (eight ++ (body ++ (sum ++ rest))) 4 refl in
    let then_eight : drop 4 octets ≡ eight ++ (body ++ (sum ++ rest)) = ap (λ (o : List ℕ). drop 4 o) all ∙ drop_at four (eight ++ (body ++ (sum ++ rest))) 4 refl in
    let second : take 8 (drop 4 octets) ≡ eight = ap (λ (o : List ℕ). take 8 o) then_eight ∙ take_at eight (body ++ (sum ++ rest)) 8 refl in
    let last : drop 8 (drop 4 octets) ≡ body ++ (sum ++ rest) = ap (λ (o : List ℕ). drop 8 o) then_eight ∙ drop_at eight (body ++ (sum ++ rest)) 8 refl in
    let texts : octets ≡ text_of number body ++ (sum ++ rest) = frame.spelt ∙ text_first salt number body rest in
    record {
      size = ap (from_be_bytes w32) first ∙ from_be_bytes-to_be_bytes_4 (length body) (omega (arith, frame.short));
      counted = ap (from_be_bytes w64) second ∙ from_be_bytes-to_be_bytes_8 number frame.counted;
      behind = last;
      front = ap (λ (o : List ℕ). take (12 + length body) o) texts ∙ take_at (text_of number body) (sum ++ rest) (12 + length body) (text_long number body);
      long = ap length frame.spelt ∙ (length-append (summed salt number body) rest ∙ ap (λ (n : ℕ). n + length rest) (summed_long salt number body));
    }

-- two frames that octets begin with are one
pub one_summed : (salt : List ℕ) (m n : ℕ) (octets body rest other left : List ℕ)
    → IsSummed salt m octets body rest → IsSummed salt n octets other left → (m ≡ n) × (body ≡ other) × (rest ≡ left)
one_summed salt m n octets body rest other left one two =
    let a = summed_shows salt m octets body rest one in
    let b = summed_shows salt n octets other left two in
    let same_len : length body ≡ length other = sym a.size ∙ b.size in
    let bodies = same_parts body (sha256 (salt ++ text_of m body) ++ rest) other (sha256 (salt ++ text_of n other) ++ left) same_len (sym a.behind ∙ b.behind) in
    let sums = same_parts (sha256 (salt ++ text_of m body)) rest (sha256 (salt ++ text_of n other)) left (length-sha256 _ ∙ sym (length-sha256 _)) bodies.1 in
    (sym a.counted ∙ b.counted, bodies.0, sums.1)

-- what is told in front of a body, where octets begin with a frame
pub record Leads (salt : List ℕ) (number size reported : ℕ) (behind body rest : List ℕ) : Type 0 where
  pub is_size : size ≡ length body
  pub is_number : reported ≡ number
  pub is_behind : behind ≡ body ++ (sha256 (salt ++ text_of number body) ++ rest)
  pub long : length behind ≡ length body + 32 + length rest

-- how many octets a body, its sum and what stands behind it have
behind_long : (body sum rest : List ℕ) → length sum ≡ 32 → length (body ++ (sum ++ rest)) ≡ length body + 32 + length rest
behind_long body sum rest long = simp length-append (omega arith)

pub summed_leads : (salt octets : List ℕ) (size reported : ℕ) (after behind : List ℕ) → size < body_limit → reported < 2 ^ 64
    → octets ≡ to_be_bytes w32 size ++ after → after ≡ to_be_bytes w64 reported ++ behind
    → (number : ℕ) (body rest : List ℕ) → IsSummed salt number octets body rest → Leads salt number size reported behind body rest
summed_leads salt octets size reported after behind small fits first second number body rest frame =
    let sum : List ℕ = sha256 (salt ++ text_of number body) in
    let all : octets ≡ to_be_bytes w32 (length body) ++ (to_be_bytes w64 number ++ (body ++ (sum ++ rest))) = frame.spelt ∙ summed_parts salt number body rest in
    let four = same_parts (to_be_bytes w32 size) after (to_be_bytes w32 (length body)) (to_be_bytes w64 number ++ (body ++ (sum ++ rest))) refl (sym first ∙ all) in
    let eight = same_parts (to_be_bytes w64 reported) behind (to_be_bytes w64 number) (body ++ (sum ++ rest)) refl (sym second ∙ four.1) in
    record {
      is_size = same_number_4 size (length body) (omega (arith, small)) (omega (arith, frame.short)) four.0;
      is_number = same_number_8 reported number fits frame.counted eight.0;
      is_behind = eight.1;
      long = ap length eight.1 ∙ behind_long body sum rest (length-sha256 _);
    }

-- a frame's text stands in front of its sum
text_parts : (number : ℕ) (body : List ℕ) → text_of number body ≡ to_be_bytes w32 (length body) ++ (to_be_bytes w64 number ++ body)
unfolding text_of
text_parts number body = refl

-- octets of these parts begin with their text
pub text_in : (octets : List ℕ) (size number : ℕ) (after behind body left : List ℕ)
    → octets ≡ to_be_bytes w32 size ++ after → after ≡ to_be_bytes w64 number ++ behind → behind ≡ body ++ left → length body ≡ size
    → octets ≡ text_of number body ++ left
text_in octets size number after behind body left first second third is_size =
    first
    ∙ (ap (λ (o : List ℕ). to_be_bytes w32 size ++ o) (second ∙ ap (λ (o : List ℕ). to_be_bytes w64 number ++ o) third)
    ∙ (ap (λ (n : ℕ). to_be_bytes w32 n ++ (to_be_bytes w64 number ++ (body ++ left))) (sym is_size)
    ∙ (regrouped_text (to_be_bytes w32 (length body)) (to_be_bytes w64 number) body left
    ∙ ap (λ (o : List ℕ). o ++ left) (sym (text_parts number body)))))
  where
    regrouped_text : (a b c d : List ℕ) → a ++ (b ++ (c ++ d)) ≡ (a ++ (b ++ c)) ++ d
    regrouped_text a b c d = simp append_assoc

-- octets of these parts, whose sum is right, begin with a frame
pub summed_from : (salt octets : List ℕ) (size number : ℕ) (after behind body left sum rest : List ℕ)
    → size < body_limit → number < 2 ^ 64
    → octets ≡ to_be_bytes w32 size ++ after → after ≡ to_be_bytes w64 number ++ behind → behind ≡ body ++ left → left ≡ sum ++ rest → length body ≡ size
    → sum ≡ sha256 (salt ++ take (12 + size) octets) → IsSummed salt number octets body rest
summed_from salt octets size number after behind body left sum rest small fits first second third fourth is_size is_sum =
    let whole : octets ≡ text_of number body ++ left = text_in octets size number after behind body left first second third is_size in
    let text_size : length (text_of number body) ≡ 12 + size = text_long number body ∙ ap (λ (n : ℕ). 12 + n) is_size in
    let text : take (12 + size) octets ≡ text_of number body = ap (λ (o : List ℕ). take (12 + size) o) whole ∙ take_at (text_of number body) left (12 + size) text_size in
    let right : sum ≡ sha256 (salt ++ text_of number body) = is_sum ∙ ap (λ (o : List ℕ). sha256 (salt ++ o)) text in
    record {
      short = subst (λ (n : ℕ). n < body_limit) (sym is_size) small;
      counted = fits;
      spelt = whole ∙ (ap (λ (o : List ℕ). text_of number body ++ o) (fourth ∙ ap (λ (o : List ℕ). o ++ rest) right) ∙ sym (text_first salt number body rest));
    }

-- octets that begin with a frame have its sum
pub sum_of_summed : (salt octets : List ℕ) (size reported : ℕ) (after behind part left sum others : List ℕ) → size < body_limit → reported < 2 ^ 64
    → octets ≡ to_be_bytes w32 size ++ after → after ≡ to_be_bytes w64 reported ++ behind → behind ≡ part ++ left → left ≡ sum ++ others → length part ≡ size → length sum ≡ 32
    → (number : ℕ) (body rest : List ℕ) → IsSummed salt number octets body rest → sum ≡ sha256 (salt ++ take (12 + size) octets)
sum_of_summed salt octets size reported after behind part left sum others small fits first second third fourth is_size is_long number body rest frame =
    let leads = summed_leads salt octets size reported after behind small fits first second number body rest frame in
    let shows = summed_shows salt number octets body rest frame in
    let bodies = same_parts part left body (sha256 (salt ++ text_of number body) ++ rest) (is_size ∙ leads.is_size) (sym third ∙ leads.is_behind) in
    let sums = same_parts sum others (sha256 (salt ++ text_of number body)) rest (is_long ∙ sym (length-sha256 _)) (sym fourth ∙ bodies.1) in
    let text : take (12 + size) octets ≡ text_of number body = ap (λ (n : ℕ). take (12 + n) octets) leads.is_size ∙ shows.front in
    sums.0 ∙ ap (λ (o : List ℕ). sha256 (salt ++ o)) (sym text)

-- parts that are put one behind another are a frame
pub summed_written : (salt body : List ℕ) (number : ℕ) (four eight text sum all : List ℕ)
    → four ≡ to_be_bytes w32 (length body) → eight ≡ to_be_bytes w64 number → text ≡ (four ++ eight) ++ body → sum ≡ sha256 (salt ++ text) → all ≡ text ++ sum
    → all ≡ summed salt number body
unfolding summed
summed_written salt body number four eight text sum all is_four is_eight is_text is_sum is_all =
    let is_text_of : text ≡ text_of number body =
    is_text
    ∙ (ap (λ (o : List ℕ). (o ++ eight) ++ body) is_four
    ∙ (ap (λ (o : List ℕ). (to_be_bytes w32 (length body) ++ o) ++ body) is_eight
    ∙ (append_assoc (to_be_bytes w32 (length body)) (to_be_bytes w64 number) body ∙ sym (text_parts number body)))) in
    let is_sum_of : sum ≡ sha256 (salt ++ text_of number body) = is_sum ∙ ap (λ (o : List ℕ). sha256 (salt ++ o)) is_text_of in
    is_all ∙ (ap (λ (o : List ℕ). o ++ sum) is_text_of ∙ ap (λ (o : List ℕ). text_of number body ++ o) is_sum_of)

-- What is read of octets that begin with a frame, and that they begin with no other.
use Rattle.std.proofs.Common.{◌≡◌, ℕ, ◌+◌, List, ◌++◌, length, take, drop, refl, sym, ap, ◌∙◌, append_assoc, length-append, arith}
use Rattle.std.specs.Int.{w32, w64, to_be_bytes}
use Rattle.std.proofs.lemmas.List.{take_at, drop_at, length-take-le}
use Rattle.sha2.specs.Sha256.{sha256}
use Rattle.journal.specs.Frame.{mark_of, summed, framed, IsFrame}
use Rattle.journal.specs.Private.{IsSummed}
use Rattle.journal.proofs.PartLemmas.{same_parts}
use Rattle.journal.proofs.SummedLemmas.{summed_long, summed_written, one_summed}

-- a frame, and what stands behind it, behind its mark
pub framed_parts : (salt : List ℕ) (number : ℕ) (body rest : List ℕ) → framed salt number body ++ rest ≡ mark_of salt ++ (summed salt number body ++ rest)
unfolding framed
framed_parts salt number body rest = append_assoc (mark_of salt) (summed salt number body) rest

-- a frame has 44 octets more than its body, and its mark
pub framed_long : (salt : List ℕ) (number : ℕ) (body : List ℕ) → length (framed salt number body) ≡ length (mark_of salt) + length body + 44
unfolding framed
framed_long salt number body = omega (arith, length-append (mark_of salt) (summed salt number body), summed_long salt number body)

-- the mark of a salt that is long enough has eight
pub mark_long : (salt : List ℕ) → length salt ≡ 32 → length (mark_of salt) ≡ 8
unfolding mark_of
mark_long salt long = length-take-le 8 salt (omega (arith, long))

-- the mark of a salt that begins with these octets
pub mark_from : (salt rest : List ℕ) (mark : ℕ) → salt ≡ to_be_bytes w64 mark ++ rest → mark_of salt ≡ to_be_bytes w64 mark
unfolding mark_of
mark_from salt rest mark e = ap (λ (o : List ℕ). take 8 o) e ∙ take_at (to_be_bytes w64 mark) rest 8 refl

-- octets that begin with a frame begin with its mark
pub behind_mark : (salt : List ℕ) (number : ℕ) (octets body rest : List ℕ) → IsFrame salt number octets body rest
    → octets ≡ mark_of salt ++ (summed salt number body ++ rest)
behind_mark salt number octets body rest frame = frame.spelt ∙ framed_parts salt number body rest

-- and go on with what stands behind that
pub frame_in : (salt : List ℕ) (number : ℕ) (octets inner body rest : List ℕ) → octets ≡ mark_of salt ++ inner → IsFrame salt number octets body rest → IsSummed salt number inner body rest
frame_in salt number octets inner body rest marked frame = record {
  short = frame.short;
  counted = frame.counted;
  spelt = (same_parts (mark_of salt) inner (mark_of salt) (summed salt number body ++ rest) refl (sym marked ∙ behind_mark salt number octets body rest frame)).1;
}

pub frame_out : (salt : List ℕ) (number : ℕ) (octets inner body rest : List ℕ) → octets ≡ mark_of salt ++ inner → IsSummed salt number inner body rest → IsFrame salt number octets body rest
frame_out salt number octets inner body rest marked is = record {
  short = is.short;
  counted = is.counted;
  spelt = marked ∙ (ap (λ (o : List ℕ). mark_of salt ++ o) is.spelt ∙ sym (framed_parts salt number body rest));
}

-- how many octets they are
pub record Shows (salt : List ℕ) (number : ℕ) (octets body rest : List ℕ) : Type 0 where
  pub long : length octets ≡ length (mark_of salt) + length body + 44 + length rest

pub frame_shows : (salt : List ℕ) (number : ℕ) (octets body rest : List ℕ) → IsFrame salt number octets body rest → Shows salt number octets body rest
frame_shows salt number octets body rest frame = record {
  long = ap length frame.spelt ∙ (length-append (framed salt number body) rest ∙ ap (λ (n : ℕ). n + length rest) (framed_long salt number body));
}

-- two frames that octets begin with are one
pub one_frame : (salt : List ℕ) (m n : ℕ) (octets body rest other left : List ℕ)
    → IsFrame salt m octets body rest → IsFrame salt n octets other left → (m ≡ n) × (body ≡ other) × (rest ≡ left)
one_frame salt m n octets body rest other left one two =
    let inner : List ℕ = summed salt m body ++ rest in
    let marked = behind_mark salt m octets body rest one in
    one_summed salt m n inner body rest other left (frame_in salt m octets inner body rest marked one) (frame_in salt n octets inner other left marked two)

-- parts that are put one behind another are a frame, if the sum is of those behind the first
pub frame_written : (salt body : List ℕ) (number : ℕ) (mark four eight front text sum all : List ℕ)
    → mark ≡ mark_of salt → length mark ≡ 8 → four ≡ to_be_bytes w32 (length body) → eight ≡ to_be_bytes w64 number
    → front ≡ ((mark ++ four) ++ eight) ++ body → text ≡ drop 8 front → sum ≡ sha256 (salt ++ text) → all ≡ front ++ sum → all ≡ framed salt number body
unfolding framed
frame_written salt body number mark four eight front text sum all is_mark long is_four is_eight is_front is_text is_sum is_all =
    let parts : front ≡ mark ++ ((four ++ eight) ++ body) = is_front ∙ regrouped mark four eight body in
    let behind : text ≡ (four ++ eight) ++ body = is_text ∙ (ap (λ (o : List ℕ). drop 8 o) parts ∙ drop_at mark ((four ++ eight) ++ body) 8 long) in
    let is : text ++ sum ≡ summed salt number body = summed_written salt body number four eight text sum (text ++ sum) is_four is_eight behind is_sum refl in
    is_all
    ∙ (ap (λ (o : List ℕ). o ++ sum) (parts ∙ ap (λ (o : List ℕ). mark ++ o) (sym behind))
    ∙ (append_assoc mark text sum ∙ (ap (λ (o : List ℕ). mark ++ o) is ∙ ap (λ (o : List ℕ). o ++ summed salt number body) is_mark)))
  where
    regrouped : (a b c d : List ℕ) → ((a ++ b) ++ c) ++ d ≡ a ++ ((b ++ c) ++ d)
    regrouped a b c d = simp append_assoc

-- Frames that follow one another: how they are read, and how they are cut.
use Rattle.std.proofs.Common.{◌≡◌, ℕ, zero, suc, ◌+◌, ◌-◌, ◌*◌, ◌^◌, ◌<◌, ◌≤◌, List, [], ◌∷◌, ◌++◌, length, take, drop, refl, sym, ap, ◌∙◌, subst, append_assoc, append-nil, length-append, add-zero, zero-add, arith, ◌⊎◌, inl, inr}
use Rattle.std.proofs.lemmas.List.{take-append-drop, take_all, length-take}
use Rattle.std.proofs.lemmas.Bool.{cases_lt}
use Rattle.std.proofs.Math.Seq.{take-append-add}
use Rattle.journal.specs.Frame.{body_limit, framed, frames_of, Fit, IsFrame, NoFrame, IsRead}
use Rattle.journal.proofs.FrameLemmas.{framed_long, frame_shows, one_frame}

-- nothing begins with a frame only if it has 44 octets
pub none_in_few : (salt : List ℕ) (number : ℕ) (octets : List ℕ) → length octets < 44 → NoFrame salt number octets
none_in_few salt number octets few body rest frame = let s = frame_shows salt number octets body rest frame in omega (arith, s.long)

-- the number behind one more body
count_more : (number len : ℕ) → number + suc len ≡ (number + 1) + len
count_more number len = omega arith

-- frames with one more at their front
pub more_read : (salt : List ℕ) (number : ℕ) (octets behind body : List ℕ) (bodies : List (List ℕ)) (rest : List ℕ)
    → IsFrame salt number octets body behind → IsRead salt (number + 1) behind bodies rest → IsRead salt number octets (body ∷ bodies) rest
more_read salt number octets behind body bodies rest frame read = record {
  spelt = frame.spelt ∙ (ap (λ (o : List ℕ). framed salt number body ++ o) read.spelt ∙ sym (append_assoc (framed salt number body) (frames_of salt (number + 1) bodies) rest));
  fit = (frame.short, frame.counted, read.fit);
  no_more = subst (λ (n : ℕ). NoFrame salt n rest) (sym (count_more number (length bodies))) read.no_more;
}

-- the first of the frames
pub first_frame : (salt : List ℕ) (number : ℕ) (octets body : List ℕ) (bodies : List (List ℕ)) (rest : List ℕ)
    → IsRead salt number octets (body ∷ bodies) rest → IsFrame salt number octets body (frames_of salt (number + 1) bodies ++ rest)
first_frame salt number octets body bodies rest read = record {
  short = read.fit.0;
  counted = read.fit.1;
  spelt = read.spelt ∙ append_assoc (framed salt number body) (frames_of salt (number + 1) bodies) rest;
}

-- those behind it
pub later_frames : (salt : List ℕ) (number : ℕ) (octets body : List ℕ) (bodies : List (List ℕ)) (rest : List ℕ)
    → IsRead salt number octets (body ∷ bodies) rest → IsRead salt (number + 1) (frames_of salt (number + 1) bodies ++ rest) bodies rest
later_frames salt number octets body bodies rest read = record {
  spelt = refl;
  fit = read.fit.2;
  no_more = subst (λ (n : ℕ). NoFrame salt n rest) (count_more number (length bodies)) read.no_more;
}

-- octets that begin with no frame are read as none
pub none_read : (salt : List ℕ) (number : ℕ) (octets : List ℕ) → NoFrame salt number octets → IsRead salt number octets [] octets
none_read salt number octets none = record { spelt = refl; fit = tt; no_more = subst (λ (n : ℕ). NoFrame salt n octets) (sym (add-zero number)) none }

-- and those that are read as none begin with none
pub read_as_none : (salt : List ℕ) (number : ℕ) (octets rest : List ℕ) → IsRead salt number octets [] rest → NoFrame salt number octets
read_as_none salt number octets rest read =
    subst (λ (o : List ℕ). NoFrame salt number o) (sym read.spelt) (subst (λ (n : ℕ). NoFrame salt n rest) (add-zero number) read.no_more)

-- what is written is read again
pub written_read : (salt : List ℕ) (number : ℕ) (bodies : List (List ℕ)) → Fit number bodies → IsRead salt number (frames_of salt number bodies) bodies []
written_read salt number bodies fit = record {
  spelt = sym (append-nil (frames_of salt number bodies));
  fit = fit;
  no_more = none_in_few salt (number + length bodies) [] (omega arith);
}

-- two lists whose first ones and whose others are the same
joined : (x y : List ℕ) (xs ys : List (List ℕ)) → x ≡ y → xs ≡ ys → x ∷ xs ≡ y ∷ ys
joined x y xs ys p q = cc

-- octets are read in one way
pub read_once : (salt : List ℕ) (number : ℕ) (octets : List ℕ) (bodies : List (List ℕ)) (rest : List ℕ) (others : List (List ℕ)) (left : List ℕ)
    → IsRead salt number octets bodies rest → IsRead salt number octets others left → (bodies ≡ others) × (rest ≡ left)
read_once salt number octets [] rest [] left one two = (refl, sym one.spelt ∙ two.spelt)
read_once salt number octets [] rest (other ∷ others) left one two =
    absurd (read_as_none salt number octets rest one _ _ (first_frame salt number octets other others left two))
read_once salt number octets (body ∷ bodies) rest [] left one two =
    absurd (read_as_none salt number octets left two _ _ (first_frame salt number octets body bodies rest one))
read_once salt number octets (body ∷ bodies) rest (other ∷ others) left one two =
    let same = one_frame salt number number octets body (frames_of salt (number + 1) bodies ++ rest) other (frames_of salt (number + 1) others ++ left)
    (first_frame salt number octets body bodies rest one) (first_frame salt number octets other others left two) in
    let behind = subst (λ (o : List ℕ). IsRead salt (number + 1) o others left) (sym same.2) (later_frames salt number octets other others left two) in
    let more = read_once salt (number + 1) (frames_of salt (number + 1) bodies ++ rest) bodies rest others left (later_frames salt number octets body bodies rest one) behind in
    (joined body other bodies others same.1 more.0, more.1)

-- frames in front of others
pub frames-append : (salt : List ℕ) (number : ℕ) (bodies others : List (List ℕ))
    → frames_of salt number (bodies ++ others) ≡ frames_of salt number bodies ++ frames_of salt (number + length bodies) others
frames-append salt number [] others = ap (λ (n : ℕ). frames_of salt n others) (sym (add-zero number))
frames-append salt number (body ∷ bodies) others =
    ap (λ (o : List ℕ). framed salt number body ++ o)
    (frames-append salt (number + 1) bodies others
    ∙ ap (λ (n : ℕ). frames_of salt (number + 1) bodies ++ frames_of salt n others) (sym (count_more number (length bodies))))
    ∙ sym (append_assoc (framed salt number body) (frames_of salt (number + 1) bodies) (frames_of salt (number + suc (length bodies)) others))

-- one more frame behind others
pub frames_push : (salt : List ℕ) (number : ℕ) (bodies : List (List ℕ)) (body : List ℕ) → number ≡ length bodies
    → frames_of salt 0 (bodies ++ body ∷ []) ≡ frames_of salt 0 bodies ++ framed salt number body
frames_push salt number bodies body is_number =
    frames-append salt 0 bodies (body ∷ [])
    ∙ ap (λ (o : List ℕ). frames_of salt 0 bodies ++ o) (append-nil _ ∙ ap (λ (n : ℕ). framed salt n body) (zero-add (length bodies) ∙ sym is_number))

-- bodies that fit, and one more
pub fit_more : (number : ℕ) (bodies : List (List ℕ)) (body : List ℕ)
    → Fit number bodies → length body < body_limit → number + length bodies < 2 ^ 64 → Fit number (bodies ++ body ∷ [])
fit_more number [] body fit short counted = (short, subst (λ (n : ℕ). n < 2 ^ 64) (add-zero number) counted, tt)
fit_more number (first ∷ bodies) body fit short counted =
    (fit.0, fit.1, fit_more (number + 1) bodies body fit.2 short (subst (λ (n : ℕ). n < 2 ^ 64) (count_more number (length bodies)) counted))

-- the same, in front of more
joined_more : (x y : List ℕ) (xs ys zs : List (List ℕ)) → x ≡ y → xs ≡ ys ++ zs → x ∷ xs ≡ (y ∷ ys) ++ zs
joined_more x y xs ys zs p q = cc

-- the first of frames in front of anything
leads : (salt : List ℕ) (number : ℕ) (body : List ℕ) (bodies : List (List ℕ)) (left : List ℕ) → Fit number (body ∷ bodies)
    → IsFrame salt number (frames_of salt number (body ∷ bodies) ++ left) body (frames_of salt (number + 1) bodies ++ left)
leads salt number body bodies left fit = record { short = fit.0; counted = fit.1; spelt = append_assoc (framed salt number body) (frames_of salt (number + 1) bodies) left }

-- what was on the disk is read first, whatever stands behind it
pub synced_first : (salt : List ℕ) (number : ℕ) (bodies found : List (List ℕ)) (left rest : List ℕ)
    → Fit number bodies → IsRead salt number (frames_of salt number bodies ++ left) found rest → (more : List (List ℕ)) × (found ≡ bodies ++ more)
synced_first salt number [] found left rest fit read = (found, refl)
synced_first salt number (body ∷ bodies) [] left rest fit read =
    absurd (read_as_none salt number _ rest read _ _ (leads salt number body bodies left fit))
synced_first salt number (body ∷ bodies) (other ∷ others) left rest fit read =
    let octets : List ℕ = frames_of salt number (body ∷ bodies) ++ left in
    let same = one_frame salt number number octets other (frames_of salt (number + 1) others ++ rest) body (frames_of salt (number + 1) bodies ++ left)
    (first_frame salt number octets other others rest read) (leads salt number body bodies left fit) in
    let next = subst (λ (o : List ℕ). IsRead salt (number + 1) o others rest) same.2 (later_frames salt number octets other others rest read) in
    let more = synced_first salt (number + 1) bodies others left rest fit.2 next in
    (more.0, joined_more other body others bodies more.0 same.1 more.1)

-- a frame that is cut short is none
cut_none : (salt : List ℕ) (number n : ℕ) (body behind : List ℕ) → length body < body_limit → number < 2 ^ 64 → n < length (framed salt number body)
    → NoFrame salt number (take n (framed salt number body ++ behind))
cut_none salt number n body behind short counted cut found rest frame =
    let octets : List ℕ = framed salt number body ++ behind in
    let whole : IsFrame salt number octets found (rest ++ drop n octets) = record {
      short = frame.short;
      counted = frame.counted;
      spelt = sym (take-append-drop n octets) ∙ (ap (λ (o : List ℕ). o ++ drop n octets) frame.spelt ∙ append_assoc (framed salt number found) rest (drop n octets));
    } in
    let same = one_frame salt number number octets found (rest ++ drop n octets) body behind whole (record { short = short; counted = counted; spelt = refl }) in
    let shown = frame_shows salt number (take n octets) found rest frame in
    omega (arith, shown.long, length-take n octets, ap length same.1, framed_long salt number body)

-- frames that are cut at some place
cut_at : (salt : List ℕ) (number n : ℕ) (body : List ℕ) (bodies : List (List ℕ)) → Fit number (body ∷ bodies)
    → ((k : ℕ) × (rest : List ℕ) × IsRead salt (number + 1) (take (n - length (framed salt number body)) (frames_of salt (number + 1) bodies)) (take k bodies) rest)
    → (n < length (framed salt number body)) ⊎ (length (framed salt number body) ≤ n)
    → (k : ℕ) × (rest : List ℕ) × IsRead salt number (take n (frames_of salt number (body ∷ bodies))) (take k (body ∷ bodies)) rest
cut_at salt number n body bodies fit more (inl short) =
    let octets : List ℕ = take n (frames_of salt number (body ∷ bodies)) in
    (zero, octets, none_read salt number octets (cut_none salt number n body (frames_of salt (number + 1) bodies) fit.0 fit.1 short))
cut_at salt number n body bodies fit more (inr long) =
    let first : List ℕ = framed salt number body in
    let others : List ℕ = frames_of salt (number + 1) bodies in
    let behind : List ℕ = take (n - length first) others in
    let place : n ≡ length first + (n - length first) = omega arith in
    let octets : take n (first ++ others) ≡ first ++ behind = ap (λ (m : ℕ). take m (first ++ others)) place ∙ take-append-add first others (n - length first) in
    let frame : IsFrame salt number (take n (first ++ others)) body behind = record { short = fit.0; counted = fit.1; spelt = octets } in
    (suc more.0, more.1, more_read salt number _ behind body (take more.0 bodies) more.1 frame more.2)

-- every cut leaves a beginning
pub cut_read : (salt : List ℕ) (number : ℕ) (bodies : List (List ℕ)) → Fit number bodies → (n : ℕ)
    → (k : ℕ) × (rest : List ℕ) × IsRead salt number (take n (frames_of salt number bodies)) (take k bodies) rest
cut_read salt number [] fit n =
    let none : take n (frames_of salt number []) ≡ [] = take_all n [] (omega arith) in
    (zero, [], subst (λ (o : List ℕ). IsRead salt number o [] []) (sym none) (written_read salt number [] tt))
cut_read salt number (body ∷ bodies) fit n =
    cut_at salt number n body bodies fit (cut_read salt (number + 1) bodies fit.2 (n - length (framed salt number body))) (cases_lt n (length (framed salt number body)))

-- frames so far, of which 44 octets each are read, and one more
pub record SoFar (salt octets : List ℕ) (bodies : List (List ℕ)) (rest : List ℕ) : Type 0 where
  pub spelt : octets ≡ frames_of salt 0 bodies ++ rest
  pub fit : Fit 0 bodies
  pub few : 44 * length bodies + length rest ≤ length octets

pub none_so_far : (salt octets : List ℕ) → SoFar salt octets [] octets
none_so_far salt octets = record { spelt = refl; fit = tt; few = omega arith }

pub more_so_far : (salt octets : List ℕ) (number : ℕ) (bodies all : List (List ℕ)) (rest body behind : List ℕ)
    → SoFar salt octets bodies rest → number ≡ length bodies → IsFrame salt number rest body behind → all ≡ bodies ++ body ∷ [] → SoFar salt octets all behind
more_so_far salt octets number bodies all rest body behind so_far is_number frame is_all =
    let shows = frame_shows salt number rest body behind frame in
    let longer : SoFar salt octets (bodies ++ body ∷ []) behind = record {
      spelt = so_far.spelt
          ∙ (ap (λ (o : List ℕ). frames_of salt 0 bodies ++ o) frame.spelt
          ∙ (sym (append_assoc (frames_of salt 0 bodies) (framed salt number body) behind)
          ∙ ap (λ (o : List ℕ). o ++ behind) (sym (frames_push salt number bodies body is_number))));
      fit = fit_more 0 bodies body so_far.fit frame.short (subst (λ (n : ℕ). n < 2 ^ 64) (is_number ∙ omega arith) frame.counted);
      few = omega (arith, so_far.few, shows.long, length-append bodies (body ∷ []));
    } in
    subst (λ (bs : List (List ℕ)). SoFar salt octets bs behind) (sym is_all) longer

pub all_read : (salt octets : List ℕ) (number : ℕ) (bodies : List (List ℕ)) (rest : List ℕ)
    → SoFar salt octets bodies rest → number ≡ length bodies → NoFrame salt number rest → IsRead salt 0 octets bodies rest
all_read salt octets number bodies rest so_far is_number none =
    record { spelt = so_far.spelt; fit = so_far.fit; no_more = subst (λ (n : ℕ). NoFrame salt n rest) (is_number ∙ omega arith) none }

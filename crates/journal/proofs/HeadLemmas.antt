-- Heads: how their octets lie, and that they are read in one way.
use Rattle.std.proofs.Common.{◌≡◌, ℕ, List, ◌++◌, length, take, drop, refl, sym, ap, ◌∙◌, append_assoc, length-append, arith}
use Rattle.std.specs.Int.{w32, w64, to_be_bytes}
use Rattle.std.proofs.lemmas.List.{take_at, drop_at}
use Rattle.sha2.specs.Sha256.{sha256}
use Rattle.sha2.proofs.Facts256.{length-sha256}
use Rattle.journal.specs.declared.heads.Head.{Head}
use Rattle.journal.specs.declared.heads.TextSum.{TextSum}
use Rattle.journal.specs.declared.heads.HeadFault.{HeadFault}
use Rattle.journal.specs.declared.heads.HeadFault.TheVariants.{Short, Foreign, WrongSum}
use Rattle.journal.specs.Head.{name, sum_octets, head_text, salt_of, head_of, IsHead, IsHeadFault}
use Rattle.journal.proofs.PartLemmas.{same_parts, same_number_4, same_number_8}

-- eight parts, one behind another
in_a_row : (a b c d e f g h rest : List ℕ) → (a ++ (b ++ (c ++ ((d ++ e) ++ (f ++ (g ++ h)))))) ++ rest ≡ a ++ (b ++ (c ++ (d ++ (e ++ (f ++ (g ++ (h ++ rest)))))))
in_a_row a b c d e f g h rest = simp append_assoc

-- a head's parts, in front of what stands behind its text
pub text_parts : (head : Head) (rest : List ℕ) → head_text head ++ rest
    ≡ name ++ (to_be_bytes w64 head.number ++ (head.random ++ (to_be_bytes w64 head.text.len ++ (head.text.sum ++ (to_be_bytes w32 head.serial ++ (to_be_bytes w64 head.origin.len ++ (head.origin.sum ++ rest)))))))
unfolding head_text
text_parts head rest = in_a_row name (to_be_bytes w64 head.number) head.random (to_be_bytes w64 head.text.len) head.text.sum (to_be_bytes w32 head.serial) (to_be_bytes w64 head.origin.len) head.origin.sum rest

-- how many octets its text has
long_in_all : (a b c d e f g h : List ℕ) → length a ≡ 16 → length b ≡ 8 → length c ≡ 16 → length d ≡ 8 → length e ≡ 32 → length f ≡ 4 → length g ≡ 8 → length h ≡ 32
    → length (a ++ (b ++ (c ++ ((d ++ e) ++ (f ++ (g ++ h)))))) ≡ 124
long_in_all a b c d e f g h la lb lc ld le lf lg lh = simp length-append (omega arith)

pub text_long : (head : Head) → IsHead head → length (head_text head) ≡ 124
unfolding head_text
text_long head is = long_in_all name (to_be_bytes w64 head.number) head.random (to_be_bytes w64 head.text.len) head.text.sum (to_be_bytes w32 head.serial) (to_be_bytes w64 head.origin.len) head.origin.sum
    refl refl is.random refl is.text.1 refl refl is.origin.1

-- a head and what stands behind it
pub head_split : (head : Head) (rest : List ℕ) → head_of head ++ rest ≡ head_text head ++ (salt_of head ++ rest)
unfolding head_of
head_split head rest = append_assoc (head_text head) (salt_of head) rest

pub salt_long : (head : Head) → length (salt_of head) ≡ 32
unfolding salt_of
salt_long head = length-sha256 (head_text head)

pub salt_is : (head : Head) → salt_of head ≡ sha256 (head_text head)
unfolding salt_of
salt_is head = refl

pub head_long : (head : Head) → IsHead head → length (head_of head) ≡ 156
unfolding head_of
head_long head is = omega (arith, length-append (head_text head) (salt_of head), text_long head is, salt_long head)

-- what is equal in its fields is equal
same_of_5 : {A B C D E F : Type 0} (make : A → B → C → D → E → F) (a a' : A) (b b' : B) (c c' : C) (d d' : D) (e e' : E)
    → a ≡ a' → b ≡ b' → c ≡ c' → d ≡ d' → e ≡ e' → make a b c d e ≡ make a' b' c' d' e'
same_of_5 make a a' b b' c c' d d' e e' p q r s t = cc

same_of_2 : {A B C : Type 0} (make : A → B → C) (a a' : A) (b b' : B) → a ≡ a' → b ≡ b' → make a b ≡ make a' b'
same_of_2 make a a' b b' p q = cc

pub same_head : (head other : Head) → head.number ≡ other.number → head.random ≡ other.random → head.text ≡ other.text → head.serial ≡ other.serial → head.origin ≡ other.origin → head ≡ other
same_head head other = same_of_5 (λ (number : ℕ) (random : List ℕ) (text : TextSum) (serial : ℕ) (origin : TextSum). record { number = number; random = random; text = text; serial = serial; origin = origin })
    head.number other.number head.random other.random head.text other.text head.serial other.serial head.origin other.origin

pub same_sum : (text other : TextSum) → text.len ≡ other.len → text.sum ≡ other.sum → text ≡ other
same_sum text other = same_of_2 (λ (len : ℕ) (sum : List ℕ). record { len = len; sum = sum }) text.len other.len text.sum other.sum

-- octets begin with one head at most
pub one_head : (head other : Head) (rest left : List ℕ) → IsHead head → IsHead other → head_of head ++ rest ≡ head_of other ++ left → (head ≡ other) × (rest ≡ left)
one_head head other rest left is so e =
    let texts : head_text head ++ (salt_of head ++ rest) ≡ head_text other ++ (salt_of other ++ left) = sym (head_split head rest) ∙ (e ∙ head_split other left) in
    let p0 = same_parts name _ name _ refl (sym (text_parts head (salt_of head ++ rest)) ∙ (texts ∙ text_parts other (salt_of other ++ left))) in
    let p1 = same_parts (to_be_bytes w64 head.number) _ (to_be_bytes w64 other.number) _ refl p0.1 in
    let p2 = same_parts head.random _ other.random _ (is.random ∙ sym so.random) p1.1 in
    let p3 = same_parts (to_be_bytes w64 head.text.len) _ (to_be_bytes w64 other.text.len) _ refl p2.1 in
    let p4 = same_parts head.text.sum _ other.text.sum _ (is.text.1 ∙ sym so.text.1) p3.1 in
    let p5 = same_parts (to_be_bytes w32 head.serial) _ (to_be_bytes w32 other.serial) _ refl p4.1 in
    let p6 = same_parts (to_be_bytes w64 head.origin.len) _ (to_be_bytes w64 other.origin.len) _ refl p5.1 in
    let p7 = same_parts head.origin.sum _ other.origin.sum _ (is.origin.1 ∙ sym so.origin.1) p6.1 in
    let p8 = same_parts (salt_of head) rest (salt_of other) left (salt_long head ∙ sym (salt_long other)) p7.1 in (
      same_head head other
          (same_number_8 head.number other.number is.number so.number p1.0)
          p2.0
          (same_sum head.text other.text (same_number_8 head.text.len other.text.len is.text.0 so.text.0 p3.0) p4.0)
          (same_number_4 head.serial other.serial is.serial so.serial p5.0)
          (same_sum head.origin other.origin (same_number_8 head.origin.len other.origin.len is.origin.0 so.origin.0 p6.0) p7.0),
      p8.1,
    )

-- octets that begin with a head's text begin with the name
pub name_first : (head : Head) (rest : List ℕ) → take 16 (head_text head ++ rest) ≡ name
name_first head rest =
    ap (λ (o : List ℕ). take 16 o) (text_parts head rest)
    ∙ take_at name (to_be_bytes w64 head.number ++ (head.random ++ (to_be_bytes w64 head.text.len ++ (head.text.sum ++ (to_be_bytes w32 head.serial ++ (to_be_bytes w64 head.origin.len ++ (head.origin.sum ++ rest))))))) 16 refl

-- a head is no fault
pub no_fault : (head : Head) (rest : List ℕ) (fault : HeadFault) → IsHead head → IsHeadFault (head_of head ++ rest) fault → ⊥
no_fault head rest Short is short = omega (arith, short, length-append (head_of head) rest, head_long head is)
no_fault head rest Foreign is foreign =
    foreign.1 (ap (λ (o : List ℕ). take 16 o) (head_split head rest) ∙ name_first head (salt_of head ++ rest))
no_fault head rest WrongSum is wrong =
    let text : take 124 (head_of head ++ rest) ≡ head_text head = ap (λ (o : List ℕ). take 124 o) (head_split head rest) ∙ take_at (head_text head) (salt_of head ++ rest) 124 (text_long head is) in
    let behind : drop 124 (head_of head ++ rest) ≡ salt_of head ++ rest = ap (λ (o : List ℕ). drop 124 o) (head_split head rest) ∙ drop_at (head_text head) (salt_of head ++ rest) 124 (text_long head is) in
    let sum : take 32 (drop 124 (head_of head ++ rest)) ≡ salt_of head = ap (λ (o : List ℕ). take 32 o) behind ∙ take_at (salt_of head) rest 32 (salt_long head) in
    wrong.2 (sum ∙ (salt_is head ∙ ap sha256 (sym text)))

-- parts that are read one behind another, the first of which is the name, are a head's text
nested_text : (a b c d e f rest : List ℕ) → a ++ (b ++ (c ++ (d ++ (e ++ (f ++ rest))))) ≡ (a ++ (b ++ (c ++ (d ++ (e ++ f))))) ++ rest
nested_text a b c d e f rest = simp append_assoc

pub split_is : (octets p r0 r1 r2 r3 r4 r5 left : List ℕ) (head : Head)
    → length p ≡ 16 → octets ≡ p ++ r0 → r0 ≡ to_be_bytes w64 head.number ++ r1 → r1 ≡ head.random ++ r2 → r2 ≡ sum_octets head.text ++ r3
    → r3 ≡ to_be_bytes w32 head.serial ++ r4 → r4 ≡ sum_octets head.origin ++ r5 → r5 ≡ left
    → take 16 octets ≡ name → octets ≡ head_text head ++ left
unfolding head_text
split_is octets p r0 r1 r2 r3 r4 r5 left head long e0 e1 e2 e3 e4 e5 e6 is_name =
    let named : p ≡ name = sym (ap (λ (o : List ℕ). take 16 o) e0 ∙ take_at p r0 16 long) ∙ is_name in
    e0 ∙ (ap (λ (o : List ℕ). o ++ r0) named
    ∙ (ap (λ (o : List ℕ). name ++ o) (e1 ∙ ap (λ (o : List ℕ). to_be_bytes w64 head.number ++ o) (e2 ∙ ap (λ (o : List ℕ). head.random ++ o) (e3
    ∙ ap (λ (o : List ℕ). sum_octets head.text ++ o) (e4 ∙ ap (λ (o : List ℕ). to_be_bytes w32 head.serial ++ o) (e5 ∙ ap (λ (o : List ℕ). sum_octets head.origin ++ o) e6)))))
    ∙ nested_text name (to_be_bytes w64 head.number) head.random (sum_octets head.text) (to_be_bytes w32 head.serial) (sum_octets head.origin) left))

-- parts that are put one behind another are a head's
written_text : (a b c d e f : List ℕ) → ((((a ++ b) ++ c) ++ d) ++ e) ++ f ≡ a ++ (b ++ (c ++ (d ++ (e ++ f))))
written_text a b c d e f = simp append_assoc

pub head_written : (head : Head) (number serial text salt all : List ℕ)
    → number ≡ to_be_bytes w64 head.number → serial ≡ to_be_bytes w32 head.serial
    → text ≡ ((((name ++ number) ++ head.random) ++ sum_octets head.text) ++ serial) ++ sum_octets head.origin
    → salt ≡ sha256 text → all ≡ text ++ salt → (all ≡ head_of head) × (salt ≡ salt_of head)
unfolding head_of head_text salt_of
head_written head number serial text salt all is_number is_serial is_text is_salt is_all =
    let is_head : text ≡ head_text head =
    is_text
    ∙ (ap (λ (o : List ℕ). ((((name ++ o) ++ head.random) ++ sum_octets head.text) ++ serial) ++ sum_octets head.origin) is_number
    ∙ (ap (λ (o : List ℕ). ((((name ++ to_be_bytes w64 head.number) ++ head.random) ++ sum_octets head.text) ++ o) ++ sum_octets head.origin) is_serial
    ∙ written_text name (to_be_bytes w64 head.number) head.random (sum_octets head.text) (to_be_bytes w32 head.serial) (sum_octets head.origin))) in
    let is_salt_of : salt ≡ sha256 (head_text head) = is_salt ∙ ap sha256 is_head in
    (is_all ∙ (ap (λ (o : List ℕ). o ++ salt) is_head ∙ ap (λ (o : List ℕ). head_text head ++ o) is_salt_of), is_salt_of)

-- octets whose sum is that of the head's text begin with a head
pub head_read : (head : Head) (octets sum rest : List ℕ) → IsHead head → octets ≡ head_text head ++ (sum ++ rest) → sum ≡ sha256 (take 124 octets)
    → (sum ≡ salt_of head) × (octets ≡ head_of head ++ rest)
head_read head octets sum rest is whole is_sum =
    let text : take 124 octets ≡ head_text head = ap (λ (o : List ℕ). take 124 o) whole ∙ take_at (head_text head) (sum ++ rest) 124 (text_long head is) in
    let salt : sum ≡ salt_of head = is_sum ∙ (ap sha256 text ∙ sym (salt_is head)) in
    (salt, whole ∙ (ap (λ (o : List ℕ). head_text head ++ (o ++ rest)) salt ∙ sym (head_split head rest)))

-- where a head's sum stands
pub sum_stands : (head : Head) (octets sum rest : List ℕ) → IsHead head → octets ≡ head_text head ++ (sum ++ rest) → length sum ≡ 32 → take 32 (drop 124 octets) ≡ sum
sum_stands head octets sum rest is whole long =
    ap (λ (o : List ℕ). take 32 o) (ap (λ (o : List ℕ). drop 124 o) whole ∙ drop_at (head_text head) (sum ++ rest) 124 (text_long head is)) ∙ take_at sum rest 32 long

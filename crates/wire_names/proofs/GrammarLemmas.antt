-- The grammar of names in messages: one reading, one fault, and the function that computes them.
use Rattle.std.proofs.Common.{◌≡◌, ℕ, zero, suc, ◌+◌, ◌-◌, ◌<◌, ◌≤◌, ◌⊎◌, inl, inr, ◌↔◌, ◌==◌, Bool, true, false, nat_lt, nat_le, cond, List, [], ◌∷◌, length, drop, All, Result, Ok, Err, refl, sym, ap, subst, ◌∙◌, arith}
use Rattle.std.proofs.lemmas.Bool.Decides.{nat_tests, Decides-ltb}
use Rattle.std.proofs.lemmas.List.{length-append, length-take-le, length-drop}
use Rattle.std.proofs.lemmas.List.Elements.{All-nil, All-cons}
use Rattle.dns_name.specs.Name.{wire_of, IsLabel}
use Rattle.dns_name.proofs.ReadLemmas.{wire_some}
use Rattle.wire_names.specs.NameAt.{name_from, name_at, with_label, through_pointer}
use Rattle.wire_names.specs.Parts.{part_at, part_of, label_of, pointer_of, label_at}
use Rattle.wire_names.specs.Spells.{Spells, closing, label, pointer, Refuses, no_part, too_long, behind_label, bad_pointer, behind_pointer}
use Rattle.wire_names.specs.declared.part.NameReadFault.{NameReadFault}
use Rattle.wire_names.specs.declared.part.NameReadFault.TheVariants.{Short, BadLength, BadPointer, TooLong}
use Rattle.wire_names.specs.declared.part.Part.{Part}
use Rattle.wire_names.specs.declared.part.Part.TheVariants.{Closing, Label, Pointer}

-- the octets of a label are there
pub record IsLabelAt (msg : List ℕ) (at n : ℕ) : Type 0 where
  pub some : 0 < n
  pub short : n < 64
  pub within : at + 1 + n ≤ length msg

whole_if : (b : Bool) (m n : ℕ) → cond b (Ok (Label m)) (Err Short) ≡ Ok (Label n) → (b ≡ true) × (m ≡ n)
whole_if true m n e = (refl, cc)
whole_if false m n e = cc

label_if : (z s b : Bool) (x n : ℕ) (octets : List ℕ) → (x == 0) ≡ z → nat_lt x 64 ≡ s → cond z (Ok Closing) (cond s (label_of x octets) (cond b (Err BadLength) (pointer_of (x - 192) octets))) ≡ Ok (Label n) → (0 < n) × (n < 64) × (n ≤ length octets)
label_if true s b x n octets ez es e = cc
label_if false true b x n octets ez es e =
    let whole = whole_if (nat_le x (length octets)) x n e in
    let within = whole.0 in
    let some : 0 < x = grind (arith, nat_tests) in
    let short : x < 64 = (Decides-ltb x 64).0 es in
    let fits : x ≤ length octets = grind (arith, nat_tests) in
    (omega (arith, whole.1), omega (arith, whole.1), omega (arith, whole.1))
label_if false false true x n octets ez es e = cc
label_if false false false x n [] ez es e = cc
label_if false false false x n (low ∷ octets) ez es e = cc

label_front : (n : ℕ) (octets : List ℕ) → part_of octets ≡ Ok (Label n) → (0 < n) × (n < 64) × (1 + n ≤ length octets)
label_front n [] e = cc
label_front n (x ∷ octets) e =
    let parts = label_if (x == 0) (nat_lt x 64) (nat_lt x 192) x n octets refl refl e in
    (parts.0, parts.1, omega (arith, parts.2))

pub IsLabelAt-part : (msg : List ℕ) (at n : ℕ) → part_at msg at ≡ Ok (Label n) → IsLabelAt msg at n
IsLabelAt-part msg at n p =
    let parts = label_front n (drop at msg) p in
    let left = length-drop at msg in
    record { some = parts.0; short = parts.1; within = omega (arith, parts.2, parts.0) }

pub label_size : (msg : List ℕ) (at n : ℕ) → IsLabelAt msg at n → length (label_at msg at n) ≡ n
label_size msg at n is =
    let left = length-drop (at + 1) msg in
    length-take-le n (drop (at + 1) msg) (omega arith)

pub IsLabel-at : (msg : List ℕ) (at n : ℕ) → part_at msg at ≡ Ok (Label n) → IsLabel (label_at msg at n)
IsLabel-at msg at n p =
    let is = IsLabelAt-part msg at n p in
    let size = label_size msg at n is in
    record { some = omega arith; short = omega arith }

joined : {A : Type 0} (x y : A) (xs ys : List A) → x ≡ y → xs ≡ ys → x ∷ xs ≡ y ∷ ys
joined x y xs ys e f = cc

-- a place spells one name
pub once : (msg : List ℕ) (run at next beyond : ℕ) (name other : List (List ℕ)) → Spells msg run at name next → Spells msg run at other beyond → (name ≡ other) × (next ≡ beyond)
once msg run at next beyond _ _ (closing p e) (closing q f) = (refl, cc)
once msg run at next beyond _ _ (closing p e) (label q l t) = cc
once msg run at next beyond _ _ (closing p e) (pointer q h t f) = cc
once msg run at next beyond _ _ (label p l s) (closing q f) = cc
once msg run at next beyond _ _ (label {n = n} {l = l} {ls = ls} p e s) (label {n = m} {l = k} {ls = ks} q f t) =
    let same : n ≡ m = cc in
    let place : at + 1 + n ≡ at + 1 + m = omega arith in
    let rest = once msg run (at + 1 + m) next beyond ls ks (subst (λ (x : ℕ). Spells msg run x ls next) place s) t in
    let first : l ≡ k = cc in
    (joined l k ls ks first rest.0, rest.1)
once msg run at next beyond _ _ (label p l s) (pointer q h t f) = cc
once msg run at next beyond _ _ (pointer p g s e) (closing q f) = cc
once msg run at next beyond _ _ (pointer p g s e) (label q l t) = cc
once msg run at next beyond name other (pointer {target = a} {beyond = x} p g s e) (pointer {target = b} {beyond = y} q h t f) =
    let same : a ≡ b = cc in
    let rest = once msg b b x y name other (subst (λ (z : ℕ). Spells msg z z name x) same s) t in
    (rest.0, cc)

-- what is spelt is of lawful labels
pub spelt_labels : (msg : List ℕ) (run at next : ℕ) (name : List (List ℕ)) → Spells msg run at name next → All IsLabel name
spelt_labels msg run at next _ (closing p e) = All-nil IsLabel
spelt_labels msg run at next _ (label {n = n} {l = l} {ls = ls} p e s) =
    let lawful = IsLabel-at msg at n p in
    All-cons IsLabel l ls (subst IsLabel (sym e) lawful) (spelt_labels msg run (at + 1 + n) next ls s)
spelt_labels msg run at next name (pointer {target = a} {beyond = x} p g s e) = spelt_labels msg a a x name s

-- a step of the computation, by what stands at the place
abbrev after : ℕ → List ℕ → ℕ → ℕ → ℕ → Result Part NameReadFault → Result (List (List ℕ) × ℕ) NameReadFault
after steps msg run at used r =
    elim r [
      | Err fault ↦ Err fault
      | Ok part ↦ elim part [
        | Closing ↦ Ok ([], at + 1)
        | Label n ↦ elim (nat_lt 255 (used + (n + 2))) [
          | true ↦ Err TooLong
          | false ↦ with_label (label_at msg at n) (name_from steps msg run (at + 1 + n) (used + (n + 1)))
        ]
        | Pointer target ↦ elim (nat_lt target run) [
          | true ↦ through_pointer (at + 2) (name_from steps msg target target used)
          | false ↦ Err BadPointer
        ]
      ]
    ]

step : (steps : ℕ) (msg : List ℕ) (run at used : ℕ) (r : Result Part NameReadFault) → part_at msg at ≡ r → name_from (suc steps) msg run at used ≡ after steps msg run at used r
unfolding name_from
step steps msg run at used r p = ap (after steps msg run at used) p

step_label : (steps : ℕ) (msg : List ℕ) (run at used n : ℕ) → part_at msg at ≡ Ok (Label n) → used + (n + 2) ≤ 255 → name_from (suc steps) msg run at used ≡ with_label (label_at msg at n) (name_from steps msg run (at + 1 + n) (used + (n + 1)))
step_label steps msg run at used n p h =
    let t : nat_lt 255 (used + (n + 2)) ≡ false = grind (arith, nat_tests) in
    step steps msg run at used (Ok (Label n)) p ∙ rw (t, after)

step_long : (steps : ℕ) (msg : List ℕ) (run at used n : ℕ) → part_at msg at ≡ Ok (Label n) → 255 < used + (n + 2) → name_from (suc steps) msg run at used ≡ Err TooLong
step_long steps msg run at used n p h =
    let t : nat_lt 255 (used + (n + 2)) ≡ true = grind (arith, nat_tests) in
    step steps msg run at used (Ok (Label n)) p ∙ rw (t, after)

step_pointer : (steps : ℕ) (msg : List ℕ) (run at used target : ℕ) → part_at msg at ≡ Ok (Pointer target) → target < run → name_from (suc steps) msg run at used ≡ through_pointer (at + 2) (name_from steps msg target target used)
step_pointer steps msg run at used target p h =
    let t : nat_lt target run ≡ true = grind (arith, nat_tests) in
    step steps msg run at used (Ok (Pointer target)) p ∙ rw (t, after)

step_bad : (steps : ℕ) (msg : List ℕ) (run at used target : ℕ) → part_at msg at ≡ Ok (Pointer target) → run ≤ target → name_from (suc steps) msg run at used ≡ Err BadPointer
step_bad steps msg run at used target p h =
    let t : nat_lt target run ≡ false = grind (arith, nat_tests) in
    step steps msg run at used (Ok (Pointer target)) p ∙ rw (t, after)

-- what is spelt and fits is computed
pub spelt_computed : (steps : ℕ) (msg : List ℕ) (run at used next : ℕ) (name : List (List ℕ)) → Spells msg run at name next → used + length (wire_of name) ≤ 255 → run + 255 < steps + used → name_from steps msg run at used ≡ Ok (name, next)
spelt_computed zero msg run at used next name s h k = let some = wire_some name in absurd (omega arith)
spelt_computed (suc steps) msg run at used next _ (closing p e) h k = step steps msg run at used (Ok Closing) p ∙ (cc)
spelt_computed (suc steps) msg run at used next _ (label {n = n} {l = l} {ls = ls} p e s) h k =
    let is = IsLabelAt-part msg at n p in
    let size = ap length e ∙ label_size msg at n is in
    let both = length-append l (wire_of ls) in
    let some = wire_some ls in
    let rest = spelt_computed steps msg run (at + 1 + n) (used + (n + 1)) next ls s (omega arith) (omega arith) in
    step_label steps msg run at used n p (omega arith) ∙ ap (with_label (label_at msg at n)) rest ∙ ap (λ (x : List ℕ). Ok (x ∷ ls, next)) (sym e)
spelt_computed (suc steps) msg run at used next name (pointer {target = a} {beyond = x} p g s e) h k =
    let rest = spelt_computed steps msg a a used x name s h (omega arith) in
    step_pointer steps msg run at used a p g ∙ ap (through_pointer (at + 2)) rest ∙ ap (λ (z : ℕ). Ok (name, z)) (sym e)

-- a fault is computed
pub refused_computed : (steps : ℕ) (msg : List ℕ) (run at used : ℕ) (fault : NameReadFault) → Refuses msg run at used fault → used < 255 → run + 255 < steps + used → name_from steps msg run at used ≡ Err fault
refused_computed zero msg run at used fault s h k = absurd (omega arith)
refused_computed (suc steps) msg run at used fault (no_part p) h k = step steps msg run at used (Err fault) p
refused_computed (suc steps) msg run at used fault (too_long {n = n} p g e) h k = step_long steps msg run at used n p g ∙ ap Err (sym e)
refused_computed (suc steps) msg run at used fault (behind_label {n = n} p g s) h k =
    let is = IsLabelAt-part msg at n p in
    let rest = refused_computed steps msg run (at + 1 + n) (used + (n + 1)) fault s (omega arith) (omega arith) in
    step_label steps msg run at used n p g ∙ ap (with_label (label_at msg at n)) rest
refused_computed (suc steps) msg run at used fault (bad_pointer {target = a} p g e) h k = step_bad steps msg run at used a p g ∙ ap Err (sym e)
refused_computed (suc steps) msg run at used fault (behind_pointer {target = a} p g s) h k =
    let rest = refused_computed steps msg a a used fault s h (omega arith) in
    step_pointer steps msg run at used a p g ∙ ap (through_pointer (at + 2)) rest

-- what is spelt and fits isn't refused
pub apart : (msg : List ℕ) (run at used next : ℕ) (name : List (List ℕ)) (fault : NameReadFault) → Spells msg run at name next → used + length (wire_of name) ≤ 255 → Refuses msg run at used fault → ⊥
apart msg run at used next name fault s h r =
    let some = wire_some name in
    let read = spelt_computed (run + 256) msg run at used next name s h (omega arith) in
    let not = refused_computed (run + 256) msg run at used fault r (omega arith) (omega arith) in
    cc

-- a place has one fault
pub one_fault_at : (msg : List ℕ) (at : ℕ) (fault other : NameReadFault) → Refuses msg at at 0 fault → Refuses msg at at 0 other → fault ≡ other
one_fault_at msg at fault other r s =
    let one = refused_computed (at + 256) msg at at 0 fault r (omega arith) (omega arith) in
    let two = refused_computed (at + 256) msg at at 0 other s (omega arith) (omega arith) in
    cc

-- a place spells a name that fits, or has a fault
pub data Outcome (msg : List ℕ) (run at used : ℕ) : Type 0 where
  read : {next : ℕ} {name : List (List ℕ)} → Spells msg run at name next → used + length (wire_of name) ≤ 255 → Outcome msg run at used
  not_read : {fault : NameReadFault} → Refuses msg run at used fault → Outcome msg run at used

label_outcome : (msg : List ℕ) (run at used n : ℕ) → part_at msg at ≡ Ok (Label n) → used + (n + 2) ≤ 255 → Outcome msg run (at + 1 + n) (used + (n + 1)) → Outcome msg run at used
label_outcome msg run at used n p g (read {name = name} s h) =
    let is = IsLabelAt-part msg at n p in
    let size = label_size msg at n is in
    let both = length-append (label_at msg at n) (wire_of name) in
    read (label p refl s) (omega arith)
label_outcome msg run at used n p g (not_read r) = not_read (behind_label p g r)

pointer_outcome : (msg : List ℕ) (run at used target : ℕ) → part_at msg at ≡ Ok (Pointer target) → target < run → Outcome msg target target used → Outcome msg run at used
pointer_outcome msg run at used target p g (read s h) = read (pointer p g s refl) h
pointer_outcome msg run at used target p g (not_read r) = not_read (behind_pointer p g r)

pub le_or_lt : (a b : ℕ) → (a ≤ b) ⊎ (b < a)
le_or_lt a b = elim (nat_le a b) as (λ v. nat_le a b ≡ v → (a ≤ b) ⊎ (b < a)) [ true ↦ λ e. inl (grind (arith, nat_tests)) | false ↦ λ e. inr (grind (arith, nat_tests)) ] refl

outcome : (steps : ℕ) (msg : List ℕ) (run at used : ℕ) (r : Result Part NameReadFault) → part_at msg at ≡ r → used < 255 → run + 255 < steps + used → Outcome msg run at used
outcome zero msg run at used r p h k = absurd (omega arith)
outcome (suc steps) msg run at used (Err fault) p h k = not_read (no_part p)
outcome (suc steps) msg run at used (Ok Closing) p h k = read (closing p refl) (omega arith)
outcome (suc steps) msg run at used (Ok (Label n)) p h k =
    elim (le_or_lt (used + (n + 2)) 255) [
      | inl g ↦ label_outcome msg run at used n p g (outcome steps msg run (at + 1 + n) (used + (n + 1)) (part_at msg (at + 1 + n)) refl (omega arith) (omega arith))
      | inr g ↦ not_read (too_long p g refl)
    ]
outcome (suc steps) msg run at used (Ok (Pointer target)) p h k =
    elim (le_or_lt run target) [
      | inl g ↦ not_read (bad_pointer p g refl)
      | inr g ↦ pointer_outcome msg run at used target p g (outcome steps msg target target used (part_at msg target) refl h (omega arith))
    ]

pub computed_spelt : (msg : List ℕ) (at next : ℕ) (name : List (List ℕ)) → Spells msg at at name next → length (wire_of name) ≤ 255 → name_at msg at ≡ Ok (name, next)
unfolding name_at
computed_spelt msg at next name s h = spelt_computed (at + 256) msg at at 0 next name s (omega arith) (omega arith)

pub computed_fault : (msg : List ℕ) (at : ℕ) (fault : NameReadFault) → Refuses msg at at 0 fault → name_at msg at ≡ Err fault
unfolding name_at
computed_fault msg at fault r = refused_computed (at + 256) msg at at 0 fault r (omega arith) (omega arith)

same_read : (r s : List (List ℕ) × ℕ) (o : Result (List (List ℕ) × ℕ) NameReadFault) → o ≡ Ok r → o ≡ Ok s → r ≡ s
same_read r s o e f = cc

outcome_spelt : (msg : List ℕ) (at next : ℕ) (name : List (List ℕ)) → name_at msg at ≡ Ok (name, next) → Outcome msg at at 0 → Spells msg at at name next × (length (wire_of name) ≤ 255)
outcome_spelt msg at next name e (read {next = beyond} {name = other} s h) =
    let is = computed_spelt msg at beyond other s (omega arith) in
    let both = same_read (other, beyond) (name, next) (name_at msg at) is e in
    let same : other ≡ name = ap (λ (r : List (List ℕ) × ℕ). r.0) both in
    let place : beyond ≡ next = ap (λ (r : List (List ℕ) × ℕ). r.1) both in
    let len = ap (λ (x : List (List ℕ)). length (wire_of x)) same in
    (subst (λ (x : List (List ℕ)). Spells msg at at x next) same (subst (λ (x : ℕ). Spells msg at at other x) place s), omega arith)
outcome_spelt msg at next name e (not_read {fault = fault} r) = let is = computed_fault msg at fault r in cc

outcome_fault : (msg : List ℕ) (at : ℕ) (fault : NameReadFault) → name_at msg at ≡ Err fault → Outcome msg at at 0 → Refuses msg at at 0 fault
outcome_fault msg at fault e (read {next = beyond} {name = other} s h) = let is = computed_spelt msg at beyond other s (omega arith) in cc
outcome_fault msg at fault e (not_read {fault = other} r) =
    let is = computed_fault msg at other r in
    let same : other ≡ fault = cc in
    subst (λ (x : NameReadFault). Refuses msg at at 0 x) same r

pub outcome_behind : (msg : List ℕ) (at used : ℕ) → used < 255 → Outcome msg at at used
outcome_behind msg at used h = outcome (at + 256) msg at at used (part_at msg at) refl h (omega arith)

outcome_at : (msg : List ℕ) (at : ℕ) → Outcome msg at at 0
outcome_at msg at = outcome_behind msg at 0 (omega arith)

pub name_at_spelt : (msg : List ℕ) (at next : ℕ) (name : List (List ℕ)) → (name_at msg at ≡ Ok (name, next)) ↔ (Spells msg at at name next × (length (wire_of name) ≤ 255))
name_at_spelt msg at next name = (λ e. outcome_spelt msg at next name e (outcome_at msg at), λ s. computed_spelt msg at next name s.0 s.1)

pub name_at_fault : (msg : List ℕ) (at : ℕ) (fault : NameReadFault) → (name_at msg at ≡ Err fault) ↔ Refuses msg at at 0 fault
name_at_fault msg at fault = (λ e. outcome_fault msg at fault e (outcome_at msg at), λ r. computed_fault msg at fault r)

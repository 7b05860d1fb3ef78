-- Octets of fields and of the words after them, put one after the other.
use Rattle.std.proofs.Common.{◌≡◌, ℕ, ◌+◌, ◌-◌, ◌<◌, ◌≤◌, inl, inr, List, [], ◌∷◌, ◌++◌, map, length, drop, take, get_or, Result, Ok, Err, OnOk, refl, sym, ap, ◌∙◌, arith}
use Rattle.std.proofs.lemmas.List.{drop_all, length-drop, at_drop_more, take_rest}
use Rattle.record_text.specs.Data.{IsToldOf}
use Rattle.record_text.specs.Private.{ReadsBehind}
use Rattle.record_text.specs.declared.cause.Cause.{Cause}
use Rattle.record_text.specs.declared.cause.Cause.TheVariants.{BadData}
use Rattle.record_text.proofs.DataLemmas.{behind}
use Rattle.wide_text.specs.Fields.{fields_of, rest_of}
use Rattle.wide_text.specs.declared.forms.Field.{Field}
use Rattle.wide_text.specs.declared.forms.Rest.{Rest}
use Rattle.zone_lexing.specs.Word.{Written, written}
use Rattle.zone_lexing.specs.declared.word.Word.{Word}

-- what is put so far, and what the rest gives
abbrev pub whole : List ℕ → List (List ℕ) → List Field → Rest → List Written → Result (List ℕ) Cause
whole own origin fields rest words = behind own (fields_of origin fields rest words)

too_few : (own : List ℕ) (origin : List (List ℕ)) (fields : List Field) (rest : Rest) → 0 < length fields → whole own origin fields rest [] ≡ Err BadData
too_few own origin [] rest h = absurd (omega arith)
too_few own origin (field ∷ fields) rest h = refl

-- the words end before the fields
pub whole_few : (own : List ℕ) (origin : List (List ℕ)) (fields : List Field) (rest : Rest) (words : List Word) (i : ℕ) → i < length fields → length words ≤ i → whole own origin (drop i fields) rest (map written (drop i words)) ≡ Err BadData
whole_few own origin fields rest words i h k =
    let left : 0 < length (drop i fields) = let d = length-drop i fields in omega arith in
    rw (drop_all i words k) (too_few own origin (drop i fields) rest left)

-- the fields end
pub whole_rest : (own : List ℕ) (origin : List (List ℕ)) (fields : List Field) (rest : Rest) (words : List Word) (i : ℕ) → length fields ≤ i → whole own origin (drop i fields) rest (map written (drop i words)) ≡ behind own (rest_of rest (map written (drop i words)))
whole_rest own origin fields rest words i h = rw (drop_all i fields h) refl

-- the next field and the next word, at an index
pub whole_next : (own : List ℕ) (origin : List (List ℕ)) (fields : List Field) (rest : Rest) (words : List Word) (i : ℕ) (f : Field) (w : Word) → i < length fields → i < length words → whole own origin (drop i fields) rest (map written (drop i words)) ≡ whole own origin (get_or fields i f ∷ drop (i + 1) fields) rest (written (get_or words i w) ∷ map written (drop (i + 1) words))
whole_next own origin fields rest words i f w h k =
    at_drop_more (λ (fs : List Field). whole own origin fs rest (map written (drop i words))) fields i f h
    ∙ at_drop_more (λ (ws : List Word). whole own origin (get_or fields i f ∷ drop (i + 1) fields) rest (map written ws)) words i w k

behind_ok : (own all : List ℕ) (r : Result (List ℕ) Cause) → behind own r ≡ Ok all → (more : List ℕ) × (r ≡ Ok more) × (own ++ more ≡ all)
behind_ok own all (Ok more) e = (more, refl, cc)
behind_ok own all (Err cause) e = cc

behind_err : (own : List ℕ) (r : Result (List ℕ) Cause) (cause : Cause) → behind own r ≡ Err cause → r ≡ Err cause
behind_err own (Ok more) cause e = cc
behind_err own (Err other) cause e = cc

-- the words after the fields are read behind what is read of the fields
pub rest-put : (old own new : List ℕ) (left reading : Result (List ℕ) Cause) → behind own left ≡ behind old reading → ReadsBehind left own new → ReadsBehind reading old new
rest-put old own new left reading e put =
    let read : behind own left ≡ Ok new = ap (behind own) put.read ∙ ap Ok (sym put.octets) in
    let parts = behind_ok old new reading (sym e ∙ read) in
    record { front = parts.0; read = parts.1; octets = sym parts.2 }

-- and their fault is one of the whole
pub rest-fault : (old own : List ℕ) (left reading : Result (List ℕ) Cause) (cause : Cause) → behind own left ≡ behind old reading → IsToldOf left cause → IsToldOf reading cause
rest-fault old own left reading cause e (inl none) = inl none
rest-fault old own left reading cause e (inr fault) = inr (behind_err old reading cause (sym e ∙ ap (behind own) fault))

-- the words after the fields, as the loop leaves them
pub rest-from : (own old : List ℕ) (origin : List (List ℕ)) (fields : List Field) (rest : Rest) (words : List Word) (i : ℕ) → length fields ≤ i → i ≤ length fields → whole own origin (drop i fields) rest (map written (drop i words)) ≡ whole old origin fields rest (map written words)
    → behind own (rest_of rest (map written (take (length words - length fields) (drop (length fields) words)))) ≡ behind old (fields_of origin fields rest (map written words))
rest-from own old origin fields rest words i low high way =
    let same : length fields ≡ i = omega arith in
    ap (λ (ws : List Word). behind own (rest_of rest (map written ws))) (take_rest words (length fields))
    ∙ ap (λ (k : ℕ). behind own (rest_of rest (map written (drop k words)))) same
    ∙ sym (whole_rest own origin fields rest words i low)
    ∙ way

pub on_ok_weaker : {A E : Type 0} (r : Result A E) (P Q : Type 0) → (P → Q) → OnOk r P → OnOk r Q
on_ok_weaker (Ok x) P Q f h = f h
on_ok_weaker (Err e) P Q f h = h

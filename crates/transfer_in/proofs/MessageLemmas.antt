-- A list that is taken message by message.
use Rattle.std.proofs.Common.{◌≡◌, length-append, arith, Option, Some, None, unwrap_or, sym, ap, ◌∙◌, refl, subst, ℕ, ◌+◌, ◌<◌, ◌≤◌, List, [], ◌∷◌, ◌++◌, append_assoc, map, length, take, drop, get_or, Result, Ok, Err, IfOk, IfErr, ◌⊎◌, inl, inr}
use Rattle.std.specs.Global.{Vec}
use Rattle.std.proofs.lemmas.List.{append-nil, nil_from_length, take_more, drop_more, take-append-drop, take_all}
use Rattle.dns_rdata.specs.Record.{Record}
use Rattle.dns_rdata.specs.Raw.{RawRecord}
use Rattle.transfer_core.specs.declared.fault.TransferFault.{TransferFault}
use Rattle.transfer_core.specs.declared.fault.TransferFault.TheVariants.{NoMemory}
use Rattle.transfer_in.specs.declared.taking.Progress.{Progress}
use Rattle.transfer_in.specs.ListState.{Tells}
use Rattle.transfer_in.specs.Taking.{unreadable, records_of_message, records_of_messages, behind, IsRead, IsRefused}
use Rattle.transfer_in.proofs.TakingLemmas.{IsRead-more}

-- the records of messages
abbrev pub records_of : List (Vec ℕ) → List RawRecord
records_of messages = records_of_messages (map (λ (message : Vec ℕ). message.items) messages)

records_of-append : (xs ys : List (Vec ℕ)) → records_of (xs ++ ys) ≡ records_of xs ++ records_of ys
records_of-append [] ys = refl
records_of-append (x ∷ xs) ys = ap (λ (l : List RawRecord). records_of_message x.items ++ l) (records_of-append xs ys) ∙ sym (append_assoc (records_of_message x.items) (records_of xs) (records_of ys))

module _ (zone : List Record) (a b : Progress) (xs : List (Vec ℕ)) (i : ℕ) where
  module _ (message : Vec ℕ) (within : i < length xs) (is : message ≡ get_or xs i message) (read : IsRead zone a b (records_of (take i xs))) where
    pub read_at : (c : Progress) → IsRead zone b c (records_of_message message.items) → IsRead zone a c (records_of (take (i + 1) xs))
    read_at c h =
        subst (IsRead zone a c)
        (ap (λ (l : List RawRecord). records_of (take i xs) ++ l) (sym (append-nil (records_of_message message.items)))
        ∙ sym (records_of-append (take i xs) (message ∷ []))
        ∙ ap records_of (ap (λ (m : Vec ℕ). take i xs ++ m ∷ []) is ∙ sym (take_more xs i message within)))
        (IsRead-more zone a b c (records_of (take i xs)) (records_of_message message.items) read h)

    parts : take i xs ++ message ∷ drop (i + 1) xs ≡ xs
    parts = ap (λ (m : Vec ℕ). take i xs ++ m ∷ drop (i + 1) xs) is ∙ ap (λ (l : List (Vec ℕ)). take i xs ++ l) (sym (drop_more xs i message within)) ∙ take-append-drop i xs

    -- where there is no record, the message has none
    pub none_at : records_of xs ≡ [] → records_of_message message.items ≡ []
    none_at e =
        let all : records_of (take i xs) ++ (records_of_message message.items ++ records_of (drop (i + 1) xs)) ≡ [] =
        sym (ap records_of (sym parts) ∙ records_of-append (take i xs) (message ∷ drop (i + 1) xs)) ∙ e in
        let sizes = length-append (records_of (take i xs)) (records_of_message message.items ++ records_of (drop (i + 1) xs)) in
        let inner = length-append (records_of_message message.items) (records_of (drop (i + 1) xs)) in
        nil_from_length (records_of_message message.items) (omega (arith, ap length all))

    pub refused_at : (fault : TransferFault) → (fault ≡ NoMemory) ⊎ IsRefused zone b (records_of_message message.items) fault → (fault ≡ NoMemory) ⊎ (behind zone a (records_of xs) ≡ Err fault)
    refused_at fault (inl e) = inl e
    refused_at fault (inr h) =
        inr
        (ap (λ (l : List (Vec ℕ)). behind zone a (records_of l)) (sym parts)
        ∙ ap (behind zone a) (records_of-append (take i xs) (message ∷ drop (i + 1) xs))
        ∙ read.reads (records_of_message message.items ++ records_of (drop (i + 1) xs))
        ∙ h.refuses (records_of (drop (i + 1) xs)))

  pub read_all : length xs ≤ i → IsRead zone a b (records_of (take i xs)) → behind zone a (records_of xs) ≡ behind zone b []
  read_all all h = ap (behind zone a) (sym (append-nil (records_of xs)) ∙ ap (λ (l : List (Vec ℕ)). records_of l ++ []) (sym (take_all i xs all))) ∙ h.reads []

-- what is told of the end, of all
pub told_zone : (all end reported : Result (List Record) TransferFault) → all ≡ end → Tells end (λ next. next) reported → IfOk reported (λ next. all ≡ Ok next)
told_zone all end (Ok next) e h = e ∙ h
told_zone all end (Err fault) e h = tt

pub told_fault : (all end reported : Result (List Record) TransferFault) → all ≡ end → Tells end (λ next. next) reported → IfErr reported (λ fault. (fault ≡ NoMemory) ⊎ (all ≡ Err fault))
told_fault all end (Ok next) e h = tt
told_fault all end (Err fault) e (inl f) = inl f
told_fault all end (Err fault) e (inr f) = inr (e ∙ f)

-- records of which none are wanted are some: those that are read, or the one that can't be
pub some_of : (found : Option (List RawRecord)) → (found ≡ Some [] → ⊥) → unwrap_or found (unreadable ∷ []) ≡ [] → ⊥
some_of None h e = cc
some_of (Some records) h e = h (ap (λ (l : List RawRecord). Some l) e)

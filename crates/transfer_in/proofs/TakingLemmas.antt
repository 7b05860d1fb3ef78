-- A list that is taken record by record.
use Rattle.std.proofs.Common.{◌≡◌, refl, sym, ap, ◌∙◌, subst, ℕ, ◌+◌, ◌<◌, ◌≤◌, Bool, true, false, not, cond, List, [], ◌∷◌, ◌++◌, append_assoc, length, take, drop, get_or, Option, Some, None, Result, Ok, Err, ◌⊎◌, inl, inr}
use Rattle.std.proofs.lemmas.List.{take_more, drop_more, take-append-drop, take_all}
use Rattle.dns_name.specs.Name.{Name, is_under}
use Rattle.dns_rdata.specs.Record.{Record}
use Rattle.dns_rdata.specs.Raw.{RawRecord}
use Rattle.zone_tree.specs.Zone.{apex_of}
use Rattle.transfer_core.specs.declared.fault.TransferFault.{TransferFault}
use Rattle.transfer_core.specs.declared.fault.TransferFault.TheVariants.{Broken, NotInZone, NoMemory}
use Rattle.transfer_in.specs.declared.taking.Progress.{Progress}
use Rattle.transfer_in.specs.declared.taking.Progress.TheVariants.{Nothing, Opened, Under}
use Rattle.transfer_core.specs.Take.{opened, Reading, entered, is_soa, step, steps_through, ended, behind_first}
use Rattle.transfer_in.specs.ListState.{Within, reading_of, stage_of}
use Rattle.transfer_in.specs.Taking.{behind, IsRead, IsRefused}

-- what behind a list's records is told, by what they made
abbrev ends : List Record → Result Reading TransferFault → Result (List Record) TransferFault
ends zone o = elim o [ Err fault ↦ Err fault | Ok reading ↦ ended (apex_of zone) reading.stage reading.records ]

-- one more record, by what it enters as
not_entered : (apex : Name) (first : Record) (reading : Reading) (sent : RawRecord) (list : List RawRecord) → entered sent ≡ None → steps_through apex first reading (sent ∷ list) ≡ Err Broken
not_entered apex first reading sent list e = rw (e, steps_through) refl

faulty : (apex : Name) (first : Record) (reading : Reading) (sent : RawRecord) (list : List RawRecord) (r : Record) (fault : TransferFault) → entered sent ≡ Some r → step apex first reading.stage reading.records r ≡ Err fault → steps_through apex first reading (sent ∷ list) ≡ Err fault
faulty apex first reading sent list r fault e f = rw (e, steps_through, f) refl

gone_on : (apex : Name) (first : Record) (reading next : Reading) (sent : RawRecord) (list : List RawRecord) (r : Record) → entered sent ≡ Some r → step apex first reading.stage reading.records r ≡ Ok next → steps_through apex first reading (sent ∷ list) ≡ steps_through apex first next list
gone_on apex first reading next sent list r e f = rw (e, steps_through, f) refl

-- why a record doesn't enter
abbrev pub IsOut : RawRecord → TransferFault → Type 0
IsOut sent fault = (fault ≡ NoMemory) ⊎ ((fault ≡ Broken) × (entered sent ≡ None))

module _ (zone : List Record) where
  refused_as : (before : Progress) (sent : RawRecord) (fault : TransferFault) → (entered sent ≡ None → IsRefused zone before (sent ∷ []) Broken) → IsOut sent fault → (fault ≡ NoMemory) ⊎ IsRefused zone before (sent ∷ []) fault
  refused_as before sent fault f (inl e) = inl e
  refused_as before sent fault f (inr e) = inr (subst (IsRefused zone before (sent ∷ [])) (sym e.0) (f e.1))

  -- the first record
  pub opens : (sent : RawRecord) (first : Record) → entered sent ≡ Some first → is_soa first ≡ true → IsRead zone Nothing (Opened first) (sent ∷ [])
  opens sent first e soa = record {
    reads = λ list.
        ap (λ (o : Option Record). elim o [ None ↦ Err Broken | Some f ↦ cond (is_soa f) (behind_first zone f list) (Err Broken) ]) e
        ∙ ap (λ b. cond b (behind_first zone first list) (Err Broken)) soa;
  }

  opens_not : (sent : RawRecord) → entered sent ≡ None → IsRefused zone Nothing (sent ∷ []) Broken
  opens_not sent e = record {
    refuses = λ list. ap (λ (o : Option Record). elim o [ None ↦ Err Broken | Some f ↦ cond (is_soa f) (behind_first zone f list) (Err Broken) ]) e;
  }

  pub opens_out : (sent : RawRecord) (fault : TransferFault) → IsOut sent fault → (fault ≡ NoMemory) ⊎ IsRefused zone Nothing (sent ∷ []) fault
  opens_out sent fault out = refused_as Nothing sent fault (opens_not sent) out

  pub opens_plain : (sent : RawRecord) (first : Record) → entered sent ≡ Some first → is_soa first ≡ false → IsRefused zone Nothing (sent ∷ []) Broken
  opens_plain sent first e plain = record {
    refuses = λ list.
        ap (λ (o : Option Record). elim o [ None ↦ Err Broken | Some f ↦ cond (is_soa f) (behind_first zone f list) (Err Broken) ]) e
        ∙ ap (λ b. cond b (behind_first zone first list) (Err Broken)) plain;
  }

  -- the second
  module _ (first : Record) (sent : RawRecord) where
    abbrev at_first : Reading
    at_first = record { stage = opened; records = zone }

    by_place : (b : Bool) → is_under first.owner (apex_of zone) ≡ b → (list : List RawRecord) → behind zone (Opened first) (sent ∷ list) ≡ cond (not b) (Err NotInZone) (ends zone (steps_through (apex_of zone) first at_first (sent ∷ list)))
    by_place b e list = ap (λ c. cond (not c) (Err NotInZone) (ends zone (steps_through (apex_of zone) first at_first (sent ∷ list)))) e

    pub begins_outside : is_under first.owner (apex_of zone) ≡ false → IsRefused zone (Opened first) (sent ∷ []) NotInZone
    begins_outside outside = record { refuses = λ list. by_place false outside list }

    module _ (under : is_under first.owner (apex_of zone) ≡ true) where
      begins_not : entered sent ≡ None → IsRefused zone (Opened first) (sent ∷ []) Broken
      begins_not e = record { refuses = λ list. by_place true under list ∙ ap (ends zone) (not_entered (apex_of zone) first at_first sent list e) }

      pub begins_out : (fault : TransferFault) → IsOut sent fault → (fault ≡ NoMemory) ⊎ IsRefused zone (Opened first) (sent ∷ []) fault
      begins_out fault out = refused_as (Opened first) sent fault begins_not out

      pub begins_fault : (r : Record) (fault : TransferFault) → entered sent ≡ Some r → (fault ≡ NoMemory) ⊎ (step (apex_of zone) first opened zone r ≡ Err fault) → (fault ≡ NoMemory) ⊎ IsRefused zone (Opened first) (sent ∷ []) fault
      begins_fault r fault e (inl f) = inl f
      begins_fault r fault e (inr f) = inr (record { refuses = λ list. by_place true under list ∙ ap (ends zone) (faulty (apex_of zone) first at_first sent list r fault e f) })

      pub begins : (r : Record) (within : Within) → entered sent ≡ Some r → step (apex_of zone) first opened zone r ≡ Ok (reading_of within) → within.first ≡ first → IsRead zone (Opened first) (Under within) (sent ∷ [])
      begins r within e f same = record {
        reads = λ list.
            by_place true under list
            ∙ ap (ends zone) (gone_on (apex_of zone) first at_first (reading_of within) sent list r e f)
            ∙ ap (λ g. ends zone (steps_through (apex_of zone) g (reading_of within) list)) (sym same);
      }

  -- a further one
  module _ (within : Within) (sent : RawRecord) where
    goes_not : entered sent ≡ None → IsRefused zone (Under within) (sent ∷ []) Broken
    goes_not e = record { refuses = λ list. ap (ends zone) (not_entered (apex_of zone) within.first (reading_of within) sent list e) }

    pub goes_out : (fault : TransferFault) → IsOut sent fault → (fault ≡ NoMemory) ⊎ IsRefused zone (Under within) (sent ∷ []) fault
    goes_out fault out = refused_as (Under within) sent fault goes_not out

    pub goes_fault : (r : Record) (fault : TransferFault) → entered sent ≡ Some r → (fault ≡ NoMemory) ⊎ (step (apex_of zone) within.first (stage_of within.stage) within.records r ≡ Err fault) → (fault ≡ NoMemory) ⊎ IsRefused zone (Under within) (sent ∷ []) fault
    goes_fault r fault e (inl f) = inl f
    goes_fault r fault e (inr f) = inr (record { refuses = λ list. ap (ends zone) (faulty (apex_of zone) within.first (reading_of within) sent list r fault e f) })

    pub goes_on : (r : Record) (next : Within) → entered sent ≡ Some r → step (apex_of zone) within.first (stage_of within.stage) within.records r ≡ Ok (reading_of next) → next.first ≡ within.first → IsRead zone (Under within) (Under next) (sent ∷ [])
    goes_on r next e f same = record {
      reads = λ list.
          ap (ends zone) (gone_on (apex_of zone) within.first (reading_of within) (reading_of next) sent list r e f)
          ∙ ap (λ g. ends zone (steps_through (apex_of zone) g (reading_of next) list)) (sym same);
    }

  -- records in a row
  pub IsRead-none : (progress : Progress) → IsRead zone progress progress []
  IsRead-none progress = record { reads = λ list. refl }

  pub IsRead-more : (a b c : Progress) (xs ys : List RawRecord) → IsRead zone a b xs → IsRead zone b c ys → IsRead zone a c (xs ++ ys)
  IsRead-more a b c xs ys h k = record { reads = λ list. ap (behind zone a) (append_assoc xs ys list) ∙ h.reads (ys ++ list) ∙ k.reads list }

  pub IsRefused-behind : (a b : Progress) (fault : TransferFault) (xs : List RawRecord) (sent : RawRecord) (back : List RawRecord) → IsRead zone a b xs → IsRefused zone b (sent ∷ []) fault → IsRefused zone a (xs ++ sent ∷ back) fault
  IsRefused-behind a b fault xs sent back h k = record { refuses = λ list. ap (behind zone a) (append_assoc xs (sent ∷ back) list) ∙ h.reads (sent ∷ (back ++ list)) ∙ k.refuses (back ++ list) }

  -- records of which some were read
  pub IsRefused-at : (a b : Progress) (fault : TransferFault) (xs : List RawRecord) (i : ℕ) (sent : RawRecord) → i < length xs → sent ≡ get_or xs i sent → IsRead zone a b (take i xs) → (fault ≡ NoMemory) ⊎ IsRefused zone b (sent ∷ []) fault → (fault ≡ NoMemory) ⊎ IsRefused zone a xs fault
  IsRefused-at a b fault xs i sent within is h (inl e) = inl e
  IsRefused-at a b fault xs i sent within is h (inr k) = inr (subst (λ l. IsRefused zone a l fault) (parts xs i sent within is) (IsRefused-behind a b fault (take i xs) sent (drop (i + 1) xs) h k))
    where
      parts : (ys : List RawRecord) (n : ℕ) (s : RawRecord) → n < length ys → s ≡ get_or ys n s → take n ys ++ s ∷ drop (n + 1) ys ≡ ys
      parts ys n s l e = (λ i. take n ys ++ (e i ∷ drop (n + 1) ys)) ∙ ap (λ l. take n ys ++ l) (sym (drop_more ys n s l)) ∙ take-append-drop n ys

  pub IsRead-at : (a b c : Progress) (xs : List RawRecord) (i : ℕ) (sent : RawRecord) → i < length xs → sent ≡ get_or xs i sent → IsRead zone a b (take i xs) → IsRead zone b c (sent ∷ []) → IsRead zone a c (take (i + 1) xs)
  IsRead-at a b c xs i sent within is h k = subst (IsRead zone a c) (ap (λ s. take i xs ++ s ∷ []) is ∙ sym (take_more xs i sent within)) (IsRead-more a b c (take i xs) (sent ∷ []) h k)

  pub IsRead-end : (a b : Progress) (xs : List RawRecord) (i : ℕ) → length xs ≤ i → IsRead zone a b (take i xs) → IsRead zone a b xs
  IsRead-end a b xs i all h = subst (IsRead zone a b) (take_all i xs all) h

-- Which record of a list is refused.
use Rattle.std.proofs.Common.{◌≡◌, refl, sym, ap, ◌∙◌, List, [], ◌∷◌, ◌++◌, Option, Some, None, Result, Ok, Err}
use Rattle.std.specs.Prelude.{◌↔◌}
use Rattle.dns_name.specs.Name.{Name}
use Rattle.dns_rdata.specs.Record.{Record}
use Rattle.dns_rdata.specs.Raw.{RawRecord}
use Rattle.transfer_core.specs.declared.fault.TransferFault.{TransferFault}
use Rattle.transfer_core.specs.declared.fault.TransferFault.TheVariants.{Broken}
use Rattle.transfer_core.specs.Take.{Reading, step, steps_through, entered, fault_of, HasFirstFault}

module _ (apex : Name) (first : Record) (fault : TransferFault) where
  -- one record, by what it enters as and what that makes of what is held
  refused_first : (reading : Reading) (sent : RawRecord) (list : List RawRecord) → fault_of apex first reading sent ≡ Some fault → HasFirstFault apex first reading (sent ∷ list) fault
  refused_first reading sent list e = record { front = []; sent = sent; back = list; behind_front = reading; parts = refl; reads = refl; refuses = e }

  read_first : (reading next : Reading) (sent : RawRecord) (r : Record) (list : List RawRecord) → entered sent ≡ Some r → step apex first reading.stage reading.records r ≡ Ok next → steps_through apex first reading (sent ∷ list) ≡ steps_through apex first next list
  read_first reading next sent r list e m = rw (e, steps_through, m) refl

  behind : (reading next : Reading) (sent : RawRecord) (r : Record) (list : List RawRecord) → entered sent ≡ Some r → step apex first reading.stage reading.records r ≡ Ok next → HasFirstFault apex first next list fault → HasFirstFault apex first reading (sent ∷ list) fault
  behind reading next sent r list e m h = record {
    front = sent ∷ h.front;
    sent = h.sent;
    back = h.back;
    behind_front = h.behind_front;
    parts = ap (λ l. sent ∷ l) h.parts;
    reads = read_first reading next sent r h.front e m ∙ h.reads;
    refuses = h.refuses;
  }

  refused : (reading : Reading) (list : List RawRecord) → steps_through apex first reading list ≡ Err fault → HasFirstFault apex first reading list fault
  refused reading [] e = absurd (cc)
  refused reading (sent ∷ list) e = by (λ next. refused next list) (entered sent) refl
    where
      by_step : ((next : Reading) → steps_through apex first next list ≡ Err fault → HasFirstFault apex first next list fault) → (r : Record) → entered sent ≡ Some r → (o : Result Reading TransferFault) → step apex first reading.stage reading.records r ≡ o → HasFirstFault apex first reading (sent ∷ list) fault
      by_step again r m (Ok next) n = behind reading next sent r list m n (again next (sym (read_first reading next sent r list m n) ∙ e))
      by_step again r m (Err other) n =
          let reported : steps_through apex first reading (sent ∷ list) ≡ Err other = rw (m, steps_through, n) refl in
          let same : other ≡ fault = cc in
          refused_first reading sent list (rw (m, fault_of, n) (ap (λ f. Some f) same))

      by : ((next : Reading) → steps_through apex first next list ≡ Err fault → HasFirstFault apex first next list fault) → (o : Option Record) → entered sent ≡ o → HasFirstFault apex first reading (sent ∷ list) fault
      by again None m =
          let reported : steps_through apex first reading (sent ∷ list) ≡ Err Broken = rw (m, steps_through) refl in
          let same : Broken ≡ fault = cc in
          refused_first reading sent list (rw (m, fault_of) (ap (λ f. Some f) same))
      by again (Some r) m = by_step again r m (step apex first reading.stage reading.records r) refl

  -- what the records in front make doesn't depend on what comes behind
  through : (reading next : Reading) (front list : List RawRecord) → steps_through apex first reading front ≡ Ok next → steps_through apex first reading (front ++ list) ≡ steps_through apex first next list
  through reading next [] list e = let same : reading ≡ next = cc in ap (λ r. steps_through apex first r list) same
  through reading next (sent ∷ front) list e = by (λ after. through after next front list) (entered sent) refl
    where
      by_step : ((after : Reading) → steps_through apex first after front ≡ Ok next → steps_through apex first after (front ++ list) ≡ steps_through apex first next list) → (r : Record) → entered sent ≡ Some r → (o : Result Reading TransferFault) → step apex first reading.stage reading.records r ≡ o → steps_through apex first reading (sent ∷ front ++ list) ≡ steps_through apex first next list
      by_step again r m (Ok after) n = read_first reading after sent r (front ++ list) m n ∙ again after (sym (read_first reading after sent r front m n) ∙ e)
      by_step again r m (Err other) n =
          let reported : steps_through apex first reading (sent ∷ front) ≡ Err other = rw (m, steps_through, n) refl in
          absurd (cc)

      by : ((after : Reading) → steps_through apex first after front ≡ Ok next → steps_through apex first after (front ++ list) ≡ steps_through apex first next list) → (o : Option Record) → entered sent ≡ o → steps_through apex first reading (sent ∷ front ++ list) ≡ steps_through apex first next list
      by again None m =
          let reported : steps_through apex first reading (sent ∷ front) ≡ Err Broken = rw (m, steps_through) refl in
          absurd (cc)
      by again (Some r) m = by_step again r m (step apex first reading.stage reading.records r) refl

  told_first : (reading : Reading) (sent : RawRecord) (back : List RawRecord) → fault_of apex first reading sent ≡ Some fault → steps_through apex first reading (sent ∷ back) ≡ Err fault
  told_first reading sent back e = by (entered sent) refl
    where
      by_step : (r : Record) → entered sent ≡ Some r → (o : Result Reading TransferFault) → step apex first reading.stage reading.records r ≡ o → steps_through apex first reading (sent ∷ back) ≡ Err fault
      by_step r m (Ok after) n =
          let none : fault_of apex first reading sent ≡ None = rw (m, fault_of, n) refl in
          absurd (cc)
      by_step r m (Err other) n =
          let is : fault_of apex first reading sent ≡ Some other = rw (m, fault_of, n) refl in
          let same : other ≡ fault = cc in
          rw (m, steps_through, n) (ap (λ f. Err f) same)

      by : (o : Option Record) → entered sent ≡ o → steps_through apex first reading (sent ∷ back) ≡ Err fault
      by None m =
          let is : fault_of apex first reading sent ≡ Some Broken = rw (m, fault_of) refl in
          let same : Broken ≡ fault = cc in
          rw (m, steps_through) (ap (λ f. Err f) same)
      by (Some r) m = by_step r m (step apex first reading.stage reading.records r) refl

  reported : (reading : Reading) (list : List RawRecord) → HasFirstFault apex first reading list fault → steps_through apex first reading list ≡ Err fault
  reported reading list h =
      ap (λ l. steps_through apex first reading l) h.parts
      ∙ through reading h.behind_front h.front (h.sent ∷ h.back) h.reads
      ∙ told_first h.behind_front h.sent h.back h.refuses

pub first_fault : (apex : Name) (first : Record) (reading : Reading) (list : List RawRecord) (fault : TransferFault) → (steps_through apex first reading list ≡ Err fault) ↔ HasFirstFault apex first reading list fault
first_fault apex first reading list fault = (refused apex first fault reading list, reported apex first fault reading list)

-- Where a holder stands within a list, and what it holds there.
use Rattle.std.specs.Prelude.{◌≡◌, ◌≤◌, ◌⊎◌, true, List, [], ◌∷◌, length, Result, Ok, Err, MatchResult}
use Rattle.std.specs.List.{AllByRecursion}
use Rattle.std.specs.List.Sorted.{IsStrictlySortedBy}
use Rattle.dns_rdata.specs.Limits.{max_data, max_set}
use Rattle.zone_tree.specs.Limits.{max_records}
use Rattle.dns_name.specs.Name.{Name, is_under}
use Rattle.dns_rdata.specs.Record.{Record, IsLawful}
use Rattle.zone_tree.specs.Zone.{rrset_of, soa_of}
use Rattle.transfer_core.specs.declared.fault.TransferFault.{TransferFault}
use Rattle.transfer_core.specs.declared.fault.TransferFault.TheVariants.{NoMemory}
use Rattle.transfer_in.specs.declared.reading.Stage.{Stage as Phase}
use Rattle.transfer_in.specs.declared.reading.Stage.TheVariants.{Gathering, Deleting, Adding, Closed}
use Rattle.transfer_in.specs.declared.reading.ListState.{ListState}
use Rattle.transfer_core.specs.Take.{Stage, gathering, deleting, adding, closed, Reading, held_cmp}

-- what is told of an outcome: it itself, or that a growth was refused
abbrev pub Tells : {A B : Type 0} → Result A TransferFault → (B → A) → Result B TransferFault → Type 0
Tells outcome view reported = MatchResult reported (λ next. outcome ≡ Ok (view next)) (λ fault. (fault ≡ NoMemory) ⊎ (outcome ≡ Err fault))

-- where a holder stands
abbrev pub stage_of : Phase → Stage
stage_of Gathering = gathering
stage_of Deleting = deleting
stage_of (Adding soa) = adding
stage_of Closed = closed

-- the SOAs that are held where a holder stands: none among deletions, that of the step among additions
abbrev pub HasSoa : Phase → List Record → Type 0
HasSoa Gathering records = Unit {0}
HasSoa Deleting records = soa_of records ≡ []
HasSoa (Adding soa) records = soa_of records ≡ soa ∷ []
HasSoa Closed records = Unit {0}

-- where a holder stands and what it holds there, as the definitions have it
abbrev pub list_state_of : ListState → Reading
list_state_of state = record { stage = stage_of state.stage; records = state.records }

-- what a holder holds within a list
pub record Within : Type 0 where
  pub first : Record
  pub stage : Phase
  pub records : List Record

-- and as the definitions have it
abbrev pub reading_of : Within → Reading
reading_of within = record { stage = stage_of within.stage; records = within.records }

-- what held records keep: each is one that a zone may have, they stand in order, and each was within the limits when it came
pub record AreHeld (apex : Name) (records : List Record) : Type 0 where
  pub lawful : AllByRecursion IsLawful records
  pub rises : IsStrictlySortedBy held_cmp records
  pub under : AllByRecursion (λ r. is_under r.owner apex ≡ true) records
  pub short : AllByRecursion (λ r. length r.rdata ≤ max_data) records
  pub small : AllByRecursion (λ r. length (rrset_of records r.owner r.rtype) ≤ max_set) records
  pub few : length records ≤ max_records

-- The second record of a full list.
use Rattle.std.proofs.Common.{◌≡◌, ap, sym, ◌∙◌, false, not, cond, List, [], ◌∷◌, Err, Result, ◌⊎◌, inl, inr}
use Rattle.dns_name.specs.Name.{Name}
use Rattle.dns_rdata.specs.Record.{Record}
use Rattle.zone_tree.specs.Change.{is_same_record}
use Rattle.transfer_core.specs.declared.fault.TransferFault.{TransferFault}
use Rattle.transfer_core.specs.declared.fault.TransferFault.TheVariants.{Broken, NoMemory}
use Rattle.transfer_core.specs.Take.{opened, gathering, Reading, held, old_soa, step, is_soa, joined}

-- what it makes of the first SOA alone
pub begins_full : (apex : Name) (first one : Record) (zone alone : List Record) (outcome : Result Reading TransferFault) → is_soa one ≡ false → alone ≡ first ∷ [] → held apex gathering one (joined one alone) ≡ outcome → step apex first opened zone one ≡ outcome
begins_full apex first one zone alone outcome plain is e =
    ap (λ b. cond (not b) (held apex gathering one (joined one (first ∷ []))) (cond (is_same_record first one) (Err Broken) (old_soa apex zone one))) plain
    ∙ ap (λ l. held apex gathering one (joined one l)) (sym is)
    ∙ e

pub begins_full_fault : (apex : Name) (first one : Record) (zone alone : List Record) (fault : TransferFault) → is_soa one ≡ false → alone ≡ first ∷ [] → (fault ≡ NoMemory) ⊎ (held apex gathering one (joined one alone) ≡ Err fault) → (fault ≡ NoMemory) ⊎ (step apex first opened zone one ≡ Err fault)
begins_full_fault apex first one zone alone fault plain is (inl e) = inl e
begins_full_fault apex first one zone alone fault plain is (inr e) = inr (begins_full apex first one zone alone (Err fault) plain is e)

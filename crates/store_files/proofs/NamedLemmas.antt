-- Which zone text a journal names.
use Rattle.std.proofs.Common.{◌≡◌, ℕ, List, ◌++◌, sym, ap, ◌∙◌, subst}
use Rattle.journal.specs.declared.heads.Head.{Head}
use Rattle.journal.specs.declared.heads.HeadFault.{HeadFault}
use Rattle.journal.specs.Head.{head_of, IsHeadFault}
use Rattle.journal.proofs.HeadLemmas.{one_head, no_fault}
use Rattle.store_files.specs.Names.{Names}

-- a journal names one text at most
pub one_named : (octets : List ℕ) (number other : ℕ) → Names octets number → Names octets other → number ≡ other
one_named octets number other one two =
    let same = one_head one.0 two.0 one.1 two.1 one.2 two.2 (sym one.3 ∙ two.3) in
    one.4 ∙ (ap (λ (h : Head). h.number) same.0 ∙ sym two.4)

-- and none where it begins with no head
pub none_named : (octets : List ℕ) (number : ℕ) (fault : HeadFault) → IsHeadFault octets fault → Names octets number → ⊥
none_named octets number fault is named =
    no_fault named.0 named.1 fault named.2 (subst (λ (o : List ℕ). IsHeadFault o fault) named.3 is)

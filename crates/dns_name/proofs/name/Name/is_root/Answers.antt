use Rattle.std.proofs.Common.{◌≡◌, ℕ, List, [], length, eqb, IsTrue, arith}
use Rattle.std.proofs.lemmas.Bool.Decides.{Decides-eqb}
use Rattle.dns_name.specs.Labels.{labels_in, IsWhole}
use Rattle.dns_name.proofs.LabelLemmas.{root_alone, alone_root}
use Rattle.dns_name.proofs.name.Name.is_root.Goals as goal

root_test : (n : ℕ) (octets : List ℕ) (name : List (List ℕ)) → n ≡ length octets → labels_in octets ≡ name → IsWhole octets → (IsTrue (eqb n 1) → name ≡ []) × (name ≡ [] → IsTrue (eqb n 1))
root_test n octets name len view h =
    let one = Decides-eqb n 1 in (
      λ t. let alone = one.0 t in let root = root_alone octets h (omega arith) in cc,
      λ e. let alone = alone_root octets h cc in one.1 (omega arith),
    )

pub returns : goal.returns
returns c = root_test _ _ _ c.len.ensures.value c.self.view_is c.self.invariant.0

use Rattle.std.proofs.Common.{◌≡◌, ℕ, ◌<◌, ◌≤◌, List, length, ap, ◌∙◌, arith}
use Rattle.dns_name.specs.Labels.{labels_in, IsWhole}
use Rattle.dns_name.proofs.LabelLemmas.{labels_few}
use Rattle.dns_name.proofs.name.Name.labels.Goals as goal

few : (octets lent : List ℕ) (labels : List (List ℕ)) → IsWhole octets → length octets ≤ 255 → lent ≡ octets → labels ≡ labels_in lent → length labels < 128
few octets lent labels h short same e =
    let count = labels_few octets h in
    let len = ap length (e ∙ ap labels_in same) in
    omega arith

pub returns-clause-few : goal.returns-clause-few
returns-clause-few c = few _ _ _ c.self.invariant.0 c.self.invariant.1 c.as_slice.ensures.value c.new.ensures

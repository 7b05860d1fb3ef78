use Rattle.std.proofs.Common.{ap, ◌∙◌, codes, List, ℕ}
use Rattle.metrics_text.specs.Families.{FamilyOf, with_sample}
use Rattle.counters.specs.Transports.{transport_word}
use Rattle.counters.specs.AddressFamilies.{address_family_word}
use Rattle.metric_families.specs.Samples.{two_labels}
use Rattle.metric_families.proofs.counted.put_way.Goals as goal

pub returns : goal.returns
returns c =
    let told : List ℕ → List ℕ → ℕ → FamilyOf = λ t v n. with_sample c.args.family.now (two_labels (codes "transport") t (codes "family") v n) in
    c.in_ok-put_of_two.ensures
    ∙ (ap (λ t. told t c.word-2.result.now c.get-number.result) c.word.ensures
    ∙ (ap (λ v. told (transport_word c.args.transport) v c.get-number.result) c.word-2.ensures
    ∙ ap (told (transport_word c.args.transport) (address_family_word c.args.version)) c.get-number.ensures))

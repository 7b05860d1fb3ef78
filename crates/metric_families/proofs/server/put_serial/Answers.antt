use Rattle.std.proofs.Common.{◌≡◌, ℕ, Option, OnOk, codes, subst, sym}
use Rattle.metrics_text.specs.Families.{with_sample, with_samples}
use Rattle.metric_families.specs.Known.{serial_samples}
use Rattle.metric_families.specs.Samples.{one_label}
use Rattle.metric_families.proofs.server.put_serial.Goals as goal

pub returns-in-Some : goal.returns-in-Some
returns-in-Some c =
    let put = c.put_labelled in
    subst (λ (o : Option ℕ). OnOk put.result (put.new.family ≡ with_samples c.args.family.now (serial_samples c.args.address.now o))) (sym c.in-Some.is)
    (subst (λ (n : ℕ). OnOk put.result (put.new.family ≡ with_sample c.args.family.now (one_label (codes "secondary") c.args.address.now n))) c.from.ensures put.ensures)

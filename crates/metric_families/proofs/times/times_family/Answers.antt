use Rattle.std.proofs.Common.{List, slice_index, ap, ◌∙◌}
use Rattle.metrics_text.specs.Buckets.{BucketOf}
use Rattle.metrics_text.specs.Families.{FamilyOf, empty_family, with_samples}
use Rattle.metrics_text.specs.declared.family.Kind.TheVariants.{Histogram}
use Rattle.metrics_text.specs.Histograms.{histogram_samples}
use Rattle.metric_families.proofs.times.times_family.Goals as goal

pub returns : goal.returns
returns c =
    let told : FamilyOf → List BucketOf → FamilyOf = λ family buckets. with_samples family (histogram_samples buckets (slice_index c.args.times.now.counts 11) c.args.times.now.nanoseconds) in
    c.in_ok-push_histogram.ensures
    ∙ (ap (λ family. told family c.as_slice.result.now) c.new-family.ensures
    ∙ ap (told (empty_family c.args.name.now c.args.help.now Histogram)) (c.as_slice.ensures.value ∙ c.in_ok-buckets.ensures))

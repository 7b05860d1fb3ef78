use Rattle.std.proofs.Common.{rules}
use Rattle.metric_families.proofs.BucketLemmas.{bucket_more}
use Rattle.metric_families.proofs.times.buckets_of.Goals as goal

pub loop-place-preserved : goal.loop-place-preserved
loop-place-preserved c = bucket_more c.args.times.now.counts c.loop-place.place c.loop-place.buckets.items _ _ c.new.result c.loop-place-test.true (search rules) (search rules) c.loop-place.invariant

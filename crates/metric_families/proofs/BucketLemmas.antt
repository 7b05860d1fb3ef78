-- Buckets, one after another.
use Rattle.std.proofs.Common.{◌≡◌, ℕ, suc, ◌+◌, ◌-◌, ◌<◌, List, [], ◌∷◌, ◌++◌, slice_index, ap, ◌∙◌, sym, arith}
use Rattle.std.proofs.lemmas.List.{append_assoc}
use Rattle.metrics_text.specs.Buckets.{BucketOf}
use Rattle.metric_families.specs.Times.{bound_text, buckets_from}

-- the bucket at a place
abbrev pub bucket_at : List ℕ → ℕ → BucketOf
bucket_at counts place = record { bound = bound_text place; count = slice_index counts place }

-- the next bucket comes before those after it
from_more : (counts : List ℕ) (place : ℕ) → place < 11 → buckets_from counts place (11 - place) ≡ bucket_at counts place ∷ buckets_from counts (place + 1) (11 - (place + 1))
from_more counts place within =
    let is : 11 - place ≡ suc (11 - (place + 1)) = omega arith in
    ap (buckets_from counts place) is

-- once the next bucket is put, what is there, with what is left, is still all
pub bucket_more : (counts : List ℕ) (place : ℕ) (items next all : List BucketOf) (bucket : BucketOf) → place < 11 → next ≡ items ++ bucket ∷ [] → bucket ≡ bucket_at counts place
    → items ++ buckets_from counts place (11 - place) ≡ all → next ++ buckets_from counts (place + 1) (11 - (place + 1)) ≡ all
bucket_more counts place items next all bucket within put is before =
    let rest = buckets_from counts (place + 1) (11 - (place + 1)) in
    ap (λ (bs : List BucketOf). bs ++ rest) put
    ∙ (append_assoc items (bucket ∷ []) rest
    ∙ (ap (λ (b : BucketOf). items ++ b ∷ rest) is ∙ (sym (ap (λ (bs : List BucketOf). items ++ bs) (from_more counts place within)) ∙ before)))

-- Numbers that go up, modulo 2^64.
use Rattle.std.specs.Prelude.{◌≡◌, ℕ, ◌+◌, ◌%◌, ◌^◌, List, slice_index, slice_set, EachIndex}

-- two numbers together
abbrev pub both : ℕ → ℕ → ℕ
both a b = (a + b) % 2 ^ 64

-- more at a place of numbers
abbrev pub more_at : ℕ → ℕ → List ℕ → List ℕ
more_at at more numbers = slice_set numbers at (both (slice_index numbers at) more)

-- each of these numbers is one number and another together, place by place
abbrev pub AreSums : List ℕ → List ℕ → List ℕ → Type 0
AreSums numbers others sums = EachIndex sums (λ k. slice_index sums k ≡ both (slice_index numbers k) (slice_index others k))

-- What a request's OPCODE says of its question.
use Rattle.std.proofs.Common.{◌≡◌, ◌==◌, ◌≢◌, ap, ℕ, Option, Some, None, if◌then◌else◌}
use Rattle.std.proofs.lemmas.Bool.{eq-eqb, ne_eqb}
use Rattle.counters.specs.declared.counters.Counters.{Counters}
use Rattle.counters.specs.Counters.{with_counts}
use Rattle.message_counts.specs.Counts.{question_counts}

-- a request that isn't a query counts by no type
pub no_question : (opcode : ℕ) (qtype : Option ℕ) (counters : Counters) → opcode ≢ 0 → with_counts (question_counts (if opcode == 0 then qtype else None)) counters ≡ counters
no_question opcode qtype counters other = ap (λ b. with_counts (question_counts (if b then qtype else None)) counters) (ne_eqb opcode 0 other)

-- a query counts by the type of its question
pub of_query : (opcode : ℕ) (qtype : Option ℕ) (counters : Counters) → opcode ≡ 0 → with_counts (question_counts (if opcode == 0 then qtype else None)) counters ≡ with_counts (question_counts qtype) counters
of_query opcode qtype counters same = ap (λ b. with_counts (question_counts (if b then qtype else None)) counters) (eq-eqb opcode 0 same)

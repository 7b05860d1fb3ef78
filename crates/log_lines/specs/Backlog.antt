-- Lines that wait to be written, at most so many, and how many found no room (own).
use Rattle.std.specs.Prelude.{ℕ, ◌+◌, ◌-◌, ◌^◌, ◌==◌, List, [], ◌∷◌, ◌++◌, length, drop, min, nat_lt, Option, None, Some, if◌then◌else◌}
use Rattle.log_lines.specs.declared.backlog.NextLine.{NextLine}

-- the lines that wait, the oldest first, each with how many were lost before it; how many were lost after them; how many may wait
pub record Waiting (X : Type 0) : Type 0 where
  pub lines : List (NextLine X)
  pub lost : ℕ
  pub most : ℕ

module _ {X : Type 0} where
  -- what is written next: how many lines were lost, and the line after them
  abbrev pub next_one : ℕ → Option X → NextLine X
  next_one lost line = record { lost = lost; line = line }

  -- no line waits, and none was lost
  abbrev pub nothing_waits : ℕ → Waiting X
  nothing_waits most = record { lines = []; lost = 0; most = most }

  -- one more line: where there is room it waits, with how many were lost before it; else it is lost and counted, up to 2^64 - 1
  abbrev pub with_line : Waiting X → X → Waiting X
  with_line w x =
      if nat_lt (length w.lines) w.most
      then (record { lines = w.lines ++ next_one w.lost (Some x) ∷ []; lost = 0; most = w.most })
      else (record { lines = w.lines; lost = min (w.lost + 1) (2 ^ 64 - 1); most = w.most })

  -- what is written next: the oldest line that waits, else how many were lost, if any
  abbrev pub first_line : List (NextLine X) → ℕ → Option (NextLine X)
  first_line [] lost = if lost == 0 then None else Some (next_one lost None)
  first_line (line ∷ lines) lost = Some line

  -- how many lost lines are to be reported after that
  abbrev pub lost_after : List (NextLine X) → ℕ → ℕ
  lost_after [] lost = 0
  lost_after (line ∷ lines) lost = lost

  -- what is written next
  abbrev pub next_line : Waiting X → Option (NextLine X)
  next_line w = first_line w.lines w.lost

  -- what waits after that
  abbrev pub after_next : Waiting X → Waiting X
  after_next w = record { lines = drop 1 w.lines; lost = lost_after w.lines w.lost; most = w.most }

use Rattle.std.proofs.Common.{◌≡◌, ◌++◌, flat_map, drop}
use Rattle.http_page.specs.Page.{secondary_text}
use Rattle.http_page.proofs.page.put_secondaries.Given as goal

-- what is written, with what is left, is all
abbrev pub invariant-loop-secondary : goal.invariant-loop-secondary
invariant-loop-secondary l = l.text.items ++ flat_map (secondary_text l.serial) (drop l.secondary-index l.secondaries) ≡ l.initial.text.items ++ flat_map (secondary_text l.serial) l.secondaries

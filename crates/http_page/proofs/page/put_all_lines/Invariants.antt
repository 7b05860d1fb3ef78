use Rattle.std.proofs.Common.{◌≡◌, ◌++◌, flat_map, drop}
use Rattle.http_page.specs.Page.{line_text}
use Rattle.http_page.proofs.page.put_all_lines.Given as goal

-- what is written, with what is left, is all
abbrev pub invariant-loop-line : goal.invariant-loop-line
invariant-loop-line l = l.text.items ++ flat_map (line_text) (drop l.line-index l.lines) ≡ l.initial.text.items ++ flat_map (line_text) l.lines

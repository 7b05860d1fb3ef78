use Rattle.std.proofs.Common.{◌≡◌, ◌++◌, [], flat_map, drop, sym, ap, ◌∙◌}
use Rattle.std.proofs.lemmas.List.{append-nil, drop_all}
use Rattle.http_page.specs.Page.{line_text}
use Rattle.http_page.proofs.page.put_all_lines.Goals as goal

pub returns : goal.returns
returns c =
    let f = line_text in
    let left : flat_map f (drop c.loop-line.line-index c.args.lines.now) ≡ [] = ap (flat_map f) (drop_all c.loop-line.line-index c.args.lines.now c.loop-line-test.false) in
    sym (ap (λ os. c.loop-line.text.items ++ os) left ∙ append-nil c.loop-line.text.items) ∙ c.loop-line.invariant

use Rattle.std.proofs.Common.{◌∙◌, ◌++◌, List, ℕ, sym, ap, string_bytes, lit<, arith}
use Rattle.std.proofs.lemmas.List.{append-nil}
use Rattle.record_text.proofs.TextLemmas.{strings_more, strings_end}
use Rattle.record_text.proofs.text.write_strings.Goals as goal

pub loop-len-preserved : goal.loop-len-preserved
loop-len-preserved c =
    strings_more (string_bytes c.loop-len.text) _ _ _ c.loop-len.rest.now c.in-Some.behind.now c.split_at.result.0.now c.split_at.result.1.now c.in-Some.len.now c.min.result
    c.in_ok-push_str.ensures.bytes c.in_ok-write_string.ensures (c.in_ok-push.ensures.bytes ∙ ap (λ (os : List ℕ). string_bytes c.write_string.new.text ++ os) (c.in_ok-push.ensures.ascii (lit< tt)))
    c.in-Some.ensures.cases.0 c.split_at.ensures.front c.split_at.ensures.back (omega arith)
    ∙ c.loop-len.invariant

pub returns : goal.returns
returns c =
    sym (ap (λ (os : List ℕ). string_bytes c.loop-len.text ++ os) (strings_end c.loop-len.rest.now c.in_default.ensures.cases) ∙ append-nil (string_bytes c.loop-len.text))
    ∙ c.loop-len.invariant

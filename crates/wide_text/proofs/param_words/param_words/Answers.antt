use Rattle.std.proofs.Common.{◌≡◌, ◌≤◌, ◌++◌, ◌∷◌, [], ap, sym, drop, length, map, take, List, ℕ, String, Global, arith, ◌∙◌}
use Rattle.std.proofs.lemmas.List.{append-nil, take_rest}
use Rattle.wide_text.specs.ParamWords.{param_text, params_words}
use Rattle.wide_text.specs.Private.{plain_word}
use Rattle.wide_text.proofs.ItemLemmas.{params_end, params_step}
use Rattle.wide_text.proofs.param_words.param_words.Goals as goal
use Rattle.zone_lexing.specs.Word.{Written}
use Rattle.zone_lexing.specs.Word.Written.{Plain}

abbrev seen : List (String Global) → List Written
seen words = map plain_word words

pub loop-rest-preserved : goal.loop-rest-preserved
loop-rest-preserved c =
    let rest = c.loop-rest.rest.now in
    let len = c.from.result in
    let words = seen c.loop-rest.words.items in
    let value = c.cut.result.0.now in
    let others = c.cut.result.1.now in
    let some : 4 ≤ length rest = omega (arith, c.in-len4-up.len_at_least) in
    params_step rest value others words (seen c.push_text.new.words.items) c.from_be_bytes-key.result len some c.from_be_bytes-key.ensures (c.from.ensures ∙ c.from_be_bytes.ensures)
    (c.cut.ensures.front ∙ ap (take len) (take_rest rest 4)) (c.cut.ensures.after ∙ ap (drop len) (take_rest rest 4))
    (c.in_ok-push_text.ensures ∙ ap (λ (t : List ℕ). words ++ Plain t ∷ []) c.in_ok-param_word.ensures)
    ∙ c.loop-rest.invariant

pub returns : goal.returns
returns c =
    let words = seen c.loop-rest.words.items in
    sym (append-nil words) ∙ ap (λ (ws : List Written). words ++ ws) (sym (params_end c.loop-rest.rest.now c.in_default.len_below)) ∙ c.loop-rest.invariant

use Rattle.std.proofs.Common.{◌≡◌, ◌<◌, ◌++◌, ◌∷◌, [], ap, length, string_bytes, arith, ◌∙◌}
use Rattle.wide_text.specs.ParamWords.{item_text}
use Rattle.wide_text.proofs.ItemLemmas.{items_step}
use Rattle.wide_text.proofs.param_words.write_list.Goals as goal

pub loop-rest-preserved : goal.loop-rest-preserved
loop-rest-preserved c =
    let rest = c.loop-rest.rest.now in
    let before = string_bytes c.loop-rest.text in
    let item = c.cut.result.0.now in
    let some : 0 < length rest = omega (arith, c.in-len1-up.len_at_least) in
    let marked : string_bytes c.push.new.self ≡ before ++ c.loop-rest.mark ∷ [] = c.in_ok-push.ensures.bytes ∙ ap (λ t. before ++ t) (c.in_ok-push.ensures.ascii c.loop-rest.invariant.ascii) in
    let text = c.in_ok-write_item.ensures ∙ ap (λ t. t ++ item_text c.args.kind item) marked in
    record {
      way = items_step c.args.kind c.loop-rest.mark rest before (string_bytes c.write_item.new.text) item c.cut.result.1.now c.item_len.result some c.item_len.ensures.len c.cut.ensures.front c.cut.ensures.after text
          ∙ c.loop-rest.invariant.way;
      ascii = omega arith;
    }

use Rattle.std.proofs.Common.{◌≡◌, suc, ◌+◌, ◌∷◌, ◌++◌, [], List, ℕ, sym, ap, ◌∙◌, append_assoc, arith}
use Rattle.cell_core.specs.Words.{bulk, free_word}
use Rattle.counted_handles.specs.Ruled.{free_words}
use Rattle.counted_handles.proofs.MadeLemmas.{free_words_more}
use Rattle.counted_handles.proofs.made.begun_words.Goals as goal

pub loop-slot-preserved : goal.loop-slot-preserved
loop-slot-preserved c =
    let inv = c.loop-slot.invariant in
    let slot : ℕ = c.loop-slot.slot in
    let next : suc slot ≡ slot + 1 = omega arith in
    let behind : List ℕ → List ℕ = λ words. 0 ∷ bulk ∷ 1 ∷ words in
    record {
      words = c.push_reserved-in-loop-slot-2.ensures.items ∙ ap (λ (l : List ℕ). l ++ 1 ∷ []) (c.push_reserved-in-loop-slot.ensures.items ∙ ap (λ (l : List ℕ). l ++ free_word ∷ []) inv.words)
          ∙ ap behind (append_assoc (free_words slot) (free_word ∷ []) (1 ∷ [])) ∙ ap behind (sym (free_words_more slot)) ∙ ap (λ k. behind (free_words k)) next;
      within = omega (arith, c.loop-slot-test.true);
      count = omega (arith, c.push_reserved-in-loop-slot-2.ensures.len, c.push_reserved-in-loop-slot.ensures.len, inv.count);
      room = c.push_reserved-in-loop-slot-2.ensures.capacity ∙ c.push_reserved-in-loop-slot.ensures.capacity ∙ inv.room;
    }

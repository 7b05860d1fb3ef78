use Rattle.std.proofs.Common.{◌≡◌, ◌++◌, [], ◌∷◌, length, refl, sym, ◌∙◌, arith}
use Rattle.master_file.specs.ZoneText.{record_in, in_lower}
use Rattle.master_file.specs.SetOrder.{put_last}
use Rattle.master_file.proofs.PutLemmas.{put_out, nil_from}
use Rattle.master_file.proofs.sorted.put.Goals as goal

pub returns-in_default-clause-put : goal.returns-in_default-clause-put
returns-in_default-clause-put c =
    let r = in_lower (record_in c.args.kept) in
    let none : length c.args.sets.now.items ≡ 0 = omega (arith, c.in_default.ensures.cases.0, c.args.sets.now.ok.0) in
    let left : length c.pop.new.self.items ≡ 0 = omega (arith, c.in_default.ensures.cases.1, c.pop.new.self.ok.0) in
    c.in_ok-put_alone.ensures ∙ (λ i. nil_from c.pop.new.self.items left i ++ (r ∷ []) ∷ []) ∙ (λ i. put_last (sym (nil_from c.args.sets.now.items none) i) r)

pub returns-then-is_of : goal.returns-then-is_of
returns-then-is_of c = rw c.in-Some.ensures.items c.put_in.ensures

pub returns-clause-put : goal.returns-clause-put
returns-clause-put c =
    let r = in_lower (record_in c.args.kept) in
    c.in_ok-put_alone-2.ensures ∙ (λ i. c.in_ok-push.ensures.items i ++ (r ∷ []) ∷ [])
    ∙ put_out c.args.sets.now.items c.pop.new.self.items c.in-Some.last (r ∷ []) c.args.kept c.in-Some.ensures.items (sym c.is_of.ensures.of ∙ c.if-is_of.false) refl

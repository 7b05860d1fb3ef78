use Rattle.std.proofs.Common.{◌≡◌, ◌++◌, List, [], ◌∷◌, length, sym, ap, ◌∙◌, subst, arith}
use Rattle.dns_rdata.specs.Record.{Record, owner_of, rtype_of, ttl_of}
use Rattle.transfer_in.specs.Grouped.{AreInOrder}
use Rattle.transfer_in.proofs.GroupLemmas.{IsUniform, uniform_from, nil_from, behind_last, before_own, order_more, order_one}
use Rattle.transfer_in.proofs.grouped.put.Goals as goal

pub returns-in_default-clause-rising : goal.returns-in_default-clause-rising
returns-in_default-clause-rising c =
    let left : length c.pop.new.self.items ≡ 0 = omega (arith, c.in_default.ensures.cases, c.pop.new.self.ok.0) in
    subst (λ (sets : List (List Record)). AreInOrder sets) (sym (c.in_ok-put_alone.ensures ∙ ap (λ (sets : List (List Record)). sets ++ (c.args.held ∷ []) ∷ []) (nil_from c.pop.new.self.items left))) (order_one (c.args.held ∷ []))

pub returns-clause-rising : goal.returns-clause-rising
returns-clause-rising c =
    let u = subst (λ (set : List Record). IsUniform set) (sym c.data-data.ensures.records) (uniform_from (owner_of c.in-Some.last) (rtype_of c.in-Some.last) (ttl_of c.in-Some.last) c.data-data.result.now c.data-data.ensures.lawful.some) in
    let front = c.pop.new.self.items in
    let behind = behind_last c.args.held c.args.sets.now.items front c.in-Some.last c.in-Some.ensures.items c.requires.behind in
    let own = before_own c.args.held c.in-Some.last u.some behind (sym c.is_of.ensures.of ∙ c.if-is_of.false) in
    let made : c.put_alone-2.new.sets.items ≡ (front ++ c.in-Some.last ∷ []) ++ (c.args.held ∷ []) ∷ [] =
    c.in_ok-put_alone-2.ensures ∙ ap (λ (sets : List (List Record)). sets ++ (c.args.held ∷ []) ∷ []) c.in_ok-push.ensures.items in
    subst (λ (sets : List (List Record)). AreInOrder sets) (sym made) (order_more front c.in-Some.last (c.args.held ∷ []) (subst (λ (sets : List (List Record)). AreInOrder sets) c.in-Some.ensures.items c.requires.rising) own)

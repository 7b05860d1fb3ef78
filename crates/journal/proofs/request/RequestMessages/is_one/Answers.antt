use Rattle.std.proofs.Common.{◌≡◌, ℕ, List, [], ◌∷◌, IsTrue, length, ap, sym, ◌∙◌, rules, Vec, Global}
use Rattle.std.proofs.lemmas.List.{nil_from_length}
use Rattle.journal.proofs.RequestLemmas.{octets_of}
use Rattle.journal.proofs.request.RequestMessages.is_one.Goals as goal

head_same : (x y : List ℕ) → x ∷ [] ≡ y ∷ [] → x ≡ y
head_same x y e = cc

pub returns-then-is_empty : goal.returns-then-is_empty
returns-then-is_empty c =
    let none : length c.self.inside.more.items ≡ 0 = search rules in
    let is : c.args.self.now ≡ c.self.inside.first.items ∷ [] =
    sym c.self.view_is ∙ ap (λ (ms : List (Vec ℕ Global)). c.self.inside.first.items ∷ octets_of ms) (nil_from_length c.self.inside.more.items none) in
    let same : (IsTrue c.eq.result → c.self.inside.first.items ≡ c.args.octets.now) × (c.self.inside.first.items ≡ c.args.octets.now → IsTrue c.eq.result) = search rules in (
      λ t. is ∙ ap (λ (o : List ℕ). o ∷ []) (same.0 t),
      λ e. same.1 (head_same c.self.inside.first.items c.args.octets.now (sym is ∙ e)),
    )

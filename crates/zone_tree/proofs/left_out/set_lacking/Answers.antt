use Rattle.std.proofs.Common.{◌≡◌, refl, sym, ap, ◌∙◌, Bool, true, false, eqb-true, List, [], ◌∷◌}
use Rattle.std.specs.Prelude.{◌==◌, not}
use Rattle.dns_rdata.specs.Record.{Record, ttl_of}
use Rattle.zone_tree.specs.Delta.{some_set}
use Rattle.zone_tree.proofs.LackingLemmas.{untold, lacking_all, lacking_told, some_is}
use Rattle.zone_tree.proofs.left_out.set_lacking.Goals as goal

is_not : (b : Bool) → not b ≡ true → b ≡ false
is_not true e = sym e
is_not false e = refl

is_so : (b : Bool) → not b ≡ false → b ≡ true
is_so true e = refl
is_so false e = sym e

-- all, where the TTLs differ
pub returns-then-ne : goal.returns-then-ne
returns-then-ne c =
    let apart : (ttl_of c.args.set.now == c.ttl-2.result.0) ≡ false = ap (λ t. t == c.ttl-2.result.0) (sym c.ttl.ensures.of) ∙ is_not (c.ttl.result.0 == c.ttl-2.result.0) (sym c.ne.ensures ∙ c.if-ne.true) in
    ap (λ (s : List Record). s ∷ []) c.in_ok-copy.ensures ∙ sym (some_is c.args.set.now c.requires.lawful.some)
    ∙ ap some_set (sym (lacking_all c.args.set.now c.args.other.now c.ttl-2.result.0 c.requires.lawful c.ttl-2.ensures.shared apart))

pub returns : goal.returns
returns c =
    let same : ttl_of c.args.set.now ≡ ttl_of c.args.other.now = sym c.ttl.ensures.of ∙ eqb-true c.ttl.result.0 c.ttl-2.result.0 (is_so (c.ttl.result.0 == c.ttl-2.result.0) (sym c.ne.ensures ∙ c.if-ne.false)) ∙ c.ttl-2.ensures.of in
    c.without_all.ensures ∙ ap (λ (s : List Record). some_set (untold c.data.result.now s)) c.in_ok-copy.ensures
    ∙ ap some_set (sym (lacking_told c.args.set.now c.args.other.now c.data.result.now c.requires.lawful c.data.ensures.records c.requires.owner c.requires.rtype same))

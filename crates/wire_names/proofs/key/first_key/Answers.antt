use Rattle.std.proofs.Common.{◌≡◌, ◌-◌, ℕ, take, drop, refl, ap, ◌∙◌, arith}
use Rattle.wire_names.specs.Table.{front_key}
use Rattle.wire_names.proofs.KeyLemmas.{key_short, key_long, label_within}
use Rattle.wire_names.proofs.key.first_key.Goals as goal

pub returns-then-len-le-KEY : goal.returns-then-len-le-KEY
returns-then-len-le-KEY c = key_short c.args.octets.now c.octet_at-len.result c.end_key-end.result c.requires.whole c.octet_at-len.ensures.octet c.if-len-le-KEY.true c.end_key-end.ensures c.end_key-end.type_inv

pub slice_bounds-front_key-end : goal.slice_bounds-front_key-end
slice_bounds-front_key-end c = let within = label_within c.args.octets.now c.octet_at-len.result c.requires.whole c.octet_at-len.ensures.octet in omega arith

pub returns : goal.returns
returns c =
    let n = c.octet_at-len.result in
    let many = c.if-len-le-KEY.false in
    let size : n - 3 - 1 ≡ n - 4 = omega arith in
    key_long c.args.octets.now n c.front_key.result c.end_key-end.result _ (take (n - 4) (drop 1 c.args.octets.now)) c.requires.whole c.octet_at-len.ensures.octet many refl
    (c.front_key.ensures ∙ ap (λ (m : ℕ). front_key (take m (drop 1 c.args.octets.now))) size) c.end_key-end.ensures refl

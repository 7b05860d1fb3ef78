use Rattle.std.proofs.Common.{Some, sym, ◌∙◌, ap, length}
use Rattle.std.proofs.lemmas.Bool.Decides.{Decides-eqb}
use Rattle.std.proofs.lemmas.List.{take_rest, nil_from_length}
use Rattle.dns_name.proofs.TextLemmas.{IsOnTheWay-start, IsOnTheWay-dot, IsOnTheWay-octet, IsOnTheWay-end}
use Rattle.dns_name.proofs.text.gather.Goals as goal
use Rattle.dns_name.proofs.text.gather.Goals.{in-Dot, in-Octet}

pub loop-rest-init : goal.loop-rest-init
loop-rest-init c = IsOnTheWay-start _ _ c.new-gathered.ensures

pub loop-rest-preserved : goal.loop-rest-preserved
loop-rest-preserved c = rw take_rest
    (elim c.match-mark.branch [
      | in-Dot w ↦ rw w.gathered-is
          (IsOnTheWay-dot _ c.loop-rest.rest.now c.loop-rest.gathered _ c.in_ok-mark.len
          (sym c.in_ok-mark.ensures ∙ ap (λ m. Some (m, c.in_ok-mark.len)) w.in-Dot.is) c.loop-rest.invariant w.close.ensures)
      | in-Octet w ↦ rw w.gathered-is
          (IsOnTheWay-octet _ c.loop-rest.rest.now c.loop-rest.gathered _ _ c.in_ok-mark.len
          (sym c.in_ok-mark.ensures ∙ ap (λ m. Some (m, c.in_ok-mark.len)) w.in-Octet.is) c.loop-rest.invariant w.push.ensures)
    ])

pub returns : goal.returns
returns c =
    let none = (Decides-eqb (length c.loop-rest.rest.now) 0).0 (sym c.loop-rest-test.ensures) in
    IsOnTheWay-end _ _ _ (nil_from_length c.loop-rest.rest.now none) c.loop-rest.invariant

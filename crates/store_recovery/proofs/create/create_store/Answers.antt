use Rattle.std.proofs.Common.{◌<◌, ◌^◌, ℕ, List, length, string_bytes, refl, ap, ◌∙◌, subst, arith, rules}
use Rattle.sha2.proofs.Facts256.{length-sha256}
use Rattle.journal.specs.declared.heads.Head.{Head}
use Rattle.journal.specs.Head.{IsHead, IsSum, IsText}
use Rattle.store_recovery.proofs.BegunLemmas.{begun_from}
use Rattle.store_recovery.proofs.create.create_store.Goals as goal

pub returns : goal.returns
returns c =
    let text : List ℕ = string_bytes c.in_ok-text.text in
    let sum = c.of-sum.result in
    let head : Head = record { number = c.args.number; random = c.args.random; text = sum; serial = c.serial.result.0; origin = c.args.origin } in
    let same : IsText sum text = subst (λ (o : List ℕ). IsText sum o) c.as_bytes.ensures.value c.of-sum.ensures in
    let long : sum.len < 2 ^ 64 = search rules in
    let given : IsSum c.args.origin = search rules in
    let is_head : IsHead head = record { number = omega arith; random = search rules; text = (long, ap length same.1 ∙ length-sha256 text); serial = omega arith; origin = given } in
    begun_from c.args.zone.now c.args.number c.args.random c.args.origin text head c.soa-soa.ensures.lawful c.in_ok-text.ensures is_head refl refl refl same c.serial.ensures

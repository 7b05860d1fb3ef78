use Rattle.std.proofs.Common.{◌≡◌, ◌+◌, ◌<◌, sym, ap, ◌∙◌, subst, arith}
use Rattle.std.specs.List.{All}
use Rattle.std.proofs.lemmas.List.Elements.{All-push}
use Rattle.snapshot_cell.specs.Tokens.{limited_reader}
use Rattle.snapshot_cell.proofs.TokenLemmas.{enough_left, dealing_next, dealt_reader, dealt_state}
use Rattle.snapshot_cell.proofs.cell.deal_all.Goals as goal

pub deal-badge-requires-clause-enough : goal.deal-badge-requires-clause-enough
deal-badge-requires-clause-enough g c =
    let begun = c.requires.begun in
    let name = c.args.words.now.table_id.views_name in
    let d = c.loop-dealt.invariant.dealing begun.0 begun.1 in
    (d.publishing, d.views_are, d.whole, enough_left begun.0 name c.loop-dealt.dealt c.args.grants c.loop-dealt.badge.views d (omega (arith, c.loop-dealt-test.true, c.requires.room.2)) c.requires.grants)

pub invariant_of-push_reserved : goal.invariant_of-push_reserved
invariant_of-push_reserved g c =
    let begun = c.requires.begun in
    let d = c.loop-dealt.invariant.dealing begun.0 begun.1 in
    let reported = c.deal-badge.ensures.dealt d.publishing d.views_are in
    dealt_reader begun.0 c.loop-dealt.dealt c.args.grants c.args.words.now.table_id c.deal-badge.result.table_id c.loop-dealt.badge.views c.deal-badge.result.views d (c.deal-badge.ensures.badges.2 ∙ c.loop-dealt.invariant.cell ∙ c.requires.fits.1) reported.1

pub loop-dealt-preserved : goal.loop-dealt-preserved
loop-dealt-preserved g c =
    let inv = c.loop-dealt.invariant in
    let table = c.args.words.now.table_id in
    let each = c.args.grants in
    let few : c.loop-dealt.dealt < 64 = omega (arith, c.loop-dealt-test.true, c.requires.room.2) in
    let same = c.deal-badge.ensures.badges.2 ∙ inv.cell ∙ c.requires.fits.1 in
    record {
      within = omega (arith, c.loop-dealt-test.true);
      cell = c.deal-badge.ensures.badges.0 ∙ inv.cell;
      id = c.deal-badge.ensures.badges.1 ∙ inv.id;
      dealing = λ value begun.
          let d = inv.dealing value begun in
          let reported = c.deal-badge.ensures.dealt d.publishing d.views_are in
          let enough = enough_left value table.views_name c.loop-dealt.dealt each c.loop-dealt.badge.views d few c.requires.grants in
          dealing_next value table.views_name c.loop-dealt.dealt each c.loop-dealt.badge.views c.deal-badge.new.badge.views d enough reported.0;
      readers = λ value begun.
          let d = inv.dealing value begun in
          let reported = c.deal-badge.ensures.dealt d.publishing d.views_are in
          subst (All (λ r. r ≡ limited_reader each table value)) (sym c.push_reserved.ensures.items)
          (All-push (λ r. r ≡ limited_reader each table value) c.loop-dealt.readers.items _ (inv.readers value begun) (dealt_state value c.loop-dealt.dealt each table c.deal-badge.result.table_id c.loop-dealt.badge.views c.deal-badge.result.views d same reported.1));
      count = c.push_reserved.ensures.len ∙ ap (λ n. n + 1) inv.count;
      room = c.push_reserved.ensures.capacity ∙ inv.room;
    }

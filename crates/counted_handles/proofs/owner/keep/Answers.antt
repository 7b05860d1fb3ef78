use Rattle.std.proofs.Common.{refl, sym, ◌∙◌}
use Rattle.counted_handles.specs.Ruled.{version_of}
use Rattle.counted_handles.proofs.HeldLemmas.{one_some}
use Rattle.counted_handles.proofs.owner.keep.Goals as goal

pub claimed-requires : goal.claimed-requires
claimed-requires g c = let has = c.requires.has in (version_of has.0, has.2)

pub invariant_of-result : goal.invariant_of-result
invariant_of-result g c =
    let has = c.requires.has in
    record {
      mark = has.0;
      held_is = record { it = c.args.held; held_is = refl; stake_is = has.1; value_is = has.2 };
      version_is = one_some (version_of has.0) c.claimed.result.now (sym has.2 ∙ c.claimed.ensures) ∙ sym c.of-version.ensures;
      slot_is = has.3;
      name_is = has.4;
      within = has.5;
      spots_are = c.requires.spots;
    }

pub returns : goal.returns
returns g c version is =
    let same = c.of-version.ensures ∙ one_some c.claimed.result.now version (sym c.claimed.ensures ∙ is) in
    λ i. record { version = same i; table = c.args.words.now.table_id }

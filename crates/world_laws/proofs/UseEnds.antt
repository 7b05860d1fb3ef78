-- What is in hand where a call begins, and where it ends.
use Rattle.std.proofs.Common.{◌≡◌, refl, sym, ap, ◌∙◌, subst, ℕ, ◌+◌, ◌-◌, ◌≤◌, Bool, true, false, inl, inr, List, [], ◌∷◌, ◌++◌, length, drop, arith, Option, Some, None, length-append}
use Rattle.std.specs.Prelude.{◌==◌, ◌||◌, is_some, nat_lt, remove, bytes_eq, if◌then◌else◌}
use Rattle.std.proofs.lemmas.Bool.{cases_Bool, ltb-true, ltb-false}
use Rattle.std.proofs.lemmas.Slice.Eq.{bytes_eq-Decides}
use Rattle.cell_core.proofs.CountLemmas.{one_if}
use Rattle.cell_core.specs.declared.words.Owner.{Owner}
use Rattle.serve_core.specs.declared.heading.Heading.{Heading}
use Rattle.world_run.specs.declared.phase.Phase.{Phase}
use Rattle.world_run.specs.declared.phase.Phase.TheVariants as phase
use Rattle.world_run.specs.declared.phase.Progress.TheVariants.{On, Done}
use Rattle.world_run.specs.declared.phase.End.{End}
use Rattle.world_run.specs.declared.phase.End.TheVariants.{Owned, OwnedWeakly, Replied, NoSlot, Kept, Sent}
use Rattle.world_run.specs.declared.entries.Entry.{Entry}
use Rattle.world_run.specs.declared.phase.Keeping.{Keeping}
use Rattle.world_run.specs.declared.sending.Sending.{Sending}
use Rattle.world_run.specs.Entries.{leaving}
use Rattle.world_run.specs.declared.phase.Purpose.TheVariants as purpose
use Rattle.world_run.specs.declared.names.Named.{Named}
use Rattle.world_run.specs.declared.calls.UnderWay.{UnderWay}
use Rattle.world_run.specs.declared.step.Answer.{Answer}
use Rattle.zone_tree.specs.Version.{Version as Numbered}
use Rattle.world_run.specs.declared.phase.Purpose.{Purpose}
use Rattle.world_run.specs.Phases.{is_for_update, updates}
use Rattle.world_run.specs.World.{owner_of, without_name, names_at, weak_names_at, kept_at, entries_at}
use Rattle.world_laws.proofs.OtherCalls.{any_update}
use Rattle.world_laws.proofs.UseLemmas.{UseKind, Use, IsOfKind, AllFit, InUse, times, times_append, fit_append, fit_front, fit_back, in_use_as}
use Rattle.world_laws.proofs.UseLemmas.UseKind.{holds, has, weakly}
use Rattle.world_laws.proofs.UseLists.{Zones, Stays, AsStays, EntersIf, use_of, phase_uses, window_uses, entry_uses, serial_of_entry, staying, early_uses, late_uses, StaysIn, swapped_for, swapped_in}
use Rattle.world_laws.proofs.UseTurns.{times_four, fit_four, fits_four}
use Rattle.world_laws.proofs.UseWorld.{Store, stays_of, store_left, uses_as, both_uses, kept_uses, kept_left, call_uses, AllStay, swaps_of, reserved_by, weak_reserved_by, named_by, rest_uses, Open, nothing_apart}
use Rattle.world_laws.proofs.UseStore.{in_use_kept, in_use_given}

-- one version more is kept, behind the others
kept_push : (from : ℕ) (kept : List ℕ) (owner : ℕ) → kept_uses from (kept ++ owner ∷ []) ≡ kept_uses from kept ++ use_of owner (has (from + length kept)) ∷ []
kept_push from [] owner = let e : from ≡ from + 0 = omega arith in ap (λ n. use_of owner (has n) ∷ []) e
kept_push from (o ∷ os) owner = let e : from + 1 + length os ≡ from + length (o ∷ os) = omega arith in ap (λ ss. use_of o (has from) ∷ ss) (kept_push (from + 1) os owner ∙ ap (λ n. kept_uses (from + 1) os ++ use_of owner (has n) ∷ []) e)

-- the versions that are kept where an update has made one
pub record KeptNow (from keep : ℕ) (kept : List ℕ) (owner last : ℕ) : Type 0 where
  pub first : ℕ
  pub now : List ℕ
  pub now_is : now ≡ (if nat_lt keep (length kept) then remove kept 0 else kept) ++ owner ∷ []
  pub uses : kept_uses first now ≡ kept_left from keep kept true ++ use_of owner (has last) ∷ []
  pub count : first + length now ≡ last + 1
  pub first_is : first ≡ last + 1 - (keep + 1)

not_more : (a b : ℕ) → nat_lt a b ≡ false → b ≤ a
not_more a b e = elim (cases_Bool (nat_lt a b)) [ inl less ↦ absurd (let wrong : true ≡ false = sym less ∙ e in cc) | inr isnt ↦ ltb-false a b isnt ]

kept_now : (from keep : ℕ) (kept : List ℕ) (owner last : ℕ) → from + length kept ≡ last → from ≡ last - (keep + 1) → KeptNow from keep kept owner last
kept_now from keep [] owner last count is =
    elim (cases_Bool (nat_lt keep 0)) [
      | inl more ↦ (let l = ltb-true keep 0 more in absurd (omega (arith, l)))
      | inr all ↦ record {
        first = from;
        now = owner ∷ [];
        now_is = rw all refl;
        uses = rw all (let e : from ≡ last = omega (arith, count) in ap (λ n. use_of owner (has n) ∷ []) e);
        count = omega (arith, count);
        first_is = omega (arith, count, is);
      }
    ]
kept_now from keep (o ∷ os) owner last count is =
    elim (cases_Bool (nat_lt keep (length (o ∷ os)))) [
      | inl more ↦ (
          let l = ltb-true keep (length (o ∷ os)) more in
          let e : from + 1 + length os ≡ last = omega (arith, count) in
          record {
            first = from + 1;
            now = os ++ owner ∷ [];
            now_is = rw more refl;
            uses = rw more (kept_push (from + 1) os owner ∙ ap (λ n. kept_uses (from + 1) os ++ use_of owner (has n) ∷ []) e);
            count = omega (arith, e, length-append os (owner ∷ []));
            first_is = omega (arith, count, is, l);
          }
          )
      | inr all ↦ (
          let few = not_more keep (length (o ∷ os)) all in
          record {
            first = from;
            now = (o ∷ os) ++ owner ∷ [];
            now_is = rw all refl;
            uses = rw all (kept_push from (o ∷ os) owner ∙ ap (λ n. kept_uses from (o ∷ os) ++ use_of owner (has n) ∷ []) count);
            count = omega (arith, count, length-append (o ∷ os) (owner ∷ []));
            first_is = omega (arith, count, is, few);
          }
          )
    ]

-- one name more
name_push : (use_kind : UseKind) (names : List Named) (x : Named) → uses_as use_kind (names ++ x ∷ []) ≡ uses_as use_kind names ++ use_of x.owner use_kind ∷ []
name_push use_kind [] x = refl
name_push use_kind (n ∷ names) x = ap (λ ss. use_of n.owner use_kind ∷ ss) (name_push use_kind names x)

named_push : (name : List ℕ) (names : List Named) (x : Named) → named_by name (names ++ x ∷ []) ≡ named_by name names + one_if (bytes_eq x.name name)
named_push name [] x = omega arith
named_push name (n ∷ names) x = let more = named_push name names x in omega (arith, more)

-- a call that gives an answer alone has nothing in hand
told_closed : (words : Zones) (names weaks : List Named) (store : Store) (calls : List UnderWay) (given : Answer) → Open words names weaks store calls (Done (Replied given)) → Open words names weaks store calls nothing_apart
told_closed words names weaks store calls given o = record {
  cell = o.cell;
  shows = o.shows;
  last = o.last;
  from = o.from;
  settled = o.settled;
  counted = o.counted;
  swapped = o.swapped;
  kept_count = o.kept_count;
  kept_from = o.kept_from;
  shut = o.shut;
  alone = o.alone;
  one = o.one;
  still = tt;
  stills = o.stills;
  in_use = o.in_use;
  publisher = o.publisher;
  names_once = o.names_once;
  weak_once = o.weak_once;
  calls_once = o.calls_once;
}

-- an owner more among those of names
both_push : (i : ℕ) (a b : List Use) (x : Use) → times i ((a ++ x ∷ []) ++ b) ≡ times i (x ∷ []) + times i (a ++ b)
both_push i a b x =
    let one = times_append i (a ++ x ∷ []) b in
    let two = times_append i a (x ∷ []) in
    let three = times_append i a b in
    omega (arith, one, two, three)

weak_push : (i : ℕ) (a b : List Use) (x : Use) → times i (a ++ (b ++ x ∷ [])) ≡ times i (x ∷ []) + times i (a ++ b)
weak_push i a b x =
    let one = times_append i a (b ++ x ∷ []) in
    let two = times_append i b (x ∷ []) in
    let three = times_append i a b in
    omega (arith, one, two, three)

-- it moves from a call's hand to the names
given_uses : (owners : List Owner) (x : Use) (more both kept_ones calls : List Use) → AllFit owners more → ((i : ℕ) → times i more ≡ times i (x ∷ []) + times i both) → InUse owners ((x ∷ []) ++ (both ++ (kept_ones ++ calls))) → InUse owners (more ++ (kept_ones ++ calls))
given_uses owners x more both kept_ones calls fits count s =
    let all = fits_four owners (x ∷ []) both kept_ones calls s.fit in
    in_use_as owners _ (more ++ (kept_ones ++ calls)) (fit_four owners [] more kept_ones calls tt fits all.2 all.3)
    (λ i. (
    let a = times_four i (x ∷ []) both kept_ones calls in
    let b = times_four i [] more kept_ones calls in
    let d = count i in
    omega (arith, a, b, d)
    )) s

owned_closed : (words : Zones) (names weaks : List Named) (store : Store) (calls : List UnderWay) (name : List ℕ) (owner number : ℕ) → Open words names weaks store calls (Done (Owned name owner number)) → Open words (names ++ record { name = name; owner = owner } ∷ []) weaks store calls nothing_apart
owned_closed words names weaks store calls name owner number o =
    let x : Named = record { name = name; owner = owner } in
    let kept_ones = store_left o.from store (any_update calls) in
    let push = name_push holds names x in
    let all = fits_four words.owners (use_of owner holds ∷ []) (both_uses names weaks) kept_ones (call_uses o.last o.from (stays_of store) calls) o.in_use.fit in
    let front = fit_front words.owners (uses_as holds names) (uses_as weakly weaks) all.1 in
    let behind = fit_back words.owners (uses_as holds names) (uses_as weakly weaks) all.1 in
    record {
      cell = o.cell;
      shows = o.shows;
      last = o.last;
      from = o.from;
      settled = o.settled;
      counted = o.counted;
      swapped = o.swapped;
      kept_count = o.kept_count;
      kept_from = o.kept_from;
      shut = o.shut;
      alone = o.alone;
      one = o.one;
      still = tt;
      stills = o.stills;
      in_use = given_uses words.owners (use_of owner holds) (both_uses (names ++ x ∷ []) weaks) (both_uses names weaks) kept_ones (call_uses o.last o.from (stays_of store) calls)
          (subst (λ ss. AllFit words.owners (ss ++ uses_as weakly weaks)) (sym push) (fit_append words.owners (uses_as holds names ++ use_of owner holds ∷ []) (uses_as weakly weaks) (fit_append words.owners (uses_as holds names) (use_of owner holds ∷ []) front all.0) behind))
          (λ i. subst (λ ss. times i (ss ++ uses_as weakly weaks) ≡ times i (use_of owner holds ∷ []) + times i (both_uses names weaks)) (sym push) (both_push i (uses_as holds names) (uses_as weakly weaks) (use_of owner holds))) o.in_use;
      publisher = o.publisher;
      names_once = λ n. (let once = o.names_once n in let more = named_push n names x in omega (arith, once, more));
      weak_once = o.weak_once;
      calls_once = o.calls_once;
    }

weakly_closed : (words : Zones) (names weaks : List Named) (store : Store) (calls : List UnderWay) (name : List ℕ) (owner number : ℕ) → Open words names weaks store calls (Done (OwnedWeakly name owner number)) → Open words names (weaks ++ record { name = name; owner = owner } ∷ []) store calls nothing_apart
weakly_closed words names weaks store calls name owner number o =
    let x : Named = record { name = name; owner = owner } in
    let kept_ones = store_left o.from store (any_update calls) in
    let push = name_push weakly weaks x in
    let all = fits_four words.owners (use_of owner weakly ∷ []) (both_uses names weaks) kept_ones (call_uses o.last o.from (stays_of store) calls) o.in_use.fit in
    let front = fit_front words.owners (uses_as holds names) (uses_as weakly weaks) all.1 in
    let behind = fit_back words.owners (uses_as holds names) (uses_as weakly weaks) all.1 in
    record {
      cell = o.cell;
      shows = o.shows;
      last = o.last;
      from = o.from;
      settled = o.settled;
      counted = o.counted;
      swapped = o.swapped;
      kept_count = o.kept_count;
      kept_from = o.kept_from;
      shut = o.shut;
      alone = o.alone;
      one = o.one;
      still = tt;
      stills = o.stills;
      in_use = given_uses words.owners (use_of owner weakly) (both_uses names (weaks ++ x ∷ [])) (both_uses names weaks) kept_ones (call_uses o.last o.from (stays_of store) calls)
          (subst (λ ss. AllFit words.owners (uses_as holds names ++ ss)) (sym push) (fit_append words.owners (uses_as holds names) (uses_as weakly weaks ++ use_of owner weakly ∷ []) front (fit_append words.owners (uses_as weakly weaks) (use_of owner weakly ∷ []) behind all.0)))
          (λ i. subst (λ ss. times i (uses_as holds names ++ ss) ≡ times i (use_of owner weakly ∷ []) + times i (both_uses names weaks)) (sym push) (weak_push i (uses_as holds names) (uses_as weakly weaks) (use_of owner weakly))) o.in_use;
      publisher = o.publisher;
      names_once = o.names_once;
      weak_once = λ n. (let once = o.weak_once n in let more = named_push n weaks x in omega (arith, once, more));
      calls_once = o.calls_once;
    }

no_slot_closed : (words : Zones) (names weaks : List Named) (store : Store) (calls : List UnderWay) (head : Heading) → Open words names weaks store calls (Done (NoSlot head)) → Open words names weaks store calls nothing_apart
no_slot_closed words names weaks store calls head o =
    let none = o.alone refl in
    record {
      cell = o.cell;
      shows = o.shows;
      last = o.last;
      from = o.from;
      settled = o.settled;
      counted = o.counted;
      swapped = o.swapped;
      kept_count = o.kept_count;
      kept_from = o.kept_from;
      shut = o.shut;
      alone = λ e. none;
      one = o.one;
      still = tt;
      stills = o.stills;
      in_use = rw none (in_use_given words.owners o.last o.from names weaks store calls o.in_use);
      publisher = o.publisher;
      names_once = o.names_once;
      weak_once = o.weak_once;
      calls_once = o.calls_once;
    }

-- where no update is under way nothing goes by what is kept, nor by the last number
same_phase : (at : Phase) (one two from first : ℕ) (stays later : Stays) → updates at ≡ false → phase_uses one from stays at ≡ phase_uses two first later at
same_phase (phase.Load name) one two from first stays later e = refl
same_phase (phase.Look name owner) one two from first stays later e = refl
same_phase (phase.Seek owner seeking) one two from first stays later e = refl
same_phase (phase.Gain owner seeking) one two from first stays later e = refl
same_phase (phase.Raise name owner) one two from first stays later e = refl
same_phase (phase.Note name owner) one two from first stays later e = refl
same_phase (phase.Probe version keeping) one two from first stays later e = absurd (let wrong = e in cc)
same_phase (phase.Prepare version keeping) one two from first stays later e = absurd (let wrong = e in cc)
same_phase (phase.Swap keeping) one two from first stays later e = absurd (let wrong = e in cc)
same_phase (phase.Settle keeping) one two from first stays later e = absurd (let wrong = e in cc)
same_phase (phase.Keep given keeping) one two from first stays later e = absurd (let wrong = e in cc)
same_phase (phase.Enter given kept keeping) one two from first stays later e = absurd (let wrong = e in cc)
same_phase (phase.Release owner purpose.Drop) one two from first stays later e = refl
same_phase (phase.Release owner (purpose.Sent sending owners)) one two from first stays later e = refl
same_phase (phase.Release owner (purpose.Publish keeping kept entry)) one two from first stays later e = absurd (let wrong = e in cc)
same_phase (phase.Release owner (purpose.Oldest head kept entry leaving)) one two from first stays later e = absurd (let wrong = e in cc)
same_phase (phase.Release owner (purpose.Leaves head kept entry leaving)) one two from first stays later e = absurd (let wrong = e in cc)
same_phase (phase.Bury owner purpose.Drop) one two from first stays later e = refl
same_phase (phase.Bury owner (purpose.Sent sending owners)) one two from first stays later e = refl
same_phase (phase.Bury owner (purpose.Publish keeping kept entry)) one two from first stays later e = absurd (let wrong = e in cc)
same_phase (phase.Bury owner (purpose.Oldest head kept entry leaving)) one two from first stays later e = absurd (let wrong = e in cc)
same_phase (phase.Bury owner (purpose.Leaves head kept entry leaving)) one two from first stays later e = absurd (let wrong = e in cc)
same_phase (phase.Fade owner None purpose.Drop) one two from first stays later e = refl
same_phase (phase.Fade owner None (purpose.Sent sending owners)) one two from first stays later e = refl
same_phase (phase.Fade owner (Some number) purpose.Drop) one two from first stays later e = refl
same_phase (phase.Fade owner (Some number) (purpose.Sent sending owners)) one two from first stays later e = refl
same_phase (phase.Reset owner number purpose.Drop) one two from first stays later e = refl
same_phase (phase.Reset owner number (purpose.Sent sending owners)) one two from first stays later e = refl
same_phase (phase.Free owner number purpose.Drop) one two from first stays later e = refl
same_phase (phase.Free owner number (purpose.Sent sending owners)) one two from first stays later e = refl
same_phase (phase.Fade owner number (purpose.Publish keeping kept entry)) one two from first stays later e = absurd (let wrong = e in cc)
same_phase (phase.Reset owner number (purpose.Publish keeping kept entry)) one two from first stays later e = absurd (let wrong = e in cc)
same_phase (phase.Free owner number (purpose.Publish keeping kept entry)) one two from first stays later e = absurd (let wrong = e in cc)
same_phase (phase.Fade owner number (purpose.Oldest head kept entry leaving)) one two from first stays later e = absurd (let wrong = e in cc)
same_phase (phase.Fade owner number (purpose.Leaves head kept entry leaving)) one two from first stays later e = absurd (let wrong = e in cc)
same_phase (phase.Reset owner number (purpose.Oldest head kept entry leaving)) one two from first stays later e = absurd (let wrong = e in cc)
same_phase (phase.Reset owner number (purpose.Leaves head kept entry leaving)) one two from first stays later e = absurd (let wrong = e in cc)
same_phase (phase.Free owner number (purpose.Oldest head kept entry leaving)) one two from first stays later e = absurd (let wrong = e in cc)
same_phase (phase.Free owner number (purpose.Leaves head kept entry leaving)) one two from first stays later e = absurd (let wrong = e in cc)

old_phase : (at : Phase) (stays : Stays) → updates at ≡ false → StaysIn stays at
old_phase (phase.Load name) stays e = tt
old_phase (phase.Look name owner) stays e = tt
old_phase (phase.Seek owner seeking) stays e = tt
old_phase (phase.Gain owner seeking) stays e = tt
old_phase (phase.Raise name owner) stays e = tt
old_phase (phase.Note name owner) stays e = tt
old_phase (phase.Probe version keeping) stays e = absurd (let wrong = e in cc)
old_phase (phase.Prepare version keeping) stays e = absurd (let wrong = e in cc)
old_phase (phase.Swap keeping) stays e = absurd (let wrong = e in cc)
old_phase (phase.Settle keeping) stays e = absurd (let wrong = e in cc)
old_phase (phase.Keep given keeping) stays e = absurd (let wrong = e in cc)
old_phase (phase.Enter given kept keeping) stays e = absurd (let wrong = e in cc)
old_phase (phase.Release owner purpose.Drop) stays e = tt
old_phase (phase.Release owner (purpose.Sent sending owners)) stays e = tt
old_phase (phase.Release owner (purpose.Publish keeping kept entry)) stays e = absurd (let wrong = e in cc)
old_phase (phase.Release owner (purpose.Oldest head kept entry leaving)) stays e = absurd (let wrong = e in cc)
old_phase (phase.Release owner (purpose.Leaves head kept entry leaving)) stays e = absurd (let wrong = e in cc)
old_phase (phase.Bury owner purpose.Drop) stays e = tt
old_phase (phase.Bury owner (purpose.Sent sending owners)) stays e = tt
old_phase (phase.Bury owner (purpose.Publish keeping kept entry)) stays e = absurd (let wrong = e in cc)
old_phase (phase.Bury owner (purpose.Oldest head kept entry leaving)) stays e = absurd (let wrong = e in cc)
old_phase (phase.Bury owner (purpose.Leaves head kept entry leaving)) stays e = absurd (let wrong = e in cc)
old_phase (phase.Fade owner number purpose.Drop) stays e = tt
old_phase (phase.Fade owner number (purpose.Sent sending owners)) stays e = tt
old_phase (phase.Reset owner number purpose.Drop) stays e = tt
old_phase (phase.Reset owner number (purpose.Sent sending owners)) stays e = tt
old_phase (phase.Free owner number purpose.Drop) stays e = tt
old_phase (phase.Free owner number (purpose.Sent sending owners)) stays e = tt
old_phase (phase.Fade owner number (purpose.Publish keeping kept entry)) stays e = absurd (let wrong = e in cc)
old_phase (phase.Reset owner number (purpose.Publish keeping kept entry)) stays e = absurd (let wrong = e in cc)
old_phase (phase.Free owner number (purpose.Publish keeping kept entry)) stays e = absurd (let wrong = e in cc)
old_phase (phase.Fade owner number (purpose.Oldest head kept entry leaving)) stays e = absurd (let wrong = e in cc)
old_phase (phase.Fade owner number (purpose.Leaves head kept entry leaving)) stays e = absurd (let wrong = e in cc)
old_phase (phase.Reset owner number (purpose.Oldest head kept entry leaving)) stays e = absurd (let wrong = e in cc)
old_phase (phase.Reset owner number (purpose.Leaves head kept entry leaving)) stays e = absurd (let wrong = e in cc)
old_phase (phase.Free owner number (purpose.Oldest head kept entry leaving)) stays e = absurd (let wrong = e in cc)
old_phase (phase.Free owner number (purpose.Leaves head kept entry leaving)) stays e = absurd (let wrong = e in cc)

or_false : (a b : Bool) → (a || b) ≡ false → (a ≡ false) × (b ≡ false)
or_false true b e = absurd (let wrong = e in cc)
or_false false b e = (refl, e)

same_calls : (calls : List UnderWay) (one two from first : ℕ) (stays later : Stays) → any_update calls ≡ false → call_uses one from stays calls ≡ call_uses two first later calls
same_calls [] one two from first stays later e = refl
same_calls (c ∷ cs) one two from first stays later e =
    let parts = or_false (updates c.phase) (any_update cs) e in
    ap (λ ss. ss ++ call_uses one from stays cs) (same_phase c.phase one two from first stays later parts.0) ∙ ap (λ ss. phase_uses two first later c.phase ++ ss) (same_calls cs one two from first stays later parts.1)

old_calls : (calls : List UnderWay) (stays : Stays) → any_update calls ≡ false → AllStay stays calls
old_calls [] stays e = tt
old_calls (c ∷ cs) stays e =
    let parts = or_false (updates c.phase) (any_update cs) e in (old_phase c.phase stays parts.0, old_calls cs stays parts.1)

no_swaps_for : (for : Purpose) → is_for_update for ≡ false → swapped_for for ≡ 0
no_swaps_for purpose.Drop e = refl
no_swaps_for (purpose.Sent sending owners) e = refl
no_swaps_for (purpose.Publish keeping kept entry) e = absurd (let wrong = e in cc)
no_swaps_for (purpose.Oldest head kept entry leaving) e = absurd (let wrong = e in cc)
no_swaps_for (purpose.Leaves head kept entry leaving) e = absurd (let wrong = e in cc)

no_swaps_phase : (at : Phase) → updates at ≡ false → swapped_in at ≡ 0
no_swaps_phase (phase.Load name) e = refl
no_swaps_phase (phase.Look name owner) e = refl
no_swaps_phase (phase.Seek owner seeking) e = refl
no_swaps_phase (phase.Gain owner seeking) e = refl
no_swaps_phase (phase.Raise name owner) e = refl
no_swaps_phase (phase.Note name owner) e = refl
no_swaps_phase (phase.Probe version keeping) e = refl
no_swaps_phase (phase.Prepare version keeping) e = refl
no_swaps_phase (phase.Swap keeping) e = refl
no_swaps_phase (phase.Settle keeping) e = absurd (let wrong = e in cc)
no_swaps_phase (phase.Keep given keeping) e = absurd (let wrong = e in cc)
no_swaps_phase (phase.Enter given kept keeping) e = absurd (let wrong = e in cc)
no_swaps_phase (phase.Release owner for) e = no_swaps_for for e
no_swaps_phase (phase.Bury owner for) e = no_swaps_for for e
no_swaps_phase (phase.Fade owner number for) e = no_swaps_for for e
no_swaps_phase (phase.Reset owner number for) e = no_swaps_for for e
no_swaps_phase (phase.Free owner number for) e = no_swaps_for for e

pub no_swaps : (calls : List UnderWay) → any_update calls ≡ false → swaps_of calls ≡ 0
no_swaps [] e = refl
no_swaps (c ∷ cs) e =
    let parts = or_false (updates c.phase) (any_update cs) e in
    let one = no_swaps_phase c.phase parts.0 in
    let more = no_swaps cs parts.1 in
    omega (arith, one, more)

-- what is kept and in the window behind a call's end
abbrev pub store_at : End → Store → Store
store_at end store = record { kept = kept_at store.keep end store.kept; keep = store.keep; entries = entries_at store.window end store.entries; window = store.window }

-- what stays of the window, with what is entered, is the window of one version more
window_more : (owners : List Owner) (total last : ℕ) (entries : List Entry) (entry : Entry) → total ≡ last → AllFit owners (window_uses total entries) → AllFit owners (entry_uses last (Some entry)) → AllFit owners (window_uses (last + 1) (entries ++ entry ∷ []))
window_more owners total last [] entry same f g = g
window_more owners total last (e ∷ entries) entry same f g =
    let count = length-append entries (entry ∷ []) in
    let numbered = f.0.0 in
    ((omega (arith, count, numbered, same), f.0.1, f.0.2), window_more owners total last entries entry same f.1 g)

window_now : (owners : List Owner) (store : Store) (head : Heading) (owner total last : ℕ) (entry : Option Entry) → EntersIf (stays_of store) (is_some entry) → (nat_lt 0 store.window ≡ false → store.entries ≡ []) → total ≡ last → AllFit owners (window_uses total (staying (stays_of store) (serial_of_entry entry))) → AllFit owners (entry_uses last entry)
    → AllFit owners (window_uses (last + 1) (entries_at store.window (Kept head owner entry) store.entries))
window_now owners store head owner total last None is shut same f g = subst (λ es. AllFit owners (window_uses (last + 1) es)) (sym (shut (sym is))) tt
window_now owners store head owner total last (Some entry) is shut same f g = window_more owners total last (drop (length (leaving store.window store.entries entry.serial.0)) store.entries) entry same f g

-- whatever the total is
window_times : (i one two : ℕ) (entries : List Entry) → times i (window_uses one entries) ≡ times i (window_uses two entries)
window_times i one two [] = refl
window_times i one two (e ∷ entries) = let more = window_times i one two entries in omega (arith, more)

window_push : (i one two : ℕ) (entries : List Entry) (entry : Entry) → times i (window_uses one (entries ++ entry ∷ [])) ≡ times i (window_uses two entries) + one_if (entry.owner == i)
window_push i one two [] entry = omega arith
window_push i one two (e ∷ entries) entry = let more = window_push i one two entries entry in omega (arith, more)

window_count : (i one two last : ℕ) (store : Store) (head : Heading) (owner : ℕ) (entry : Option Entry) → times i (window_uses one (entries_at store.window (Kept head owner entry) store.entries)) ≡ times i (window_uses two (staying (stays_of store) (serial_of_entry entry))) + times i (entry_uses last entry)
window_count i one two last store head owner None = let same = window_times i one two store.entries in omega (arith, same)
window_count i one two last store head owner (Some entry) = let push = window_push i one two (drop (length (leaving store.window store.entries entry.serial.0)) store.entries) entry in omega (arith, push)

-- where there is no window, none is entered
shut_now : (store : Store) (head : Heading) (owner : ℕ) (entry : Option Entry) → EntersIf (stays_of store) (is_some entry) → (nat_lt 0 store.window ≡ false → store.entries ≡ []) → nat_lt 0 store.window ≡ false → entries_at store.window (Kept head owner entry) store.entries ≡ []
shut_now store head owner None is shut e = shut e
shut_now store head owner (Some entry) is shut e = absurd (let wrong : true ≡ false = is ∙ e in cc)

kept_closed : (words : Zones) (names weaks : List Named) (store : Store) (calls : List UnderWay) (head : Heading) (owner : ℕ) (entry : Option Entry) → Open words names weaks store calls (Done (Kept head owner entry)) → Open words names weaks (store_at (Kept head owner entry) store) calls nothing_apart
kept_closed words names weaks store calls head owner entry o =
    let none = o.alone refl in
    let swaps = no_swaps calls none in
    let k = kept_now o.from store.keep store.kept owner o.last (omega (arith, o.swapped, swaps, o.kept_count)) (let f = o.kept_from in let s = o.swapped in let e : o.settled ≡ o.last = omega (arith, s, swaps) in f ∙ ap (λ n. n - (store.keep + 1)) e) in
    let entries = entries_at store.window (Kept head owner entry) store.entries in
    let next : Store = record { kept = k.now; keep = store.keep; entries = entries; window = store.window } in
    let others = same_calls calls o.last o.last o.from k.first (stays_of store) (stays_of next) none in
    let total : ℕ = o.from + length store.kept in
    let settled : total ≡ o.last = omega (arith, o.swapped, swaps, o.kept_count) in
    let mine = use_of owner (has o.last) ∷ late_uses o.last o.from (stays_of store) entry [] in
    let stay = window_uses total (staying (stays_of store) (serial_of_entry entry)) in
    let all = fits_four words.owners mine (both_uses names weaks) (store_left o.from store true) (call_uses o.last o.from (stays_of store) calls) o.in_use.fit in
    let entry_fit = fit_front words.owners (entry_uses o.last entry) stay all.0.1 in
    let stay_fit = fit_back words.owners (entry_uses o.last entry) stay all.0.1 in
    let kept_fit = subst (λ ss. AllFit words.owners ss) (sym k.uses) (fit_append words.owners (kept_left o.from store.keep store.kept true) (use_of owner (has o.last) ∷ []) (fit_front words.owners (kept_left o.from store.keep store.kept true) [] all.2) (all.0.0, tt)) in
    let window_fit = subst (λ n. AllFit words.owners (window_uses n entries)) (sym k.count) (window_now words.owners store head owner total o.last entry o.still o.shut settled stay_fit entry_fit) in
    let s : InUse words.owners (rest_uses o.last k.first names weaks next calls false) =
    in_use_as words.owners _ (rest_uses o.last k.first names weaks next calls false)
    (fit_four words.owners [] (both_uses names weaks) (store_left k.first next false) (call_uses o.last k.first (stays_of next) calls) tt all.1
    (fit_append words.owners (kept_uses k.first k.now) (window_uses (k.first + length k.now) entries) kept_fit window_fit)
    (subst (λ ss. AllFit words.owners ss) others all.3))
    (λ i. (
    let a = times_four i mine (both_uses names weaks) (store_left o.from store true) (call_uses o.last o.from (stays_of store) calls) in
    let b = times_four i [] (both_uses names weaks) (store_left k.first next false) (call_uses o.last k.first (stays_of next) calls) in
    let c = times_append i (kept_uses k.first k.now) (window_uses (k.first + length k.now) entries) in
    let d : times i (kept_uses k.first k.now) ≡ times i (kept_left o.from store.keep store.kept true ++ use_of owner (has o.last) ∷ []) = ap (times i) k.uses in
    let f = times_append i (kept_left o.from store.keep store.kept true) (use_of owner (has o.last) ∷ []) in
    let g : times i (call_uses o.last o.from (stays_of store) calls) ≡ times i (call_uses o.last k.first (stays_of next) calls) = ap (times i) others in
    let h = window_count i (k.first + length k.now) total o.last store head owner entry in
    let l = times_append i (entry_uses o.last entry) stay in
    let m = times_append i (kept_left o.from store.keep store.kept true) [] in
    omega (arith, a, b, c, d, f, g, h, l, m)
    )) o.in_use in
    let later : Open words names weaks next calls nothing_apart = record {
      cell = o.cell;
      shows = o.shows;
      last = o.last;
      from = k.first;
      settled = o.last + 1;
      counted = o.counted;
      swapped = omega (arith, swaps);
      kept_count = k.count;
      kept_from = k.first_is;
      shut = shut_now store head owner entry o.still o.shut;
      alone = λ e. none;
      one = o.one;
      still = tt;
      stills = old_calls calls (stays_of next) none;
      in_use = rw none s;
      publisher = o.publisher;
      names_once = o.names_once;
      weak_once = o.weak_once;
      calls_once = o.calls_once;
    } in
    subst (λ ks. Open words names weaks (record { kept = ks; keep = store.keep; entries = entries; window = store.window }) calls nothing_apart) k.now_is later

sent_closed : (words : Zones) (names weaks : List Named) (store : Store) (calls : List UnderWay) (sending : Sending) → Open words names weaks store calls (Done (Sent sending)) → Open words names weaks store calls nothing_apart
sent_closed words names weaks store calls sending o = record {
  cell = o.cell;
  shows = o.shows;
  last = o.last;
  from = o.from;
  settled = o.settled;
  counted = o.counted;
  swapped = o.swapped;
  kept_count = o.kept_count;
  kept_from = o.kept_from;
  shut = o.shut;
  alone = o.alone;
  one = o.one;
  still = tt;
  stills = o.stills;
  in_use = o.in_use;
  publisher = o.publisher;
  names_once = o.names_once;
  weak_once = o.weak_once;
  calls_once = o.calls_once;
}

-- a call at its end gives what it has in hand to a name, or to the versions that are kept and to the window
pub closed : (words : Zones) (names weaks : List Named) (store : Store) (calls : List UnderWay) (end : End) → Open words names weaks store calls (Done end) → Open words (names_at end names) (weak_names_at end weaks) (store_at end store) calls nothing_apart
closed words names weaks store calls (Owned name owner number) o = owned_closed words names weaks store calls name owner number o
closed words names weaks store calls (OwnedWeakly name owner number) o = weakly_closed words names weaks store calls name owner number o
closed words names weaks store calls (Replied given) o = told_closed words names weaks store calls given o
closed words names weaks store calls (NoSlot head) o = no_slot_closed words names weaks store calls head o
closed words names weaks store calls (Kept head owner entry) o = kept_closed words names weaks store calls head owner entry o
closed words names weaks store calls (Sent sending) o = sent_closed words names weaks store calls sending o

-- a name that isn't taken may be put into use
once_more : (name n : List ℕ) (named reserved : List ℕ → ℕ) → named name ≡ 0 → reserved name ≡ 0 → named n + (0 + reserved n) ≤ 1 → named n + (one_if (bytes_eq name n) + reserved n) ≤ 1
once_more name n named reserved unnamed unreserved once =
    elim (cases_Bool (bytes_eq name n)) [
      | inl same ↦ (
          let e : name ≡ n = (bytes_eq-Decides name n).0 same in
          let f : named n ≡ 0 = ap named (sym e) ∙ unnamed in
          let g : reserved n ≡ 0 = ap reserved (sym e) ∙ unreserved in
          let h : one_if (bytes_eq name n) ≡ 1 = rw same refl in
          omega (arith, f, g, h)
          )
      | inr other ↦ (let h : one_if (bytes_eq name n) ≡ 0 = rw other refl in omega (arith, once, h))
    ]

-- a load begins: its name isn't taken
pub load_open : (words : Zones) (names weaks : List Named) (store : Store) (calls : List UnderWay) (name : List ℕ) → named_by name names ≡ 0 → reserved_by name calls ≡ 0 → Open words names weaks store calls nothing_apart → Open words names weaks store calls (On (phase.Load name))
load_open words names weaks store calls name unnamed unreserved o = record {
  cell = o.cell;
  shows = o.shows;
  last = o.last;
  from = o.from;
  settled = o.settled;
  counted = o.counted;
  swapped = o.swapped;
  kept_count = o.kept_count;
  kept_from = o.kept_from;
  shut = o.shut;
  alone = o.alone;
  one = o.one;
  still = tt;
  stills = o.stills;
  in_use = o.in_use;
  publisher = o.publisher;
  names_once = λ n. once_more name n (λ m. named_by m names) (λ m. reserved_by m calls) unnamed unreserved (o.names_once n);
  weak_once = o.weak_once;
  calls_once = o.calls_once;
}

-- an upgrade begins
pub look_open : (words : Zones) (names weaks : List Named) (store : Store) (calls : List UnderWay) (name : List ℕ) (owner : ℕ) → named_by name names ≡ 0 → reserved_by name calls ≡ 0 → Open words names weaks store calls nothing_apart → Open words names weaks store calls (On (phase.Look name owner))
look_open words names weaks store calls name owner unnamed unreserved o = record {
  cell = o.cell;
  shows = o.shows;
  last = o.last;
  from = o.from;
  settled = o.settled;
  counted = o.counted;
  swapped = o.swapped;
  kept_count = o.kept_count;
  kept_from = o.kept_from;
  shut = o.shut;
  alone = o.alone;
  one = o.one;
  still = tt;
  stills = o.stills;
  in_use = o.in_use;
  publisher = o.publisher;
  names_once = λ n. once_more name n (λ m. named_by m names) (λ m. reserved_by m calls) unnamed unreserved (o.names_once n);
  weak_once = o.weak_once;
  calls_once = o.calls_once;
}

-- a copy begins
pub raise_open : (words : Zones) (names weaks : List Named) (store : Store) (calls : List UnderWay) (name : List ℕ) (owner : ℕ) → named_by name names ≡ 0 → reserved_by name calls ≡ 0 → Open words names weaks store calls nothing_apart → Open words names weaks store calls (On (phase.Raise name owner))
raise_open words names weaks store calls name owner unnamed unreserved o = record {
  cell = o.cell;
  shows = o.shows;
  last = o.last;
  from = o.from;
  settled = o.settled;
  counted = o.counted;
  swapped = o.swapped;
  kept_count = o.kept_count;
  kept_from = o.kept_from;
  shut = o.shut;
  alone = o.alone;
  one = o.one;
  still = tt;
  stills = o.stills;
  in_use = o.in_use;
  publisher = o.publisher;
  names_once = λ n. once_more name n (λ m. named_by m names) (λ m. reserved_by m calls) unnamed unreserved (o.names_once n);
  weak_once = o.weak_once;
  calls_once = o.calls_once;
}

-- a weak owner is begun
pub note_open : (words : Zones) (names weaks : List Named) (store : Store) (calls : List UnderWay) (name : List ℕ) (owner : ℕ) → named_by name weaks ≡ 0 → weak_reserved_by name calls ≡ 0 → Open words names weaks store calls nothing_apart → Open words names weaks store calls (On (phase.Note name owner))
note_open words names weaks store calls name owner unnamed unreserved o = record {
  cell = o.cell;
  shows = o.shows;
  last = o.last;
  from = o.from;
  settled = o.settled;
  counted = o.counted;
  swapped = o.swapped;
  kept_count = o.kept_count;
  kept_from = o.kept_from;
  shut = o.shut;
  alone = o.alone;
  one = o.one;
  still = tt;
  stills = o.stills;
  in_use = o.in_use;
  publisher = o.publisher;
  names_once = o.names_once;
  weak_once = λ n. once_more name n (λ m. named_by m weaks) (λ m. weak_reserved_by m calls) unnamed unreserved (o.weak_once n);
  calls_once = o.calls_once;
}

-- the owner of a name, and those of the others
none_named : (name : List ℕ) (names : List Named) → named_by name names ≡ 0 → without_name name names ≡ names
none_named name [] e = refl
none_named name (x ∷ names) e =
    elim (cases_Bool (bytes_eq x.name name)) [
      | inl same ↦ (let g : one_if (bytes_eq x.name name) ≡ 1 = rw same refl in absurd (omega (arith, e, g)))
      | inr other ↦ rw other (ap (λ ns. x ∷ ns) (none_named name names (omega (arith, e))))
    ]

less_named : (n name : List ℕ) (names : List Named) → named_by n (without_name name names) ≤ named_by n names
less_named n name [] = omega arith
less_named n name (x ∷ names) =
    let more = less_named n name names in
    elim (cases_Bool (bytes_eq x.name name)) [
      | inl same ↦ (let e : without_name name (x ∷ names) ≡ without_name name names = rw same refl in let f : named_by n (without_name name (x ∷ names)) ≡ named_by n (without_name name names) = ap (named_by n) e in omega (arith, more, f))
      | inr other ↦ (let e : without_name name (x ∷ names) ≡ x ∷ without_name name names = rw other refl in let f : named_by n (without_name name (x ∷ names)) ≡ one_if (bytes_eq x.name n) + named_by n (without_name name names) = ap (named_by n) e in omega (arith, more, f))
    ]

without_other : (name : List ℕ) (x : Named) (names rest : List Named) → bytes_eq x.name name ≡ false → without_name name names ≡ rest → without_name name (x ∷ names) ≡ x ∷ rest
without_other name x names rest other e = rw other (ap (λ ns. x ∷ ns) e)

without_this : (name : List ℕ) (x : Named) (names rest : List Named) → bytes_eq x.name name ≡ true → without_name name names ≡ rest → without_name name (x ∷ names) ≡ rest
without_this name x names rest same e = rw same e

record OwnerApart (owners : List Owner) (use_kind : UseKind) (name : List ℕ) (names : List Named) (owner : ℕ) : Type 0 where
  fit : IsOfKind owners owner use_kind
  others : AllFit owners (uses_as use_kind (without_name name names))
  count : (i : ℕ) → times i (uses_as use_kind names) ≡ one_if (owner == i) + times i (uses_as use_kind (without_name name names))

owner_apart : (owners : List Owner) (use_kind : UseKind) (name : List ℕ) (names : List Named) (owner : ℕ) → named_by name names ≤ 1 → AllFit owners (uses_as use_kind names) → owner_of name names ≡ Some owner → OwnerApart owners use_kind name names owner
owner_apart owners use_kind name [] owner few fits e = absurd (let wrong = e in cc)
owner_apart owners use_kind name (x ∷ names) owner few fits e =
    elim (cases_Bool (bytes_eq x.name name)) [
      | inl same ↦ (
          let found = rw same at e in
          let it : x.owner ≡ owner = (let f = found in cc) in
          let g : one_if (bytes_eq x.name name) ≡ 1 = rw same refl in
          let none : named_by name names ≡ 0 = omega (arith, few, g) in
          let rest : without_name name (x ∷ names) ≡ names = without_this name x names names same (none_named name names none) in
          record {
            fit = subst (λ o. IsOfKind owners o use_kind) it fits.0;
            others = subst (λ ns. AllFit owners (uses_as use_kind ns)) (sym rest) fits.1;
            count = λ i. (
                let a : times i (uses_as use_kind (without_name name (x ∷ names))) ≡ times i (uses_as use_kind names) = ap (λ ns. times i (uses_as use_kind ns)) rest in
                let b : one_if (x.owner == i) ≡ one_if (owner == i) = ap (λ o. one_if (o == i)) it in
                omega (arith, a, b)
                );
          }
          )
      | inr other ↦ (
          let g : one_if (bytes_eq x.name name) ≡ 0 = rw other refl in
          let there : owner_of name names ≡ Some owner = rw other at e in
          let more = owner_apart owners use_kind name names owner (omega (arith, few, g)) fits.1 there in
          let rest : without_name name (x ∷ names) ≡ x ∷ without_name name names = without_other name x names (without_name name names) other refl in
          record {
            fit = more.fit;
            others = subst (λ ns. AllFit owners (uses_as use_kind ns)) (sym rest) (fits.0, more.others);
            count = λ i. (
                let a : times i (uses_as use_kind (without_name name (x ∷ names))) ≡ one_if (x.owner == i) + times i (uses_as use_kind (without_name name names)) = ap (λ ns. times i (uses_as use_kind ns)) rest in
                let b = more.count i in
                omega (arith, a, b)
                );
          }
          )
    ]

-- the owner of a name goes to a call's hand
pub drop_open : (words : Zones) (names weaks : List Named) (store : Store) (calls : List UnderWay) (name : List ℕ) (owner : ℕ) → owner_of name names ≡ Some owner → Open words names weaks store calls nothing_apart → Open words (without_name name names) weaks store calls (On (phase.Release owner purpose.Drop))
drop_open words names weaks store calls name owner e o =
    let kept_ones = store_left o.from store (any_update calls) in
    let all = fits_four words.owners [] (both_uses names weaks) kept_ones (call_uses o.last o.from (stays_of store) calls) o.in_use.fit in
    let few : named_by name names ≤ 1 = (let n = o.names_once name in omega (arith, n)) in
    let apart = owner_apart words.owners holds name names owner few (fit_front words.owners (uses_as holds names) (uses_as weakly weaks) all.1) e in
    let behind = fit_back words.owners (uses_as holds names) (uses_as weakly weaks) all.1 in
    record {
      cell = o.cell;
      shows = o.shows;
      last = o.last;
      from = o.from;
      settled = o.settled;
      counted = o.counted;
      swapped = o.swapped;
      kept_count = o.kept_count;
      kept_from = o.kept_from;
      shut = o.shut;
      alone = o.alone;
      one = o.one;
      still = tt;
      stills = o.stills;
      in_use = in_use_as words.owners _ (use_of owner holds ∷ ([] ++ rest_uses o.last o.from (without_name name names) weaks store calls (any_update calls)))
          (fit_four words.owners (use_of owner holds ∷ []) (both_uses (without_name name names) weaks) kept_ones (call_uses o.last o.from (stays_of store) calls) (apart.fit, tt) (fit_append words.owners (uses_as holds (without_name name names)) (uses_as weakly weaks) apart.others behind) all.2 all.3)
          (λ i. (
          let a = times_four i (use_of owner holds ∷ []) (both_uses (without_name name names) weaks) kept_ones (call_uses o.last o.from (stays_of store) calls) in
          let b = times_four i [] (both_uses names weaks) kept_ones (call_uses o.last o.from (stays_of store) calls) in
          let f = times_append i (uses_as holds names) (uses_as weakly weaks) in
          let g = times_append i (uses_as holds (without_name name names)) (uses_as weakly weaks) in
          let d = apart.count i in
          omega (arith, a, b, d, f, g)
          )) o.in_use;
      publisher = o.publisher;
      names_once = λ n. (let once = o.names_once n in let less = less_named n name names in omega (arith, once, less));
      weak_once = o.weak_once;
      calls_once = o.calls_once;
    }

pub fade_open : (words : Zones) (names weaks : List Named) (store : Store) (calls : List UnderWay) (name : List ℕ) (owner : ℕ) → owner_of name weaks ≡ Some owner → Open words names weaks store calls nothing_apart → Open words names (without_name name weaks) store calls (On (phase.Fade owner None purpose.Drop))
fade_open words names weaks store calls name owner e o =
    let kept_ones = store_left o.from store (any_update calls) in
    let all = fits_four words.owners [] (both_uses names weaks) kept_ones (call_uses o.last o.from (stays_of store) calls) o.in_use.fit in
    let few : named_by name weaks ≤ 1 = (let n = o.weak_once name in omega (arith, n)) in
    let apart = owner_apart words.owners weakly name weaks owner few (fit_back words.owners (uses_as holds names) (uses_as weakly weaks) all.1) e in
    let front = fit_front words.owners (uses_as holds names) (uses_as weakly weaks) all.1 in
    record {
      cell = o.cell;
      shows = o.shows;
      last = o.last;
      from = o.from;
      settled = o.settled;
      counted = o.counted;
      swapped = o.swapped;
      kept_count = o.kept_count;
      kept_from = o.kept_from;
      shut = o.shut;
      alone = o.alone;
      one = o.one;
      still = tt;
      stills = o.stills;
      in_use = in_use_as words.owners _ (use_of owner weakly ∷ ([] ++ rest_uses o.last o.from names (without_name name weaks) store calls (any_update calls)))
          (fit_four words.owners (use_of owner weakly ∷ []) (both_uses names (without_name name weaks)) kept_ones (call_uses o.last o.from (stays_of store) calls) (apart.fit, tt) (fit_append words.owners (uses_as holds names) (uses_as weakly (without_name name weaks)) front apart.others) all.2 all.3)
          (λ i. (
          let a = times_four i (use_of owner weakly ∷ []) (both_uses names (without_name name weaks)) kept_ones (call_uses o.last o.from (stays_of store) calls) in
          let b = times_four i [] (both_uses names weaks) kept_ones (call_uses o.last o.from (stays_of store) calls) in
          let f = times_append i (uses_as holds names) (uses_as weakly weaks) in
          let g = times_append i (uses_as holds names) (uses_as weakly (without_name name weaks)) in
          let d = apart.count i in
          omega (arith, a, b, d, f, g)
          )) o.in_use;
      publisher = o.publisher;
      names_once = o.names_once;
      weak_once = λ n. (let once = o.weak_once n in let less = less_named n name weaks in omega (arith, once, less));
      calls_once = o.calls_once;
    }

-- an update begins, where none is under way
pub update_open : (words : Zones) (names weaks : List Named) (store : Store) (calls : List UnderWay) (version : Numbered) (keeping : Keeping) → AsStays (stays_of store) keeping → any_update calls ≡ false → Open words names weaks store calls nothing_apart
    → Open words names weaks store calls (On (phase.Probe version keeping))
update_open words names weaks store calls version keeping is none o = record {
  cell = o.cell;
  shows = o.shows;
  last = o.last;
  from = o.from;
  settled = o.settled;
  counted = o.counted;
  swapped = o.swapped;
  kept_count = o.kept_count;
  kept_from = o.kept_from;
  shut = o.shut;
  alone = λ e. none;
  one = o.one;
  still = is;
  stills = o.stills;
  in_use = subst (λ oldest. InUse words.owners (early_uses o.from (stays_of store) oldest ++ rest_uses o.last o.from names weaks store calls true)) (sym is.0) (in_use_kept words.owners o.last o.from names weaks store calls (let s = o.in_use in rw none at s));
  publisher = λ e. absurd (let wrong = e in cc);
  names_once = o.names_once;
  weak_once = o.weak_once;
  calls_once = o.calls_once;
}

-- a transfer begins
pub seek_open : (words : Zones) (names weaks : List Named) (store : Store) (calls : List UnderWay) (owner : ℕ) (sending : Sending) (left : List ℕ) → Open words names weaks store calls nothing_apart → Open words names weaks store calls (On (phase.Seek owner (record { sending = sending; left = left; owners = [] })))
seek_open words names weaks store calls owner sending left o = record {
  cell = o.cell;
  shows = o.shows;
  last = o.last;
  from = o.from;
  settled = o.settled;
  counted = o.counted;
  swapped = o.swapped;
  kept_count = o.kept_count;
  kept_from = o.kept_from;
  shut = o.shut;
  alone = o.alone;
  one = o.one;
  still = tt;
  stills = o.stills;
  in_use = o.in_use;
  publisher = o.publisher;
  names_once = o.names_once;
  weak_once = o.weak_once;
  calls_once = o.calls_once;
}

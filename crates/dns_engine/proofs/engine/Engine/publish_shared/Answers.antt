-- What is held is the newest again, and the history has one version more.
use Rattle.std.proofs.Common.{◌≡◌, ◌+◌, ◌-◌, ◌++◌, ◌∷◌, [], List, ap, sym, ◌∙◌, subst, arith}
use Rattle.zone_tree.specs.Version.{Version, zone_serial}
use Rattle.cell_core.specs.declared.words.Version.{Version as Numbered}
use Rattle.snapshot_cell.specs.Tokens.{PublisherState, ReaderState}
use Rattle.dns_engine.specs.Versions.{IsNext}
use Rattle.dns_engine.specs.Held.{EngineState, newest, free_of, state_with}
use Rattle.dns_engine.specs.Entries.{history_of}
use Rattle.dns_engine.proofs.OwnedLemmas.{newest_on}
use Rattle.dns_engine.proofs.EntryLemmas.{history_on}
use Rattle.dns_engine.proofs.FreeLemmas.{free_next}
use Rattle.dns_engine.proofs.engine.Engine.publish_shared.Goals as goal

pub invariant_of-self-2 : goal.invariant_of-self-2
invariant_of-self-2 g c =
    let inside = c.self.inside in
    let held = c.self.invariant in
    let version = c.args.version in
    let found = c.in-Ok-newest_with_weak in
    let follows : IsNext inside.last.value version = subst (λ (state : EngineState). IsNext state.held.last version) (sym c.self.view_is) c.requires.follows in
    let next = c.in-Ok.ensures.published in
    let value : c.publish.new.publisher.value ≡ version = ap (λ (p : PublisherState Version). p.value) next in
    let number : c.publish.new.publisher.number ≡ inside.last.value.number + 1 = ap (λ (p : PublisherState Version). p.number) next ∙ ap (λ n. n + 1) held.3 in
    let published : c.publish.new.publisher.published ≡ inside.reader.seen ++ version ∷ [] =
    ap (λ (p : PublisherState Version). p.published) next ∙ ap (λ (l : List Version). l ++ version ∷ []) held.1 in
    let noted = found.ensures.noted.0 in
    let loaded : found.last ≡ record { number = c.publish.new.publisher.number; value = c.publish.new.publisher.value } = found.ensures.newest.0 in
    let seen : c.newest_with_weak.new.reader.seen ≡ c.publish.new.publisher.published = ap (λ (r : ReaderState Version). r.seen) found.ensures.newest.1 in
    let own : c.publish.new.publisher.number ≡ version.number = number ∙ sym follows.makes.number in
    let weak : found.weak ≡ record { number = version.number; value = version } = found.ensures.weak ∙ loaded ∙ (λ i. record { number = own i; value = value i }) in
    let newer : found.last.value ≡ version = ap (λ (o : Numbered Version). o.value) loaded ∙ value in
    let serial : c.serial.result.0 ≡ zone_serial version.zone = c.serial.ensures ∙ ap (λ (v : Version). zone_serial v.zone) (c.get-2.ensures ∙ c.get.ensures ∙ newer) in
    let last : c.replace.new.dest.value ≡ version = ap (λ (o : Numbered Version). o.value) (c.replace.ensures.after ∙ loaded) ∙ value in
    let older : c.keep_newest.new.self ≡ newest inside.keep (inside.older ++ inside.last.value ∷ []) =
    c.keep_newest.ensures ∙ ap (λ (v : Version). newest inside.keep (inside.older ++ v ∷ [])) (ap (λ (o : Numbered Version). o.value) c.in-Ok.ensures.old ∙ held.2) in (
      held.0,
      ap (λ (p : PublisherState Version). p.published) noted ∙ sym seen,
      ap (λ (p : PublisherState Version). p.value) noted ∙ value ∙ sym last,
      ap (λ (p : PublisherState Version). p.number) noted ∙ number ∙ sym follows.makes.number ∙ ap (λ (v : Version). v.number) (sym last),
      rw (seen ∙ published, last, older) (newest_on g.Z.FirstZone.zone _ version held.4 follows),
      history_on inside.reader.seen version inside.history c.push.new.self found.weak c.serial.result.0 held.5 weak serial c.push.ensures ∙ ap history_of (sym (seen ∙ published)),
    )

pub returns-clause-published : goal.returns-clause-published
returns-clause-published g c =
    let inside = c.self.inside in
    let version = c.args.version in
    let found = c.in-Ok-newest_with_weak in
    let follows : IsNext inside.last.value version = subst (λ (state : EngineState). IsNext state.held.last version) (sym c.self.view_is) c.requires.follows in
    let next = c.in-Ok.ensures.published in
    let noted = found.ensures.noted.0 in
    let reader = found.ensures.newest.1 in
    let value : c.publish.new.publisher.value ≡ version = ap (λ (p : PublisherState Version). p.value) next in
    let seen : c.newest_with_weak.new.reader.seen ≡ inside.reader.seen ++ version ∷ [] =
    ap (λ (r : ReaderState Version). r.seen) reader ∙ (ap (λ (p : PublisherState Version). p.published) next ∙ ap (λ (l : List Version). l ++ version ∷ []) c.self.invariant.1) in
    let last : c.replace.new.dest.value ≡ version = ap (λ (o : Numbered Version). o.value) (c.replace.ensures.after ∙ found.ensures.newest.0) ∙ value in
    let older : c.keep_newest.new.self ≡ newest inside.keep (inside.older ++ inside.last.value ∷ []) =
    c.keep_newest.ensures ∙ ap (λ (v : Version). newest inside.keep (inside.older ++ v ∷ [])) (ap (λ (o : Numbered Version). o.value) c.in-Ok.ensures.old ∙ c.self.invariant.2) in
    let left : c.newest_with_weak.new.reader.left ≡ inside.reader.left - 1 = ap (λ (r : ReaderState Version). r.left) reader in
    let ready : c.newest_with_weak.new.publisher.ready ≡ inside.publisher.ready - 1 =
    ap (λ (p : PublisherState Version). p.ready) noted ∙ ap (λ (p : PublisherState Version). p.ready) next in
    let given : c.newest_with_weak.new.publisher.noted ≡ inside.publisher.noted + 1 =
    ap (λ (p : PublisherState Version). p.noted) noted ∙ ap (λ (p : PublisherState Version). p.noted + 1) next in
    let number : c.replace.new.dest.value.number ≡ inside.last.value.number + 1 = ap (λ (v : Version). v.number) last ∙ follows.makes.number in
    let free : free_of c.newest_with_weak.new.publisher.ready c.newest_with_weak.new.reader.left c.newest_with_weak.new.publisher.noted c.replace.new.dest.value.number
    ≡ free_of inside.publisher.ready inside.reader.left inside.publisher.noted inside.last.value.number - 1 =
    (λ i. free_of (ready i) (left i) (given i) (number i)) ∙ free_next inside.publisher.ready inside.reader.left inside.publisher.noted inside.last.value.number in
    (λ i. record { held = record { published = seen i; last = last i; keep = inside.keep; older = older i }; left = left i; free = free i })
    ∙ ap (λ (state : EngineState). state_with state version) c.self.view_is

-- nothing has changed where there is no slot
pub returns-in_default-clause-same : goal.returns-in_default-clause-same
returns-in_default-clause-same g c =
    let inside = c.self.inside in
    let state : PublisherState Version → EngineState = λ p.
    record {
      held = record { published = inside.reader.seen; last = inside.last.value; keep = inside.keep; older = inside.older };
      left = inside.reader.left;
      free = free_of p.ready inside.reader.left p.noted inside.last.value.number;
    } in
    ap state c.in_default.ensures.refused.2 ∙ c.self.view_is

-- and none was sure to be published
pub returns-in_default-clause-none : goal.returns-in_default-clause-none
returns-in_default-clause-none g c =
    omega (arith, ap (λ (s : EngineState). s.free) c.self.view_is, c.in_default.ensures.none_ready)

pub returns-then-owners-eq0-clause-none : goal.returns-then-owners-eq0-clause-none
returns-then-owners-eq0-clause-none g c = omega (arith, ap (λ (s : EngineState). s.free) c.self.view_is)

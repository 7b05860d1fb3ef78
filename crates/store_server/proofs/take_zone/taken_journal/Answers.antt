-- A journal with the change to a zone.
use Rattle.std.proofs.Common.{rules, ◌≡◌, ◌<◌, ◌^◌, ℕ, List, [], ◌∷◌, length, refl, sym, ap, ◌∙◌, subst, append-nil, arith}
use Rattle.std.proofs.lemmas.Slice.{pushed}
use Rattle.dns_rdata.specs.Record.{Record}
use Rattle.journal.specs.declared.heads.Head.{Head}
use Rattle.journal.specs.Batch.{batch_of, request_octets}
use Rattle.journal.specs.Frame.{body_limit, framed, Fit}
use Rattle.journal.specs.Head.{IsHead, IsSum}
use Rattle.journal.specs.Log.{octets_of}
use Rattle.journal.proofs.FramesLemmas.{fit_more}
use Rattle.update_messages.specs.declared.prepared.Prepared.{Prepared}
use Rattle.update_messages.specs.declared.prepared.Prepared.TheVariants.{Unchanged}
use Rattle.update_messages.specs.Prepared.{IsPrepared, IsPreparedFrom, IsPrepareFault}
use Rattle.store_server.proofs.TakeZoneLemmas.{change_put, not_prepared}
use Rattle.store_server.proofs.take_zone.taken_journal.Goals as goal

pub returns-in-Ok-Unchanged-clause-journal : goal.returns-in-Ok-Unchanged-clause-journal
returns-in-Ok-Unchanged-clause-journal c =
    let before : Head = c.args.start.now.head in
    let opened = c.requires.opened in
    let own : IsHead before = opened.2.begins.is_head in
    let head : Head = record { number = before.number; random = c.args.random; text = before.text; serial = before.serial; origin = c.of.result } in
    let sum : IsSum c.of.result = search rules in
    let many : length c.args.random ≡ 16 = search rules in
    let is_head : IsHead head =
    record { number = own.number; random = many; text = own.text; serial = own.serial; origin = sum } in
    let under = c.in_ok-octets.ensures before opened.0 opened.1 opened.2 in
    let prepared : IsPreparedFrom c.args.start.now.newest.last.zone c.args.zone.now (Unchanged c.in-Ok-Unchanged.serial) =
    subst (λ (l : List Record). IsPreparedFrom l c.args.zone.now (Unchanged c.in-Ok-Unchanged.serial)) c.zone.ensures
    (subst (λ (p : Prepared). IsPreparedFrom c.zone.result.now c.args.zone.now p) c.in-Ok-Unchanged.field-0-is c.in-Ok-Unchanged.ensures.prepared) in
    record {
      head = head;
      under = record { number = refl; text = refl; serial = refl; salted = refl; from = c.of.ensures; is_head = is_head };
      bodies = opened.0;
      rest = opened.1;
      opened = opened.2;
      more = [];
      by = (prepared.0, prepared.1, refl);
      fit = subst (Fit 0) (sym (append-nil opened.0)) opened.2.read.fit;
      spelt = under.0 ∙ ap (octets_of head) (sym (append-nil opened.0));
    }

pub returns-in_ok-extend_from_slice-in-Ok-Change-clause-journal : goal.returns-in_ok-extend_from_slice-in-Ok-Change-clause-journal
returns-in_ok-extend_from_slice-in-Ok-Change-clause-journal c =
    let before : Head = c.args.start.now.head in
    let opened = c.requires.opened in
    let own : IsHead before = opened.2.begins.is_head in
    let head : Head = record { number = before.number; random = c.args.random; text = before.text; serial = before.serial; origin = c.of.result } in
    let sum : IsSum c.of.result = search rules in
    let many : length c.args.random ≡ 16 = search rules in
    let is_head : IsHead head =
    record { number = own.number; random = many; text = own.text; serial = own.serial; origin = sum } in
    let under = c.in_ok-octets.ensures before opened.0 opened.1 opened.2 in
    let change = c.in-Ok-Change.change in
    let prepared : IsPrepared c.args.start.now.newest.last.zone c.args.zone.now change =
    subst (λ (l : List Record). IsPrepared l c.args.zone.now change) c.zone.ensures
    (subst (λ (p : Prepared). IsPreparedFrom c.zone.result.now c.args.zone.now p) c.in-Ok-Change.field-0-is c.in-Ok-Change.ensures.prepared) in
    let body : c.deref.result.now ≡ request_octets change.messages = c.deref.ensures.value ∙ c.in_ok-body-in-Ok-Change.ensures in
    let frame : c.deref-in-Ok-Change.result.now ≡ framed c.in_ok-octets.salt c.in_ok-octets.number c.deref.result.now =
    c.deref-in-Ok-Change.ensures.value ∙ c.in_ok-write_frame-in-Ok-Change.ensures.frame in
    let counted : c.in_ok-octets.number < 2 ^ 64 = search rules in
    let small : length (request_octets change.messages) < body_limit = omega (arith, prepared.short) in
    let short : length (batch_of (change.messages ∷ [])) < body_limit =
    subst (λ (o : List ℕ). length o < body_limit) (sym (append-nil (request_octets change.messages))) small in
    record {
      head = head;
      under = record { number = refl; text = refl; serial = refl; salted = refl; from = c.of.ensures; is_head = is_head };
      bodies = opened.0;
      rest = opened.1;
      opened = opened.2;
      more = (change.messages ∷ []) ∷ [];
      by = (change, prepared, refl, refl);
      fit = fit_more 0 opened.0 (batch_of (change.messages ∷ [])) opened.2.read.fit short (omega (arith, under.2, counted));
      spelt = change_put head c.in_ok-octets.octets.items c.extend_from_slice.new.self.items c.deref-in-Ok-Change.result.now c.deref.result.now c.in_ok-octets.salt opened.0 change.messages
          c.in_ok-octets.number under body frame
          (pushed c.deref-in-Ok-Change.result.now refl c.in_ok-extend_from_slice-in-Ok-Change.was c.extend_from_slice.ensures.items);
    }

pub returns-in-Err-clause-refused : goal.returns-in-Err-clause-refused
returns-in-Err-clause-refused c =
    let fault = c.in-Err.fault in
    let why : IsPrepareFault c.args.start.now.newest.last.zone c.args.zone.now fault =
    subst (λ (l : List Record). IsPrepareFault l c.args.zone.now fault) c.zone.ensures c.in-Err.ensures.refused in
    not_prepared c.args.start.now.newest.last.zone c.args.zone.now fault c.refusal_of.result c.requires.apex why c.refusal_of.ensures

use Rattle.std.proofs.Common.{◌≡◌, ◌⊎◌, ◌∙◌, ℕ, List, [], ap, subst}
use Rattle.std.proofs.lemmas.Result.{err_from_is_err_and}
use Rattle.transfer_core.specs.declared.fault.TransferFault.TheVariants.{NoMemory}
use Rattle.transfer_in.specs.declared.taking.Progress.TheVariants.{Nothing}
use Rattle.transfer_in.specs.Taking.{behind, records_of_message, IsRead, IsRefused}
use Rattle.transfer_in.proofs.MessageLemmas.{records_of, read_at, none_at, refused_at, read_all, told_zone, told_fault}
use Rattle.transfer_in.proofs.messages.apply.Goals as goal

pub returns-in_err-progress-clause-fault : goal.returns-in_err-progress-clause-fault
returns-in_err-progress-clause-fault c =
    let p = err_from_is_err_and c.from_residual.result c.from_residual.ensures.1 in
    let fault = c.in_err-progress.field-0.0 in
    rw (p.1, p.2)
    (refused_at c.args.zone.now Nothing c.loop-message.progress c.args.messages.now c.loop-message.message-index c.message-item.result c.loop-message-test.true c.message-item.is c.loop-message.invariant.read fault
    (subst (λ (octets : List ℕ). (fault ≡ NoMemory) ⊎ IsRefused c.args.zone.now c.loop-message.progress (records_of_message octets) fault) c.deref.ensures.value c.in_err-progress.ensures.reported))

pub returns-clause-zone : goal.returns-clause-zone
returns-clause-zone c =
    told_zone (behind c.args.zone.now Nothing (records_of c.args.messages.now)) (behind c.args.zone.now c.loop-message.progress []) c.end.result
    (read_all c.args.zone.now Nothing c.loop-message.progress c.args.messages.now c.loop-message.message-index c.loop-message-test.false c.loop-message.invariant.read) c.end.ensures.reported

pub returns-clause-fault : goal.returns-clause-fault
returns-clause-fault c =
    told_fault (behind c.args.zone.now Nothing (records_of c.args.messages.now)) (behind c.args.zone.now c.loop-message.progress []) c.end.result
    (read_all c.args.zone.now Nothing c.loop-message.progress c.args.messages.now c.loop-message.message-index c.loop-message-test.false c.loop-message.invariant.read) c.end.ensures.reported

-- where the messages have no record, this one has none, and what was read stays as it is
pub returns-in_err-progress-clause-empty : goal.returns-in_err-progress-clause-empty
returns-in_err-progress-clause-empty c = λ e.
    let none = none_at c.args.zone.now Nothing c.loop-message.progress c.args.messages.now c.loop-message.message-index c.message-item.result c.loop-message-test.true c.message-item.is c.loop-message.invariant.read e in
    let same = c.in_err-progress.ensures.none (ap records_of_message c.deref.ensures.value ∙ none) in
    let no : ⊥ = cc in
    absurd no

-- one more message was read
pub loop-message-preserved : goal.loop-message-preserved
loop-message-preserved c = record {
  read = read_at c.args.zone.now Nothing c.loop-message.progress c.args.messages.now c.loop-message.message-index c.message-item.result c.loop-message-test.true c.message-item.is c.loop-message.invariant.read c.in_ok-progress.progress
      (subst (λ (octets : List ℕ). IsRead c.args.zone.now c.loop-message.progress c.in_ok-progress.progress (records_of_message octets)) c.deref.ensures.value c.in_ok-progress.ensures.reported);
  kept = c.in_ok-progress.ensures.kept;
  still = λ e.
      let none = none_at c.args.zone.now Nothing c.loop-message.progress c.args.messages.now c.loop-message.message-index c.message-item.result c.loop-message-test.true c.message-item.is c.loop-message.invariant.read e in
      let same = c.in_ok-progress.ensures.none (ap records_of_message c.deref.ensures.value ∙ none) in
      let stays : c.in_ok-progress.progress ≡ c.loop-message.progress = cc in
      stays ∙ c.loop-message.invariant.still e;
}

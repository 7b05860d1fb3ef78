use Rattle.std.proofs.Common.{Some, sym, subst}
use Rattle.notify.specs.Notified.{Notified}
use Rattle.notify.specs.Copies.{as_answered}
use Rattle.notify.specs.Turns.{Hears, heard_of}
use Rattle.notify.specs.declared.due.Heard.{Heard}
use Rattle.notify.specs.declared.secondary.Secondary.{Secondary}
use Rattle.std.specs.Prelude.{slice_set}
use Rattle.notify.proofs.TurnLemmas.{hears}
use Rattle.notify.proofs.notifier.Notifier.receive.Goals as goal

pub returns : goal.returns
returns c =
    let apex = c.args.apex.now in
    let from = c.args.from in
    let octets = c.args.octets.now in
    let xs = c.self.inside.secondaries.items in
    let at = c.in_ok-index.index in
    let new : Secondary → Notified = λ later. record { secondaries = slice_set xs at later; time = c.self.inside.time; clock = c.self.inside.clock } in
    let s = c.index-secondary.result.now in
    let heard : Hears apex from octets c.args.self.now (Some (heard_of s.silent)) (new (as_answered s)) = hears c.args.self.now xs _ c.self.inside.time c.self.inside.clock apex from octets s _ at c.self.view_is c.in_ok-index.was c.as_slice.ensures.value c.first_answering.ensures c.index-secondary.ensures in
    let reported = subst (λ (h : Heard). Hears apex from octets c.args.self.now (Some h) (new (as_answered s))) (sym c.heard_of.ensures) heard in
    subst (λ (later : Secondary). Hears apex from octets c.args.self.now (Some c.heard_of.result) (new later)) (sym c.as_answered.ensures) reported

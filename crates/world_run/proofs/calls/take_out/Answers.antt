-- What is taken out was found at its place.
use Rattle.std.proofs.Common.{◌≡◌, rules, sym, ap, ◌∙◌, Some, None, not, bytes_eq}
use Rattle.std.proofs.lemmas.Fn.{filter_same}
use Rattle.std.specs.Prelude.{filter, position}
use Rattle.std.specs.Option.{option_map}
use Rattle.world_run.specs.declared.calls.UnderWay.{UnderWay}
use Rattle.world_run.proofs.CallLemmas.{taken, none_taken}
use Rattle.world_run.proofs.calls.take_out.Goals as goal

pub returns-in_default-clause-taken : goal.returns-in_default-clause-taken
returns-in_default-clause-taken c =
    let none : position (λ (call : UnderWay). bytes_eq call.name c.args.name.now) c.args.calls.now.items ≡ None =
    sym (c.in_default.ensures ∙ ap (position (λ (call : UnderWay). bytes_eq call.name c.args.name.now)) c.deref.ensures.value) in
    sym (ap (option_map (λ (call : UnderWay). call.phase)) (none_taken (λ (call : UnderWay). bytes_eq call.name c.args.name.now) c.args.calls.now.items none).1)

pub returns-in_default-clause-left : goal.returns-in_default-clause-left
returns-in_default-clause-left c =
    let none : position (λ (call : UnderWay). bytes_eq call.name c.args.name.now) c.args.calls.now.items ≡ None =
    sym (c.in_default.ensures ∙ ap (position (λ (call : UnderWay). bytes_eq call.name c.args.name.now)) c.deref.ensures.value) in
    sym (none_taken (λ (call : UnderWay). bytes_eq call.name c.args.name.now) c.args.calls.now.items none).0

pub returns-clause-taken : goal.returns-clause-taken
returns-clause-taken c =
    let there : position (λ (call : UnderWay). bytes_eq call.name c.args.name.now) c.args.calls.now.items ≡ Some c.in-Some.at =
    sym (c.in-Some.ensures ∙ ap (position (λ (call : UnderWay). bytes_eq call.name c.args.name.now)) c.deref.ensures.value) in
    sym (ap (option_map (λ (call : UnderWay). call.phase)) (taken (λ (call : UnderWay). bytes_eq call.name c.args.name.now) c.args.calls.now.items c.in-Some.at c.remove-call.result there c.remove-call.ensures.value).0)

pub returns-clause-left : goal.returns-clause-left
returns-clause-left c =
    let there : position (λ (call : UnderWay). bytes_eq call.name c.args.name.now) c.args.calls.now.items ≡ Some c.in-Some.at =
    sym (c.in-Some.ensures ∙ ap (position (λ (call : UnderWay). bytes_eq call.name c.args.name.now)) c.deref.ensures.value) in
    filter_same _ _ _ (λ x b f' k. search rules) _ _ c.retain.ensures.filtered
    ∙ ap (filter (λ (call : UnderWay). not (bytes_eq call.name c.args.name.now))) c.remove-call.ensures.items
    ∙ (taken (λ (call : UnderWay). bytes_eq call.name c.args.name.now) c.args.calls.now.items c.in-Some.at c.remove-call.result there c.remove-call.ensures.value).1

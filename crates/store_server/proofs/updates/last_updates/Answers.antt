-- What is copied stands behind those in front.
use Rattle.journal.specs.Batch.{Messages, IsRequest}
use Rattle.journal.proofs.StartLemmas.{messages_now}
use Rattle.std.proofs.Common.{◌≡◌, ◌-◌, ℕ, List, length, take, drop, map, All, IfOk, Bor, Vec, Global, sym, ap, ◌∙◌, subst, length-drop, arith}
use Rattle.std.proofs.lemmas.List.{drop-map, take_all}
use Rattle.std.proofs.lemmas.List.Elements.{All-drop}
use Rattle.store_server.proofs.updates.last_updates.Goals as goal

pub owned-requires : goal.owned-requires
owned-requires c =
    let all = c.args.all.now in
    let first = c.saturating_sub-first.result in
    let taken : take (length all - first) (drop first all) ≡ drop first all = take_all (length all - first) (drop first all) (omega (arith, length-drop first all)) in
    let same : map messages_now (take (length all - first) (drop first all)) ≡ drop first (map messages_now all) =
    ap (λ (l : List (Vec (Bor (List ℕ)) Global)). map messages_now l) taken ∙ sym (drop-map messages_now first all) in
    subst (All IsRequest) (sym same) (All-drop IsRequest first (map messages_now all) c.requires)

pub returns : goal.returns
returns c =
    let now : Vec (Bor (List ℕ)) Global → Messages = messages_now in
    let all = c.args.all.now in
    let first = c.saturating_sub-first.result in
    let count : first ≡ length all - c.args.count = omega (arith, c.saturating_sub-first.ensures) in
    let taken : take (length all - first) (drop first all) ≡ drop first all = take_all (length all - first) (drop first all) (omega (arith, length-drop first all)) in
    let same : map now (take (length all - first) (drop first all)) ≡ drop (length all - c.args.count) (map now all) =
    ap (λ (l : List (Vec (Bor (List ℕ)) Global)). map now l) taken ∙ (sym (drop-map now first all) ∙ ap (λ (n : ℕ). drop n (map now all)) count) in
    subst (λ (l : List Messages). IfOk c.owned.result (λ last. last.items ≡ l)) same c.owned.ensures

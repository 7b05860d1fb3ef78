use Rattle.std.proofs.Common.{ℕ, Vec, Global, option_map, [], ◌∷◌, ◌≡◌, ◌∙◌, inr, sym, ap, length, arith}
use Rattle.std.proofs.lemmas.List.{append_assoc}
use Rattle.record_text.proofs.StringLemmas.{string_none, string_long, string_some}
use Rattle.wide_text.proofs.texts.put_counted.Goals as goal

pub returns-in_default-clause-fault : goal.returns-in_default-clause-fault
returns-in_default-clause-fault c =
    inr (string_none c.args.text.now
    (sym c.in_ok-string.ensures ∙ ap (option_map (λ (v : Vec ℕ Global). v.items)) c.in_default.is))

pub returns-in_default-try_from-clause-fault : goal.returns-in_default-try_from-clause-fault
returns-in_default-try_from-clause-fault c =
    inr (string_long c.args.text.now c.in-Some.string.items
    (sym c.in_ok-string.ensures ∙ ap (option_map (λ (v : Vec ℕ Global). v.items)) c.in-Some.is) (λ h. c.in_default-try_from.ensures (omega arith)))

pub returns-clause-put : goal.returns-clause-put
returns-clause-put c =
    record {
      front = length c.in-Some.string.items ∷ c.in-Some.string.items;
      read = string_some c.args.text.now c.in-Some.string.items
          (sym c.in_ok-string.ensures ∙ ap (option_map (λ (v : Vec ℕ Global). v.items)) c.in-Some.is) (omega (arith, c.in-Ok.ensures));
      octets = let pushed = c.in-Ok-push.ensures.items in
          let more = c.in_ok-extend_from_slice.ensures.items in
          let own = c.deref.ensures.value in
          let len : c.in-Ok.len ≡ length c.in-Some.string.items = omega (arith, c.in-Ok.ensures) in
          let assoc = append_assoc c.args.octets.now.items (length c.in-Some.string.items ∷ []) c.in-Some.string.items in
          cc;
    }

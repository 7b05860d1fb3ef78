-- Of the TSIG's variables a MAC depends on its times, its error and its Other Data alone, and these are those of the stamp.
use Rattle.std.proofs.Common.{rules, ◌≡◌, Bool, true, false, if◌then◌else◌, ℕ, List, [], ◌++◌, refl, sym, ap, ◌∙◌, subst}
use Rattle.tsig.specs.Digested.{variables, timers, mac_over, mac_later, without_tsig}
use Rattle.tsig.specs.Fields.{Fields, error_number, other_of}
use Rattle.tsig.specs.Keys.{SharedKey}
use Rattle.tsig.specs.Signing.{stamped}
use Rattle.tsig.specs.declared.stamp.Stamp.{Stamp}
use Rattle.zone_deploy.specs.Signatures.{Chain, stamp_of, mac_behind}
use Rattle.zone_deploy.proofs.signatures.Chain.mac_behind.Goals as goal
use Rattle.zone_deploy.proofs.signatures.Chain.mac_behind.Goals.{then-self+in_ok-make_first_mac, else-self+in_ok-make_later_mac}

same_timers : (f g : Fields) → f.time ≡ g.time → f.fudge ≡ g.fudge → timers f ≡ timers g
unfolding timers
same_timers f g a b = rw (a, b) refl

same_variables : (key : SharedKey) (f g : Fields) → f.time ≡ g.time → f.fudge ≡ g.fudge → f.error ≡ g.error → f.other ≡ g.other → variables key f ≡ variables key g
unfolding variables
same_variables key f g a b c d = rw (same_timers f g a b, c, d) refl

first_same : (key : SharedKey) (chain : Chain) (plain prior text : List ℕ) (f g : Fields) → chain.is_first ≡ true → prior ≡ chain.mac → text ≡ chain.since ++ plain → variables key f ≡ variables key g
    → mac_over key prior text f ≡ mac_behind key chain plain g
first_same key chain plain prior text f g is_first before whole same = rw (is_first, before, whole, same) refl

later_same : (key : SharedKey) (chain : Chain) (plain prior text : List ℕ) (f g : Fields) → chain.is_first ≡ false → prior ≡ chain.mac → text ≡ chain.since ++ plain → timers f ≡ timers g
    → mac_later key prior text f ≡ mac_behind key chain plain g
later_same key chain plain prior text f g is_first before whole same = rw (is_first, before, whole, same) refl

pub returns : goal.returns
returns c =
    let stamp = c.stamp_of-stamp.ensures in
    let time : c.stamp_of-stamp.result.time ≡ c.args.end.now.time = ap (λ (x : Stamp). x.time) stamp ∙ ap (λ (f : Fields). f.time) c.end.view_is in
    let fudge : c.stamp_of-stamp.result.fudge ≡ c.args.end.now.fudge = ap (λ (x : Stamp). x.fudge) stamp ∙ ap (λ (f : Fields). f.fudge) c.end.view_is in
    let error : error_number c.stamp_of-stamp.result.error ≡ c.args.end.now.error = ap (λ (x : Stamp). error_number x.error) stamp ∙ ap (λ (f : Fields). f.error) c.end.view_is in
    let other : other_of c.stamp_of-stamp.result.error ≡ c.args.end.now.other = ap (λ (x : Stamp). other_of x.error) stamp ∙ ap (λ (f : Fields). f.other) c.end.view_is in
    let before : c.copy_of-mac.result.items ≡ c.args.self.now.mac = c.copy_of-mac.ensures ∙ ap (λ (x : Chain). x.mac) c.self.view_is in
    let plain = λ (id : ℕ). without_tsig c.args.reply.now c.args.start id in
    let whole : c.in_ok-text.text.items ≡ c.args.self.now.since ++ plain c.args.end.now.original
    = c.in_ok-text.ensures ∙ ap (λ (f : Fields). c.args.self.now.since ++ plain f.original) c.end.view_is in
    elim c.if-self.branch [
      | then-self+in_ok-make_first_mac w ↦ ap (λ m. m.items) w.mac-is ∙ (w.in_ok-make_first_mac.ensures
          ∙ first_same c.args.key.now c.args.self.now (plain c.args.end.now.original) c.copy_of-mac.result.items w.deref-then-self.result.now
          (stamped c.stamp_of-stamp.result w.deref-then-self.result.now []) c.args.end.now
          (sym (ap (λ (x : Chain). x.is_first) c.self.view_is) ∙ w.if-self.true) before (w.deref-then-self.ensures.value ∙ whole)
          (same_variables c.args.key.now _ _ time fudge error other))
      | else-self+in_ok-make_later_mac w ↦ ap (λ m. m.items) w.mac-is ∙ (w.in_ok-make_later_mac.ensures
          ∙ later_same c.args.key.now c.args.self.now (plain c.args.end.now.original) c.copy_of-mac.result.items w.deref-else-self.result.now
          (stamped c.stamp_of-stamp.result w.deref-else-self.result.now []) c.args.end.now
          (sym (ap (λ (x : Chain). x.is_first) c.self.view_is) ∙ w.if-self.false) before (w.deref-else-self.ensures.value ∙ whole)
          (same_timers _ _ time fudge))
    ]

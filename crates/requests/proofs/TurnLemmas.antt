-- What is known grows.
use Rattle.std.proofs.Common.{◌≡◌, refl, List, [], ◌++◌, sym, ap, ◌∙◌, append_assoc, append-nil}
use Rattle.requests.specs.Served.{BeginsWith, Learned, Grows}

pub begins_itself : {T : Type 0} (values : List T) → BeginsWith values values
begins_itself values = ([], sym (append-nil values))

pub begins_more : {T : Type 0} (a b c : List T) → BeginsWith b a → BeginsWith c b → BeginsWith c a
begins_more a b c first then = (first.0 ++ then.0, then.1 ∙ ap (λ l. l ++ then.0) first.1 ∙ append_assoc a first.0 then.0)

pub grows_itself : {T : Type 0} (known : Learned T) → Grows known known
grows_itself known = record { published = begins_itself known.published; buried = ([], refl) }

pub grows_more : {T : Type 0} (a b c : Learned T) → Grows b a → Grows c b → Grows c a
grows_more a b c first then = record {
  published = begins_more a.published b.published c.published first.published then.published;
  buried = (then.buried.0 ++ first.buried.0, then.buried.1 ∙ ap (λ l. then.buried.0 ++ l) first.buried.1 ∙ sym (append_assoc then.buried.0 first.buried.0 a.buried));
}

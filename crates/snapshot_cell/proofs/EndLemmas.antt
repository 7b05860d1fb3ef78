-- What the end of a cell makes of its tokens.
use Rattle.std.proofs.Common.{◌≡◌, refl, ap, sym, ◌∙◌, subst, true, ℕ, ◌+◌, ◌-◌, ◌<◌, List, [], ◌∷◌, ◌++◌, length, Option, Some, None, arith}
use Rattle.std.specs.Prelude.{Result, Ok, Err, IfOk, IfErr}
use Rattle.std.specs.List.{slice_get, All}
use Rattle.std.proofs.lemmas.List.{length_push}
use Rattle.std.proofs.Math.ListN.{get_or-append}
use Rattle.std.proofs.Math.Seq.{get_or-append_seam}
use Rattle.atomic_table.specs.Seated.{TableId}
use Rattle.cell_core.specs.declared.words.Publisher.TheVariants.{Probing}
use Rattle.counted_handles.specs.declared.view.Reading.{Reading}
use Rattle.counted_handles.specs.declared.view.Publishing.{Publishing}
use Rattle.counted_handles.specs.declared.view.View.{View}
use Rattle.counted_handles.specs.declared.view.View.TheVariants.{Publishes, Reads}
use Rattle.counted_handles.specs.Cuts.{lodged, without_guest}
use Rattle.counted_handles.specs.Calls.{IsHost, IsLastValue}
use Rattle.snapshot_cell.specs.Tokens.{IsReader, IsPublisher, IsClosing}

-- a publisher whose loads have shown that somebody has a version
abbrev pub looked : {T : Type 0} → Publishing T → Option ℕ → ℕ → Publishing T
looked p fixed swept = record p { fixed = fixed; swept = swept; busy = true }

-- a reader taken in: one less is about
pub closing_next : {T : Type 0} (p : Publishing T) (r : Reading T) (count left : ℕ) (views new_views : List (View T)) → IsClosing p count views → new_views ≡ Publishes (lodged p r) ∷ [] → count ≡ left + 1 → IsClosing (lodged p r) left new_views
closing_next p r count left views new_views c is one = record { views_are = is; how = c.how; whole = c.whole; readers = omega (arith, c.readers, one) }

-- it is the last that was taken in
pub host_of : {T : Type 0} (p : Publishing T) (r : Reading T) (count : ℕ) (views new_views : List (View T)) (fixed : Option ℕ) (swept : ℕ) → IsClosing p count views → r.share ≡ None → new_views ≡ Publishes (looked (lodged p r) fixed swept) ∷ [] → IsHost (looked (lodged p r) fixed swept) r p.guests new_views
host_of p r count views new_views fixed swept c whole is = record { views_are = is; whole = c.whole; guests = refl; guest_whole = whole; enough = omega arith }

-- when it is given back the publisher is as it was, but for what it has seen of the words
pub like_again : {T : Type 0} (p : Publishing T) (r : Reading T) (count : ℕ) (views new_views : List (View T)) (fixed : Option ℕ) (swept : ℕ) → IsClosing p count views → 0 < count → new_views ≡ Publishes (without_guest (looked (lodged p r) fixed swept) r p.guests) ∷ [] → new_views ≡ Publishes (looked p None swept) ∷ []
like_again {T} p r count views new_views fixed swept c some is =
    let left : p.left + r.left - r.left ≡ p.left = omega arith in
    let readers : p.readers - 1 + 1 ≡ p.readers = omega (arith, c.readers, some) in
    is ∙ (λ i. Publishes (record p { left = left i; readers = readers i; fixed = None; swept = swept; busy = true }) ∷ [])

-- a reader's token is as it was
pub reader_again : {T : Type 0} (cell new_cell : TableId) (views new_views : List (View T)) (left : ℕ) → (inv : IsReader cell views left) → new_cell ≡ cell → new_views ≡ Reads inv.reading ∷ [] → IsReader new_cell new_views left
reader_again cell new_cell views new_views left inv same is = record { reading = inv.reading; views_are = is; whole = inv.whole; left_is = inv.left_is; name_is = inv.name_is ∙ ap (λ (z : TableId). z.views_name) (sym same) }

abbrev got_or : {X : Type 0} → X → Option X → X
got_or x None = x
got_or x (Some y) = y

-- the last of some values is one
pub one_last : {T : Type 0} (published : List T) (value last : T) (number : ℕ) → IsLastValue published value → length published ≡ number + 1 → slice_get published number ≡ Some last → value ≡ last
one_last published value last number is size got =
    let numbers : is.0 ≡ number = omega (arith, is.1, size) in
    ap (got_or value) (sym is.2 ∙ ap (slice_get published) numbers ∙ got)

-- the readers but the last one
pub front : {X : Type 0} (P : X → Type 0) (xs items : List X) (x : X) → items ≡ xs ++ x ∷ [] → All P items → All P xs
front P xs items x is all k d l = subst P (get_or-append xs (x ∷ []) d k l) (subst (λ its. All P its) is all k d (omega (arith, l, length_push xs x)))

pub back : {X : Type 0} (P : X → Type 0) (xs items : List X) (x : X) → items ≡ xs ++ x ∷ [] → All P items → P x
back P xs items x is all = subst P (get_or-append_seam xs x [] x) (subst (λ its. All P its) is all (length xs) x (omega (arith, length_push xs x)))

-- what follows of each value, or of each fault, follows of a result
pub ok_too : {A E : Type 0} (r : Result A E) (P Q : A → Type 0) → ((a : A) → P a → Q a) → IfOk r P → IfOk r Q
ok_too (Ok a) P Q then holds = then a holds
ok_too (Err e) P Q then holds = tt

pub err_too : {A E : Type 0} (r : Result A E) (P Q : E → Type 0) → ((e : E) → P e → Q e) → IfErr r P → IfErr r Q
err_too (Ok a) P Q then holds = tt
err_too (Err e) P Q then holds = then e holds

-- the publisher's token when the end begins
pub begun_closing : {T : Type 0} (p : Publishing T) (count : ℕ) (views : List (View T)) → views ≡ Publishes p ∷ [] → p.how ≡ Probing 0 → p.share ≡ None → p.readers ≡ count → IsClosing p count views
begun_closing p count views is how whole readers = record { views_are = is; how = how; whole = whole; readers = readers }

-- the publisher's token is as it was
pub publisher_again : {T : Type 0} {ready : ℕ} (begins : T → Type 0) (follows : T → T → Type 0) (cell new_cell : TableId) (id new_id : ℕ) (views new_views : List (View T)) (spare_cell new_spare_cell : TableId) (spare new_spare : List (View T)) (number : ℕ) (value : T) (readers noted swept : ℕ) → (inv : IsPublisher begins follows cell id views spare_cell spare number value readers noted ready)
    → new_cell ≡ cell → new_id ≡ id → new_spare_cell ≡ new_cell → new_views ≡ Publishes (looked inv.publishing None swept) ∷ [] → new_spare ≡ Reads inv.rest ∷ [] → IsPublisher begins follows new_cell new_id new_views new_spare_cell new_spare number value readers noted ready
publisher_again begins follows cell new_cell id new_id views new_views spare_cell new_spare_cell spare new_spare number value readers noted swept inv same same_id fits is spare_is =
    record {
      publishing = looked inv.publishing None swept;
      views_are = is;
      first = same_id ∙ inv.first;
      how = inv.how;
      whole = inv.whole;
      none_left = inv.none_left;
      name_is = inv.name_is ∙ ap (λ (z : TableId). z.views_name) (sym same);
      history = inv.history;
      last = inv.last;
      value_is = inv.value_is;
      readers_are = inv.readers_are;
      spare_fits = fits;
      rest = inv.rest;
      spare_is = spare_is;
      spare_whole = inv.spare_whole;
      noted_is = inv.noted_is;
      few = inv.few;
      found = inv.found;
    }

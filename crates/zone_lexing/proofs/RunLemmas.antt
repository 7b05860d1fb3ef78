-- Octets that a run goes on behind.
use Rattle.std.proofs.Common.{◌≡◌, ℕ, ◌<◌, true, false, ◌&&◌, ◌==◌, nat_lt, List, [], ◌∷◌, ◌++◌, length, flat_map, refl, sym, ap, ◌∙◌, arith}
use Rattle.std.proofs.lemmas.Bool.Decides.{nat_tests}
use Rattle.std.proofs.lemmas.List.{append_assoc, append-nil}
use Rattle.zone_lexing.specs.Items.{ends}
use Rattle.zone_lexing.specs.Spelling.{is_run}
use Rattle.zone_lexing.specs.declared.item.Run.{Run}
use Rattle.zone_lexing.specs.declared.item.Run.TheVariants.{OfWord, OfString, OfComment}

-- the runs, by names that other crates' proofs can write
abbrev pub ARun : Type 0
ARun = Run

abbrev pub of_word : ARun
of_word = OfWord

abbrev pub of_string : ARun
of_string = OfString

-- a run goes on behind these octets
abbrev pub Passes : Run → List ℕ → Type 0
Passes run text = (more : List ℕ) → is_run run false (text ++ more) ≡ is_run run false more

pub both_pass : (run : Run) (text other : List ℕ) → Passes run text → Passes run other → Passes run (text ++ other)
both_pass run text other h k = λ more. ap (is_run run false) (append_assoc text other more) ∙ h (other ++ more) ∙ k more

pub each_passes : {X : Type 0} (run : Run) (f : X → List ℕ) → ((x : X) → Passes run (f x)) → (xs : List X) → Passes run (flat_map f xs)
each_passes run f h [] = λ more. refl
each_passes run f h (x ∷ xs) = both_pass run (f x) (flat_map f xs) (h x) (each_passes run f h xs)

pub octet_passes : (run : Run) (c : ℕ) → (c == 10) ≡ false → (c == 13) ≡ false → ends run false c ≡ false → (c == 92) ≡ false → Passes run (c ∷ [])
octet_passes run c lf cr inner back = λ more. rw (lf, cr, inner, back) refl

no_end : (run : Run) → ends run false 92 ≡ false
no_end OfWord = refl
no_end OfString = refl
no_end OfComment = refl

pub escaped_passes : (run : Run) (c : ℕ) → (c == 10) ≡ false → (c == 13) ≡ false → Passes run (92 ∷ c ∷ [])
escaped_passes run c lf cr = λ more. let inner = no_end run in rw (inner, lf, cr) refl

no_quote : (run : Run) (c : ℕ) → 47 < c → c < 58 → ends run false c ≡ false
no_quote OfWord c h k = grind (arith, nat_tests)
no_quote OfString c h k = grind (arith, nat_tests)
no_quote OfComment c h k = refl

pub digit_passes : (run : Run) (c : ℕ) → 47 < c → c < 58 → Passes run (c ∷ [])
digit_passes run c h k = octet_passes run c (grind (arith, nat_tests)) (grind (arith, nat_tests)) (no_quote run c h k) (grind (arith, nat_tests))

-- a text that a run passes is spelt, where it has an octet
pub spelt_plain : (text : List ℕ) → 0 < length text → Passes OfWord text → nat_lt 0 (length text) && is_run OfWord false text ≡ true
spelt_plain text some h =
    let t : nat_lt 0 (length text) ≡ true = grind (arith, nat_tests) in
    let run : is_run OfWord false text ≡ true = ap (is_run OfWord false) (sym (append-nil text)) ∙ h [] in
    rw (t) run

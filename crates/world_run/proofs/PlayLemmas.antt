-- Lines played one after the other.
use Rattle.std.proofs.Common.{◌≡◌, refl, sym, ap, ◌∙◌, ℕ, ◌+◌, ◌<◌, ◌≤◌, List, [], ◌∷◌, ◌++◌, length, drop, get_or, Option, Some, None}
use Rattle.std.specs.Option.{option_and_then, option_map}
use Rattle.std.proofs.lemmas.List.{drop_more, drop_all, append_assoc, append-nil}
use Rattle.world_run.specs.declared.step.WorldReply.{WorldReply}
use Rattle.world_run.specs.declared.step.WorldStep.{WorldStep}
use Rattle.cell_core.specs.Words.{State}
use Rattle.zone_tree.specs.Version.{Version as Numbered}
use Rattle.world_run.specs.declared.phase.Progress.{Progress}
use Rattle.world_run.specs.declared.phase.Progress.TheVariants.{On, Done}
use Rattle.world_run.specs.declared.step.Call.{Call}
use Rattle.world_run.specs.World.{World, turn, onto_replies, play, all_made}

-- replies in front of those that follow
abbrev pub behind : List WorldReply → Option (List WorldReply × World) → Option (List WorldReply × World)
behind replies more = option_map (λ rest. (replies ++ rest.0, rest.1)) more

behind-none : (more : Option (List WorldReply × World)) → behind [] more ≡ more
behind-none None = refl
behind-none (Some rest) = refl

behind-one : (replies : List WorldReply) (given : WorldReply) (more : Option (List WorldReply × World)) → behind replies (onto_replies given more) ≡ behind (replies ++ given ∷ []) more
behind-one replies given None = refl
behind-one replies given (Some rest) = ap (λ (l : List WorldReply). Some (l, rest.1)) (sym (append_assoc replies (given ∷ []) rest.0))

-- nothing is played yet
pub none_played : (lines : List WorldStep) (world : World) → play world lines ≡ behind [] (play world (drop 0 lines))
none_played lines world = sym (behind-none (play world lines))

line_due : (lines : List WorldStep) (i : ℕ) (line : WorldStep) → i < length lines → line ≡ get_or lines i line → drop i lines ≡ line ∷ drop (i + 1) lines
line_due lines i line lt is = drop_more lines i line lt ∙ ap (λ (l : WorldStep). l ∷ drop (i + 1) lines) (sym is)

-- one line more is played
pub next_played : (lines : List WorldStep) (i : ℕ) (line : WorldStep) (replies : List WorldReply) (given : WorldReply) (first world after : World) → i < length lines → line ≡ get_or lines i line → turn world line ≡ Some (given, after)
    → play first lines ≡ behind replies (play world (drop i lines)) → play first lines ≡ behind (replies ++ given ∷ []) (play after (drop (i + 1) lines))
next_played lines i line replies given first world after lt is reported so_far =
    so_far ∙ ap (λ (l : List WorldStep). behind replies (play world l)) (line_due lines i line lt is)
    ∙ ap (λ t. behind replies (option_and_then (λ reported. onto_replies reported.0 (play reported.1 (drop (i + 1) lines))) t)) reported
    ∙ behind-one replies given (play after (drop (i + 1) lines))

-- a reply behind those of the lines before it
abbrev told_behind : List WorldReply → Option (WorldReply × World) → Option (List WorldReply × World)
told_behind replies reported = option_map (λ reported. (replies ++ reported.0 ∷ [], reported.1)) reported

some_is : (reported other : List WorldReply × World) → Some reported ≡ Some other → reported ≡ other
some_is reported other e = cc

none_is : (reported : Option (List WorldReply × World)) (other : List WorldReply × World) → reported ≡ None → reported ≡ Some other → ⊥
none_is reported other none e = cc

-- one line more is played, whatever its reply is
pub line_played : (lines : List WorldStep) (i : ℕ) (line : WorldStep) (replies now : List WorldReply) (first world after : World) → i < length lines → line ≡ get_or lines i line → told_behind replies (turn world line) ≡ Some (now, after)
    → play first lines ≡ behind replies (play world (drop i lines)) → play first lines ≡ behind now (play after (drop (i + 1) lines))
line_played lines i line replies now first world after lt is reported so_far = by (turn world line) refl
  where
    by : (t : Option (WorldReply × World)) → turn world line ≡ t → play first lines ≡ behind now (play after (drop (i + 1) lines))
    by None e = absurd (none_is (told_behind replies (turn world line)) (now, after) (ap (told_behind replies) e) reported)
    by (Some (given, next)) e =
        let same = some_is (replies ++ given ∷ [], next) (now, after) (sym (ap (told_behind replies) e) ∙ reported) in
        next_played lines i line replies given first world next lt is e so_far ∙ (λ j. behind (same j).0 (play (same j).1 (drop (i + 1) lines)))

-- all lines are played
pub all_played : (first : World) (lines : List WorldStep) (i : ℕ) (replies : List WorldReply) (world : World) → length lines ≤ i → play first lines ≡ behind replies (play world (drop i lines)) → option_map {U = List WorldReply} (λ played. played.0) (play first lines) ≡ Some replies
all_played first lines i replies world end so_far =
    ap (option_map (λ played. played.0)) (so_far ∙ ap (λ (l : List WorldStep). behind replies (play world l)) (drop_all i lines end))
    ∙ ap (λ (l : List WorldReply). Some l) (append-nil replies)

-- a line passes the limit
pub limit_passed : (lines : List WorldStep) (i : ℕ) (line : WorldStep) (replies : List WorldReply) (first world : World) → i < length lines → line ≡ get_or lines i line → turn world line ≡ None
    → play first lines ≡ behind replies (play world (drop i lines)) → option_map {U = List WorldReply} (λ played. played.0) (play first lines) ≡ None
limit_passed lines i line replies first world lt is none so_far =
    ap (option_map (λ played. played.0)) (so_far ∙ ap (λ (l : List WorldStep). behind replies (play world l)) (line_due lines i line lt is)
    ∙ ap (λ t. behind replies (option_and_then (λ reported. onto_replies reported.0 (play reported.1 (drop (i + 1) lines))) t)) none)

-- what a call comes to doesn't go by the words before
pub all_made_words : (world : World) (call : Call) (came : Progress) (words : State Numbered) → all_made (record world { words = words }) call (came, words) ≡ all_made world call (came, words)
all_made_words world call (On at) words = refl
all_made_words world call (Done end) words = refl

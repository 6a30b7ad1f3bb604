-- What the store has under a key, entry by entry.
use Rattle.std.proofs.Common.{◌≡◌, ℕ, ◌+◌, ◌<◌, List, [], ◌∷◌, ◌++◌, length, get_or, take, drop, Option, Some, None, refl, sym, ap, ◌∙◌, append_assoc}
use Rattle.std.specs.Prelude.{fold, unwrap_or}
use Rattle.std.proofs.lemmas.List.{take-append-drop, take_more}
use Rattle.std.proofs.lemmas.Option.{slice_get-get_or}
use Rattle.std.proofs.lemmas.List.Sums.{fold-append}
use Rattle.wp_model.specs.declared.change.Change.{Change}
use Rattle.wp_model.specs.declared.entry.Entry.{Entry}
use Rattle.wp_model.specs.declared.entry.Entry.TheVariants.{Write, Prepare, Commit, Undo, Close}
use Rattle.wp_model.specs.Batch.{change_to}
use Rattle.wp_model.specs.History.{changes_of, value_after, newest}
use Rattle.wp_model.specs.Legal.{NamesUndecided}
use Rattle.wp_model.proofs.Entries.{batch_at_old, undecided_within}
use Rattle.wp_history_laws.proofs.Following.{follow_take, by_following}
use Rattle.wp_history_laws.proofs.Growth.{AreNaming}

-- an entry makes the same changes, whatever follows
pub changes_stay : (history more : List Entry) (entry : Entry) → NamesUndecided history entry → changes_of (history ++ more) entry ≡ changes_of history entry
changes_stay history more (Write batch) names = refl
changes_stay history more (Prepare name batch) names = refl
changes_stay history more (Commit p) names = batch_at_old history more p (undecided_within history p names).1
changes_stay history more (Undo p batch) names = refl
changes_stay history more (Close p) names = refl

-- what entries leave under a key is the same among more entries
IsNewestAmongMore : List Entry → Type 0
IsNewestAmongMore history = (more : List Entry) (key : List ℕ) → fold (value_after (history ++ more) key) None history ≡ newest history key

value_after_stays : (history more : List Entry) (entry : Entry) (key : List ℕ) → NamesUndecided history entry → (before : Option (List ℕ)) → value_after (history ++ more) key before entry ≡ value_after history key before entry
value_after_stays history more entry key names before = ap (λ (changes : List Change). unwrap_or (change_to changes key) before) (changes_stay history more entry names)

one_more : (whole history : List Entry) (entry : Entry) (more : List Entry) (key : List ℕ) → whole ≡ history ++ more → NamesUndecided history entry → IsNewestAmongMore history
    → fold (value_after whole key) None (history ++ entry ∷ []) ≡ value_after history key (newest history key) entry
unfolding IsNewestAmongMore
one_more whole history entry more key whole-is names among =
    fold-append (value_after whole key) None history (entry ∷ [])
    ∙ rw whole-is (ap (λ (before : Option (List ℕ)). value_after (history ++ more) key before entry) (among more key) ∙ value_after_stays history more entry key names (newest history key))

among_more_next : (history : List Entry) (entry : Entry) → NamesUndecided history entry → IsNewestAmongMore history → IsNewestAmongMore (history ++ entry ∷ [])
unfolding IsNewestAmongMore
among_more_next history entry names among more key =
    one_more ((history ++ entry ∷ []) ++ more) history entry (entry ∷ more) key (append_assoc history (entry ∷ []) more) names among
    ∙ sym (one_more (history ++ entry ∷ []) history entry (entry ∷ []) key refl names among)

newest_among_none : IsNewestAmongMore []
unfolding IsNewestAmongMore
newest_among_none more key = refl

newest_among_more : (history : List Entry) → AreNaming history → IsNewestAmongMore history
newest_among_more history naming = by_following NamesUndecided IsNewestAmongMore newest_among_none (λ h entry _ names among. among_more_next h entry names among) history naming

-- one entry more changes the store by what it commits
pub newest_next : (history : List Entry) (entry : Entry) (key : List ℕ) → AreNaming history → NamesUndecided history entry → newest (history ++ entry ∷ []) key ≡ value_after history key (newest history key) entry
newest_next history entry key naming names = one_more (history ++ entry ∷ []) history entry (entry ∷ []) key refl names (newest_among_more history naming)

-- ---- backwards from an entry

names_at : (history : List Entry) (i : ℕ) (here : Entry) → AreNaming history → i < length history → here ≡ get_or history i here → NamesUndecided (take i history) here
names_at history i here naming lt is = naming i here (slice_get-get_or history i here lt ∙ ap (λ (e : Entry). Some e) (sym is))

take_next : (history : List Entry) (i : ℕ) (here : Entry) → i < length history → here ≡ get_or history i here → take (i + 1) history ≡ take i history ++ here ∷ []
take_next history i here lt is = take_more history i here lt ∙ ap (λ (e : Entry). take i history ++ e ∷ []) (sym is)

changes_here : (history : List Entry) (i : ℕ) (here : Entry) → NamesUndecided (take i history) here → changes_of (take i history) here ≡ changes_of history here
changes_here history i here names = sym (changes_stay (take i history) (drop i history) here names) ∙ ap (λ (h : List Entry). changes_of h here) (take-append-drop i history)

-- what the first i + 1 entries leave under the key, by what the last of them changes there
newest_at : (history : List Entry) (key : List ℕ) (i : ℕ) (here : Entry) → AreNaming history → i < length history → here ≡ get_or history i here
    → newest (take (i + 1) history) key ≡ unwrap_or (change_to (changes_of history here) key) (newest (take i history) key)
newest_at history key i here naming lt is =
    let names = names_at history i here naming lt is in
    ap (λ (h : List Entry). newest h key) (take_next history i here lt is)
    ∙ newest_next (take i history) here key (follow_take NamesUndecided i history naming) names
    ∙ ap (λ (changes : List Change). unwrap_or (change_to changes key) (newest (take i history) key)) (changes_here history i here names)

pub unchanged_at : (history : List Entry) (key : List ℕ) (i j : ℕ) (here : Entry) → AreNaming history → j ≡ i + 1 → i < length history → here ≡ get_or history i here → change_to (changes_of history here) key ≡ None
    → newest (take j history) key ≡ newest (take i history) key
unchanged_at history key i j here naming next lt is unchanged = rw next (newest_at history key i here naming lt is ∙ ap (λ (change : Option (Option (List ℕ))). unwrap_or change (newest (take i history) key)) unchanged)

pub changed_at : (history : List Entry) (key : List ℕ) (i j : ℕ) (here : Entry) (value : Option (List ℕ)) → AreNaming history → j ≡ i + 1 → i < length history → here ≡ get_or history i here → Some value ≡ change_to (changes_of history here) key
    → newest (take j history) key ≡ value
changed_at history key i j here value naming next lt is changed = rw next (newest_at history key i here naming lt is ∙ ap (λ (change : Option (Option (List ℕ))). unwrap_or change (newest (take i history) key)) (sym changed))

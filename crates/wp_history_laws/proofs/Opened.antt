-- Names and keys, as an opened history leaves them.
use Rattle.std.proofs.Common.{◌≡◌, ℕ, Bool, true, false, cond, List, [], ◌∷◌, ◌++◌, map, refl, ap, ◌∙◌, Option, Some, None, is_some, filter, length}
use Rattle.std.specs.List.{find, flat_map, range_with_len}
use Rattle.std.proofs.lemmas.Cmp.{nat_list_cmp_total}
use Rattle.std.proofs.lemmas.Map.Text.{is_eq-slice_cmp}
use Rattle.std.specs.Ordering.{eq_by_cmp}
use Rattle.std.specs.Str.{bytes_eq}
use Rattle.std.specs.Cmp.{eq_by_cmp_equiv}
use Rattle.std.specs.FinMap as finite
use Rattle.wp_model.specs.Batch.{key_cmp, key_of, value_of, change_to}
use Rattle.wp_model.specs.declared.change.Change.{Change}
use Rattle.wp_model.specs.declared.entry.Entry.{Entry}
use Rattle.wp_model.specs.declared.entry.Entry.TheVariants.{Write, Prepare, Commit, Undo, Close}
use Rattle.wp_model.specs.declared.holder.Holder.{Holder}
use Rattle.wp_model.specs.declared.holder.Holder.TheVariants.{Txn}
use Rattle.wp_model.specs.History.{entry_at, is_prepare, prepared_name, prepared_batch, undecided, name_at, batch_at, is_changed, is_undecided}
use Rattle.wp_model.specs.LockState.{LockState, Names, Keys}
use Rattle.wp_model.proofs.Entries.{undecided_prepared}
use Rattle.wp_history_laws.specs.Prepares.{prepare_of}
use Rattle.wp_history_laws.specs.Opened.{AreOpened, named_by, prepare_holding}

-- the name of a prepare, had by nobody
abbrev pub name_left : Option (List ℕ × List Change) → List (List ℕ × Option (List ℕ))
name_left None = []
name_left (Some (name, batch)) = (name, None) ∷ []

-- the keys of a prepare, each held by its transaction
abbrev pub keys_left : Option (List ℕ × List Change) → List (List ℕ × Holder)
keys_left None = []
keys_left (Some (name, batch)) = map (λ change. (key_of change, Txn name)) batch

abbrev pub names_of : List Entry → List (List ℕ × Option (List ℕ))
names_of history = flat_map (λ p. name_left (prepare_of (entry_at history p))) (undecided history)

abbrev pub keys_of : List Entry → List (List ℕ × Holder)
keys_of history = flat_map (λ p. keys_left (prepare_of (entry_at history p))) (undecided history)

tied : (x q : List ℕ) → eq_by_cmp key_cmp q x ≡ bytes_eq x q
tied x q = (eq_by_cmp_equiv nat_list_cmp_total).symm q x ∙ is_eq-slice_cmp x q

name_first : (x : Option Entry) (more : List (List ℕ × Option (List ℕ))) (q : List ℕ) → is_prepare x ≡ true → finite.find key_cmp q (name_left (prepare_of x) ++ more) ≡ cond (bytes_eq (prepared_name x) q) (Some None) (finite.find key_cmp q more)
name_first None more q is = absurd cc
name_first (Some (Write batch)) more q is = absurd cc
name_first (Some (Prepare name batch)) more q is = ap (λ (b : Bool). cond b (Some None) (finite.find key_cmp q more)) (tied name q)
name_first (Some (Commit p)) more q is = absurd cc
name_first (Some (Undo p batch)) more q is = absurd cc
name_first (Some (Close p)) more q is = absurd cc

either_named : (b : Bool) (p : ℕ) (o : Option ℕ) → cond b (Some None) (named_by o) ≡ named_by (cond b (Some p) o)
either_named true p o = refl
either_named false p o = refl

module _ (history : List Entry) where
  abbrev has : List ℕ → ℕ → Bool
  has q p = bytes_eq (name_at history p) q

  names_found : (q : List ℕ) (ps : List ℕ) → finite.find key_cmp q (flat_map (λ p. name_left (prepare_of (entry_at history p))) (filter (is_undecided history) ps)) ≡ named_by (find (has q) (filter (is_undecided history) ps))
  names_found q [] = refl
  names_found q (p ∷ ps) = by (is_undecided history p) refl (names_found q ps)
    where
      by : (b : Bool) → is_undecided history p ≡ b → finite.find key_cmp q (flat_map (λ k. name_left (prepare_of (entry_at history k))) (filter (is_undecided history) ps)) ≡ named_by (find (has q) (filter (is_undecided history) ps))
          → finite.find key_cmp q (flat_map (λ k. name_left (prepare_of (entry_at history k))) (cond b (p ∷ filter (is_undecided history) ps) (filter (is_undecided history) ps))) ≡ named_by (find (has q) (cond b (p ∷ filter (is_undecided history) ps) (filter (is_undecided history) ps)))
      by true u h = name_first (entry_at history p) _ q (undecided_prepared history p u) ∙ ap (cond (has q p) (Some None)) h ∙ either_named (has q p) p _
      by false u h = h

  key_first : (name : List ℕ) (batch : List Change) (more : List (List ℕ × Holder)) (q : List ℕ) → finite.find key_cmp q (map (λ change. (key_of change, Txn name)) batch ++ more) ≡ cond (is_changed batch q) (Some (Txn name)) (finite.find key_cmp q more)
  key_first name [] more q = refl
  key_first name (change ∷ batch) more q = by (eq_by_cmp key_cmp q (key_of change)) (bytes_eq (key_of change) q) (tied (key_of change) q) (key_first name batch more q)
    where
      by : (a b : Bool) → a ≡ b → finite.find key_cmp q (map (λ c. (key_of c, Txn name)) batch ++ more) ≡ cond (is_changed batch q) (Some (Txn name)) (finite.find key_cmp q more)
          → cond a (Some (Txn name)) (finite.find key_cmp q (map (λ c. (key_of c, Txn name)) batch ++ more)) ≡ cond (is_some (cond b (Some (value_of change)) (change_to batch q))) (Some (Txn name)) (finite.find key_cmp q more)
      by true true e h = refl
      by false false e h = h
      by true false e h = absurd cc
      by false true e h = absurd cc

  keys_first : (x : Option Entry) (more : List (List ℕ × Holder)) (q : List ℕ) → finite.find key_cmp q (keys_left (prepare_of x) ++ more) ≡ cond (is_changed (prepared_batch x) q) (Some (Txn (prepared_name x))) (finite.find key_cmp q more)
  keys_first None more q = refl
  keys_first (Some (Write batch)) more q = refl
  keys_first (Some (Prepare name batch)) more q = key_first name batch more q
  keys_first (Some (Commit p)) more q = refl
  keys_first (Some (Undo p batch)) more q = refl
  keys_first (Some (Close p)) more q = refl

  abbrev changes : List ℕ → ℕ → Bool
  changes q p = is_changed (batch_at history p) q

  either_held : (b : Bool) (p : ℕ) (o : Option ℕ) → cond b (Some (Txn (name_at history p))) (prepare_holding history o) ≡ prepare_holding history (cond b (Some p) o)
  either_held true p o = refl
  either_held false p o = refl

  keys_found : (q : List ℕ) (ps : List ℕ) → finite.find key_cmp q (flat_map (λ p. keys_left (prepare_of (entry_at history p))) ps) ≡ prepare_holding history (find (changes q) ps)
  keys_found q [] = refl
  keys_found q (p ∷ ps) = keys_first (entry_at history p) _ q ∙ ap (cond (changes q p) (Some (Txn (name_at history p)))) (keys_found q ps) ∙ either_held (changes q p) p _

  pub tables_opened : (t : LockState) → t.names ≡ finite.from_entries (names_of history) → t.keys ≡ finite.from_entries (keys_of history) → t.labels ≡ finite.empty → AreOpened history t
  tables_opened t names keys labels = record {
    names = λ q. ap (λ (z : Names). finite.get z q) names ∙ finite.get-from_entries nat_list_cmp_total (names_of history) q ∙ names_found q (range_with_len 1 (length history));
    keys = λ q. ap (λ (z : Keys). finite.get z q) keys ∙ finite.get-from_entries nat_list_cmp_total (keys_of history) q ∙ keys_found q (undecided history);
    labels = labels;
  }

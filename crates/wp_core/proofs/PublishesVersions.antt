-- The pending entry joins the history: the versions of the store and of the edits.
use Rattle.std.proofs.Common.{◌≡◌, ◌≢◌, inl, inr, ⊎_elim, ℕ, zero, suc, ◌+◌, ◌<◌, ◌≤◌, nat_le, ◌==◌, ◌&&◌, eq-eqb, ne_eqb, Bool, true, false, cond, List, [], ◌∷◌, ◌++◌, length, drop, append-nil, append_assoc, refl, sym, subst, ap, ◌∙◌, Option, Some, None, arith}
use Rattle.std.proofs.lemmas.Bool.{cases_lt, eqb-true, or_cases}
use Rattle.std.proofs.lemmas.Bool.Decides.{nat_tests}
use Rattle.std.specs.Str.{bytes_eq}
use Rattle.wp_model.specs.declared.change.Change.{Change}
use Rattle.wp_model.specs.declared.entry.Entry.{Entry}
use Rattle.wp_model.specs.declared.version.Version.{Version}
use Rattle.wp_model.specs.Batch.{key_of, value_of, change_to}
use Rattle.wp_model.specs.Covered.{IsCovered, is_among}
use Rattle.wp_model.specs.Legal.{IsLegal, changes_in}
use Rattle.wp_model.specs.Decision.{version_in, entry_version}
use Rattle.wp_model.specs.Snapshots.{Snapshots}
use Rattle.wp_model.specs.Versions.{version_at}
use Rattle.wp_history_laws.proofs.Counting.{entry_version_old}
use Rattle.wp_history_laws.proofs.Listed.{only_listed}
use Rattle.wp_model.proofs.Entries.{entry_at_past}
use Rattle.wp_core.specs.Entries.{next_of}
use Rattle.wp_core.specs.States.{StoreState, Installed, live_numbers, up_to, all_in}
use Rattle.wp_model.specs.Flushed.{InstalledEdit, versions_under, versions_after, later_versions, IsEditCovered}
use Rattle.wp_core.specs.Sound.Store.{IsStored}
use Rattle.wp_core.proofs.CoveredGrows.{version_within, covered_grows}
use Rattle.wp_core.proofs.HistoryGrows.{none_is, grown_length, version_new}
use Rattle.wp_core.proofs.PendingVersions.{at_up_to}
use Rattle.wp_model.proofs.Tests.{none_some, none_either}

-- ---- look-ups in two lists

pub at_front : (xs ys : List Version) (key : List ℕ) (p : ℕ) → version_at ys key p ≡ None → version_at (xs ++ ys) key p ≡ version_at xs key p
at_front [] ys key p none = none
at_front (v ∷ xs) ys key p none = ap (cond (bytes_eq v.key key && (v.number == p)) (Some v.value)) (at_front xs ys key p none)

pub at_back : (xs ys : List Version) (key : List ℕ) (p : ℕ) → version_at xs key p ≡ None → version_at (xs ++ ys) key p ≡ version_at ys key p
at_back [] ys key p none = refl
at_back (v ∷ xs) ys key p none = by (bytes_eq v.key key && (v.number == p)) none (at_back xs ys key p)
  where
    by : (b : Bool) → cond b (Some v.value) (version_at xs key p) ≡ None → (version_at xs key p ≡ None → version_at (xs ++ ys) key p ≡ version_at ys key p) → cond b (Some v.value) (version_at (xs ++ ys) key p) ≡ version_at ys key p
    by true e rest = absurd cc
    by false e rest = rest e

at_shared : (xs ys : List Version) (key : List ℕ) (p : ℕ) → version_at xs key p ≡ None → version_at ys key p ≡ None → version_at (xs ++ ys) key p ≡ None
at_shared xs ys key p none nor = at_front xs ys key p nor ∙ none

pub up_to_within : (n : ℕ) (vs : List Version) (key : List ℕ) (p : ℕ) → p ≤ n → version_at (up_to n vs) key p ≡ version_at vs key p
up_to_within n vs key p le = at_up_to n vs key p ∙ ap (λ (b : Bool). cond b (version_at vs key p) None) (let q : nat_le p n ≡ true = grind (arith, nat_tests) in q)

pub up_to_past : (n : ℕ) (vs : List Version) (key : List ℕ) (p : ℕ) → n < p → version_at (up_to n vs) key p ≡ None
up_to_past n vs key p lt = at_up_to n vs key p ∙ ap (λ (b : Bool). cond b (version_at vs key p) None) (let q : nat_le p n ≡ false = grind (arith, nat_tests) in q)

-- ---- the versions of one entry

one_under : (a b : Bool) (v : Option (List ℕ)) (x : Option (Option (List ℕ))) → cond (a && b) (Some v) (cond b x None) ≡ cond b (cond a (Some v) x) None
one_under true true v x = refl
one_under true false v x = refl
one_under false true v x = refl
one_under false false v x = refl

pub at_under : (m : ℕ) (changes : List Change) (key : List ℕ) (p : ℕ) → version_at (versions_under m changes) key p ≡ cond (m == p) (change_to changes key) None
at_under m [] key p = none_either (m == p)
at_under m (c ∷ changes) key p = ap (cond (bytes_eq (key_of c) key && (m == p)) (Some (value_of c))) (at_under m changes key p) ∙ one_under (bytes_eq (key_of c) key) (m == p) (value_of c) (change_to changes key)

pub after_more : (m n : ℕ) (es : List Entry) (entry : Entry) → n ≡ suc (m + length es) → versions_after m (es ++ entry ∷ []) ≡ versions_after m es ++ versions_under n (changes_in entry)
after_more m n [] entry is = append-nil (versions_under (suc m) (changes_in entry)) ∙ ap (λ (x : ℕ). versions_under x (changes_in entry)) (let q : suc m ≡ n = omega (arith, is) in q)
after_more m n (e ∷ es) entry is =
    ap (λ (x : List Version). versions_under (suc m) (changes_in e) ++ x) (after_more (suc m) n es entry (omega (arith, is)))
    ∙ sym (append_assoc (versions_under (suc m) (changes_in e)) (versions_after (suc m) es) (versions_under n (changes_in entry)))

drop_more : (f : ℕ) (es : List Entry) (entry : Entry) → f ≤ length es → (drop f (es ++ entry ∷ []) ≡ drop f es ++ entry ∷ []) × (f + length (drop f es) ≡ length es)
drop_more zero es entry le = (refl, omega arith)
drop_more (suc f) [] entry le = absurd (omega arith)
drop_more (suc f) (e ∷ es) entry le = let k = drop_more f es entry (omega arith) in let l = k.1 in (k.0, omega (arith, l))

pub later_more : (history : List Entry) (entry : Entry) (f : ℕ) → f ≤ length history → later_versions (history ++ entry ∷ []) f ≡ later_versions history f ++ versions_under (suc (length history)) (changes_in entry)
later_more history entry f le = let k = drop_more f history entry le in let l = k.1 in ap (versions_after f) k.0 ∙ after_more f (suc (length history)) (drop f history) entry (omega (arith, l))

module _ (history : List Entry) (entry : Entry) (legal : IsLegal (history ++ entry ∷ [])) where
  abbrev grown : List Entry
  grown = history ++ entry ∷ []

  abbrev next : ℕ
  next = suc (length history)

  none_past : (h : List Entry) (key : List ℕ) (p : ℕ) → length h < p → entry_version h p key ≡ None
  none_past h key p lt = ap (λ (o : Option Entry). version_in o key) (entry_at_past h p lt)

  -- ---- the edits

  pub edit_part : (edit : InstalledEdit) → IsEditCovered history edit → IsEditCovered grown edit
  edit_part edit k =
      let l = grown_length history entry legal in let low = k.flushed in
      let xs : List Version = edit.versions ++ later_versions history edit.flushed in
      let under : List Version = versions_under next (changes_in entry) in
      let is : edit.versions ++ later_versions grown edit.flushed ≡ xs ++ under = ap (λ (x : List Version). edit.versions ++ x) (later_more history entry edit.flushed low) ∙ sym (append_assoc edit.versions (later_versions history edit.flushed) under) in
      let nothing : (key : List ℕ) (p : ℕ) → length history < p → version_at xs key p ≡ None = λ key p lt. none_is (version_at xs key p) (λ v e. none_some (entry_version history p key) v (none_past history key p lt) (k.covered.part key p v e)) in
      let not_here : (key : List ℕ) (p : ℕ) → next ≢ p → version_at under key p ≡ None = λ key p ne. at_under next (changes_in entry) key p ∙ ap (λ (b : Bool). cond b (change_to (changes_in entry) key) None) (ne_eqb next p ne) in
      record {
        base = k.base;
        flushed = omega (arith, l, low);
        covered = subst (λ (z : List Version). IsCovered z grown (edit.segment.base ∷ []) (length grown)) (sym is)
            (covered_grows history entry legal xs (xs ++ under) (edit.segment.base ∷ []) (length history) k.covered (omega arith)
            (λ key p le. at_front xs under key p (not_here key p (λ e. absurd (omega (arith, e, le)))))
            (λ key. at_back xs under key next (nothing key next (omega arith)) ∙ (at_under next (changes_in entry) key next ∙ ap (λ (b : Bool). cond b (change_to (changes_in entry) key) None) (eq-eqb next next refl)))
            (λ key p lt. at_shared xs under key p (nothing key p (omega arith)) (not_here key p (λ e. absurd (omega (arith, e, lt)))))
            (length grown) (omega (arith, l)) (λ m among. let same = only_listed edit.segment.base m among in let based = k.base in omega (arith, same, based, low)));
      }

  -- ---- the store

  module _ (pending others : List Entry) (base : ℕ) (snapshots : Snapshots) (t : StoreState) (e : Installed) (is : pending ≡ entry ∷ others) (live : (m : ℕ) → is_among (live_numbers snapshots) m ≡ true → m ≤ length history) (here : (key : List ℕ) (value : Option (List ℕ)) → version_in (Some entry) key ≡ Some value → version_at t.memory key next ≡ Some value) (k : IsStored history pending base snapshots t e) where
    memory_next : (key : List ℕ) (o : Option (Option (List ℕ))) → version_in (Some entry) key ≡ o → version_at t.memory key next ≡ o
    memory_next key (Some v) at = here key v at
    memory_next key None at = none_is (version_at t.memory key next) (λ v there. none_some (version_in (Some entry) key) v at (ap (λ (z : List Entry). version_in (next_of z) key) (sym is) ∙ (k.next key next v (omega arith) there).1))

    not_in_tables : (key : List ℕ) (p : ℕ) → length history < p → version_at t.tables key p ≡ None
    not_in_tables key p lt = none_is (version_at t.tables key p) (λ v there. none_some (entry_version history p key) v (none_past history key p lt) (k.tables key p v there))

    low : (m : ℕ) → is_among (base ∷ live_numbers snapshots) m ≡ true → m ≤ length history
    low m among = ⊎_elim (λ (same : (base == m) ≡ true). let e = eqb-true base m same in let b = k.based in let f = k.last.flushed in omega (arith, e, b, f)) (λ there. live m there) (or_cases (base == m) (is_among (live_numbers snapshots) m) among)

    covered_part : IsCovered (up_to (length grown) (all_in t)) grown (base ∷ live_numbers snapshots) t.floor
    covered_part =
        let l = grown_length history entry legal in
        covered_grows history entry legal (up_to (length history) (all_in t)) (up_to (length grown) (all_in t)) (base ∷ live_numbers snapshots) t.floor k.covered k.floor
        (λ key p le. up_to_within (length grown) (all_in t) key p (omega (arith, l, le)) ∙ sym (up_to_within (length history) (all_in t) key p le))
        (λ key. up_to_within (length grown) (all_in t) key next (omega (arith, l)) ∙ (at_front t.memory t.tables key next (not_in_tables key next (omega arith)) ∙ memory_next key (version_in (Some entry) key) refl))
        (λ key p lt. up_to_past (length grown) (all_in t) key p (omega (arith, l, lt)))
        t.floor (omega arith) low

    pub stored_part : IsStored grown others base snapshots t e
    stored_part =
        let l = grown_length history entry legal in record {
          covered = covered_part;
          based = k.based;
          floor = let f = k.floor in omega (arith, l, f);
          next = λ key p value lt there. let o = (k.next key p value (omega (arith, l, lt)) there).0 in absurd (omega (arith, l, lt, o));
          tables = λ key p value there. let v = k.tables key p value there in entry_version_old history (entry ∷ []) p key (version_within history p key value v) ∙ v;
          last = edit_part e.last k.last;
          failed = λ edit f. edit_part edit (k.failed edit f);
          in_memory = λ key p value lt there. elim (cases_lt (length history) p) [
            | inr le ↦ k.in_memory key p value lt (sym (entry_version_old history (entry ∷ []) p key le) ∙ there)
            | inl gt ↦
                let within = version_within grown p key value there in
                let same : p ≡ next = omega (arith, l, within, gt) in
                ap (version_at t.memory key) same ∙ here key value (sym (version_new history entry legal key) ∙ (ap (λ (q : ℕ). entry_version grown q key) (sym same) ∙ there))
          ];
        }

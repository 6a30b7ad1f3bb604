-- The pending entry joins the history: the history with its log, who saw it, and who published what.
use Rattle.std.proofs.Common.{◌≡◌, ◌⊎◌, inl, inr, ℕ, suc, ◌+◌, ◌≤◌, ◌<◌, nat_lt, nat_le, ◌==◌, ◌&&◌, Bool, true, false, cond, List, [], ◌∷◌, ◌++◌, length, append-nil, append_assoc, map, set, refl, sym, subst, ap, ◌∙◌, Some, None, arith}
use Rattle.std.proofs.lemmas.Bool.Decides.{nat_tests}
use mathlib.Core.Option.{some}
use lib.ListN.{get_elem?}
use Rattle.wp_model.specs.declared.entry.Entry.{Entry}
use Rattle.wp_model.specs.declared.entry.Entry.TheVariants.{Write, Prepare, Commit, Undo, Close}
use Rattle.wp_model.specs.declared.entry.TheConstants.{MOST_COMMITS}
use Rattle.wp_model.specs.Legal.{IsLegal}
use Rattle.wp_history_laws.specs.Growth.{undone_by}
use Rattle.wp_history_laws.proofs.Growth.{length_next}
use Rattle.wp_history_laws.proofs.Undone.{undone_next}
use Rattle.wp_core.specs.Lists.{one_if}
use Rattle.wp_model.specs.Record.{AreCommits, IsOneRecord}
use Rattle.wp_core.specs.States.{WriteState}
use Rattle.wp_core.specs.World.{Actor}
use Rattle.wp_core.specs.Effects.{with_entry}
use Rattle.wp_core.specs.Sound.Actors.{StartsWith, own_of, times, AreOwned, participants_of}
use Rattle.wp_core.specs.Sound.History.{IsHistory, IsRest, logged_part}
use Rattle.wp_core.proofs.Participants.{total_person_set}
use Rattle.wp_core.proofs.PastsGrow.{total_more}
use Rattle.wp_model.proofs.Tests.{same_some}

-- ---- what is left of the record

cons_is : (x y : Entry) (xs ys : List Entry) → x ∷ xs ≡ y ∷ ys → (x ≡ y) × (xs ≡ ys)
cons_is x y xs ys e = (cc, cc)

-- what follows the first entry of a record: the other Commits of a group, or nothing; or the Close of an Undo
abbrev Follows : Entry → List Entry → Type 0
Follows entry others = (AreCommits others × (length others < MOST_COMMITS) × (undone_by entry ≡ None)) ⊎ ((p : ℕ) × (undone_by entry ≡ Some p) × (others ≡ Close p ∷ []))

rest_of_record : (entry : Entry) (others : List Entry) → IsOneRecord (entry ∷ others) → Follows entry others
rest_of_record (Write batch) [] k = inl (tt, omega arith, refl)
rest_of_record (Prepare name batch) [] k = inl (tt, omega arith, refl)
rest_of_record (Commit p) others k = inl (k.0, k.1, refl)
rest_of_record (Undo p batch) (Close q ∷ []) k = inr (p, refl, ap (λ (n : ℕ). Close n ∷ []) (sym k))
rest_of_record entry others k = absurd k

follows : (entry : Entry) (others : List Entry) → IsRest (entry ∷ others) → Follows entry others
follows entry others (inl e) = let k : ◌≡◌ {A = ℕ} (suc (length others)) 0 = ap length e in absurd (omega arith)
follows entry others (inr (inl k)) = rest_of_record entry others k
follows entry others (inr (inr (p, e))) = let k = cons_is entry (Close p) others [] e in
    inl (subst AreCommits (sym k.1) tt, (let none = ap length k.1 in omega (arith, none)), ap undone_by k.0)

rest_commits : (others : List Entry) → AreCommits others → length others < MOST_COMMITS → IsRest others
rest_commits [] are few = inl refl
rest_commits (Commit p ∷ others) are few = inr (inl (are, omega (arith, few)))
rest_commits others are few = absurd are

rest_of : (entry : Entry) (others : List Entry) → Follows entry others → IsRest others
rest_of entry others (inl k) = rest_commits others k.0 k.1
rest_of entry others (inr (p, u, e)) = inr (inr (p, e))

closes : (entry : Entry) (others : List Entry) (p : ℕ) → Follows entry others → undone_by entry ≡ Some p → others ≡ Close p ∷ []
closes entry others p (inl k) u = let no : None ≡ Some p = sym k.2 ∙ u in absurd cc
closes entry others p (inr (q, v, e)) u = let same : q ≡ p = same_some q p (sym v ∙ u) in e ∙ ap (λ (n : ℕ). Close n ∷ []) same

-- ---- the history and its log

pub history_part : (opened : List Entry) (t : WriteState) (max : ℕ) (entry : Entry) (others : List Entry) → t.pending ≡ entry ∷ others → t.logged ≡ true → t.closed ≡ false → IsLegal (t.history ++ entry ∷ []) → IsHistory opened t max → IsHistory opened (with_entry t entry others) max
history_part opened t max entry others is logged open_log legal k =
    let whole : (t.history ++ entry ∷ []) ++ others ≡ t.history ++ t.pending = append_assoc t.history (entry ∷ []) others ∙ ap (λ (x : List Entry). t.history ++ x) (sym is) in
    let f = follows entry others (subst IsRest is k.rest) in
    record {
      legal = legal;
      grown = (k.grown.0 ++ entry ∷ [], ap (λ (x : List Entry). x ++ entry ∷ []) k.grown.1 ∙ append_assoc opened k.grown.0 (entry ∷ []));
      bounded = let b = k.bounded in let l = length_next t.history entry in omega (arith, b, l);
      log = k.log ∙ (ap (λ (b : Bool). t.history ++ logged_part b t.pending) logged ∙ (sym whole ∙ ap (λ (b : Bool). (t.history ++ entry ∷ []) ++ logged_part b others) (sym logged)));
      rest = rest_of entry others f;
      legal_next = subst IsLegal (sym whole) k.legal_next;
      legal_failed = subst IsLegal (sym (ap (λ (x : List Entry). (t.history ++ entry ∷ []) ++ x) (k.none_failed open_log) ∙ append-nil (t.history ++ entry ∷ []))) legal;
      none_failed = k.none_failed;
      not_stopped = k.not_stopped;
      undo_closes = λ p u. (closes entry others p f (sym (undone_next t.history entry) ∙ u), logged);
    }

-- ---- who saw it

pub seen_grows : (history : List Entry) (entry : Entry) (seen : List Entry) → StartsWith history seen → StartsWith (history ++ entry ∷ []) seen
seen_grows history entry seen (rest, e) = (rest ++ entry ∷ [], ap (λ (x : List Entry). x ++ entry ∷ []) e ∙ append_assoc seen rest (entry ∷ []))

-- ---- who published what

once_more : (o n m k : ℕ) → o ≤ n → m ≡ suc n → cond (nat_lt o k && nat_le k m) 1 0 ≡ cond (nat_lt o k && nat_le k n) 1 0 + one_if (suc n == k)
once_more o n m k low is = by (nat_lt o k) (nat_le k m) (nat_le k n) (suc n == k) refl refl refl refl
  where
    by : (a b c d : Bool) → nat_lt o k ≡ a → nat_le k m ≡ b → nat_le k n ≡ c → (suc n == k) ≡ d → cond (a && b) 1 0 ≡ cond (a && c) 1 0 + one_if d
    by true true true true e f g h = absurd (grind (arith, nat_tests))
    by true true true false e f g h = refl
    by true true false true e f g h = refl
    by true true false false e f g h = absurd (grind (arith, nat_tests))
    by true false true true e f g h = absurd (grind (arith, nat_tests))
    by true false true false e f g h = absurd (grind (arith, nat_tests))
    by true false false true e f g h = absurd (grind (arith, nat_tests))
    by true false false false e f g h = refl
    by false b c true e f g h = absurd (grind (arith, nat_tests))
    by false b c false e f g h = refl

module _ (xs : List Actor) (by : ℕ) (a b : Actor) (at : get_elem? xs by ≡ some a) (same : b.joined ≡ a.joined) (history : List Entry) (entry : Entry) (own : b.participant.own ≡ a.participant.own ++ suc (length history) ∷ []) where
  -- the new number is once in the own lists, as each since the opening
  pub owned_part : (opened : List Entry) → length opened ≤ length history → AreOwned opened history (map (participants_of own_of) xs) → AreOwned opened (history ++ entry ∷ []) (map (participants_of own_of) (set xs by b))
  owned_part opened low k n =
      let t = total_person_set own_of (times n) xs by a b at same in
      let m : times n b.participant.own ≡ times n a.participant.own + one_if (suc (length history) == n) = ap (times n) own ∙ total_more (λ (x : ℕ). one_if (x == n)) a.participant.own (suc (length history)) in
      let o = once_more (length opened) (length history) (length (history ++ entry ∷ [])) n low (let l = length_next history entry in omega (arith, l)) in
      let z = k n in
      omega (arith, t, m, o, z)

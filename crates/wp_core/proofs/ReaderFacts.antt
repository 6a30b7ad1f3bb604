-- What the parts of a sound world say of one version, for a reader that loads now.
use Rattle.std.proofs.Common.{◌≡◌, inl, inr, ⊎_elim, ℕ, ◌<◌, ◌≤◌, nat_le, ◌==◌, ◌||◌, Bool, true, false, not, cond, true≢false, List, [], ◌∷◌, length, refl, sym, subst, ◌∙◌, Option, Some, None, mod-lt, arith}
use Rattle.std.proofs.lemmas.Bool.Decides.{nat_tests}
use Rattle.std.specs.Ordering.{nat_cmp}
use Rattle.std.specs.FinSet as set
use Rattle.std.specs.FinMap as finite
use Rattle.wp_model.specs.declared.entry.Entry.{Entry}
use Rattle.wp_model.specs.History.{is_undecided}
use Rattle.wp_model.specs.Decision.{decision_of, IsCommittedAt}
use Rattle.wp_model.specs.PreparedSets.{PreparedSets}
use Rattle.wp_model.specs.Snapshots.{Snapshots, IsLive, is_old_commit}
use Rattle.wp_judge.specs.Words.{CommitPair, commit_pair, pair_of, decision_if}
use Rattle.wp_judge.proofs.Packing.{word_back}
use Rattle.wp_core.specs.Cache.{cache_place, pair_at, cached}
use Rattle.wp_core.specs.Entries.{extended}
use Rattle.wp_core.specs.Sound.Prepared.{IsCache, AreDecided, AreUndecided, AreDelayed, IsPassed, IsWide, IsEntered}
use Rattle.wp_core.specs.Sound.Snapshots.{has_versions_at}
use Rattle.wp_core.specs.Sound.Reader.{IsPassedBy, IsReachedBy, AnswersFor, IsRight}
use Rattle.wp_core.proofs.HistoryLaws.{decision_stays, decision_was, decided_or_undecided}
use Rattle.wp_model.proofs.Tests.{same_some, none_some}

-- a pair in a word decides a version by itself or by a later entry
pub pair_ordered : (words place word : ℕ) (pair : CommitPair) → place < words → pair_of words place word ≡ Some pair → (1 ≤ pair.number) × (pair.number ≤ pair.decision)
pair_ordered words place word pair within e = let k = word_back words place word pair within e in (k.may.positive, k.may.ordered)

-- a version that is not delayed, at most the bound, is decided
pub decided_unless_delayed : (history pending : List Entry) (t : PreparedSets) (max p : ℕ) → AreUndecided history pending t max → has_versions_at history p ≡ true → p ≤ max → set.contains t.delayed p ≡ false → (c : ℕ) × (decision_of history p ≡ Some c)
decided_unless_delayed history pending t max p k has low not_delayed =
    ⊎_elim (λ (d : (c : ℕ) × (decision_of history p ≡ Some c)). d)
    (λ (u : is_undecided history p ≡ true). in_heap (set.contains t.heap p) (set.contains t.delayed p) refl not_delayed (k.found p u))
    (decided_or_undecided history p has)
  where
    in_heap : (h d : Bool) → set.contains t.heap p ≡ h → d ≡ false → (h || d) ≡ true → (c : ℕ) × (decision_of history p ≡ Some c)
    in_heap true d there none e = let above = k.heap_above p there in absurd (omega arith)
    in_heap false d there none e = absurd (true≢false (sym e ∙ none))

-- a decided version that is no delayed commit is answered for at a live snapshot
pub answers_now : (history : List Entry) (cache : List ℕ) (commits : finite.FinMap nat_cmp ℕ) (max : ℕ) (snapshots : Snapshots) (s p c : ℕ) → AreDecided history cache commits max snapshots → decision_of history p ≡ Some c → finite.get commits p ≡ None → IsLive snapshots s → p ≤ s → AnswersFor max cache snapshots s p c
answers_now history cache commits max snapshots s p c k decided none live le =
    ⊎_elim
    (λ (e : IsEntered cache commits max (commit_pair p c)).
    ⊎_elim (λ (there : cached cache p ≡ Some c). inl there) (λ (x : IsWide (length cache) commits max (commit_pair p c)). absurd (none_some (finite.get commits p) c none x.delayed)) e)
    (λ (x : IsPassed max snapshots p c). inr (x.0, λ (lt : s < c). x.1 s live le lt)) (k.found p c decided)

-- the bound has come to a decided version whose word is another's
pub reached_by : (history : List Entry) (cache : List ℕ) (commits : finite.FinMap nat_cmp ℕ) (max : ℕ) (snapshots : Snapshots) (p c : ℕ) → AreDecided history cache commits max snapshots → decision_of history p ≡ Some c → p ≤ c → cached cache p ≡ None → IsReachedBy history max cache commits p
reached_by history cache commits max snapshots p c k decided le gone =
    ⊎_elim
    (λ (e : IsEntered cache commits max (commit_pair p c)).
    ⊎_elim (λ (there : cached cache p ≡ Some c). absurd (none_some (cached cache p) c gone there))
    (λ (x : IsWide (length cache) commits max (commit_pair p c)). record { by = c; decided = decided; reached = x.reached; elsewhere = inr x.delayed; gone = gone }) e)
    (λ (x : IsPassed max snapshots p c). let low = x.0 in record { by = c; decided = decided; reached = omega (arith, low, le); elsewhere = inl low; gone = gone }) (k.found p c decided)

-- what is answered for, and whose word is another's, is passed
pub passed_by : (history : List Entry) (cache : List ℕ) (max : ℕ) (snapshots : Snapshots) (s p c : ℕ) → decision_of history p ≡ Some c → AnswersFor max cache snapshots s p c → cached cache p ≡ None → IsPassedBy history max cache p
passed_by history cache max snapshots s p c decided answers gone =
    ⊎_elim (λ (there : cached cache p ≡ Some c). absurd (none_some (cached cache p) c gone there)) (λ (x : (c ≤ max) × (s < c → is_old_commit snapshots s p ≡ true)). record { by = c; decided = decided; within = x.0; gone = gone }) answers

-- ---- what decides answers

pub extended_stays : (history pending : List Entry) (p c : ℕ) → decision_of history p ≡ Some c → decision_of (extended history pending) p ≡ Some c
extended_stays history [] p c e = e
extended_stays history (entry ∷ others) p c e = decision_stays history (entry ∷ []) p c e

pub extended_was : (history pending : List Entry) (p c : ℕ) → p ≤ length history → c ≤ length history → decision_of (extended history pending) p ≡ Some c → decision_of history p ≡ Some c
extended_was history [] p c le within e = e
extended_was history (entry ∷ others) p c le within e = decision_was history (entry ∷ []) p c le within e

-- the word of a version has its decision, with the pending entry
pub word_decides : (history pending : List Entry) (cache : List ℕ) (p c : ℕ) → IsCache history pending cache → cached cache p ≡ Some c → decision_of (extended history pending) p ≡ Some c
word_decides history pending cache p c k e =
    let n = length cache in
    by_pair (pair_at cache (cache_place n p)) refl e
  where
    by_number : (pair : CommitPair) (b : Bool) → (pair.number == p) ≡ b → pair_at cache (cache_place (length cache) p) ≡ Some pair → cond b (Some pair.decision) None ≡ Some c → decision_of (extended history pending) p ≡ Some c
    by_number pair true is there f =
        let at = k.pairs (cache_place (length cache) p) pair (mod-lt p k.some) there in
        let same : pair.number ≡ p = (let n : ℕ = pair.number in let q : (n == p) ≡ true = is in grind (arith, nat_tests)) in
        subst (λ (q : ℕ). decision_of (extended history pending) q ≡ Some c) same (at.decided ∙ f)
    by_number pair false is there f = let q : None ≡ Some c = f in absurd (cc)

    by_pair : (o : Option CommitPair) → pair_at cache (cache_place (length cache) p) ≡ o → decision_if p o ≡ Some c → decision_of (extended history pending) p ≡ Some c
    by_pair None there f = let q : None ≡ Some c = f in absurd (cc)
    by_pair (Some pair) there f = by_number pair (pair.number == p) refl there f

-- what decides a version, with the pending entry, answers right at a snapshot that is published
pub extended_right : (history pending : List Entry) (p s c : ℕ) (b : Bool) → p ≤ s → s ≤ length history → decision_of (extended history pending) p ≡ Some c → nat_le c s ≡ b → IsRight history p s b
extended_right history pending p s c true le published decides is =
    let within : c ≤ s = grind (arith, nat_tests) in
    record { by = c; decided = extended_was history pending p c (omega arith) (omega arith) decides; within = within }
extended_right history pending p s c false le published decides is =
    λ (committed : IsCommittedAt history p s).
    let same : c ≡ committed.by = same_some c committed.by (sym decides ∙ extended_stays history pending p committed.by committed.decided) in
    let within = committed.within in let above : s < c = grind (arith, nat_tests) in absurd (omega arith)

-- so does a word that is the version's
pub word_right : (history pending : List Entry) (cache : List ℕ) (p s c : ℕ) (b : Bool) → IsCache history pending cache → p ≤ s → s ≤ length history → cached cache p ≡ Some c → nat_le c s ≡ b → IsRight history p s b
word_right history pending cache p s c b k le published e is = extended_right history pending p s c b le published (word_decides history pending cache p c k e) is

-- ---- the old commit map

-- what is answered for, and whose word is another's, is committed at the snapshot exactly where the old commit map does not have it there
pub old_right : (history : List Entry) (cache : List ℕ) (commits : finite.FinMap nat_cmp ℕ) (max : ℕ) (snapshots : Snapshots) (p s c : ℕ) (b : Bool) → AreDecided history cache commits max snapshots → decision_of history p ≡ Some c → cached cache p ≡ None → AnswersFor max cache snapshots s p c → is_old_commit snapshots s p ≡ b
    → IsRight history p s (not b)
old_right history cache commits max snapshots p s c true k decided gone answers there =
    λ (is : IsCommittedAt history p s). let old = k.kept s p there in let same : old.0 ≡ is.by = same_some old.0 is.by (sym old.1 ∙ is.decided) in let within = is.within in let above = old.3 in absurd (omega arith)
old_right history cache commits max snapshots p s c false k decided gone answers there =
    ⊎_elim (λ (e : cached cache p ≡ Some c). absurd (none_some (cached cache p) c gone e)) (λ (x : (c ≤ max) × (s < c → is_old_commit snapshots s p ≡ true)). by_order (nat_le c s) refl x.1) answers
  where
    by_order : (b : Bool) → nat_le c s ≡ b → (s < c → is_old_commit snapshots s p ≡ true) → IsCommittedAt history p s
    by_order true is noted = record { by = c; decided = decided; within = grind (arith, nat_tests) }
    by_order false is noted = let above : s < c = grind (arith, nat_tests) in absurd (true≢false (sym (noted above) ∙ there))

-- ---- what is delayed

pub delayed_right : (history pending : List Entry) (t : PreparedSets) (cache : List ℕ) (p s : ℕ) → AreDelayed history pending t cache → set.contains t.delayed p ≡ true → finite.get t.delayed_commits p ≡ None → (IsCommittedAt history p s → cached cache p ≡ None) → IsCommittedAt history p s → ⊥
delayed_right history pending t cache p s k there none gone is =
    ⊎_elim (λ (e : cached cache p ≡ Some is.by). none_some (cached cache p) is.by (gone is) e) (λ (e : finite.get t.delayed_commits p ≡ Some is.by). none_some (finite.get t.delayed_commits p) is.by none e)
    (k.found p is.by (prepared (set.contains t.heap p) there) is.decided)
  where
    prepared : (h : Bool) → set.contains t.delayed p ≡ true → (h || set.contains t.delayed p) ≡ true
    prepared true e = refl
    prepared false e = e

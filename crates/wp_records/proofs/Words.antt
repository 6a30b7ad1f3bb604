-- The words of the cache, whose pairs are published.
use Rattle.std.proofs.Common.{◌≡◌, ◌≢◌, inl, inr, ℕ, suc, ◌==◌, ◌+◌, ◌-◌, ◌*◌, ◌/◌, ◌%◌, ◌≤◌, Bool, true, false, cond, List, [], ◌∷◌, ◌++◌, length, length-set, slice_index, refl, sym, ap, ◌∙◌, Option, Some, None, arith}
use Rattle.std.proofs.Math.Nat.{mul-add-mod_self_right}
use Rattle.std.proofs.lemmas.Nat.{div-add-mod'}
use Rattle.std.proofs.lemmas.Bool.{cases_lt, cases_eq}
use Rattle.std.proofs.lemmas.List.{get_or-set_same, get_or-set_other, set_past}
use Rattle.wp_model.specs.declared.entry.Entry.{Entry}
use Rattle.wp_model.specs.Legal.{IsLegal}
use Rattle.wp_model.specs.declared.entry.Entry.TheVariants.{Write, Prepare, Commit, Undo, Close}
use Rattle.wp_judge.specs.Words.{CommitPair, commit_pair, delta_of, delta_bound, fits, word_of, is_pair, pair_with, pair_of, decision_if}
use Rattle.wp_core.specs.Cache.{cache_place, cached, pair_at, with_pair}
use Rattle.wp_core.specs.Entries.{pair_by, pending_pair}
use Rattle.wp_core.specs.States.{WriteState}
use Rattle.wp_core.specs.World.{Actor}
use Rattle.wp_core.proofs.StoresWord.{pending_next}
use Rattle.wp_model.proofs.Tests.{same_some}
use Rattle.wp_commits.specs.declared.way.Way.TheVariants.{InWord, Delayed}
use Rattle.wp_commits.specs.Cleared.{IsUnentered}
use Rattle.wp_commits.specs.Ways.{way_of, with_way}
use Rattle.wp_shared.specs.Notes.{ArePublished, KnowsWords}

-- ---- the pair of the pending entry

pub decides_last : (n : ℕ) (entry : Entry) (pair : CommitPair) → pair_by n entry ≡ Some pair → pair.decision ≡ n
decides_last n (Write batch) pair e = ap (λ (x : CommitPair). x.decision) (sym (same_some (commit_pair n n) pair e))
decides_last n (Undo p batch) pair e = ap (λ (x : CommitPair). x.decision) (sym (same_some (commit_pair n n) pair e))
decides_last n (Commit p) pair e = ap (λ (x : CommitPair). x.decision) (sym (same_some (commit_pair p n) pair e))
decides_last n (Close p) pair e = ap (λ (x : CommitPair). x.decision) (sym (same_some (commit_pair p n) pair e))
decides_last n (Prepare name batch) pair e = let no : None ≡ Some pair = e in absurd (cc)

pub pending_decides : (history pending : List Entry) (pair : CommitPair) → pending_pair history pending ≡ Some pair → pair.decision ≡ suc (length history)
pending_decides history [] pair e = let no : None ≡ Some pair = e in absurd (cc)
pending_decides history (entry ∷ others) pair e = decides_last (suc (length history)) entry pair e

-- its numbers are in order
pub pending_order : (history pending : List Entry) (pair : CommitPair) → IsLegal (history ++ pending) → pending_pair history pending ≡ Some pair → (pair.number ≤ pair.decision) × (pair.decision ≡ suc (length history))
pending_order history pending pair legal e = ((pending_next history pending pair legal e).2.ordered, pending_decides history pending pair e)

-- it is in no word
pub unentered : (a : Actor) (cells : ℕ) (d : WriteState) → KnowsWords a (length d.history) → IsUnentered a cells d
unentered a cells d k pair is = (
  k.bound,
  k.words,
  k.noted,
  λ there. let low = k.are_published (cache_place cells pair.number) pair there in let next = pending_decides d.history d.pending pair is in absurd (omega (arith, low, next)),
)

decided_as : (found : CommitPair) (p c : ℕ) → decision_if p (Some found) ≡ Some c → found.decision ≡ c
decided_as found p c e = by_test (found.number == p) e
  where
    by_test : (b : Bool) → cond b (Some found.decision) None ≡ Some c → found.decision ≡ c
    by_test true h = same_some found.decision c h
    by_test false h = let no : None ≡ Some c = h in absurd (cc)

pub uncached : (a : Actor) (d : WriteState) (k : KnowsWords a (length d.history)) (pair : CommitPair) → pending_pair d.history d.pending ≡ Some pair → cached k.words pair.number ≢ Some pair.decision
uncached a d k pair is there = by_pair (pair_at k.words (cache_place (length k.words) pair.number)) refl there
  where
    by_pair : (o : Option CommitPair) → pair_at k.words (cache_place (length k.words) pair.number) ≡ o → decision_if pair.number o ≡ Some pair.decision → ⊥
    by_pair None at e = let no : None ≡ Some pair.decision = e in absurd (cc)
    by_pair (Some found) at e =
        let low = k.are_published (cache_place (length k.words) pair.number) found at in let next = pending_decides d.history d.pending pair is in let same = decided_as found pair.number pair.decision e in absurd (omega (arith, low, next, same))

-- ---- words once a pair is entered

found_of : (p delta : ℕ) (found : CommitPair) → pair_with p delta ≡ Some found → found.decision ≡ p + delta - 1
found_of p delta found e = by_test (is_pair p delta) e
  where
    by_test : (b : Bool) → cond b (Some (commit_pair p (p + delta - 1))) None ≡ Some found → found.decision ≡ p + delta - 1
    by_test true h = ap (λ (x : CommitPair). x.decision) (sym (same_some (commit_pair p (p + delta - 1)) found h))
    by_test false h = let no : None ≡ Some found = h in absurd (cc)

-- what a pair's word has is decided no later
stored_low : (words place : ℕ) (pair found : CommitPair) → place ≡ cache_place words pair.number → pair.number ≤ pair.decision → pair_of words place (word_of words pair) ≡ Some found → found.decision ≤ pair.decision
stored_low words place pair found is ordered e =
    let bound : ℕ = delta_bound words in let delta : ℕ = delta_of pair in let word : ℕ = word_of words pair in
    let last : found.decision ≡ word / bound * words + place + word % bound - 1 = found_of (word / bound * words + place) (word % bound) found e in
    let rest : word % bound ≡ delta % bound = mul-add-mod_self_right (pair.number / words) bound delta in
    let one : word / bound * bound + word % bound ≡ word = div-add-mod' word bound in
    let two : delta / bound * bound + delta % bound ≡ delta = div-add-mod' delta bound in
    let three : pair.number / words * words + pair.number % words ≡ pair.number = div-add-mod' pair.number words in
    omega (arith, last, rest, one, two, three, is, ordered)

pub entered_published : (m n : ℕ) (words : List ℕ) (pair : CommitPair) → m ≤ n → pair.decision ≤ n → pair.number ≤ pair.decision → ArePublished m words → ArePublished n (with_pair words pair)
entered_published m n words pair le low ordered k place found at =
    let i : ℕ = cache_place (length words) pair.number in
    let word : ℕ = word_of (length words) pair in
    let many : length (with_pair words pair) ≡ length words = length-set words i word in
    elim (cases_eq place i) [
      | inl same ↦
          elim (cases_lt i (length words)) [
            | inl within ↦
                let here : slice_index (with_pair words pair) place ≡ word = ap (slice_index (with_pair words pair)) same ∙ get_or-set_same words i word _ within in
                let last = stored_low (length words) place pair found same ordered (sym (λ j. pair_of (many j) place (here j)) ∙ at) in omega (arith, last, low)
            | inr past ↦ let last = k place found (ap (λ (x : List ℕ). pair_at x place) (sym (set_past words i word past)) ∙ at) in omega (arith, last, le)
          ]
      | inr other ↦
          let there : slice_index (with_pair words pair) place ≡ slice_index words place = get_or-set_other words i place word _ other in
          let last = k place found (sym (λ j. pair_of (many j) place (there j)) ∙ at) in omega (arith, last, le)
    ]

pub published_later : (m n : ℕ) (words : List ℕ) → m ≤ n → ArePublished m words → ArePublished n words
published_later m n words le k place found at = let low = k place found at in omega (arith, low, le)

-- words that are published are so still once the pair of the next number is entered
pub way_published : (cells n : ℕ) (words : List ℕ) (o : Option CommitPair) → ((pair : CommitPair) → o ≡ Some pair → (pair.number ≤ pair.decision) × (pair.decision ≡ suc n)) → ArePublished n words → ArePublished (suc n) (with_way words (way_of cells o))
way_published cells n words None last are = published_later n (suc n) words (omega arith) are
way_published cells n words (Some pair) last are = by_fit (fits cells pair)
  where
    by_fit : (b : Bool) → ArePublished (suc n) (with_way words (cond b (InWord pair.number pair.decision) (Delayed pair.number pair.decision)))
    by_fit true = let l = last pair refl in let is = l.1 in entered_published n (suc n) words pair (omega arith) (omega (arith, is)) l.0 are
    by_fit false = published_later n (suc n) words (omega arith) are

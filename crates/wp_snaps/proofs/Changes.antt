-- p is put under one live number after another.
use Rattle.std.proofs.Common.{◌≡◌, ℕ, ◌+◌, ◌<◌, ◌≤◌, Bool, true, false, cond, ◌==◌, None, inl, inr, sym, ap, ◌∙◌, arith}
use Rattle.std.specs.FinMap.{get}
use Rattle.std.proofs.lemmas.Bool.{cases_lt, cases_order, le-leb, lt-leb, lt-ltb, le-ltb, and_left, and_right, and_from, eq-eqb, ne_eqb}
use Rattle.wp_model.specs.Snapshots.{Snapshots, ChangesWhere, overlaps, after_keep}

module _ (p : ℕ) (test : ℕ → Bool) (old new : Snapshots) (q : ℕ) where
  changed : ChangesWhere test (after_keep p) old new → test q ≡ true → get new q ≡ after_keep p (get old q)
  changed changes passes = changes q ∙ ap (λ b. cond b (after_keep p (get old q)) (get old q)) passes

  same : ChangesWhere test (after_keep p) old new → test q ≡ false → get new q ≡ get old q
  same changes fails = changes q ∙ ap (λ b. cond b (after_keep p (get old q)) (get old q)) fails

  is_changed : test q ≡ true → get new q ≡ after_keep p (get old q) → get new q ≡ cond (test q) (after_keep p (get old q)) (get old q)
  is_changed passes is = is ∙ ap (λ b. cond b (after_keep p (get old q)) (get old q)) (sym passes)

  is_same : test q ≡ false → get new q ≡ get old q → get new q ≡ cond (test q) (after_keep p (get old q)) (get old q)
  is_same fails is = is ∙ ap (λ b. cond b (after_keep p (get old q)) (get old q)) (sym fails)

overlapped : (p c q : ℕ) → p ≤ q → q < c → overlaps p c q ≡ true
overlapped p c q late early = and_from _ _ (le-leb p q late) (lt-ltb q c early)

too_new : (p c q : ℕ) → q < p → overlaps p c q ≡ false
too_new p c q early = and_left _ _ (lt-leb p q early)

committed : (p c q : ℕ) → c ≤ q → overlaps p c q ≡ false
committed p c q late = and_right _ _ (le-ltb q c late)

-- p is under the live numbers below `from`; s is the next live one, and now p is under s too
pub kept_at_next : (old now new : Snapshots) (p from s : ℕ) → p ≤ from → from ≤ s → ChangesWhere (overlaps p from) (after_keep p) old now → ((q : ℕ) → from ≤ q → q < s → get now q ≡ None) → ChangesWhere (λ q. q == s) (after_keep p) now new → ChangesWhere (overlaps p (s + 1)) (after_keep p) old new
kept_at_next old now new p from s start next before none here q =
    let test : ℕ → Bool = overlaps p from in
    let after : ℕ → Bool = overlaps p (s + 1) in
    let at_s : ℕ → Bool = λ k. k == s in
    elim (cases_order q s) [
      | inl is ↦
          is_changed p after old new q (overlapped p (s + 1) q (omega arith) (omega arith))
          (changed p at_s now new q here (eq-eqb q s is) ∙ ap (after_keep p) (same p test old now q before (committed p from q (omega arith))))
      | inr (inl below) ↦
          let other = same p at_s now new q here (ne_eqb q s (λ e. omega arith)) in
          elim (cases_lt q from) [
            | inl passed ↦ elim (cases_lt q p) [
              | inl early ↦ is_same p after old new q (too_new p (s + 1) q early) (other ∙ same p test old now q before (too_new p from q early))
              | inr late ↦ is_changed p after old new q (overlapped p (s + 1) q late (omega arith)) (other ∙ changed p test old now q before (overlapped p from q late passed))
            ]
            | inr left ↦
                let absent = none q left below in
                let was_absent = sym (same p test old now q before (committed p from q left)) ∙ absent in
                is_changed p after old new q (overlapped p (s + 1) q (omega arith) (omega arith)) (other ∙ absent ∙ ap (after_keep p) (sym was_absent))
          ]
      | inr (inr above) ↦
          is_same p after old new q (committed p (s + 1) q (omega arith))
          (same p at_s now new q here (ne_eqb q s (λ e. omega arith)) ∙ same p test old now q before (committed p from q (omega arith)))
    ]

-- p is under the live numbers below `from`, and no other is live below c
pub kept_at_all : (old now : Snapshots) (p from c : ℕ) → p ≤ from → (p < from → from ≤ c) → ChangesWhere (overlaps p from) (after_keep p) old now → ((q : ℕ) → from ≤ q → q < c → get now q ≡ None) → ChangesWhere (overlaps p c) (after_keep p) old now
kept_at_all old now p from c start within before none q =
    let test : ℕ → Bool = overlaps p from in
    let all : ℕ → Bool = overlaps p c in
    elim (cases_lt q from) [
      | inl passed ↦ elim (cases_lt q p) [
        | inl early ↦ is_same p all old now q (too_new p c q early) (same p test old now q before (too_new p from q early))
        | inr late ↦
            let end : from ≤ c = within (omega arith) in
            is_changed p all old now q (overlapped p c q late (omega arith)) (changed p test old now q before (overlapped p from q late passed))
      ]
      | inr left ↦
          let is = same p test old now q before (committed p from q left) in
          elim (cases_lt q c) [
            | inl early ↦
                let absent = none q left early in
                is_changed p all old now q (overlapped p c q (omega arith) early) (absent ∙ ap (after_keep p) (sym (sym is ∙ absent)))
            | inr late ↦ is_same p all old now q (committed p c q late) is
          ]
    ]

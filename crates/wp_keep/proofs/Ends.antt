-- One version more of those that remain, the oldest first.
use Rattle.std.proofs.Common.{◌≡◌, ℕ, Bool, true, false, ◌&&◌, ◌||◌, not, cond, List, [], ◌∷◌, ◌++◌, reverse, refl, sym, ap, ◌∙◌, subst, append_assoc, append-nil}
use Rattle.std.specs.List.{filter}
use Rattle.std.specs.Str.{bytes_eq}
use Rattle.std.proofs.lemmas.Bool.{or_parts}
use Rattle.std.proofs.lemmas.List.{reverse-append}
use Rattle.std.proofs.lemmas.Slice.Eq.{bytes_eq-Decides}
use Rattle.wp_model.specs.declared.version.Version.{Version}
use Rattle.wp_model.specs.Versions.{AreInOrder}
use Rattle.wp_keep.specs.Keep.{is_fixed_deletion, remains}
use Rattle.wp_keep.specs.Newer.{starts_with_key}
use Rattle.wp_model.proofs.VersionLists.{IsBefore}
use Rattle.wp_keep.proofs.Order.{placed_version}
use Rattle.wp_keep.proofs.Any.{any_of, any_older, none_ahead}

module _ (committed : ℕ → ℕ → Bool) (all : List Version) (floor : ℕ) where
  -- no deletion that is committed at the floor
  abbrev says : Version → Bool
  says w = not (is_fixed_deletion committed floor w)

  lasts_by : (front : List Version) (v : Version) (back : List Version) → all ≡ front ++ v ∷ back → AreInOrder all → remains committed all floor v ≡ (says v || any_of v.key says back)
  lasts_by front v back split order =
      ap (λ vs. remains committed vs floor v) split ∙ any_older says front v back (placed_version front v back (subst AreInOrder split order))

  first_key_more : (front : List Version) (v : Version) (back : List Version) → all ≡ front ++ v ∷ back → AreInOrder all → (u : Version) → IsBefore u (v ∷ back) → (b : Bool) → b ≡ (says v || any_of v.key says back) → starts_with_key (filter (remains committed all floor) back) u.key ≡ any_of u.key says back → starts_with_key (cond b (v ∷ filter (remains committed all floor) back) (filter (remains committed all floor) back)) u.key ≡ ((bytes_eq v.key u.key && says v) || any_of u.key says back)
  first_key_more front v back split order u before true e rest = at_key (bytes_eq v.key u.key) refl e
    where
      at_key : (b : Bool) → bytes_eq v.key u.key ≡ b → true ≡ (says v || any_of v.key says back) → b ≡ ((b && says v) || any_of u.key says back)
      at_key true same e = e ∙ ap (λ k. says v || any_of k says back) ((bytes_eq-Decides v.key u.key).0 same)
      at_key false other e = sym (none_ahead says v u back (placed_version front v back (subst AreInOrder split order)).before before.0 other)
  first_key_more front v back split order u before false e rest = rest ∙ beyond (bytes_eq v.key u.key) (or_parts (says v) (any_of v.key says back) (sym e)).0
    where
      beyond : (b : Bool) → says v ≡ false → any_of u.key says back ≡ ((b && says v) || any_of u.key says back)
      beyond true none = ap (λ x. x || any_of u.key says back) (sym none)
      beyond false none = refl

  first_key : (front : List Version) (back : List Version) → all ≡ front ++ back → AreInOrder all → (u : Version) → IsBefore u back → starts_with_key (filter (remains committed all floor) back) u.key ≡ any_of u.key says back
  first_key front [] split order u before = refl
  first_key front (v ∷ back) split order u before = first_key_more front v back split order u before (remains committed all floor v) (lasts_by front v back split order) (first_key (front ++ v ∷ []) back (split ∙ sym (append_assoc front (v ∷ []) back)) order u before.1)

  -- what was passed from the end on, of which these remain, the last one first
  pub record HasRemaining (front retained : List Version) : Type 0 where
    pub back : List Version
    pub split : all ≡ front ++ back
    pub remaining : reverse retained ≡ filter (remains committed all floor) back

  pub remaining_more : (front rest retained next : List Version) (v : Version) (b : Bool) → AreInOrder all → front ≡ rest ++ v ∷ [] → b ≡ (says v || starts_with_key (reverse retained) v.key) → next ≡ cond b (retained ++ v ∷ []) retained → HasRemaining front retained → HasRemaining rest next
  remaining_more front rest retained next v b order popped test pushed had =
      record { back = v ∷ had.back; split = split; remaining = ap reverse pushed ∙ by b is }
    where
      split : all ≡ rest ++ v ∷ had.back
      split = had.split ∙ ap (λ vs. vs ++ had.back) popped ∙ append_assoc rest (v ∷ []) had.back

      is : b ≡ remains committed all floor v
      is =
          test
          ∙ ap (λ vs. says v || starts_with_key vs v.key) had.remaining
          ∙ ap (λ x. says v || x) (first_key (rest ++ v ∷ []) had.back (had.split ∙ ap (λ vs. vs ++ had.back) popped) order v (placed_version rest v had.back (subst AreInOrder split order)).before)
          ∙ sym (lasts_by rest v had.back split order)

      by : (c : Bool) → c ≡ remains committed all floor v → reverse (cond c (retained ++ v ∷ []) retained) ≡ cond (remains committed all floor v) (v ∷ filter (remains committed all floor) had.back) (filter (remains committed all floor) had.back)
      by true e = reverse-append retained (v ∷ []) ∙ ap (λ vs. v ∷ vs) had.remaining ∙ ap (λ c. cond c (v ∷ filter (remains committed all floor) had.back) (filter (remains committed all floor) had.back)) e
      by false e = had.remaining ∙ ap (λ c. cond c (v ∷ filter (remains committed all floor) had.back) (filter (remains committed all floor) had.back)) e

  -- ... of a version that stays, or does not
  pub remaining_chosen : (front rest retained next : List Version) (v : Version) (stays b : Bool) → AreInOrder all → front ≡ rest ++ cond stays (v ∷ []) [] → b ≡ (says v || starts_with_key (reverse retained) v.key) → next ≡ cond (stays && b) (retained ++ v ∷ []) retained → HasRemaining front retained → HasRemaining rest next
  remaining_chosen front rest retained next v true b order popped test pushed had = remaining_more front rest retained next v b order popped test pushed had
  remaining_chosen front rest retained next v false b order popped test pushed had =
      record { back = had.back; split = had.split ∙ ap (λ vs. vs ++ had.back) (popped ∙ append-nil rest); remaining = ap reverse pushed ∙ had.remaining }

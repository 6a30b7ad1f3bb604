-- Entries that a seat which is alone put: they are behind the store's history, and the seat's own.
use Rattle.std.proofs.Common.{◌≡◌, ⊎_elim, inl, inr, ℕ, suc, ◌<◌, ◌≤◌, List, [], ◌∷◌, ◌++◌, length, sym, subst, ap, ◌∙◌, append-nil, length-append, arith}
use Rattle.std.specs.Prelude.{◌+◌}
use Rattle.wp_model.specs.declared.entry.Entry.{Entry}
use Rattle.wp_model.specs.Flushed.{InstalledEdit}
use Rattle.wp_core.specs.Lists.{IsIn}
use Rattle.wp_core.specs.Sound.Actors.{StartsWith}
use Rattle.wp_core.specs.Views.{Event}
use Rattle.wp_core.specs.World.{World}
use Rattle.wp_core.proofs.KeepsSeen.{shorter}
use Rattle.wp_shared.specs.Seats.{SharedState, SeatState, Stands}
use Rattle.wp_records.specs.Records.{numbers_behind}
use Rattle.wp_replies.specs.Due.{Store}
use Rattle.wp_client.specs.Alone.{IsOnly, IsStoreOf}
use Rattle.wp_client.proofs.Alone.Published.{in_both, is_own}
use Rattle.wp_client.proofs.Alone.Worlds.{has_seen, only_of}
use Rattle.wp_client.proofs.Alone.Seated.{Follows, is_alone, opened_is}

-- the numbers of entries behind so many
behind_low : (n : ℕ) (entries : List Entry) (m : ℕ) → IsIn m (numbers_behind n entries) → n < m
behind_low n [] m there = absurd there
behind_low n (entry ∷ entries) m (inl same) = omega (arith, same)
behind_low n (entry ∷ entries) m (inr there) = let k = behind_low (suc n) entries m there in omega (arith, k)

pub behind_high : (n : ℕ) (entries : List Entry) (m : ℕ) → IsIn m (numbers_behind n entries) → m ≤ n + length entries
behind_high n [] m there = absurd there
behind_high n (entry ∷ entries) m (inl same) = omega (arith, same)
behind_high n (entry ∷ entries) m (inr there) = let k = behind_high (suc n) entries m there in omega (arith, k)

module _ {D : Type 0} (z : SharedState D) (first : InstalledEdit) (old new : SeatState) (only : IsOnly old) (store : Store) (is : IsStoreOf z first old.knows.participant store) (stood : (w : World) × Stands z new w) (history entries : List Entry) (events : List Event)
    (f : Follows old new (numbers_behind (length history) entries) events) (grown : StartsWith history old.knows.participant.seen) (ends : new.knows.participant.seen ≡ history ++ entries) where
  abbrev w : World
  w = stood.0

  all_seen : StartsWith w.writes.history new.knows.participant.seen
  all_seen = has_seen w stood.1.reached new.by new.knows stood.1.there

  pub few_put : (n : ℕ) → IsIn n new.knows.participant.own → n ≤ length new.knows.participant.seen
  few_put n there =
      let before = shorter history old.knows.participant.seen grown in
      let size : length new.knows.participant.seen ≡ length (history ++ entries) = ap (λ (h : List Entry). length h) ends in
      let both = length-append history entries in
      ⊎_elim
      (λ (k : IsIn n old.knows.participant.own). let low = is.own n k in omega (arith, low, before, size, both))
      (λ (k : IsIn n (numbers_behind (length history) entries)). let low = behind_high (length history) entries n k in omega (arith, low, size, both))
      (in_both n old.knows.participant.own (numbers_behind (length history) entries) (subst (IsIn n) f.own there))

  -- it is the store's history
  pub put_behind : history ≡ store.history
  put_behind = by grown.0 grown.1 ∙ sym is.history
    where
      by : (rest : List Entry) → history ≡ old.knows.participant.seen ++ rest → history ≡ old.knows.participant.seen
      by [] e = e ∙ append-nil old.knows.participant.seen
      by (entry ∷ more) e =
          let seen = old.knows.participant.seen in
          let size : length history ≡ length (seen ++ entry ∷ more) = ap (λ (h : List Entry). length h) e in
          let parts = length-append seen (entry ∷ more) in
          let whole : length new.knows.participant.seen ≡ length (history ++ entries) = ap (λ (h : List Entry). length h) ends in
          let both = length-append history entries in
          let all = shorter w.writes.history new.knows.participant.seen all_seen in
          let low = shorter seen w.opened (opened_is z first old new only store is stood seen is.opened) in
          let there = is_own w.opened w.writes.history new.knows.participant.own (only_of w stood.1.reached new.knows (is_alone z first old new only store is stood (numbers_behind (length history) entries) events f)).owned (suc (length seen)) (omega (arith, low)) (omega (arith, size, parts, whole, both, all)) in
          ⊎_elim
          (λ (k : IsIn (suc (length seen)) old.knows.participant.own). let few = is.own (suc (length seen)) k in absurd (omega (arith, few)))
          (λ (k : IsIn (suc (length seen)) (numbers_behind (length history) entries)). let late = behind_low (length history) entries (suc (length seen)) k in absurd (omega (arith, late, size, parts)))
          (in_both (suc (length seen)) old.knows.participant.own (numbers_behind (length history) entries) (subst (IsIn (suc (length seen))) f.own there))

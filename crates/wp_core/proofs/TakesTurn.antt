-- Taking a turn keeps a world sound.
use Rattle.std.proofs.Common.{◌≡◌, ◌≢◌, inl, inr, ℕ, true≢false, List, [], ◌∷◌, length, map, set, refl, sym, subst, ap, ◌∙◌, Some, None}
use mathlib.Core.Option.{some}
use mathlib.Core.Logic.{dite}
use native.Mathlib.Decide.{ℕ_discrete}
use lib.ListN.{get_elem?}
use Rattle.wp_core.specs.Lists.{IsIn}
use Rattle.wp_core.specs.Turns.{Turn, write_turn, prepared_turn, snapshots_turn, store_turn, locks_turn, tables_turn, Holders, Holds, turn_holder, with_holder}
use Rattle.wp_core.specs.States.{Content, turn_of}
use Rattle.wp_core.specs.World.{Actor, World, content_of}
use Rattle.wp_core.specs.Steps.{take_turn}
use Rattle.wp_core.specs.Changes.{turn_index}
use Rattle.wp_core.specs.Effects.{done}
use Rattle.wp_core.specs.Needs.{Needs}
use Rattle.wp_core.specs.Notes.{forgets}
use Rattle.wp_core.specs.Sound.Actors.{AreHeld, HoldersHave, NoneAfter, held_of}
use Rattle.wp_core.specs.IsSound.{IsSound}
use Rattle.wp_core.proofs.Frames.{each_map_set, at_map}
use Rattle.wp_core.proofs.Gives.{now_holder, other_holder, same_turn}
use Rattle.wp_core.proofs.AllParts.{idle_set}
use Rattle.wp_core.proofs.HoldersChange.{holder_changes}
use Rattle.wp_model.proofs.Tests.{same_some}
use Rattle.wp_core.proofs.Changed.{own_have, have_set}

table_of : (w : World) (t : Turn) → turn_of (content_of w t) ≡ t
table_of w write_turn = refl
table_of w prepared_turn = refl
table_of w snapshots_turn = refl
table_of w store_turn = refl
table_of w locks_turn = refl
table_of w tables_turn = refl

-- a turn that somebody holds is another than the free one
held_else : (h : Holders) (t u : Turn) (j : ℕ) → turn_holder h t ≡ None → Holds h u j → turn_index u ≢ turn_index t
held_else h t u j free holds e = let q : Some j ≡ None = sym holds ∙ (ap (turn_holder h) (same_turn t u e) ∙ free) in absurd (cc)

still_holds : (h : Holders) (t u : Turn) (by j : ℕ) → turn_holder h t ≡ None → Holds h u j → Holds (with_holder h t (Some by)) u j
still_holds h t u by j free holds = other_holder h t u (Some by) (held_else h t u j free holds) ∙ holds

-- ---- what is held

still_held : (h : Holders) (contents : Turn → Content) (t : Turn) (by j : ℕ) (held : List Content) → turn_holder h t ≡ None → AreHeld h contents j held → AreHeld (with_holder h t (Some by)) contents j held
still_held h contents t by j [] free k = tt
still_held h contents t by j (c ∷ others) free k = (still_holds h t (turn_of c) by j free k.0, k.1, k.2, still_held h contents t by j others free k.3)

none_yet : (h : Holders) (contents : Turn → Content) (t : Turn) (j : ℕ) (held : List Content) → turn_holder h t ≡ None → AreHeld h contents j held → NoneAfter t held
none_yet h contents t j [] free k = tt
none_yet h contents t j (c ∷ others) free k = ((λ e. held_else h t (turn_of c) j free k.0 (ap turn_index e)), none_yet h contents t j others free k.3)

now_held : (w : World) (t : Turn) (by : ℕ) (held : List Content) → turn_holder w.holders t ≡ None → AreHeld w.holders (content_of w) by held → AreHeld (with_holder w.holders t (Some by)) (content_of w) by (content_of w t ∷ held)
now_held w t by held free k =
    let is = table_of w t in (
      subst (λ (u : Turn). Holds (with_holder w.holders t (Some by)) u by) (sym is) (now_holder w.holders t (Some by)),
      ap (content_of w) is,
      subst (λ (u : Turn). NoneAfter u held) (sym is) (none_yet w.holders (content_of w) t by held free k),
      still_held w.holders (content_of w) t by by held free k,
    )

have_after : (w : World) (t : Turn) (by : ℕ) (a b : Actor) → get_elem? w.actors by ≡ some a → b.held ≡ content_of w t ∷ a.held → HoldersHave w.holders (map held_of w.actors) → HoldersHave (with_holder w.holders t (Some by)) (map held_of (set w.actors by b))
have_after w t by a b at is have = have_set w.holders (with_holder w.holders t (Some by)) by w.actors a b at
    (λ u holds. dite (ℕ_discrete (turn_index u) (turn_index t))
    (λ (e : turn_index u ≡ turn_index t). (content_of w t, subst (IsIn (content_of w t)) (sym is) (inl refl), table_of w t ∙ sym (same_turn t u e)))
    (λ (ne : turn_index u ≢ turn_index t).
    let o = own_have w.holders by w.actors a at have u (sym (other_holder w.holders t u (Some by) ne) ∙ holds) in
    (o.0, subst (IsIn o.0) (sym is) (inr o.1), o.2)))
    (λ u j apart holds. dite (ℕ_discrete (turn_index u) (turn_index t))
    (λ (e : turn_index u ≡ turn_index t).
    let q : Some by ≡ Some j = sym (now_holder w.holders t (Some by)) ∙ (ap (turn_holder (with_holder w.holders t (Some by))) (sym (same_turn t u e)) ∙ holds) in
    absurd (apart (sym (same_some by j q))))
    (λ (ne : turn_index u ≢ turn_index t). sym (other_holder w.holders t u (Some by) ne) ∙ holds)) have

-- ---- all parts

pub takes_turn : (w : World) (by : ℕ) (a : Actor) (t : Turn) → get_elem? w.actors by ≡ some a → Needs w by a (take_turn t) → IsSound w → IsSound (done w by (forgets w.writes.history (length w.cache) (take_turn t) a) (take_turn t))
takes_turn w by a t at n s =
    let b : Actor = record (forgets w.writes.history (length w.cache) (take_turn t) a) { held = content_of w t ∷ a.held } in
    holder_changes w (Some by) by a (take_turn t) t b.held at (λ free. absurd cc)
    (record {
      held = each_map_set held_of (AreHeld (with_holder w.holders t (Some by)) (content_of w)) w.actors by b (now_held w t by a.held n.0 (s.held by a.held (at_map held_of w.actors by a at)))
          (λ j x ne there. still_held w.holders (content_of w) t by j x n.0 (s.held j x there));
      have = have_after w t by a b at refl s.have;
    })
    (λ fact u left is. still_holds w.holders t u by by n.0) (λ j u ne. still_holds w.holders t u by j n.0) (idle_set w by a b at (λ dead. absurd (true≢false (sym n.1 ∙ dead))) s) s

-- Giving a turn keeps every part of a sound world.
use Rattle.std.proofs.Common.{◌≡◌, ◌≢◌, ℕ, Bool, true, not, ◌||◌, eq-eqb, true≢false, List, length, map, set, refl, sym, subst, ap, ◌∙◌, Option, Some, None}
use mathlib.Core.Option.{some}
use lib.ListN.{get_elem?}
use Rattle.wp_model.specs.declared.entry.Entry.{Entry}
use Rattle.wp_core.specs.Lists.{IsIn}
use Rattle.wp_core.specs.Turns.{Turn, Holders, with_holder}
use Rattle.wp_core.specs.Views.{Fact}
use Rattle.wp_core.specs.World.{Actor, World, content_of}
use Rattle.wp_core.specs.Steps.{give_turn}
use Rattle.wp_core.specs.Changes.{turn_index, held_without}
use Rattle.wp_core.specs.Effects.{done}
use Rattle.wp_core.specs.Needs.{Needs}
use Rattle.wp_core.specs.Notes.{forgets, ends, ends_itself, gives_guard}
use Rattle.wp_core.specs.Sound.Actors.{AreHeld, HoldersHave, held_of}
use Rattle.wp_core.specs.Sound.Views.{guarded_by}
use Rattle.wp_core.specs.IsSound.{IsSound}
use Rattle.wp_core.proofs.Frames.{each_map_set, at_map}
use Rattle.wp_core.proofs.Gives.{other_holder, still, was, still_held, left_held, in_left}
use Rattle.wp_core.proofs.Quiet.{idle_after}
use Rattle.wp_core.proofs.HoldersChange.{holder_changes}
use Rattle.wp_core.proofs.Changed.{own_have, have_set}

-- ---- what is held

have_after : (h : Holders) (t : Turn) (by : ℕ) (actors : List Actor) (a b : Actor) → get_elem? actors by ≡ some a → b.held ≡ held_without a.held t → HoldersHave h (map held_of actors) → HoldersHave (with_holder h t None) (map held_of (set actors by b))
have_after h t by actors a b at is have = have_set h (with_holder h t None) by actors a b at
    (λ u holds.
    let k = was h t u by holds in
    let o = own_have h by actors a at have u k.1 in
    (o.0, subst (IsIn o.0) (sym is) (in_left t u o.0 a.held o.2 k.0 o.1), o.2))
    (λ u j ne holds. (was h t u j holds).1) have

-- ---- notes

not_ended : (history : List Entry) (words : ℕ) (t : Turn) (fact : Fact) (u : Turn) → not (ends history words (give_turn t) fact) ≡ true → guarded_by fact ≡ Some u → turn_index u ≢ turn_index t
not_ended history words t fact u kept is e =
    let guard : gives_guard (guarded_by fact) (give_turn t) ≡ true = ap (λ (g : Option Turn). gives_guard g (give_turn t)) is ∙ eq-eqb (turn_index u) (turn_index t) e in
    let ended : ends history words (give_turn t) fact ≡ true = ap (λ (b : Bool). b || ends_itself history words (give_turn t) fact) guard in
    true≢false (sym kept ∙ ap not ended)

-- ---- all parts

pub gives : (w : World) (by : ℕ) (a : Actor) (t : Turn) → get_elem? w.actors by ≡ some a → Needs w by a (give_turn t) → IsSound w → IsSound (done w by (forgets w.writes.history (length w.cache) (give_turn t) a) (give_turn t))
gives w by a t at n s =
    let b : Actor = record (forgets w.writes.history (length w.cache) (give_turn t) a) { held = held_without a.held t } in
    holder_changes w None by a (give_turn t) t b.held at (λ _. n.1)
    (record {
      held = each_map_set held_of (AreHeld (with_holder w.holders t None) (content_of w)) w.actors by b (left_held w.holders (content_of w) t by a.held (s.held by a.held (at_map held_of w.actors by a at)))
          (λ j x ne there. still_held w.holders (content_of w) t by j x n.0 ne (s.held j x there));
      have = have_after w.holders t by w.actors a b at refl s.have;
    })
    (λ fact u left is holds. other_holder w.holders t u None (not_ended w.writes.history (length w.cache) t fact u left is) ∙ holds) (λ j u ne. still w.holders t u by j n.0 ne) (idle_after w by a b t at n.0 s refl) s

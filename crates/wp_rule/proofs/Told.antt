-- What a seat is told of what it did.
use Rattle.std.proofs.Common.{◌≡◌, ℕ, List, [], ◌∷◌, length, sym, subst, ap, ◌∙◌, Some, Option}
use Rattle.wp_model.specs.declared.entry.Entry.{Entry}
use Rattle.wp_model.specs.Legal.{IsLegal}
use Rattle.wp_judge.specs.Words.{CommitPair}
use Rattle.wp_core.specs.Lists.{IsIn}
use Rattle.wp_core.specs.States.{WriteState, writes}
use Rattle.wp_core.specs.World.{Actor, World}
use Rattle.wp_core.specs.Changes.{sees}
use Rattle.wp_core.specs.Steps.{Step, load_published, store_published}
use Rattle.wp_core.specs.Sound.Actors.{StartsWith}
use Rattle.wp_rule.specs.Words.{Place, IsAt, SawAll}
use Rattle.wp_rule.specs.Moves.{AreMet, world_after, actor_after, Moved, publishing, storing, storing_word}
use Rattle.wp_rule.proofs.Forgets.{forgets_nothing, load_ends}
use Rattle.wp_rule.proofs.Knows.{at_sound, seen_is, learned_is}
use Rattle.wp_rule.proofs.Stores.{same_writes}

-- the same steps, said in another way
abbrev Done : Place → Actor → Actor → World → List Step → Type 0
Done p a b w steps = AreMet steps w p.by a × IsAt p b (world_after steps w p.by a) × (b ≡ actor_after steps w p.by a)

moved_as : (p : Place) (steps others : World → List Step) (so so' : World → Type 0) (a b : Actor) → ((w : World) → IsAt p a w → (steps w ≡ others w) × (so w → so' w)) → Moved p steps so a b → Moved p others so' a b
moved_as p steps others so so' a b says m =
    let is = says m.world m.before in let d : Done p a b m.world (others m.world) = subst (Done p a b m.world) is.0 (m.met, m.after, m.actor) in
    record { world = m.world; before = m.before; met = d.0; after = d.1; actor = d.2; so_is = is.1 m.so_is }

pub moved_so : (p : Place) (steps : World → List Step) (so so' : World → Type 0) (a b : Actor) → ((w : World) → so w → so' w) → Moved p steps so a b → Moved p steps so' a b
moved_so p steps so so' a b says m = record { world = m.world; before = m.before; met = m.met; after = m.after; actor = m.actor; so_is = says m.world m.so_is }

pub word_told : (p : Place) (a b : Actor) (pair : CommitPair) (found : Option CommitPair) → found ≡ Some pair → Moved p (storing found) (λ w. Unit {0}) a b → Moved p (storing_word pair) (λ w. Unit {0}) a b
word_told p a b pair found is m = moved_as p (storing found) (storing_word pair) (λ w. Unit {0}) (λ w. Unit {0}) a b (λ w k. (ap (λ (x : Option CommitPair). storing x w) is, λ so. so)) m

pub publish_told : (p : Place) (a b : Actor) → Moved p (λ w. publishing w.writes.pending) (λ w. Unit {0}) a b → (t : WriteState) (entry : Entry) (others : List Entry) → IsIn (writes t) a.held → t.pending ≡ entry ∷ others
    → Moved p (λ w. store_published entry others ∷ []) (λ w. w.writes ≡ t) a b
publish_told p a b m t entry others held pending =
    moved_as p (λ w. publishing w.writes.pending) (λ w. store_published entry others ∷ []) (λ w. Unit {0}) (λ w. w.writes ≡ t) a b
    (λ w k. let same : w.writes ≡ t = same_writes p a w t k held in (ap publishing (ap (λ (x : WriteState). x.pending) same ∙ pending), λ so. same)) m

pub sees_it : (p : Place) (a b : Actor) (found : ℕ) → Moved p (λ w. load_published ∷ []) (λ w. found ≡ length w.writes.history) a b
    → (h : List Entry) × (b ≡ sees h a) × (found ≡ length h) × StartsWith h a.participant.seen × StartsWith h a.learned × IsLegal h
sees_it p a b found m =
    let w = m.world in (
      w.writes.history,
      m.actor ∙ ap (sees w.writes.history) (forgets_nothing w.writes.history (length w.cache) load_published a load_ends),
      m.so_is,
      seen_is p a w m.before,
      learned_is p a w m.before,
      (at_sound p a w m.before).history.legal,
    )

pub saw_it : (p : Place) (a b : Actor) (found : ℕ) → Moved p (λ w. load_published ∷ []) (λ w. found ≡ length w.writes.history) a b → SawAll p b found
saw_it p a b found m = record { world = world_after (load_published ∷ []) m.world p.by a; there = m.after; number = m.so_is; seen = sym (ap (λ (c : Actor). c.participant.seen) m.actor) }

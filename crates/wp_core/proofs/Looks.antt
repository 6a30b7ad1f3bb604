-- A load keeps a world sound: only what one actor reads, and its notes, change.
use Rattle.std.proofs.Common.{refl, filter, ◌≡◌, ℕ, Bool, false, sym, subst, Some, Option, filter}
use mathlib.Core.Option.{some}
use lib.ListN.{get_elem?}
use Rattle.wp_core.specs.Lists.{IsIn}
use Rattle.wp_judge.specs.declared.observed.Observed.{Observed}
use Rattle.wp_judge.specs.Order.{judgement}
use Rattle.wp_core.specs.Views.{Fact}
use Rattle.wp_core.specs.World.{Actor, Participant, World}
use Rattle.wp_core.specs.Changes.{with_actor}
use Rattle.wp_core.specs.Sound.Actors.{IsIdle}
use Rattle.wp_core.specs.Sound.Reader.{IsReader, IsRight, reader_of}
use Rattle.wp_core.specs.Sound.Views.{IsNoted, noter_of}
use Rattle.wp_core.specs.IsSound.{IsSound}
use Rattle.wp_core.proofs.AllParts.{SoIn, tables_of, views_of, pasts_of, turns_still, idle_set, quiet_step}
use Rattle.wp_core.proofs.Frames.{each_map_set, at_map, in_filter}

-- what a change of an actor leaves: all but what it reads, and its notes, which become fewer
pub record LeavesMost (a b : Actor) : Type 0 where
  pub participant : b.participant ≡ a.participant
  pub learned : b.learned ≡ a.learned
  pub held : b.held ≡ a.held
  pub live : b.live ≡ a.live
  pub made : b.made ≡ a.made
  pub joined : b.joined ≡ a.joined
  pub fewer : (fact : Fact) → IsIn fact b.notes → IsIn fact a.notes

pub leaves_most : (w : World) (a : Actor) (o : Option Observed) (test : Fact → Bool) → LeavesMost a (record a { reading = o; notes = filter test a.notes })
leaves_most w a o test = record { participant = refl; learned = refl; held = refl; live = refl; made = refl; joined = refl; fewer = λ fact there. (in_filter test fact a.notes there).0 }

-- what the actor reads is as it should be
pub record ReadsRight (w : World) (b : Actor) : Type 0 where
  pub knows : (r : Observed) → b.reading ≡ Some r → IsReader w.writes.history w.max_evicted w.cache w.prepared.delayed_commits w.snapshots b.participant.registered r
  pub right : (r : Observed) (visible : Bool) → b.reading ≡ Some r → judgement r ≡ Some visible → IsRight w.writes.history r.version r.snapshot visible
  pub idle : b.live ≡ false → IsIdle b

pub looks : (w : World) (by : ℕ) (a b : Actor) → get_elem? w.actors by ≡ some a → LeavesMost a b → ReadsRight w b → IsSound w → IsSound (with_actor w by b)
looks w by a b at same reads s =
    let mine = s.noted by (noter_of a) (at_map noter_of w.actors by a at) in
    quiet_step w w by a b at (λ i. (same.participant i, same.learned i, record { live = same.live i; made = same.made i; joined = same.joined i })) (tables_of w s) (views_of w s) s.locks (pasts_of w s) (turns_still w by a b at same.held s)
    (record {
      readers = each_map_set reader_of (λ j x. (r : Observed) → x.1 ≡ Some r → IsReader w.writes.history w.max_evicted w.cache w.prepared.delayed_commits w.snapshots x.0 r) w.actors by b reads.knows (λ j x ne there. s.readers j x there);
      judged = each_map_set reader_of (λ j x. (r : Observed) (visible : Bool) → x.1 ≡ Some r → judgement r ≡ Some visible → IsRight w.writes.history r.version r.snapshot visible) w.actors by b reads.right (λ j x ne there. s.judged j x there);
    })
    (each_map_set noter_of (λ j x. (fact : Fact) → IsIn fact x.1 → IsNoted w.holders (SoIn w) j x fact) w.actors by b
    (λ fact h. let m = mine fact (same.fewer fact h) in record { guarded = m.guarded; is_so = subst (λ (p : Participant). SoIn w p fact) (sym same.participant) m.is_so })
    (λ j x ne there. s.noted j x there))
    (idle_set w by a b at reads.idle s) s

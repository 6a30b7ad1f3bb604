-- Steps only add to the history, and keep it legal. So what a reader concluded stays right.
use Rattle.std.proofs.Common.{◌≡◌, ℕ, ◌≤◌, Bool, true, false, List, [], ◌∷◌, ◌++◌, length, refl, sym, subst, ap, ◌∙◌, Some, append-nil, append_assoc, arith}
use mathlib.Core.Option.{some}
use lib.ListN.{get_elem?}
use Rattle.wp_model.specs.declared.entry.Entry.{Entry}
use Rattle.wp_model.specs.Decision.{decision_of, IsCommittedAt}
use Rattle.wp_model.specs.Legal.{IsLegal}
use Rattle.wp_judge.specs.declared.observed.Observed.{Observed}
use Rattle.wp_judge.specs.Order.{judgement}
use Rattle.wp_core.specs.Reading.{snapshot_of}
use Rattle.wp_core.specs.World.{Actor, World, history}
use Rattle.wp_core.specs.Steps.{Step, store_published}
use Rattle.wp_core.specs.Effects.{done}
use Rattle.wp_core.specs.Needs.{Needs}
use Rattle.wp_core.specs.Notes.{forgets}
use Rattle.wp_core.specs.Runs.{IsStep, ReachesFrom, stays, goes_on}
use Rattle.wp_core.specs.Sound.Reader.{IsRight, reader_of}
use Rattle.wp_core.specs.IsSound.{IsSound}
use Rattle.wp_core.proofs.Frames.{at_map}
use Rattle.wp_core.proofs.HistoryLaws.{decided_late, decision_stays, decision_was}
use Rattle.wp_core.proofs.Registered.{registered_live}

-- a history that has this one as its first part, and is legal
pub record Grows (before after : List Entry) : Type 0 where
  pub more : List Entry
  pub is : after ≡ before ++ more
  pub legal : IsLegal after

same : (h : List Entry) → IsLegal h → Grows h h
same h legal = record { more = []; is = sym (append-nil h); legal = legal }

step_grows : (w : World) (by : ℕ) (a b : Actor) (step : Step) → Needs w by a step → IsLegal w.writes.history → Grows w.writes.history (done w by b step).writes.history
step_grows w by a b (store_published entry others) n legal = record { more = entry ∷ []; is = refl; legal = n.legal }
step_grows w by a b step n legal = same w.writes.history legal

grows_on : (h g : List Entry) (k : List Entry) → Grows h g → Grows g k → Grows h k
grows_on h g k x y = record { more = x.more ++ y.more; is = y.is ∙ (ap (λ z. z ++ y.more) x.is ∙ append_assoc h x.more y.more); legal = y.legal }

step_on : (w last next : World) (by : ℕ) (step : Step) → IsStep last by step next → Grows w.writes.history last.writes.history → Grows w.writes.history next.writes.history
step_on w last next by step goes k =
    let b : Actor = forgets last.writes.history (length last.cache) step goes.0 in
    let one = step_grows last by goes.0 b step goes.2 k.legal in
    grows_on w.writes.history last.writes.history next.writes.history k (subst (λ (z : World). Grows last.writes.history z.writes.history) (sym goes.3) one)

pub run_grows : {w later : World} → ReachesFrom w later → IsLegal w.writes.history → Grows w.writes.history later.writes.history
run_grows {w} stays legal = same w.writes.history legal
run_grows {w} (goes_on {last} {next} by step before goes) legal = step_on w last next by step goes (run_grows before legal)

right_later : (h g : List Entry) (p s : ℕ) (visible : Bool) → Grows h g → s ≤ length h → IsRight h p s visible → IsRight g p s visible
right_later h g p s true k le is = record { by = is.by; decided = subst (λ (z : List Entry). decision_of z p ≡ Some is.by) (sym k.is) (decision_stays h k.more p is.by is.decided); within = is.within }
right_later h g p s false k le is = λ (c : IsCommittedAt g p s).
    let within = c.within in let late = decided_late g p c.by k.legal c.decided in
    is (record { by = c.by; decided = decision_was h k.more p c.by (omega arith) (omega arith) (subst (λ (z : List Entry). decision_of z p ≡ Some c.by) k.is c.decided); within = within })

pub judged_later : (w later : World) (j : ℕ) (a : Actor) (r : Observed) (visible : Bool) → IsSound w → get_elem? w.actors j ≡ some a → a.reading ≡ Some r → judgement r ≡ Some visible → ReachesFrom w later → IsRight (history later) r.version r.snapshot visible
judged_later w later j a r visible s at reads judged run =
    let there = at_map reader_of w.actors j a at in
    let reader = s.readers j (reader_of a) there r reads in
    let live = registered_live w.writes.history w.snapshots w.actors j a (snapshot_of r) at reader.registered_at s.registrations in
    right_later w.writes.history later.writes.history r.version r.snapshot visible (run_grows run s.history.legal) live.1 (s.judged j (reader_of a) there r visible reads judged)

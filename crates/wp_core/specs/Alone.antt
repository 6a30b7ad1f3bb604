-- An actor that is alone: no other did anything, so the states of the world are as it left them.
use Rattle.std.specs.Prelude.{◌≡◌, ℕ, List, [], Some}
use mathlib.Core.Option.{some}
use lib.ListN.{get_elem?}
use Rattle.std.specs.FinMap as finite
use Rattle.wp_model.specs.declared.holder.Holder.TheVariants.{Client}
use Rattle.wp_model.specs.Snapshots.{IsLive}
use Rattle.wp_core.specs.Lists.{IsIn, one_if, total}
use Rattle.wp_core.specs.Reading.{Registration}
use Rattle.wp_core.specs.Sound.Actors.{once, times}
use Rattle.wp_core.specs.Sound.Pasts.{closes_log, is_tables_fault, last_installed}
use Rattle.wp_core.specs.Views.{told}
use Rattle.wp_core.specs.World.{Transaction, Participant, Actor, World}

-- it is the first actor, which made and joined no other
pub record IsAlone (w : World) (a : Actor) : Type 0 where
  pub there : get_elem? w.actors 0 ≡ some a
  pub made : a.made ≡ 0
  pub joined : a.joined ≡ []

-- What the one participant that did something has of the world. It published each number since the opening; the log is closed, and
-- the tables are halted, just where it met the fault or stopped it; the last edit is the last one that it installed; what a client has
-- of names and keys is its own; each label was told by it; and each live number is registered by it.
pub record IsOnlyOf (w : World) (p : Participant) : Type 0 where
  pub owned : (n : ℕ) → times n p.own ≡ once w.opened w.writes.history n
  pub closed : total (λ e. one_if (closes_log e)) p.past ≡ one_if w.writes.closed
  pub halted : total (λ e. one_if (is_tables_fault e)) p.past ≡ one_if w.installed.halted
  pub edit : w.installed.last ≡ last_installed w.first_edit p.past
  pub names : (name client : List ℕ) → finite.get w.locks.names name ≡ Some (Some client) → (x : Transaction) × (finite.get p.transactions name ≡ Some x)
  pub direct : (key client : List ℕ) → finite.get w.locks.keys key ≡ Some (Client client) → p.direct ≡ Some key
  pub labels : (label : List ℕ) (n : ℕ) → finite.get w.locks.labels label ≡ Some n → IsIn (told label n) p.past
  pub live : (n : ℕ) → IsLive w.snapshots n → (r : Registration) × IsIn r p.registered × (r.number ≡ n)

-- The tables of an edit, each at its place at some moment of a call that read them.
use Rattle.std.specs.Prelude.{◌≡◌, ℕ, List, [], ◌∷◌, ◌++◌}
use Rattle.wp_model.specs.declared.version.Version.{Version}
use Rattle.wp_outside.specs.Disk.{Moment, IfKnown}
use Rattle.wp_table.specs.File.{HasTable}

-- while the device went from old to new it was so, at the newest moment of old or at one that came then
pub record Sometime (P : Moment → Type 0) (old new : List Moment) : Type 0 where
  pub later : List Moment
  pub since : List Moment
  pub came : new ≡ later ++ (since ++ old)
  pub held : IfKnown (since ++ old) P

-- at each of these places the device had a table, of these versions in order, each at a moment of its own
abbrev pub WereShown : ℕ → ℕ → List Moment → List Moment → List (ℕ × ℕ) → List (List Version) → Type 0
WereShown id flushed old new [] [] = Unit {0}
WereShown id flushed old new [] (versions ∷ others) = ⊥
WereShown id flushed old new (placed ∷ places) [] = ⊥
WereShown id flushed old new (placed ∷ places) (versions ∷ others) = Sometime (λ m. HasTable id flushed m.reads placed versions) old new × WereShown id flushed old new places others

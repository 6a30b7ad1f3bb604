-- The calls of a form in memory, of which listed ones are to fail.
use Rattle.std.specs.Prelude.{ℕ, ◌==◌, Bool, List, Result, Ok, Err}
use Rattle.std.specs.List.{list_any}
use Rattle.wp_outside.specs.declared.failed.Failed.{Failed}
use Rattle.wp_outside.specs.Faults.{risen}

pub record Calls : Type 0 where
  pub fails : List ℕ  -- the numbers of the calls that are to fail, from 1 on
  pub made : ℕ  -- the calls so far, up to the greatest u64
  pub faults : ℕ  -- those that failed, up to the greatest u64

abbrev pub no_calls : List ℕ → Calls
no_calls fails = record { fails = fails; made = 0; faults = 0 }

-- the next call is one of those that are to fail
abbrev pub is_listed : Calls → Bool
is_listed c = list_any (λ n. n == risen c.made) c.fails

-- after one more call, answered so
abbrev pub counted : {T : Type 0} → Result T Failed → Calls → Calls
counted (Ok x) c = record c { made = risen c.made }
counted (Err e) c = record c { made = risen c.made; faults = risen c.faults }

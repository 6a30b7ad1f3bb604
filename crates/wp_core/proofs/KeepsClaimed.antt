-- Claiming a name keeps every part of a sound world.
use Rattle.std.proofs.Common.{◌≡◌, ℕ, true≢false, List, [], length, inl, refl, sym, ap, ◌∙◌, Some, None, is_some}
use mathlib.Core.Option.{some}
use lib.ListN.{get_elem?}
use Rattle.std.specs.FinSet as words
use Rattle.std.specs.FinSet.{contains-empty}
use Rattle.std.specs.FinMap as finite
use Rattle.wp_model.specs.Batch.{key_cmp}
use Rattle.wp_core.specs.Views.{claimed}
use Rattle.wp_core.specs.World.{Transaction, Actor, World}
use Rattle.wp_core.specs.Steps.{claim_name}
use Rattle.wp_core.specs.Effects.{done}
use Rattle.wp_core.specs.Needs.{Needs}
use Rattle.wp_core.specs.Notes.{forgets}
use Rattle.wp_core.specs.IsSound.{IsSound}
use Rattle.wp_core.proofs.LocksChange.{locks_change}
use Rattle.wp_core.proofs.GainsTransaction.{Gains, p, t, gained_parts}

-- nothing is locked for it yet
abbrev new_transaction : Transaction
new_transaction = record { batch = []; locked = words.empty }

claimed_one : (w : World) (name : List ℕ) → finite.get w.locks.names name ≡ None → IsSound w → Gains w name new_transaction (claimed name)
claimed_one w name free s = record {
  nobody = λ c h. let q : None ≡ Some (Some c) = sym free ∙ h in absurd cc;
  keys = λ k h. absurd (true≢false (sym h ∙ contains-empty key_cmp k));
  known = λ k h. absurd (true≢false (sym (s.locks.keys_live k name h) ∙ ap is_some free));
  begins = inl refl;
  came = λ k h. absurd (true≢false (sym h ∙ contains-empty key_cmp k));
}

pub claims_name : (w : World) (by : ℕ) (a : Actor) (name : List ℕ) → get_elem? w.actors by ≡ some a → Needs w by a (claim_name name) → IsSound w
    → IsSound (done w by (forgets w.writes.history (length w.cache) (claim_name name) a) (claim_name name))
claims_name w by a name at needs s =
    let d = claimed_one w name needs.1 s in
    locks_change w by a (claim_name name) (p w by a name new_transaction (claimed name) (claim_name name) at d s) (t w by a name new_transaction (claimed name) (claim_name name) at d s) at needs.0
    (gained_parts w by a name new_transaction (claimed name) (claim_name name) at d s) s

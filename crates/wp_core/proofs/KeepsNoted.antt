-- Noting a fact keeps every part of a sound world.
use Rattle.std.proofs.Common.{◌≡◌, ⊎_elim, not, true≢false, ◌∷◌, ℕ, length, refl, sym, subst, ◌∙◌}
use mathlib.Core.Option.{some}
use lib.ListN.{get_elem?}
use Rattle.wp_core.specs.Lists.{IsIn}
use Rattle.wp_core.specs.Views.{Fact}
use Rattle.wp_core.specs.World.{Actor, World}
use Rattle.wp_core.specs.Steps.{note}
use Rattle.wp_core.specs.Effects.{done}
use Rattle.wp_core.specs.Needs.{Needs}
use Rattle.wp_core.specs.Notes.{forgets, ends}
use Rattle.wp_core.specs.Sound.Views.{IsNoted, noter_of}
use Rattle.wp_core.specs.IsSound.{IsSound}
use Rattle.wp_core.proofs.Frames.{each_map_set, at_map, in_filter}
use Rattle.wp_core.proofs.AllParts.{SoIn, tables_of, views_of, pasts_of, readers_still, turns_still, idle_set, quiet_step}

pub notes : (w : World) (by : ℕ) (a : Actor) (fact : Fact) → get_elem? w.actors by ≡ some a → Needs w by a (note fact) → IsSound w
    → IsSound (done w by (forgets w.writes.history (length w.cache) (note fact) a) (note fact))
notes w by a fact at needs s =
    let c : Actor = forgets w.writes.history (length w.cache) (note fact) a in
    let b : Actor = record c { notes = fact ∷ c.notes } in
    quiet_step w w by a b at refl (tables_of w s) (views_of w s) s.locks (pasts_of w s) (turns_still w by a b at refl s) (readers_still w by a b at refl s)
    (each_map_set noter_of (λ j x. (other : Fact) → IsIn other x.1 → IsNoted w.holders (SoIn w) j x other) w.actors by b
    (λ other there. ⊎_elim
    (λ (e : fact ≡ other). subst (λ (f : Fact). IsNoted w.holders (SoIn w) by (noter_of b) f) e (record { guarded = needs.1; is_so = needs.2 }))
    (λ (h : IsIn other c.notes).
    let k = in_filter (λ (f : Fact). not (ends w.writes.history (length w.cache) (note fact) f)) other a.notes h in let o = s.noted by (noter_of a) (at_map noter_of w.actors by a at) other k.0 in
    record { guarded = o.guarded; is_so = o.is_so }) there)
    (λ j x ne there. s.noted j x there))
    (idle_set w by a b at (λ dead. absurd (true≢false (sym needs.0 ∙ dead))) s) s

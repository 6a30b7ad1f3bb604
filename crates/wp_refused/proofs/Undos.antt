-- Undos behind a base: in a legal list each is right, and of wrong ones one is first.
use Rattle.std.proofs.Common.{◌≡◌, ℕ, zero, suc, ◌-◌, ◌≤◌, List, inl, inr, ap, ◌∙◌, arith}
use Rattle.std.specs.Prelude.{slice_get, Some}
use Rattle.std.proofs.lemmas.Bool.{cases_order}
use Rattle.wp_model.specs.declared.version.Version.{Version}
use Rattle.wp_model.specs.Legal.{IsLegal}
use Rattle.wp_cuts.specs.Cut.{Cut}
use Rattle.wp_history.specs.History.{RoomyHistory}
use Rattle.wp_history.specs.Outline.{RestoreUpTo, IsFirstWrong}
use Rattle.wp_refused.specs.Damage.{IsWrongUndo, standing}
use Rattle.wp_contents.specs.Opens.{history_over}

pub legal_restores : (h : RoomyHistory) (m : ℕ) → IsLegal h.entries → RestoreUpTo h m
legal_restores h m legal n entry from lt there = (legal.each n entry there).restores_prior

-- what stands at the number of the first wrong one
wrong_there : (h : RoomyHistory) (number : ℕ) (w : IsFirstWrong h number) → slice_get h.entries (number - 1) ≡ Some w.entry
wrong_there h zero w = let behind = w.behind in absurd (omega (arith, behind))
wrong_there h (suc n) w = ap (slice_get h.entries) (let e : suc n - 1 ≡ n = omega arith in e) ∙ w.there

-- undos that restore up to a number have no wrong one up to it
pub not_wrong : (h : RoomyHistory) (m number : ℕ) → number ≤ m → RestoreUpTo h m → IsFirstWrong h number → ⊥
not_wrong h m number within restore w =
    let behind = w.behind in
    w.wrong (restore (number - 1) w.entry (omega (arith, behind)) (omega (arith, behind, within)) (wrong_there h number w))

pub no_wrong : (c : Cut) (parts : List (List Version)) (number : ℕ) → IsLegal (history_over c parts) → IsWrongUndo c parts number → ⊥
no_wrong c parts number legal = not_wrong (standing c parts) number number (omega arith) (legal_restores (standing c parts) number legal)

pub one_wrong : (h : RoomyHistory) (number other : ℕ) → IsFirstWrong h number → IsFirstWrong h other → number ≡ other
one_wrong h number other w v = elim (cases_order number other) [
  | inl same ↦ same
  | inr apart ↦ elim apart [
    | inl lt ↦ absurd (not_wrong h (other - 1) number (omega (arith, lt)) v.before w)
    | inr gt ↦ absurd (not_wrong h (number - 1) other (omega (arith, gt)) w.before v)
  ]
]

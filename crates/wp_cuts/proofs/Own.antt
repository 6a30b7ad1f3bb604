-- What stays of versions in order, where the history itself tells what is committed, is as few.
use Rattle.std.proofs.Common.{ℕ, ◌+◌, ◌≤◌, List, [], length, ap, arith}
use Rattle.std.proofs.lemmas.List.{take_all}
use Rattle.wp_model.specs.declared.entry.Entry.{Entry}
use Rattle.wp_model.specs.declared.version.Version.{Version}
use Rattle.wp_model.specs.Decision.{is_committed}
use Rattle.wp_model.specs.Flushed.{later_versions}
use Rattle.wp_model.specs.Legal.{IsLegal}
use Rattle.wp_model.specs.Versions.{AreInOrder}
use Rattle.wp_keep.specs.Keep.{retained_of}
use Rattle.wp_keep.specs.MayGo.{DecidesAt, MayGo}
use Rattle.wp_cuts.specs.Cut.{Cut, IsCut}
use Rattle.wp_cuts.specs.Kept.{carried_versions, HasKeysAt, StayFrom}
use Rattle.wp_cuts.proofs.Decided.{by_committed}
use Rattle.wp_cuts.proofs.Keeping.{kept_few}
use Rattle.wp_cuts.proofs.Reopening.{committed_by}
use Rattle.wp_cuts.proofs.Staying.{are_kept}

own_decides : (history : List Entry) (versions : List Version) (n : ℕ) → DecidesAt (is_committed history) history versions n
own_decides history versions n = record { true_of = λ key p there at. by_committed history p n at; true_only = λ key p there is. committed_by history p n is }

own_may_go : (history : List Entry) (versions : List Version) (numbers : List ℕ) → AreInOrder versions → MayGo (is_committed history) history [] versions numbers (length history)
own_may_go history versions numbers order = record {
  in_order = order;
  no_older = λ key p q none there. absurd cc;
  at_floor = own_decides history versions (length history);
  at_snapshots = λ n among. own_decides history versions n;
}

pub own_few : (history : List Entry) (c : Cut) (versions : List Version) (numbers : List ℕ) (keys : List (List ℕ)) → IsLegal history → IsCut history c → AreInOrder versions → StayFrom history versions numbers c.base (length history) → HasKeysAt history c.base keys
    → length (retained_of (is_committed history) versions numbers (length history)) ≤ length keys + (length (carried_versions c.carried) + length (later_versions history c.base))
own_few history c versions numbers keys legal cut order from values =
    let kept = retained_of (is_committed history) versions numbers (length history) in
    let bound = kept_few history c kept keys (length history) legal cut from.above (are_kept (is_committed history) history [] versions numbers c.base (length history) (own_may_go history versions numbers order) from) values in
    let all = ap (λ (h : List Entry). length (later_versions h c.base)) (take_all (length history) history (omega arith)) in
    omega (arith, bound, all)

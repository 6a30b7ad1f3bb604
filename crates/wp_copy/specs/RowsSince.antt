-- Rows are since themselves, and since those that earlier ones are since.
use Rattle.std.proofs.Common.{refl, sym, subst, ◌∙◌}
use Rattle.wp_shared.specs.Calls.{Continues}
use Rattle.wp_shared.specs.Seats.{SharedState, IsFree, participant_of}
use Rattle.wp_shared.proofs.Onward.{continues_none, continues_still}
use Rattle.wp_copy.specs.Rows.{AllRowsState, AreRowsSince}

pub since_itself : {D : Type 0} (rows : AllRowsState D) → AreRowsSince rows rows
since_itself rows = record { store = refl; snapshot = refl; same = refl; continues = continues_none rows.store rows.seat }

pub since_again : {D : Type 0} (one two three : AllRowsState D) → AreRowsSince one two → AreRowsSince two three → AreRowsSince one three
since_again one two three a b = record {
  store = b.store ∙ a.store;
  snapshot = b.snapshot ∙ a.snapshot;
  same = b.same ∙ a.same;
  continues = λ free.
      let first = a.continues free in
      let second = b.continues (subst (λ (z : SharedState _). IsFree z.table two.seat) (sym a.store) first.free) in
      continues_still one.store one.seat two.seat three.seat (participant_of one.seat) first (subst (λ (z : SharedState _). Continues z two.seat three.seat (participant_of two.seat)) a.store second);
}

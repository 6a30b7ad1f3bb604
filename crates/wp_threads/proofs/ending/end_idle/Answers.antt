use Rattle.std.proofs.Common.{◌≡◌, List, [], ◌∷◌, ◌++◌, sym, subst, ap, ◌∙◌}
use Rattle.wp_shared.specs.Ending.{AllFree, AreAll}
use Rattle.wp_shared.specs.Seats.{SeatState}
use Rattle.wp_threads.proofs.Unused.{unused_run}
use Rattle.wp_threads.proofs.ending.end_idle.Goals as goal

pub finish-left-requires : goal.finish-left-requires
finish-left-requires g c =
    let is = c.requires.unused in
    let seats : c.push_reserved.new.self.items ≡ c.args.first ∷ [] = c.push_reserved.ensures.items ∙ ap (λ (ss : List SeatState). ss ++ c.args.first ∷ []) c.requires.empty.0 in
    record {
      free = subst (AllFree c.args.store.table) (sym seats) (is.holds.txn.free, tt);
      all = subst AreAll (sym seats) (is.only.by, is.only.joined, is.only.made);
    }

pub returns-clause-run : goal.returns-clause-run
returns-clause-run g c =
    let seats : c.push_reserved.new.self.items ≡ c.args.first ∷ [] = c.push_reserved.ensures.items ∙ ap (λ (ss : List SeatState). ss ++ c.args.first ∷ []) c.requires.empty.0 in
    unused_run c.args.store c.args.first _ _ _ c.requires.unused seats c.finish-left.ensures.ended

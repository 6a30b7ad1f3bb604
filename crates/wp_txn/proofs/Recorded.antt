-- Which records a seat may put, and what may be noted of them.
use Rattle.std.proofs.Common.{◌≡◌, inl, inr, true, List, [], ◌∷◌, length, refl, sym, subst, Some, arith}
use Rattle.std.proofs.lemmas.List.{length-map}
use Rattle.wp_model.specs.Batch.{key_of, is_batch}
use Rattle.wp_model.specs.CachePlace.{NoneShare}
use Rattle.wp_model.specs.declared.change.Change.{Change}
use Rattle.wp_model.specs.declared.entry.Entry.{Entry}
use Rattle.wp_model.specs.declared.entry.Entry.TheVariants.{Write, Prepare, Commit, Undo, Close}
use Rattle.wp_core.specs.Lists.{IsIn}
use Rattle.wp_core.specs.Views.{direct_free}
use Rattle.wp_shared.specs.Seats.{SharedState, SeatState}
use Rattle.wp_open_txns.specs.Txn.{OpenState, PreparedState, HasOpen, HasPrepared}
use Rattle.wp_txn.specs.Groups.{numbers_of, their_commits, ArePrepared}
use Rattle.wp_txn.specs.Recording.{IsEndOf, MayNote, MayRecord, HadPrior}
use Rattle.wp_txn.specs.declared.recording.Noting.{Noting}
use Rattle.wp_txn.specs.declared.recording.Noting.TheVariants as note
use Rattle.wp_txn.proofs.Each.{other_names}
use Rattle.wp_txn.proofs.MayPut.{may_write_direct, may_write_open, may_prepare, may_commit, may_roll_back, named_still, all_named_still}
use Rattle.wp_txn.proofs.RollsBack.{KeysKeepValues, restores}
use Rattle.wp_txn.proofs.UnderLog.{one_apart, both_apart, none_share_apart}

module _ {D : Type 0} (z : SharedState D) (s : SeatState) (entries : List Entry) where
  -- the entries are these
  as_made : (made : List Entry) (noting : Noting) → entries ≡ made → MayRecord z s made noting → MayRecord z s entries noting
  as_made made noting is k = subst (λ (es : List Entry). MayRecord z s es noting) (sym is) k

  pub records_direct : (change : Change) → entries ≡ Write (change ∷ []) ∷ [] → s.knows.participant.direct ≡ Some (key_of change) → IsIn (direct_free (key_of change)) s.knows.notes → MayRecord z s entries note.Nothing
  records_direct change is direct noted = as_made _ _ is (record {
    may = λ t log o. (may_write_direct z s t log 1 o (omega arith) (key_of change) change refl refl direct noted, tt);
    apart = λ n. one_apart z.cells n (Write (change ∷ []));
  })

  pub records_write : (x : OpenState) → entries ≡ Write x.batch ∷ [] → HasOpen s x → is_batch x.batch ≡ true → MayRecord z s entries note.Nothing
  records_write x is h whole = as_made _ _ is (record { may = λ t log o. (may_write_open z s t log 1 o x h whole (omega arith), tt); apart = λ n. one_apart z.cells n (Write x.batch) })

  pub records_prepare : (x : OpenState) (kind : Noting) → entries ≡ Prepare x.name x.batch ∷ [] → HasOpen s x → is_batch x.batch ≡ true → ((history : List Entry) → MayNote kind history (Prepare x.name x.batch ∷ [])) → MayRecord z s entries kind
  records_prepare x kind is h whole may_note = as_made _ _ is (record {
    may = λ t log o. (may_prepare z s t log 1 o x h whole (omega arith), may_note log.state.history);
    apart = λ n. one_apart z.cells n (Prepare x.name x.batch);
  })

  pub records_commits : (xs : List PreparedState) (kind : Noting) → entries ≡ their_commits xs → ArePrepared s xs → NoneShare z.cells (numbers_of xs) → ((history : List Entry) → IsEndOf xs history (their_commits xs) → MayNote kind history (their_commits xs))
      → MayRecord z s entries kind
  records_commits xs kind is has share may_note =
      let long = length-map (numbers_of xs) (λ p. Commit p) in let same = length-map xs (λ x. x.number) in as_made _ _ is (record {
        may = λ t log o. (may_commit z s t log (length (their_commits xs)) o xs (omega (arith, long, same)) has.0 (other_names xs has.1), may_note log.state.history (all_named_still z s t log (length (their_commits xs)) o xs has.0, inl refl));
        apart = λ n. none_share_apart z.cells n (numbers_of xs) share;
      })

  pub records_rollback : (x : PreparedState) (kind : Noting) → HasPrepared s x → (prior : List Change) → entries ≡ Undo x.number prior ∷ Close x.number ∷ [] → is_batch prior ≡ true → KeysKeepValues → HadPrior s x.number x.batch prior
      → ((history : List Entry) → IsEndOf (x ∷ []) history (Undo x.number prior ∷ Close x.number ∷ []) → MayNote kind history (Undo x.number prior ∷ Close x.number ∷ [])) → MayRecord z s entries kind
  records_rollback x kind h prior is whole law had may_note = as_made _ _ is (record {
    may = λ t log o. (may_roll_back z s t log 2 o x h (omega arith) prior whole (restores z s t log 2 o x h law prior had), may_note log.state.history ((named_still z s t log 2 o x h, tt), inr (prior, refl)));
    apart = λ n. both_apart z.cells n x.number prior;
  })

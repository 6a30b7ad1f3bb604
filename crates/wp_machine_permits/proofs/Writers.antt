-- The needs of what writers do are met.
use Rattle.std.proofs.Common.{◌≡◌, inl, inr, ℕ, ◌<◌, true, false, true≢false, List, [], ◌∷◌, take, Option, Some, None, is_some, refl, sym, subst, ap, ◌∙◌, arith}
use Rattle.std.specs.Prelude.{codes}
use Rattle.std.specs.Ordering.{nat_cmp}
use Rattle.std.specs.FinMap as finite
use Rattle.wp_model.specs.declared.change.Change.TheVariants.{Put, Del}
use Rattle.wp_model.specs.declared.entry.Entry.{Entry}
use Rattle.wp_model.specs.declared.entry.Entry.TheVariants.{Write, Commit, Undo, Close}
use Rattle.wp_model.specs.declared.holder.Holder.TheVariants.{Txn, Client}
use Rattle.wp_model.specs.Batch.{key_cmp}
use Rattle.wp_model.specs.Covered.{IsCovered, is_among}
use Rattle.wp_model.specs.Decision.{entry_version}
use Rattle.wp_model.specs.Flushed.{IsEditCovered}
use Rattle.wp_model.specs.History.{is_changed}
use Rattle.wp_model.specs.Snapshots.{LiveSnapshot, Snapshots}
use Rattle.wp_history_laws.proofs.Listed.{zero_covered}
use Rattle.wp_judge.specs.Words.{CommitPair, commit_pair, word_of}
use Rattle.wp_core.specs.Cache.{cached}
use Rattle.wp_core.specs.Conditions.{IsPrepare, MayBeEvicted}
use Rattle.wp_core.specs.Reading.{Registration}
use Rattle.wp_core.specs.Sound.Prepared.{IsInOldCommits}
use Rattle.wp_core.specs.Sound.Store.{IsStored}
use Rattle.wp_core.specs.States.{live_numbers}
use Rattle.wp_core.specs.Views as view
use Rattle.wp_core.specs.World.{World}
use Rattle.wp_core.proofs.CoveredGrows.{version_within}
use Rattle.wp_model.proofs.Keyed.{at_inserted}
use Rattle.wp_core.proofs.Openings.{AreAll, all_versions}
use Rattle.wp_core.proofs.SnapshotsStep.{among_live}
use Rattle.wp_model.proofs.Tests.{same_some, some_none}
use Rattle.wp_model.proofs.Numbers.{in_inserted}
use Rattle.wp_machine_permits.specs.Runs.{t, k, d, batch, prior, direct, prepared, claimed, locked, freed, memory, edit, prepare, commit, undo, free, delay, write, keep, overwrite, flush}
use Rattle.wp_machine_permits.proofs.Leading.{after, AreMet, ◌▹◌, opening, with_snapshots}
use Rattle.wp_machine_permits.proofs.Legal.{prepared_legal, committed_legal, written_legal, undone_legal, closed_legal}
use Rattle.wp_machine_permits.proofs.Tables.{no_numbers, no_snapshots, keys_then, transactions_then, has_whole, only_key, k_locked, d_free, of_t, t_came, added, none_at_2, none_at_3, none_in_heap, still_out, gone_1, not_delayed_1, delayed_1, one_live, live_1, kept_1}

abbrev first_pair : CommitPair
first_pair = commit_pair 1 2

abbrev undo_pair : CommitPair
undo_pair = commit_pair 2 2

abbrev close_pair : CommitPair
close_pair = commit_pair 1 3

abbrev last_pair : CommitPair
last_pair = commit_pair 3 3

abbrev pub snapshot_1 : Registration
snapshot_1 = record { number = 1; smallest = 1 }

some_entry : (entry : Entry) (others : List Entry) → entry ∷ others ≡ [] → ⊥
some_entry entry others e = absurd (cc)

one_not_zero : ◌≡◌ {A = ℕ} 1 0 → ⊥
one_not_zero e = absurd (omega (arith, e))

-- ---- a transaction is prepared

pub prepare_met : AreMet prepare opening
prepare_met =
    (refl, (refl, refl))
    ▹ (refl, (refl, finite.get-empty key_cmp t, refl))
    ▹ (refl, (refl, at_inserted finite.empty t claimed t refl, finite.get-empty key_cmp k, refl))
    ▹ (refl, (refl, tt))
    ▹ (refl, (at_inserted (finite.insert finite.empty t claimed) t locked t refl, refl))
    ▹ (refl, (refl, refl))
    ▹ (refl, (refl, refl, tt, prepared_legal, inl refl))
    ▹ (refl, (refl, refl))
    ▹ (refl, (refl, refl, (t, batch, [], refl)))
    ▹ (refl, (refl, λ _. refl))
    ▹ (refl, (refl, refl))
    ▹ (refl, (refl, refl, added 1 prepared [] (λ key. refl)))
    ▹ (refl, (refl, tt))
    ▹ (refl, (refl, some_entry prepared [], refl, refl))
    ▹ (
      refl,
      record {
        turn = refl;
        pending = refl;
        logged = refl;
        legal = prepared_legal;
        versions = λ key value e. added 1 prepared [] (λ key. refl) key 1 ∙ e;
        keys = λ key changed. absurd (true≢false (sym changed));
        transaction = of_t [] prepared refl (only_key (Put k (codes "v")));
        came = t_came (view.claimed t ∷ view.locked k (Txn t) ∷ []) (inr (inl refl));
        number = λ _. in_inserted no_numbers 1;
        pair = λ pair e. absurd (some_none pair (sym e));
      },
    )
    ▹ (refl, (refl, (refl, inl refl)))
    ▹ tt

-- ---- it is committed, or rolled back, and let go

abbrev pub prepared_world : World
prepared_world = after prepare opening

put_k : (key : List ℕ) → is_changed batch key ≡ true → key ≡ k
put_k = only_key (Put k (codes "v"))

pub commit_met : (m : Snapshots) (registered : List Registration) → AreMet commit (with_snapshots prepared_world m 0 registered)
commit_met m registered =
    (refl, (refl, refl))
    ▹ (refl, (refl, refl, (tt, omega arith), committed_legal, inl refl))
    ▹ (refl, (refl, some_entry (Commit 1) [], refl, refl))
    ▹ (refl, (refl, refl, refl, λ gone e. absurd (some_none gone (sym e))))
    ▹ (
      refl,
      record {
        turn = refl;
        pending = refl;
        logged = refl;
        legal = committed_legal;
        versions = λ key value e. absurd (some_none value (sym e));
        keys = λ key changed. absurd (true≢false (sym changed));
        transaction = of_t (prepared ∷ []) (Commit 1) refl put_k;
        came = λ name changes x key is has in_it. absurd (subst IsPrepare (sym is) tt);
        number = λ e. absurd e;
        pair = λ pair e. inl (subst (λ (x : CommitPair). cached (0 ∷ word_of 2 first_pair ∷ []) x.number ≡ Some x.decision) (same_some first_pair pair e) refl);
      },
    )
    ▹ (refl, (refl, (refl, inl refl)))
    ▹ (refl, (refl, refl))
    ▹ (refl, (refl, (2, refl, inl refl)))
    ▹ (refl, (refl, λ _. refl))
    ▹ tt

pub free_met : AreMet free (after commit prepared_world)
free_met =
    (refl, (refl, refl))
    ▹ (refl, (refl, has_whole, k_locked k refl, refl))
    ▹ (refl, (refl, (freed, at_inserted transactions_then t freed t refl), refl))
    ▹ (refl, (refl, tt))
    ▹ tt

pub undo_met : AreMet undo prepared_world
undo_met =
    (refl, (refl, refl))
    ▹ (refl, (refl, refl, refl, closed_legal, inl refl))
    ▹ (refl, (refl, refl))
    ▹ (refl, (refl, refl, added 2 (Undo 1 prior) memory none_at_2))
    ▹ (refl, (refl, tt))
    ▹ (refl, (refl, some_entry (Undo 1 prior) (Close 1 ∷ []), refl, refl))
    ▹ (refl, (refl, refl, refl, λ gone e. absurd (some_none gone (sym e))))
    ▹ (
      refl,
      record {
        turn = refl;
        pending = refl;
        logged = refl;
        legal = undone_legal;
        versions = λ key value e. added 2 (Undo 1 prior) memory none_at_2 key 2 ∙ e;
        keys = λ key changed. absurd (true≢false (sym changed));
        transaction = of_t (prepared ∷ []) (Undo 1 prior) refl (only_key (Del k));
        came = λ name changes x key is has in_it. absurd (subst IsPrepare (sym is) tt);
        number = λ e. absurd e;
        pair = λ pair e. inl (subst (λ (x : CommitPair). cached (word_of 2 undo_pair ∷ 0 ∷ []) x.number ≡ Some x.decision) (same_some undo_pair pair e) refl);
      },
    )
    ▹ (refl, (refl, refl, refl, λ gone e. absurd (some_none gone (sym e))))
    ▹ (
      refl,
      record {
        turn = refl;
        pending = refl;
        logged = refl;
        legal = closed_legal;
        versions = λ key value e. absurd (some_none value (sym e));
        keys = λ key changed. absurd (true≢false (sym changed));
        transaction = of_t (prepared ∷ Undo 1 prior ∷ []) (Close 1) refl put_k;
        came = λ name changes x key is has in_it. absurd (subst IsPrepare (sym is) tt);
        number = λ e. absurd e;
        pair = λ pair e. inl (subst (λ (x : CommitPair). cached (word_of 2 undo_pair ∷ word_of 2 close_pair ∷ []) x.number ≡ Some x.decision) (same_some close_pair pair e) refl);
      },
    )
    ▹ (refl, (refl, (refl, inl refl)))
    ▹ (refl, (refl, refl))
    ▹ (refl, (refl, (3, refl, inl refl)))
    ▹ (refl, (refl, λ _. refl))
    ▹ tt

pub free_undone_met : AreMet free (after undo prepared_world)
free_undone_met =
    (refl, (refl, refl))
    ▹ (refl, (refl, has_whole, k_locked k refl, refl))
    ▹ (refl, (refl, (freed, at_inserted transactions_then t freed t refl), refl))
    ▹ (refl, (refl, tt))
    ▹ tt

-- ---- the bound passes it while it is undecided

pub delay_met : AreMet delay (with_snapshots prepared_world one_live 0 (snapshot_1 ∷ []))
delay_met =
    (refl, (refl, refl))
    ▹ (refl, (refl, refl))
    ▹ (refl, (refl, λ e. absurd (one_not_zero e)))
    ▹ (refl, (refl, refl, omega arith, omega arith, inl one_not_zero))
    ▹ (refl, (refl, λ none. absurd (true≢false (sym delayed_1 ∙ none.0 1))))
    ▹ (refl, (refl, (refl, inl refl)))
    ▹ tt

-- ---- its pair is evicted

-- where t is committed, and not freed
abbrev pub committed_world : Snapshots → ℕ → List Registration → World
committed_world m flag registered = with_snapshots (after commit prepared_world) m flag registered

pub write_met : (m : Snapshots) (flag : ℕ) (registered : List Registration) → AreMet write (committed_world m flag registered)
write_met m flag registered =
    (refl, (refl, refl))
    ▹ (refl, (refl, refl, d_free))
    ▹ (refl, (refl, tt))
    ▹ (refl, (refl, refl))
    ▹ (refl, (refl, refl, tt, written_legal, inl refl))
    ▹ (refl, (refl, refl))
    ▹ (refl, (refl, refl, omega arith, omega arith, inr (λ p there. absurd (true≢false (sym there ∙ none_in_heap p)))))
    ▹ (refl, (refl, λ _. refl))
    ▹ tt

pub keep_met : AreMet keep (after write (committed_world one_live 0 (snapshot_1 ∷ [])))
keep_met =
    (refl, (refl, refl))
    ▹ (refl, (refl, λ e. absurd (one_not_zero e)))
    ▹ (refl, (refl, live_1, one_not_zero, (2, refl, omega arith, omega arith)))
    ▹ (refl, (refl, λ none. absurd (true≢false (sym kept_1 ∙ none 1 1))))
    ▹ tt

pub overwrite_met : (m : Snapshots) (flag : ℕ) (registered : List Registration) → IsInOldCommits m 1 2 → AreMet overwrite (after write (committed_world m flag registered))
overwrite_met m flag registered kept =
    (refl, (refl, refl))
    ▹ (refl, (refl, refl, added 3 (Write direct) memory none_at_3))
    ▹ (refl, (refl, tt))
    ▹ (refl, (refl, some_entry (Write direct) [], refl, refl))
    ▹ (refl, (refl, refl, refl, λ gone e. subst (λ (x : CommitPair). MayBeEvicted (after (take 4 overwrite) (after write (committed_world m flag registered))) x) (same_some first_pair gone e) (record { passed = omega arith; kept = kept; apart = inl (still_out (committed_world m flag registered).prepared 2 1 gone_1 not_delayed_1) })))
    ▹ (
      refl,
      record {
        turn = refl;
        pending = refl;
        logged = refl;
        legal = written_legal;
        versions = λ key value e. added 3 (Write direct) memory none_at_3 key 3 ∙ e;
        keys = λ key changed. let same = only_key (Put d (codes "w")) key changed in inl (ap Some (sym same), at_inserted keys_then d (Client (codes "a")) key same);
        transaction = λ name e. absurd (some_none name (sym e));
        came = λ name changes x key is has in_it. absurd (subst IsPrepare (sym is) tt);
        number = λ e. absurd e;
        pair = λ pair e. inl (subst (λ (x : CommitPair). cached (0 ∷ word_of 2 last_pair ∷ []) x.number ≡ Some x.decision) (same_some last_pair pair e) refl);
      },
    )
    ▹ (refl, (refl, (refl, inl refl)))
    ▹ tt

-- ---- memory is flushed

abbrev committed : List Entry
committed = prepared ∷ Commit 1 ∷ []

all : AreAll memory committed
all = all_versions committed committed_legal

covered : (numbers : List ℕ) (from : ℕ) → ((n : ℕ) → is_among numbers n ≡ true → ⊥) → IsCovered memory committed numbers from
covered numbers from none = let c = all.covered in record {
  part = c.part;
  undecided = c.undecided;
  undone = c.undone;
  listed = λ key n among. absurd (none n among);
  later = λ key n low high. c.later key n (omega arith) high;
}

edit_covered : IsEditCovered committed edit
edit_covered = record { base = omega arith; flushed = omega arith; covered = zero_covered memory committed [] 2 (covered [] 2 (λ n e. true≢false (sym e))) }

none_among : (n : ℕ) → is_among (live_numbers no_snapshots) n ≡ true → ⊥
none_among n e = true≢false (sym e ∙ (among_live no_snapshots n ∙ ap (λ (o : Option LiveSnapshot). is_some o) (finite.get-empty nat_cmp n)))

none_above : {P : Type 0} (key : List ℕ) (p : ℕ) (value : Option (List ℕ)) → 2 < p → entry_version committed p key ≡ Some value → P
none_above key p value above e = let low = version_within committed p key value e in absurd (omega (arith, low, above))

edit_installed : IsStored committed [] 0 no_snapshots (record { memory = memory; tables = []; floor = 0 }) (record { last = edit; failed = None; halted = false })
edit_installed = record {
  covered = zero_covered memory committed (live_numbers no_snapshots) 0 (covered (live_numbers no_snapshots) 0 none_among);
  based = omega arith;
  floor = omega arith;
  next = λ key p value above e. none_above key p value above (sym (all.at key p) ∙ e);
  tables = λ key p value e. absurd (some_none value (sym e));
  last = edit_covered;
  failed = λ other e. absurd (some_none other (sym e));
  in_memory = λ key p value above e. none_above key p value above e;
}

versions_moved : IsStored committed [] 0 no_snapshots (record { memory = []; tables = memory; floor = 0 }) (record { last = edit; failed = None; halted = false })
versions_moved = record {
  covered = zero_covered memory committed (live_numbers no_snapshots) 0 (covered (live_numbers no_snapshots) 0 none_among);
  based = omega arith;
  floor = omega arith;
  next = λ key p value above e. absurd (some_none value (sym e));
  tables = λ key p value e. sym (all.at key p) ∙ e;
  last = edit_covered;
  failed = λ other e. absurd (some_none other (sym e));
  in_memory = λ key p value above e. none_above key p value above e;
}

pub flush_met : AreMet flush (after commit prepared_world)
flush_met =
    (refl, (refl, refl))
    ▹ (refl, (refl, refl, edit_installed, (λ _. refl), (λ e. absurd (true≢false (sym e))), omega arith, refl))
    ▹ (refl, (refl, refl))
    ▹ (refl, (refl, refl, ((λ key p. refl), (λ key. sym (none_at_3 key))), versions_moved))
    ▹ (refl, (refl, tt))
    ▹ (refl, (refl, ((λ key p low. refl), refl)))
    ▹ tt
